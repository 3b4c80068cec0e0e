-- Commands are drawn as their works say.
use Rattle.std.proofs.Common.{◌≡◌, ℕ, ◌≤◌, ◌==◌, min, Bool, true, false, List, [], ◌∷◌, ◌++◌, length, Option, None, Some, refl, sym, subst, ◌∙◌, arith, inl, inr}
use Rattle.std.proofs.lemmas.Bool.{cases_Bool, eqb-true}
use Rattle.std.specs.Option.{unwrap_or}
use Rattle.minus_draw.specs.declared.drawings.Drawing.{Drawing}
use Rattle.minus_draw.specs.declared.drawings.Drawing.TheVariants.{Nothing, Append, LastRow}
use Rattle.minus_draw.specs.declared.drawings.LastRow.TheVariants.{Prompt}
use Rattle.minus_state.specs.declared.change.Redraw.TheVariants.{Moved, Appended}
use Rattle.minus_state.specs.Control.{Control, Saved, Settings, text_rows}
use Rattle.minus_state.specs.Appending.{first_changed, keeps_rows_with}
use Rattle.minus_state.specs.TypedPrefix.{cleared}
use Rattle.minus_state.specs.ClampedMark.{IsClamped, top}
use Rattle.minus_state.specs.declared.search.SearchMode.{SearchMode}
use Rattle.minus_state.specs.declared.search.SearchMode.TheVariants.{Forward, Reverse, Unknown}
use Rattle.minus_state.specs.RedrawExtent.{append_redraw}
use Rattle.minus_draw.specs.Drawings.{ops_of_step, IsDrawable, drawing_by}
use Rattle.minus_draw.specs.Drawn.{IsDrawing}
use Rattle.minus_commands.specs.Shapes.{Shape, effect, moves, appends, shows, draws_row, opens, restores, leaves}
use Rattle.minus_commands.specs.Table.{Wanted, shape, changed_by, control_after, drawn_by, drawing_of, hook_after, work_of}
use Rattle.minus_draw.proofs.AppendLaws.{append_draws}
use Rattle.minus_draw.proofs.KeyLaws.{opening_draws}
use Rattle.minus_draw.proofs.KeyedLaws.{drawable_closed}
use Rattle.minus_commands.proofs.TableLaws.{IsHidden, Fits, fits, left_search, restored_search}
use Rattle.minus_draw.proofs.DrawnLaws.{work_drawn, with_hook, IsPlainDrawing, page_plain, plain_draws, whole_draws, aside_draws, quiet_draws, prompt_draws, scroll_draws}

-- the list of a kind is its drawing, on the way from one control to another
abbrev IsDrawnSo : Drawing → Control → Control → Type 0
IsDrawnSo drawing c new = IsPlainDrawing (ops_of_step drawing c new) drawing c new

-- where the mark stays
at_mark : (drawing : Drawing) (c : Control) (search_mark : ℕ) (s : Settings) (mark : ℕ) → mark ≡ c.mark → IsDrawnSo drawing c (record c { search_mark = search_mark; settings = s }) → IsDrawnSo drawing c (record c { mark = mark; search_mark = search_mark; settings = s })
at_mark drawing c search_mark s mark is h = subst (λ (m : ℕ). IsDrawnSo drawing c (record c { mark = m; search_mark = search_mark; settings = s })) (sym is) h

stay_draws : (c : Control) (search_mark : ℕ) (s : Settings) (mark : ℕ) → 1 ≤ c.rows → mark ≡ c.mark → IsDrawnSo Nothing c (record c { mark = mark; search_mark = search_mark; settings = s })
stay_draws c search_mark s mark some is = at_mark Nothing c search_mark s mark is (quiet_draws c search_mark s some)

set_draws : (c : Control) (s : Settings) (mark : ℕ) → 1 ≤ c.rows → mark ≡ c.mark → IsDrawnSo Nothing c (record c { mark = mark; settings = s })
set_draws c s mark some is = stay_draws c c.search_mark s mark some is

move_draws : (c : Control) (search_mark : ℕ) (s : Settings) (mark : ℕ) → 1 ≤ c.rows → IsDrawnSo (drawing_by Moved c mark) c (record c { mark = mark; search_mark = search_mark; settings = s })
move_draws c search_mark s mark some = elim (cases_Bool (mark == c.mark)) [
  | inl e ↦ rw e (stay_draws c search_mark s mark some (eqb-true mark c.mark e))
  | inr e ↦ rw e (scroll_draws c search_mark s mark some)
]

appended_draws : (c : Control) (text : List ℕ) (search_mark : ℕ) (s : Settings) (mark : ℕ) → 1 ≤ c.rows → IsDrawnSo (drawing_by (append_redraw c text) c mark) c (record c { text = c.text ++ text; mark = mark; search_mark = search_mark; settings = s })
appended_draws c text search_mark s mark some = elim (cases_Bool (keeps_rows_with c text)) [
  | inl keeps ↦ rw keeps (kept_draws keeps)
  | inr none ↦ rw none (whole_draws c (record c { text = c.text ++ text; mark = mark; search_mark = search_mark; settings = s }) some)
]
  where
    kept_draws : keeps_rows_with c text ≡ true → IsDrawnSo (drawing_by Appended c mark) c (record c { text = c.text ++ text; mark = mark; search_mark = search_mark; settings = s })
    kept_draws keeps = elim (cases_Bool (mark == c.mark)) [
      | inl e ↦ (let is : mark ≡ c.mark = eqb-true mark c.mark e in rw e (subst (λ (m : ℕ). IsDrawnSo (Append (first_changed c) (length (text_rows c))) c (record c { text = c.text ++ text; mark = m; search_mark = search_mark; settings = s })) (sym is) (append_draws c text search_mark s keeps some)))
      | inr e ↦ rw e (whole_draws c (record c { text = c.text ++ text; mark = mark; search_mark = search_mark; settings = s }) some)
    ]

-- where something else is saved
aside_set : (c : Control) (s : Settings) (help : Option Saved) (mark : ℕ) → 1 ≤ c.rows → mark ≡ c.mark → IsDrawnSo Nothing c (record c { mark = mark; settings = s; help = help })
aside_set c s help mark some is = subst (λ (m : ℕ). IsDrawnSo Nothing c (record c { mark = m; settings = s; help = help })) (sym is) (aside_draws c c.search_mark s help some)

-- ---- shapes, over the page before, with the typed prefix gone at the end, or not

-- what a shape leaves
abbrev pub left_by : {Q K : Type 0} → Control → Bool → Shape Q K → Control
left_by c clears s = cleared clears (changed_by (effect c s))

-- the page of what it leaves is drawn as the table says
abbrev DrawsPage : {Q K : Type 0} → Control → Bool → Shape Q K → Type 0
DrawsPage c clears s = IsDrawnSo (drawn_by c (effect c s)) c (left_by c clears s)

shown_draws : (Q K : Type 0) (c new : Control) (clears is_drawn : Bool) (copied : Option (List ℕ)) → IsHidden is_drawn c new → IsClamped c → 1 ≤ c.rows → (let s : Shape Q K = shows new is_drawn copied in 1 ≤ (left_by c clears s).rows → DrawsPage c clears s)
shown_draws Q K c new clears true copied fits h some new_some = whole_draws c _ new_some
shown_draws Q K c new clears false copied fits h some new_some =
    subst (λ (k : Control). let s : Shape Q K = shows k false copied in DrawsPage c clears s) (sym fits)
    (aside_set c (cleared clears c).settings new.help (min c.mark (top c)) some (omega (arith, h)))

-- by whether help is open
more_draws : (Q K : Type 0) (c : Control) (clears : Bool) (text : List ℕ) (help : Option Saved) → IsClamped c → 1 ≤ c.rows → DrawsPage {Q = Q} {K = K} (record c { help = help }) clears (appends text)
more_draws Q K c clears text None h some = appended_draws (record c { help = None }) text _ (cleared clears c).settings _ some
more_draws Q K c clears text (Some saved) h some = aside_set (record c { help = Some saved }) _ _ (min c.mark (top c)) some (omega (arith, h))

exit_draws : (Q K : Type 0) (c : Control) (clears : Bool) (help : Option Saved) → IsClamped c → 1 ≤ c.rows → (let k : Control = record c { help = help } in 1 ≤ (left_by {Q = Q} {K = K} k clears leaves).rows → DrawsPage {Q = Q} {K = K} k clears leaves)
exit_draws Q K c clears None h some new_some = set_draws (record c { help = None }) _ (min c.mark (top c)) some (omega (arith, h))
exit_draws Q K c clears (Some saved) h some new_some = whole_draws (record c { help = Some saved }) _ new_some

restored_draws : (Q K : Type 0) (c : Control) (clears : Bool) (help : Option Saved) → IsClamped c → 1 ≤ c.rows → (let k : Control = record c { help = help } in 1 ≤ (left_by {Q = Q} {K = K} k clears restores).rows → DrawsPage {Q = Q} {K = K} k clears restores)
restored_draws Q K c clears None h some new_some = set_draws (record c { help = None }) _ (min c.mark (top c)) some (omega (arith, h))
restored_draws Q K c clears (Some saved) h some new_some = whole_draws (record c { help = Some saved }) _ new_some

-- ---- the drawing of a work, where no search prompt is open

-- a shape is drawn as its work says
abbrev Draws : {Q K : Type 0} → Control → Bool → Shape Q K → Type 0
Draws c clears s = let drawing = drawn_by c (effect c s) in IsDrawing (ops_of_step drawing c (left_by c clears s)) c (work_drawn drawing (left_by c clears s) ∷ []) (left_by c clears s)

plainly : (drawing : Drawing) (c new : Control) → c.search ≡ None → new.search ≡ c.search → IsDrawnSo drawing c new → IsDrawing (ops_of_step drawing c new) c (work_drawn drawing new ∷ []) new
plainly drawing c new closed same h = plain_draws (ops_of_step drawing c new) drawing c new (page_plain c closed) (page_plain new (same ∙ closed)) h

-- where the search prompt opens
opening_draws_so : (Q K : Type 0) (c : Control) (clears : Bool) (mode : SearchMode) → c.search ≡ None → IsClamped c → 1 ≤ c.rows → Draws {Q = Q} {K = K} c clears (opens mode)
opening_draws_so Q K c clears Forward closed h some = opening_draws c Forward (cleared clears c).settings (min c.mark (top c)) some closed (omega (arith, h))
opening_draws_so Q K c clears Reverse closed h some = opening_draws c Reverse (cleared clears c).settings (min c.mark (top c)) some closed (omega (arith, h))
opening_draws_so Q K c clears Unknown closed h some = plainly Nothing c _ closed refl (set_draws c (cleared clears c).settings (min c.mark (top c)) some (omega (arith, h)))

pub shape_draws : {Q K : Type 0} (c : Control) (clears : Bool) (s : Shape Q K) → Fits c s → c.search ≡ None → IsClamped c → 1 ≤ c.rows → 1 ≤ (left_by c clears s).rows → Draws c clears s
shape_draws c clears (moves beside search_mark to) fits closed h some new_some =
    let set : Control = record c { settings = beside } in
    plainly _ c _ closed refl (move_draws c search_mark (cleared clears set).settings (min (unwrap_or to c.mark) (top c)) some)
shape_draws {Q = Q} {K = K} c clears (appends text) fits closed h some new_some = plainly _ c _ closed refl (more_draws Q K c clears text c.help h some)
shape_draws {Q = Q} {K = K} c clears (shows new is_drawn copied) fits closed h some new_some = plainly _ c _ closed refl (shown_draws Q K c new clears is_drawn copied fits h some new_some)
shape_draws c clears draws_row fits closed h some new_some = plainly _ c _ closed refl (at_mark (LastRow Prompt) c c.search_mark _ (min c.mark (top c)) (omega (arith, h)) (prompt_draws c _ some))
shape_draws {Q = Q} {K = K} c clears (opens mode) fits closed h some new_some = opening_draws_so Q K c clears mode closed h some
shape_draws {Q = Q} {K = K} c clears restores fits closed h some new_some = plainly _ c _ closed (restored_search c c.help) (restored_draws Q K c clears c.help h some new_some)
shape_draws {Q = Q} {K = K} c clears leaves fits closed h some new_some = plainly _ c _ closed (left_search c c.help) (exit_draws Q K c clears c.help h some new_some)
shape_draws c clears s fits closed h some new_some = plainly _ c _ closed refl (set_draws c _ (min c.mark (top c)) some (omega (arith, h)))

pub work_draws : {Q K : Type 0} (c : Control) (clears : Bool) (w : Wanted Q K) → c.search ≡ None → IsClamped c → 1 ≤ c.rows → 1 ≤ (control_after clears c w).rows
    → (let new : Control = control_after clears c w in IsDrawing (ops_of_step (drawing_of c w) c new) c (work_of clears c w ∷ []) new)
work_draws c clears w closed h some new_some =
    let new : Control = control_after clears c w in
    with_hook (ops_of_step (drawing_of c w) c new) (drawing_of c w) c new (hook_after c w) (shape_draws c clears (shape c w) (fits c w) closed h some new_some)

-- and it can be drawn so
opening_drawable : (Q K : Type 0) (c new : Control) (mode : SearchMode) → IsDrawable (drawn_by c (effect {Q = Q} {K = K} c (opens mode))) c new
opening_drawable Q K c new Forward = tt
opening_drawable Q K c new Reverse = tt
opening_drawable Q K c new Unknown = tt

shape_drawable : {Q K : Type 0} (c : Control) (clears : Bool) (s : Shape Q K) → c.search ≡ None → IsDrawable (drawn_by c (effect c s)) c (left_by c clears s)
shape_drawable {Q = Q} {K = K} c clears (opens mode) closed = opening_drawable Q K c _ mode
shape_drawable {Q = Q} {K = K} c clears restores closed = drawable_closed (drawn_by c (effect {Q = Q} {K = K} c restores)) c (left_by {Q = Q} {K = K} c clears restores) (restored_search c c.help ∙ closed)
shape_drawable {Q = Q} {K = K} c clears leaves closed = drawable_closed (drawn_by c (effect {Q = Q} {K = K} c leaves)) c (left_by {Q = Q} {K = K} c clears leaves) (left_search c c.help ∙ closed)
shape_drawable {Q = Q} {K = K} c clears s closed = drawable_closed (drawn_by c (effect {Q = Q} {K = K} c s)) c (left_by {Q = Q} {K = K} c clears s) closed

pub work_drawable : {Q K : Type 0} (c : Control) (clears : Bool) (w : Wanted Q K) → c.search ≡ None → IsDrawable (drawing_of c w) c (control_after clears c w)
work_drawable c clears w closed = shape_drawable c clears (shape c w) closed
