-- What shapes of commands leave.
use Rattle.std.proofs.Common.{◌≡◌, ℕ, List, ap, ◌∙◌, sym, refl, arith, min, Bool, true, false, Option, Some, None, if◌then◌else◌, is_some}
use Rattle.std.specs.Prelude.{not}
use Rattle.minus_state.specs.Control.{Control, Saved, SameSize}
use Rattle.minus_state.specs.ClampedMark.{clamp, top, IsClamped}
use Rattle.minus_state.specs.Help.{left_help, prompt_restored}
use Rattle.minus_state.specs.Prompting.{opened_by}
use Rattle.minus_state.specs.SearchMode.{char_of}
use Rattle.minus_state.specs.Selecting.{no_ends, has_ends, end_at, ends_begun, mark_led, ends_led, stays_led}
use Rattle.minus_state.specs.LeftMark.{may_shift, left_after}
use Rattle.minus_state.specs.declared.search.SearchMode.{SearchMode}
use Rattle.minus_state.specs.declared.selection.Selection.{Selection}
use Rattle.minus_state.specs.declared.selection.SelectionEnds.{SelectionEnds}
use Rattle.minus_state.proofs.SelectingLaws.{mark_stays, ends_stay, none_there}
use Rattle.minus_commands.specs.Shapes.{Shape, effect, shows, opens, restores, leaves}
use Rattle.minus_commands.specs.Table.{Wanted, sets_data, shifts, starts_selection, updates_selection, clears_selection, copies_selection}
use Rattle.minus_commands.specs.Table.{shape, changed_by, drawn_by, ResizesAreFull}
use Rattle.minus_draw.specs.Drawn.{is_full}

-- what the clamp leaves
pub clamp_still : (c : Control) → IsClamped c → clamp c ≡ c
clamp_still c h = let m : min c.mark (top c) ≡ c.mark = omega (arith, h) in ap (λ (n : ℕ). let k : Control = record c { mark = n } in k) m

-- ---- an exit

left_still : (Q K : Type 0) (c : Control) (help : Option Saved) → (let k : Control = record c { help = help } in IsClamped k → (effect {Q = Q} {K = K} k leaves).is_exit ≡ true → changed_by (effect {Q = Q} {K = K} k leaves) ≡ k)
left_still Q K c None h e = clamp_still (record c { help = None }) h
left_still Q K c (Some saved) h e = absurd (cc)

-- an exit leaves the control as it is
pub exit_still : {Q K : Type 0} (c : Control) (s : Shape Q K) → IsClamped c → (effect c s).is_exit ≡ true → changed_by (effect c s) ≡ c
exit_still {Q = Q} {K = K} c leaves h e = left_still Q K c c.help h e
exit_still c s h e = absurd (let both : false ≡ true = e in cc)

-- ---- what shows nothing of the page

-- what is not drawn changes nothing but what is saved
abbrev pub IsHidden : (is_drawn : Bool) → (c new : Control) → Type 0
IsHidden true c new = Unit {0}
IsHidden false c new = new ≡ record c { help = new.help }

hidden_where : (is_drawn : Bool) (c new : Control) → (is_drawn ≡ false → new ≡ record c { help = new.help }) → IsHidden is_drawn c new
hidden_where true c new h = tt
hidden_where false c new h = h refl

-- it fits its shape
abbrev pub Fits : {Q K : Type 0} → Control → Shape Q K → Type 0
Fits c (shows new is_drawn copied) = IsHidden is_drawn c new
Fits c s = Unit {0}

text_fits : (Q K : Type 0) (c : Control) (text : List ℕ) (help : Option Saved) → (let k : Control = record c { help = help } in Fits {Q = Q} {K = K} k (shape k (sets_data text)))
text_fits Q K c text None = tt
text_fits Q K c text (Some saved) = refl

begun_fits : (c : Control) (end : Option Selection) → IsHidden (is_some end) c (record c { ends = ends_begun c.ends end })
begun_fits c None = refl
begun_fits c (Some end) = tt

not_false : (b : Bool) → not b ≡ false → b ≡ true
not_false true e = refl
not_false false e = absurd (cc)

led_fits : (c : Control) (x y : ℕ) → IsHidden (not (stays_led c x y)) c (record c { mark = mark_led c y; ends = ends_led c x y })
led_fits c x y = hidden_where (not (stays_led c x y)) c _ (λ e. (
    let stays = not_false (stays_led c x y) e in
    ap (λ (n : ℕ). let k : Control = record c { mark = n; ends = ends_led c x y } in k) (mark_stays c x y stays) ∙ ap (λ (x : SelectionEnds). let k : Control = record c { ends = x } in k) (ends_stay c x y stays)))

gone_fits : (c : Control) → IsHidden (has_ends c.ends) c (record c { ends = no_ends })
gone_fits c = hidden_where (has_ends c.ends) c _ (λ e. ap (λ (x : SelectionEnds). let k : Control = record c { ends = x } in k) (sym (none_there c.ends e)))

pub fits : {Q K : Type 0} (c : Control) (w : Wanted Q K) → Fits c (shape c w)
fits {Q = Q} {K = K} c (sets_data text) = text_fits Q K c text c.help
fits c (shifts left) = hidden_where (may_shift c left) c (record c { left = left_after c left }) (λ e. ap (λ (b : Bool). let k : Control = record c { left = if b then left else c.left } in k) e)
fits c (starts_selection x y) = begun_fits c (end_at c x y)
fits c (updates_selection x y) = led_fits c x y
fits c clears_selection = gone_fits c
fits c copies_selection = gone_fits c
fits c w = tt

-- ---- the size

left_size : (c : Control) (help : Option Saved) → SameSize c (left_help c help)
left_size c None = record { same_cols = refl; same_rows = refl }
left_size c (Some saved) = record { same_cols = refl; same_rows = refl }

restored_size : (c : Control) (help : Option Saved) → SameSize c (prompt_restored c help)
restored_size c None = record { same_cols = refl; same_rows = refl }
restored_size c (Some saved) = record { same_cols = refl; same_rows = refl }

opened_size : (c : Control) (mode : SearchMode) (character : Option ℕ) → SameSize c (clamp (opened_by c mode character))
opened_size c mode None = record { same_cols = refl; same_rows = refl }
opened_size c mode (Some character) = record { same_cols = refl; same_rows = refl }

shown_size : (Q K : Type 0) (c new : Control) (is_drawn : Bool) (copied : Option (List ℕ)) → IsHidden is_drawn c new → (let e = effect {Q = Q} {K = K} c (shows new is_drawn copied) in is_full (drawn_by c e) ≡ false → SameSize c (changed_by e))
shown_size Q K c new true copied fits e = absurd (let both : true ≡ false = e in cc)
shown_size Q K c new false copied fits e = record { same_cols = sym (ap (λ (k : Control). k.cols) fits); same_rows = sym (ap (λ (k : Control). k.rows) fits) }

-- what is not drawn in full keeps the size
size_kept : {Q K : Type 0} (c : Control) (s : Shape Q K) → Fits c s → is_full (drawn_by c (effect c s)) ≡ false → SameSize c (changed_by (effect c s))
size_kept {Q = Q} {K = K} c (shows new is_drawn copied) fits e = shown_size Q K c new is_drawn copied fits e
size_kept c (opens mode) fits e = opened_size c mode (char_of mode)
size_kept c restores fits e = let size = restored_size c c.help in record { same_cols = size.same_cols; same_rows = size.same_rows }
size_kept c leaves fits e = let size = left_size c c.help in record { same_cols = size.same_cols; same_rows = size.same_rows }
size_kept c s fits e = record { same_cols = refl; same_rows = refl }

pub resizes_full_lem : {Q K : Type 0} → ResizesAreFull Q K
resizes_full_lem c w e = size_kept c (shape c w) (fits c w) e

-- ---- the search prompt, which no other shape opens or closes

pub left_search : (c : Control) (help : Option Saved) → (left_help c help).search ≡ c.search
left_search c None = refl
left_search c (Some saved) = refl

pub restored_search : (c : Control) (help : Option Saved) → (prompt_restored c help).search ≡ c.search
restored_search c None = refl
restored_search c (Some saved) = refl
