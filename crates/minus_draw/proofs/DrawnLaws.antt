-- What is drawn in a step, and at the start.
use Rattle.std.proofs.Common.{◌≡◌, ℕ, ◌+◌, ◌-◌, ◌<◌, ◌≤◌, ◌||◌, Bool, true, false, List, [], ◌∷◌, ◌++◌, length, map, drop, replicate, Option, Some, None, refl, sym, ap, subst, ◌∙◌, arith, append_assoc, inl, inr}
use Rattle.std.specs.Prelude.{bytes_eq, if◌then◌else◌}
use Rattle.std.specs.Io.KnownBytes.{Appends}
use Rattle.std.proofs.lemmas.Bool.{cases_Bool}
use Rattle.std.proofs.lemmas.List.{append-nil, length-append, length-map, length-replicate, length-take, map-append}
use Rattle.std.proofs.lemmas.List.Elements.{Contains-push}
use Rattle.std.proofs.lemmas.Slice.Eq.{bytes_eq-Decides}
use Rattle.std.proofs.KnownBytes.{Appends-nil}
use Rattle.minus_term.specs.Operations.{Op}
use Rattle.minus_term.specs.declared.hooks.Hook.{Hook}
use Rattle.minus_term.specs.PlayedScreen.{PlayedScreen, ShownPage, Shows, Draws, play_all, unknown_screen, screen_of}
use Rattle.minus_term.specs.CursorShown.{cursor_shown, has_cursor}
use Rattle.minus_term.specs.Puts.{puts}
use Rattle.minus_term.specs.Terminal.{setup_bytes}
use Rattle.minus_term.specs.Written.{written_all, IsClean, IsRowOf}
use Rattle.minus_term.specs.FullRedraw.{page_of, prompt_ops}
use Rattle.minus_term.proofs.WrittenLaws.{written_all-nil}
use Rattle.minus_term.proofs.CursorLaws.{cursor_stays-prompt, cursor_stays-full, cursor_stays-scroll}
use Rattle.minus_term.proofs.PutsLaws.{puts-prompt, full_puts_lem}
use Rattle.minus_term.proofs.ScrollLaws.{scroll_shows_lem, scroll_puts_lem, IsClean-scroll}
use Rattle.minus_term.proofs.FullRedrawLaws.{full_redraw_lem, IsClean-full, IsClean-prompt, play_prompt}
use Rattle.minus_state.specs.Control.{Control, Saved, Settings}
use Rattle.minus_state.specs.Page.{all_shown, shown, page, page_under, page_with}
use Rattle.minus_state.specs.ShownPrompt.{prompt_row}
use Rattle.minus_draw.specs.declared.drawings.Drawing.{Drawing}
use Rattle.minus_draw.specs.declared.drawings.Drawing.TheVariants.{Nothing, Page, Scroll, LastRow}
use Rattle.minus_draw.specs.declared.drawings.WholePage.TheVariants.{Plain as PlainPage}
use Rattle.minus_draw.specs.declared.drawings.LastRow.TheVariants.{Prompt}
use Rattle.minus_draw.specs.Drawn.{Work, is_full, IsDrawing, Drawn, IsWholeDrawing, IsPageDrawing, Leaves, Begins, HasPiece, most_of, undrawn}
use Rattle.minus_draw.specs.Drawings.{whole_page, ops_of}
use Rattle.minus_draw.specs.PromptRowDrawing.{whole_prompt, changed_prompt}

pub length_page : (rows : ℕ) (texts : List (List ℕ)) (prompt : List ℕ) → length texts < rows → length (page_of rows texts prompt).texts ≡ rows
length_page rows texts prompt l =
    omega (arith, length-append (texts ++ replicate (rows - 1 - length texts) []) (prompt ∷ []), length-append texts (replicate (rows - 1 - length texts) []), length-replicate {A = List ℕ} (rows - 1 - length texts) [])

pub shown_fits : (c : Control) → 1 ≤ c.rows → length (shown c) < c.rows
shown_fits c h = omega (arith, length-take (c.rows - 1) (drop c.mark (all_shown c)))

-- a work, by how it is drawn
abbrev pub work_drawn : Drawing → Control → Work
work_drawn drawing c = record { drawing = drawing; left = c; hook = None }

-- what is called after a work is no part of its drawing
pub with_hook : (ops : List Op) (drawing : Drawing) (old new : Control) (hook : Option Hook) → IsDrawing ops old (work_drawn drawing new ∷ []) new → (let work : Work = record { drawing = drawing; left = new; hook = hook } in IsDrawing ops old (work ∷ []) new)
with_hook ops drawing old new hook h = record { shows = h.shows; clean = h.clean; cursor = h.cursor; few = h.few; asked = h.asked; none = h.none }

-- ---- a page without a search prompt

abbrev pub plain : Control → ShownPage
plain c = page_with c (shown c)

pub page_plain : (c : Control) → c.search ≡ None → page c ≡ plain c
page_plain c e = ap (page_under c) e

-- what is known of the screen before a drawing
abbrev pub known_before : Drawing → ShownPage → ℕ → PlayedScreen
known_before drawing page rows = if (is_full drawing || false) then unknown_screen rows else screen_of page

-- a list of operations is the drawing of a work of this kind, from one such page to another
pub record IsPlainDrawing (ops : List Op) (drawing : Drawing) (old new : Control) : Type 0 where
  pub shows : Shows (play_all ops (known_before drawing (plain old) new.rows)) (plain new)
  pub clean : IsClean (plain old ∷ plain new ∷ []) ops
  pub cursor : cursor_shown ops false ≡ false
  pub few : puts ops (known_before drawing (plain old) new.rows) ≤ most_of drawing new
  pub asked : drawing ≡ LastRow Prompt → HasPiece ops (whole_prompt new)
  pub none : drawing ≡ Nothing → prompt_row new ≡ prompt_row old → ops ≡ []

-- where no search prompt is open, it is the drawing of that work
pub plain_draws : (ops : List Op) (drawing : Drawing) (old new : Control) → page old ≡ plain old → page new ≡ plain new → IsPlainDrawing ops drawing old new → IsDrawing ops old (work_drawn drawing new ∷ []) new
plain_draws ops drawing old new e f h = record {
  shows = subst (λ (p : ShownPage). Shows (play_all ops (known_before drawing p new.rows)) (page new)) (sym e) (subst (λ (p : ShownPage). Shows (play_all ops (known_before drawing (plain old) new.rows)) p) (sym f) h.shows);
  clean = subst (λ (p : ShownPage). IsClean (p ∷ page new ∷ []) ops) (sym e) (subst (λ (p : ShownPage). IsClean (plain old ∷ p ∷ []) ops) (sym f) h.clean);
  cursor = subst (λ (p : ShownPage). cursor_shown ops (has_cursor p) ≡ has_cursor (page new)) (sym e) (subst (λ (p : ShownPage). cursor_shown ops false ≡ has_cursor p) (sym f) h.cursor);
  few = subst (λ (p : ShownPage). puts ops (known_before drawing p new.rows) ≤ most_of drawing new) (sym e) h.few;
  asked = (h.asked, tt);
  none = λ q. h.none q.0 q.1;
}

-- ---- a page whose rows of text stay

-- the prompt row is drawn over the one before
prompt_shows : (rows : ℕ) (texts : List (List ℕ)) (old new : List ℕ) → length texts < rows → Draws (prompt_ops rows new) (page_of rows texts old) (page_of rows texts new)
prompt_shows rows texts old new l =
    let xs : List (List ℕ) = texts ++ replicate (rows - 1 - length texts) [] in
    let count : length (map Some xs) + 1 ≡ rows = omega (arith, length-map xs Some, length-append texts (replicate (rows - 1 - length texts) []), length-replicate {A = List ℕ} (rows - 1 - length texts) []) in
    record {
      texts = play_prompt rows new (screen_of (page_of rows texts old)) (map Some xs) (Some old) (map-append Some xs (old ∷ [])) count ∙ sym (map-append Some xs (new ∷ []));
      cursor = tt;
    }

-- a prompt row that is another one than before is drawn
abbrev pub next_prompt : ℕ → List ℕ → List ℕ → List Op
next_prompt rows old new = if bytes_eq new old then [] else prompt_ops rows new

pub next_prompt_shows : (rows : ℕ) (texts : List (List ℕ)) (old new : List ℕ) → length texts < rows → Draws (next_prompt rows old new) (page_of rows texts old) (page_of rows texts new)
next_prompt_shows rows texts old new l = elim (cases_Bool (bytes_eq new old)) [
  | inl e ↦ (let same : new ≡ old = (bytes_eq-Decides new old).0 e in rw e (subst (λ (p : List ℕ). Draws [] (page_of rows texts old) (page_of rows texts p)) (sym same) (record { texts = refl; cursor = tt })))
  | inr e ↦ rw e (prompt_shows rows texts old new l)
]

pub next_prompt_puts : (rows : ℕ) (old new : List ℕ) (s : PlayedScreen) → length s.texts ≡ rows → 0 < rows → puts (next_prompt rows old new) s ≡ 0
next_prompt_puts rows old new s e l = elim (cases_Bool (bytes_eq new old)) [
  | inl f ↦ rw f refl
  | inr f ↦ rw f (puts-prompt rows new s e l)
]

pub next_prompt_cursor : (rows : ℕ) (old new : List ℕ) (on : Bool) → cursor_shown (next_prompt rows old new) on ≡ on
next_prompt_cursor rows old new on = elim (cases_Bool (bytes_eq new old)) [
  | inl f ↦ rw f refl
  | inr f ↦ rw f (cursor_stays-prompt rows new on)
]

pub next_prompt_clean : (pages : List ShownPage) (rows : ℕ) (old new : List ℕ) → IsRowOf pages new → IsClean pages (next_prompt rows old new)
next_prompt_clean pages rows old new h = elim (cases_Bool (bytes_eq new old)) [
  | inl f ↦ rw f tt
  | inr f ↦ rw f (IsClean-prompt pages rows new h)
]

-- the prompt row is a row of the page
pub prompt_there : (c new : Control) → IsRowOf (plain c ∷ plain new ∷ []) (prompt_row new)
prompt_there c new = (plain new, (1, omega arith, refl), Contains-push (shown new ++ replicate (new.rows - 1 - length (shown new)) []) (prompt_row new))

pub page_size : (c : Control) → 1 ≤ c.rows → length (screen_of (plain c)).texts ≡ c.rows
page_size c some = length-map (plain c).texts Some ∙ length_page c.rows (shown c) (prompt_row c) (shown_fits c some)

-- a page has no more rows of text than it has room for
pub shown_most : (c : Control) → length (shown c) ≤ c.rows - 1
shown_most c = omega (arith, length-take (c.rows - 1) (drop c.mark (all_shown c)))

whole_few : (c : Control) → 1 ≤ c.rows → puts (whole_page c) (unknown_screen c.rows) ≤ c.rows - 1
whole_few c some =
    let few = full_puts_lem c.rows (shown c) (prompt_row c) (unknown_screen c.rows) (length-replicate {A = Option (List ℕ)} c.rows None) (shown_fits c some) in
    omega (arith, few, shown_most c)

-- ---- a drawing, by its kind

-- a page drawn whole is drawn in full
pub whole_draws : (old new : Control) → 1 ≤ new.rows → IsPlainDrawing (whole_page new) (Page PlainPage) old new
whole_draws old new some = record {
  shows = full_redraw_lem new.rows (shown new) (prompt_row new) (unknown_screen new.rows) (length-replicate {A = Option (List ℕ)} new.rows None) (shown_fits new some);
  cursor = cursor_stays-full new.rows (shown new) (prompt_row new) false;
  clean = IsClean-full (plain old ∷ plain new ∷ []) new.rows (shown new) (prompt_row new) (1, omega arith, refl);
  few = whole_few new some;
  asked = λ e. absurd (let drawn : Page PlainPage ≡ LastRow Prompt = e in cc);
  none = λ q same. absurd (let drawn : Page PlainPage ≡ Nothing = q in cc);
}

-- a prompt row that is another one than before is drawn where nothing is asked for, whatever match is reported and
-- whatever is saved
pub aside_draws : (c : Control) (search_mark : ℕ) (s : Settings) (help : Option Saved) → 1 ≤ c.rows → (let new : Control = record c { search_mark = search_mark; settings = s; help = help } in IsPlainDrawing (changed_prompt c new) Nothing c new)
aside_draws c search_mark s help some =
    let new : Control = record c { search_mark = search_mark; settings = s; help = help } in
    record {
      shows = next_prompt_shows c.rows (shown c) (prompt_row c) (prompt_row new) (shown_fits c some);
      cursor = next_prompt_cursor c.rows (prompt_row c) (prompt_row new) false;
      clean = next_prompt_clean (plain c ∷ plain new ∷ []) c.rows (prompt_row c) (prompt_row new) (prompt_there c new);
      few = omega (arith, next_prompt_puts c.rows (prompt_row c) (prompt_row new) (screen_of (plain c)) (page_size c some) some);
      asked = λ e. absurd (let drawn : Nothing ≡ LastRow Prompt = e in cc);
      none = λ q is. (let same : bytes_eq (prompt_row new) (prompt_row c) ≡ true = (bytes_eq-Decides (prompt_row new) (prompt_row c)).1 is in rw same refl);
    }

pub quiet_draws : (c : Control) (search_mark : ℕ) (s : Settings) → 1 ≤ c.rows → (let new : Control = record c { search_mark = search_mark; settings = s } in IsPlainDrawing (changed_prompt c new) Nothing c new)
quiet_draws c search_mark s some = aside_draws c search_mark s c.help some

-- the prompt row is drawn where it is asked for
pub prompt_draws : (c : Control) (s : Settings) → 1 ≤ c.rows → (let new : Control = record c { settings = s } in IsPlainDrawing (whole_prompt new) (LastRow Prompt) c new)
prompt_draws c s some =
    let new : Control = record c { settings = s } in
    record {
      shows = prompt_shows c.rows (shown c) (prompt_row c) (prompt_row new) (shown_fits c some);
      cursor = cursor_stays-prompt c.rows (prompt_row new) false;
      clean = IsClean-prompt (plain c ∷ plain new ∷ []) c.rows (prompt_row new) (prompt_there c new);
      few = omega (arith, puts-prompt c.rows (prompt_row new) (screen_of (plain c)) (page_size c some) some);
      asked = λ e. ([], [], sym (append-nil (whole_prompt new)));
      none = λ q same. absurd (let drawn : LastRow Prompt ≡ Nothing = q in cc);
    }

-- the way from one mark to another
pub scroll_draws : (c : Control) (search_mark : ℕ) (s : Settings) (mark : ℕ) → 1 ≤ c.rows → (let new : Control = record c { mark = mark; search_mark = search_mark; settings = s } in IsPlainDrawing (ops_of (Scroll c.mark mark) new) (Scroll c.mark mark) c new)
scroll_draws c search_mark s mark some =
    let new : Control = record c { mark = mark; search_mark = search_mark; settings = s } in
    record {
      shows = scroll_shows_lem c.rows c.mark mark (all_shown c) (prompt_row c) (prompt_row new) some;
      cursor = cursor_stays-scroll c.rows c.mark mark (shown new) (prompt_row new) false;
      clean = IsClean-scroll (plain c ∷ plain new ∷ []) c.rows c.mark mark (shown new) (prompt_row new) (1, omega arith, refl);
      few = scroll_puts_lem c.rows c.mark mark (all_shown c) (prompt_row new) (screen_of (plain c)) some (page_size c some);
      asked = λ e. absurd (let drawn : Scroll c.mark mark ≡ LastRow Prompt = e in cc);
      none = λ q same. absurd (let drawn : Scroll c.mark mark ≡ Nothing = q in cc);
    }

-- a page is shown by what it makes known
pub shows_itself : (p : ShownPage) → Shows (screen_of p) p
shows_itself p = own p.texts p.cursor
  where
    own : (texts : List (List ℕ)) (cursor : Option ℕ) → (let q : ShownPage = record { texts = texts; cursor = cursor } in Shows (screen_of q) q)
    own texts None = record { texts = refl; cursor = tt }
    own texts (Some x) = record { texts = refl; cursor = (refl, refl) }

-- nothing is drawn of what leaves all as it was
pub undrawn_draws : (c : Control) → IsDrawing [] c (undrawn c ∷ []) c
undrawn_draws c = record {
  shows = shows_itself (page c);
  cursor = refl;
  clean = tt;
  few = omega arith;
  asked = (λ e. absurd (let drawn : Nothing ≡ LastRow Prompt = e in cc), tt);
  none = λ q. refl;
}

pub undrawn_drawn : (a : Option (List ℕ)) (c : Control) → Drawn a a c (undrawn c ∷ []) c
undrawn_drawn a c = ([], subst (λ (bytes : List ℕ). Appends a a bytes) (sym written_all-nil) (Appends-nil a), undrawn_draws c)

-- no operation is the drawing of no work
no_work : (c : Control) → IsDrawing [] c [] c
no_work c = record {
  shows = shows_itself (page c);
  cursor = refl;
  clean = tt;
  few = omega arith;
  asked = tt;
  none = λ q. refl;
}

-- nothing drawn
pub nothing_drawn : (a : Option (List ℕ)) (c : Control) → Drawn a a c [] c
nothing_drawn a c = ([], subst (λ (bytes : List ℕ). Appends a a bytes) (sym written_all-nil) (Appends-nil a), no_work c)

-- a page drawn whole is drawn from every screen of its size
whole_shows : (c : Control) → c.search ≡ None → 1 ≤ c.rows → IsWholeDrawing (whole_page c) (c ∷ []) c
whole_shows c closed some =
    let is : plain c ≡ page c = sym (page_plain c closed) in
    record {
      here = (0, omega arith, refl);
      cursor = subst (λ (p : ShownPage). cursor_shown (whole_page c) false ≡ has_cursor p) is (cursor_stays-full c.rows (shown c) (prompt_row c) false);
      shows = subst (λ (p : ShownPage). Shows (play_all (whole_page c) (unknown_screen c.rows)) p) is (full_redraw_lem c.rows (shown c) (prompt_row c) (unknown_screen c.rows) (length-replicate {A = Option (List ℕ)} c.rows None) (shown_fits c some));
      clean = subst (λ (p : ShownPage). IsClean (p ∷ []) (whole_page c)) is (IsClean-full (plain c ∷ []) c.rows (shown c) (prompt_row c) (0, omega arith, refl));
    }

pub page_draws : (c : Control) → c.search ≡ None → 1 ≤ c.rows → IsPageDrawing (whole_page c) c
page_draws c closed some = record { whole = whole_shows c closed some; few = whole_few c some }

-- the first drawing, after the setup
pub first_drawn : (a b : Option (List ℕ)) (bytes drawing : List ℕ) (c : Control) → c.search ≡ None → 1 ≤ c.rows → bytes ≡ drawing → drawing ≡ written_all (whole_page c) → Appends a b (setup_bytes ++ bytes) → Begins a b c
first_drawn a b bytes drawing c closed some e g h = (whole_page c, subst (λ (x : List ℕ). Appends a b (setup_bytes ++ x)) (e ∙ g) h, page_draws c closed some)

-- it stands at the end of the sink's bytes
pub page_leaves : (bytes : List ℕ) (new_bytes : Option (List ℕ)) (c : Control) → Begins (Some bytes) new_bytes c → Leaves new_bytes (c ∷ []) c
page_leaves bytes None c h = absurd h.1
page_leaves bytes (Some new) c h = (bytes ++ setup_bytes, h.0, h.1 ∙ sym (append_assoc bytes setup_bytes (written_all h.0)), h.2.whole)
