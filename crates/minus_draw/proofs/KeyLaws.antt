-- What the keys of an open search prompt do is drawn so.
use Rattle.std.proofs.Common.{◌≡◌, ℕ, zero, suc, ◌+◌, ◌-◌, ◌≤◌, ◌==◌, Bool, true, List, [], ◌∷◌, ◌++◌, length, take, drop, replicate, Option, None, Some, is_some, option_map, refl, sym, ap, subst, ◌∙◌, arith, inl, inr}
use Rattle.std.specs.Prelude.{bytes_eq}
use Rattle.std.proofs.lemmas.Bool.{cases_Bool, eqb-true}
use Rattle.std.proofs.lemmas.Slice.Eq.{bytes_eq-Decides}
use Rattle.std.proofs.lemmas.List.{length-append, length-take, length-drop, length-replicate}
use Rattle.std.proofs.lemmas.List.Elements.{Contains-push}
use Rattle.regex.specs.Patterns.{Re}
use Rattle.minus_term.specs.Operations.{Op}
use Rattle.minus_term.specs.PlayedScreen.{ShownPage, Shows, play_all, unknown_screen, screen_of}
use Rattle.minus_term.specs.CursorShown.{cursor_shown, has_cursor}
use Rattle.minus_term.specs.Puts.{puts}
use Rattle.minus_term.specs.SearchPrompt.{opening_ops, cursor_ops, edit_ops, closing_ops, typed_page}
use Rattle.minus_term.specs.Written.{IsClean}
use Rattle.minus_term.proofs.CursorLaws.{cursor_stays-edit, cursor_hidden-closing}
use Rattle.minus_term.proofs.PutsLaws.{edit_puts_lem, closing_puts_lem}
use Rattle.minus_term.proofs.SearchPromptLaws.{opening_shows_lem, opening_puts_lem, cursor_shows_lem, edit_shows_lem, closing_shows_lem, IsClean-opening, IsClean-cursor, IsClean-edit, IsClean-closing}
use Rattle.minus_state.specs.declared.search.SearchMode.{SearchMode}
use Rattle.minus_state.specs.declared.search.keys.QueryEdit.{QueryEdit}
use Rattle.minus_state.specs.declared.search.keys.QueryEdit.TheVariants as edits
use Rattle.minus_state.specs.declared.search.query.Fed.{Fed}
use Rattle.minus_state.specs.declared.search.query.Fed.TheVariants.{Unchanged, Moved, Edited, Confirmed, Cancelled}
use Rattle.minus_state.specs.Confirming.{confirmed_by}
use Rattle.minus_state.specs.Control.{Control, Settings}
use Rattle.minus_state.specs.OpenPrompts.{Prompt, prompt_of, fed}
use Rattle.minus_state.specs.OpenSearches.{OpenSearch, newly_open, typed_in}
use Rattle.minus_state.specs.Prompting.{closed, typed, previewed}
use Rattle.minus_state.specs.Page.{page, page_under, shown}
use Rattle.minus_state.specs.QueryEditor.{Editor, edited as edited_to, told_of, told_between, without, with_at}
use Rattle.minus_state.specs.PromptKeys.{left_by, redraw_by}
use Rattle.minus_state.specs.Confirming.{entered}
use Rattle.minus_state.specs.ShownPrompt.{prompt_row}
use Rattle.minus_draw.specs.declared.drawings.Drawing.TheVariants.{Nothing, Page, LastRow}
use Rattle.minus_draw.specs.declared.drawings.WholePage.TheVariants.{Typed, Closing}
use Rattle.minus_draw.specs.declared.drawings.LastRow.TheVariants.{Prompt as PromptRow, Opening, Cursor}
use Rattle.minus_draw.specs.Drawn.{IsDrawing, Work, key_work, undrawn}
use Rattle.minus_draw.specs.Drawings.{cursor_under, ops_of_step, drawing_by}
use Rattle.minus_draw.specs.PromptRowDrawing.{changed_prompt}
use Rattle.minus_draw.specs.Keyed.{KeysAreDrawn}
use Rattle.minus_draw.proofs.DrawnLaws.{plain, page_plain, page_size, shown_fits, shown_most, work_drawn, undrawn_draws}
use Rattle.minus_draw.proofs.KeyedLaws.{entered_rows, entered_closed}
use Rattle.minus_draw.proofs.PageLaws.{searched_fits, shown_still}

-- another search prompt in the place of the one that is open
abbrev pub with_search : Control → OpenSearch → Control
with_search c o = record c { search = Some o }

-- ---- the drawings

pub closing_draws : (c new : Control) → 1 ≤ new.rows → new.search ≡ None → IsDrawing (closing_ops new.rows (shown new) (prompt_row new)) c (work_drawn (Page Closing) new ∷ []) new
closing_draws c new some e =
    let ops : List Op = closing_ops new.rows (shown new) (prompt_row new) in
    let is : plain new ≡ page new = sym (page_plain new e) in
    record {
      shows = subst (λ (p : ShownPage). Shows (play_all ops (unknown_screen new.rows)) p) is (closing_shows_lem new.rows (shown new) (prompt_row new) (unknown_screen new.rows) (length-replicate {A = Option (List ℕ)} new.rows None) (shown_fits new some));
      cursor = subst (λ (p : ShownPage). cursor_shown ops (has_cursor (page c)) ≡ has_cursor p) is (cursor_hidden-closing new.rows (shown new) (prompt_row new) (has_cursor (page c)));
      clean = subst (λ (p : ShownPage). IsClean (page c ∷ p ∷ []) ops) is (IsClean-closing (page c ∷ plain new ∷ []) new.rows (shown new) (prompt_row new) (1, omega arith, refl));
      few = (let few = closing_puts_lem new.rows (shown new) (prompt_row new) (unknown_screen new.rows) (length-replicate {A = Option (List ℕ)} new.rows None) (shown_fits new some) in omega (arith, few, shown_most new));
      asked = (λ e. absurd (let drawn : Page Closing ≡ LastRow PromptRow = e in cc), tt);
      none = λ q. absurd (let drawn : Page Closing ≡ Nothing = q.0 in cc);
    }

-- the page has a cursor where a search prompt is open
cursor_where : (c : Control) (search : Option OpenSearch) → c.search ≡ search → has_cursor (page c) ≡ is_some c.search
cursor_where c None e = rw e refl
cursor_where c (Some o) e = rw e refl

pub edit_draws : (c : Control) (o : OpenSearch) → 1 ≤ c.rows → is_some c.search ≡ true → (let new : Control = with_search c o in IsDrawing (edit_ops new.rows (shown (confirmed_by new o.preview)) (typed_in o.prompt) o.prompt.editor.cursor) c (work_drawn (Page Typed) new ∷ []) new)
edit_draws c o some open_before =
    let new : Control = with_search c o in
    let rows : List (List ℕ) = shown (confirmed_by new o.preview) in
    record {
      shows = edit_shows_lem new.rows rows (typed_in o.prompt) o.prompt.editor.cursor (unknown_screen new.rows) (length-replicate {A = Option (List ℕ)} new.rows None) (searched_fits new o.preview some);
      cursor = cursor_stays-edit new.rows rows (typed_in o.prompt) o.prompt.editor.cursor (has_cursor (page c)) ∙ cursor_where c c.search refl ∙ open_before;
      clean = IsClean-edit (page c ∷ page new ∷ []) new.rows rows (typed_in o.prompt) o.prompt.editor.cursor (1, omega arith, refl);
      few = (let few = edit_puts_lem new.rows rows (typed_in o.prompt) o.prompt.editor.cursor (unknown_screen new.rows) (length-replicate {A = Option (List ℕ)} new.rows None) (searched_fits new o.preview some) in let fits = searched_fits new o.preview some in omega (arith, few, fits));
      asked = (λ e. absurd (let drawn : Page Typed ≡ LastRow PromptRow = e in cc), tt);
      none = λ q. absurd (let drawn : Page Typed ≡ Nothing = q.0 in cc);
    }

-- the prompt is opened
abbrev pub opened_at : Control → SearchMode → Settings → ℕ → Control
opened_at c mode s mark = record c { mark = mark; search_mark = 0; settings = s; mode = mode; search = Some (newly_open mode) }

abbrev OpeningDraws : Control → Control → SearchMode → Type 0
OpeningDraws c new mode = IsDrawing (opening_ops new.rows (typed_in (prompt_of mode))) c (work_drawn (LastRow Opening) new ∷ []) new

opening_stays : (c : Control) (mode : SearchMode) (s : Settings) → 1 ≤ c.rows → c.search ≡ None → OpeningDraws c (opened_at c mode s c.mark) mode
opening_stays c mode s some e =
    let new : Control = opened_at c mode s c.mark in
    let mark : List ℕ = typed_in (prompt_of mode) in
    let ops : List Op = opening_ops c.rows mark in
    let is : plain c ≡ page c = sym (page_plain c e) in
    let none = opening_puts_lem c.rows mark (screen_of (plain c)) some (page_size c some) in
    record {
      shows = subst (λ (p : ShownPage). Shows (play_all ops (screen_of p)) (page new)) is (opening_shows_lem c.rows (shown c) (prompt_row c) mark (shown_fits c some));
      clean = IsClean-opening (page c ∷ page new ∷ []) c.rows mark (page new, (1, omega arith, refl), Contains-push (shown c ++ replicate (c.rows - 1 - length (shown c)) []) mark);
      cursor = refl;
      few = subst (λ (p : ShownPage). puts ops (screen_of p) ≤ 0) is (omega (arith, none));
      asked = (λ e. absurd (let drawn : LastRow Opening ≡ LastRow PromptRow = e in cc), tt);
      none = λ q. absurd (let drawn : LastRow Opening ≡ Nothing = q.0 in cc);
    }

pub opening_draws : (c : Control) (mode : SearchMode) (s : Settings) (mark : ℕ) → 1 ≤ c.rows → c.search ≡ None → mark ≡ c.mark → OpeningDraws c (opened_at c mode s mark) mode
opening_draws c mode s mark some e is = subst (λ (m : ℕ). OpeningDraws c (opened_at c mode s m) mode) (sym is) (opening_stays c mode s some e)

-- the cursor of the prompt is moved
abbrev pub cursor_at : OpenSearch → ℕ → OpenSearch
cursor_at o cursor = record o { prompt = record o.prompt { editor = record o.prompt.editor { cursor = cursor } } }

cursor_draws : (c : Control) (o : OpenSearch) (cursor : ℕ) → 1 ≤ c.rows → c.search ≡ Some o → (let new : Control = with_search c (cursor_at o cursor) in IsDrawing (cursor_ops new.rows cursor) c (work_drawn (LastRow Cursor) new ∷ []) new)
cursor_draws c o cursor some e =
    let new : Control = with_search c (cursor_at o cursor) in
    let rows : List (List ℕ) = shown (confirmed_by c o.preview) in
    let before : page_under c (Some o) ≡ page c = sym (ap (page_under c) e) in
    let after : typed_page c.rows rows (typed_in o.prompt) cursor ≡ page new = ap (λ (xs : List (List ℕ)). typed_page c.rows xs (typed_in o.prompt) cursor) (sym (shown_still c (Some (cursor_at o cursor)) o.preview)) in
    record {
      shows = subst (λ (p : ShownPage). Shows (play_all (cursor_ops c.rows cursor) (screen_of p)) (page new)) before (subst (λ (p : ShownPage). Shows (play_all (cursor_ops c.rows cursor) (screen_of (page_under c (Some o)))) p) after (cursor_shows_lem c.rows rows (typed_in o.prompt) o.prompt.editor.cursor cursor (searched_fits c o.preview some)));
      cursor = cursor_where c c.search refl ∙ ap is_some e;
      clean = IsClean-cursor (page c ∷ page new ∷ []) c.rows cursor;
      few = omega arith;
      asked = (λ e. absurd (let drawn : LastRow Cursor ≡ LastRow PromptRow = e in cc), tt);
      none = λ q. absurd (let drawn : LastRow Cursor ≡ Nothing = q.0 in cc);
    }

-- ---- what is reported of an edit

told_moved : (old new : Editor) → told_between old new ≡ Moved → length old.query ≡ length new.query
told_moved old new told = elim (cases_Bool (length old.query == length new.query)) [
  | inl same ↦ eqb-true (length old.query) (length new.query) same
  | inr other ↦ absurd (let both : Edited ≡ Moved = (rw other at told) in cc)
]

same_without : (k : ℕ) (xs : List ℕ) → length xs ≡ length (take k xs ++ drop (suc k) xs) → take k xs ++ drop (suc k) xs ≡ xs
same_without zero [] e = refl
same_without zero (x ∷ xs) e = absurd (omega (arith, e))
same_without (suc k) [] e = refl
same_without (suc k) (x ∷ xs) e = ap (λ (ys : List ℕ). x ∷ ys) (same_without k xs (omega (arith, e)))

-- where one element less is as many, it is all of them
without_same : (n : ℕ) (xs : List ℕ) → length xs ≡ length (without n xs) → without n xs ≡ xs
without_same zero [] e = refl
without_same zero (x ∷ xs) e = refl
without_same (suc k) xs e = (let one : suc k - 1 ≡ k = omega arith in rw one (same_without k xs (rw one at e)))

with_more : (n x : ℕ) (xs : List ℕ) → length xs ≡ length (with_at n x xs) → ⊥
with_more n x xs e =
    let all = length-append (take (n - 1) xs) (x ∷ drop (n - 1) xs) in
    let front = length-take (n - 1) xs in
    let back = length-drop (n - 1) xs in
    omega (arith, e, all, front, back)

-- a moved cursor leaves the query
pub moved_query : (e : Editor) (edit : QueryEdit) → told_of e edit ≡ Moved → (edited_to e edit).query ≡ e.query
moved_query e edits.Cancels told = absurd (cc)
moved_query e edits.Confirms told = absurd (cc)
moved_query e edits.RemovesBefore told = elim (cases_Bool (e.cursor == 1)) [
  | inl first ↦ rw first refl
  | inr other ↦ rw other (without_same (e.cursor - 1) e.query (told_moved e (record { query = without (e.cursor - 1) e.query; cursor = e.cursor - 1 }) (rw other at told)))
]
moved_query e edits.RemovesUnder told = without_same e.cursor e.query (told_moved e (record e { query = without e.cursor e.query }) told)
moved_query e (edits.Inserts character) told = absurd (with_more e.cursor character e.query (told_moved e (record { query = with_at e.cursor character e.query; cursor = e.cursor + 1 }) told))
moved_query e edits.Left told = refl
moved_query e edits.Right told = refl
moved_query e edits.Start told = refl
moved_query e edits.End told = refl
moved_query e edits.WordLeft told = refl
moved_query e edits.WordRight told = refl
moved_query e edits.Nothing told = refl

-- ---- each key

same_editor : (e f : Editor) → f.query ≡ e.query → record e { cursor = f.cursor } ≡ f
same_editor e f same = ap (λ (x : List ℕ). let r : Editor = record { query = x; cursor = f.cursor } in r) (sym same)

-- what a key comes to, by what is reported of it
abbrev told_work : Fed → Control → Bool → Prompt → Option Re → Work
told_work told c was_edited p found = record { drawing = drawing_by (redraw_by told) c (left_by told c was_edited p found).mark; left = left_by told c was_edited p found; hook = None }

abbrev KeyDraws : Control → OpenSearch → Prompt → Option Re → Fed → Type 0
KeyDraws c o prompt found told = (let work : Work = told_work told c o.edited prompt found in IsDrawing (ops_of_step work.drawing c work.left) c (work ∷ []) work.left)

-- a prompt row that stays is not drawn
same_row : (c : Control) → changed_prompt c c ≡ []
same_row c = (let same : bytes_eq (prompt_row c) (prompt_row c) ≡ true = (bytes_eq-Decides (prompt_row c) (prompt_row c)).1 refl in rw same refl)

key_draws_by : (c : Control) (o : OpenSearch) (edit : QueryEdit) (found : Option Re) (told : Fed) → told_of o.prompt.editor edit ≡ told → 1 ≤ c.rows → c.search ≡ Some o → KeyDraws c o (fed o.prompt edit) found told
key_draws_by c o edit found Unchanged is some e = subst (λ (ops : List Op). IsDrawing ops c (undrawn c ∷ []) c) (sym (same_row c)) (undrawn_draws c)
key_draws_by c o edit found Moved is some e =
    let editor : Editor = edited_to o.prompt.editor edit in
    let at : with_search c (cursor_at o editor.cursor) ≡ typed c (fed o.prompt edit) =
    ap (λ (x : Editor). with_search c (record o { prompt = record o.prompt { editor = x } })) (same_editor o.prompt.editor editor (moved_query o.prompt.editor edit is))
    ∙ sym (ap (λ (x : Option OpenSearch). let k : Control = record c { search = option_map (λ (p : OpenSearch). let n : OpenSearch = record p { prompt = fed o.prompt edit } in n) x } in k) e) in
    subst (λ (new : Control). IsDrawing (cursor_under new.rows new.search) c (work_drawn (LastRow Cursor) new ∷ []) new) at (cursor_draws c o editor.cursor some e)
key_draws_by c o edit found Edited is some e = edit_draws c (record { prompt = fed o.prompt edit; edited = true; preview = previewed c found }) some (ap is_some e)
key_draws_by c o edit found Confirmed is some e =
    let new : Control = entered c o.edited found in
    closing_draws c new (subst (λ (n : ℕ). 1 ≤ n) (sym (entered_rows c o.edited found)) some) (entered_closed c o.edited found)
key_draws_by c o edit found Cancelled is some e = closing_draws c (closed c) some refl

-- what a key does is drawn by the list of its kind
pub key_drawn : (c : Control) (o : OpenSearch) (edit : QueryEdit) (found : Option Re) → 1 ≤ c.rows → c.search ≡ Some o → (let work : Work = key_work c o edit found in IsDrawing (ops_of_step work.drawing c work.left) c (work ∷ []) work.left)
key_drawn c o edit found some e = key_draws_by c o edit found (told_of o.prompt.editor edit) refl some e

pub keys_are_drawn_lem : KeysAreDrawn
keys_are_drawn_lem c o edit found some e = (let work : Work = key_work c o edit found in (ops_of_step work.drawing c work.left, key_drawn c o edit found some e))
