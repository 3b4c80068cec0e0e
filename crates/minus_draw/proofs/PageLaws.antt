-- The page with a search prompt.
use Rattle.std.proofs.Common.{◌≡◌, ℕ, ◌≤◌, ◌<◌, length, List, Option, None, Some, option_map, refl, sym, ap, subst, ◌∙◌}
use Rattle.regex.specs.Patterns.{Re}
use Rattle.minus_term.specs.SearchPrompt.{typed_page}
use Rattle.minus_state.specs.Confirming.{confirmed_by}
use Rattle.minus_state.specs.Control.{Control}
use Rattle.minus_state.specs.OpenSearches.{OpenSearch, typed_in}
use Rattle.minus_state.specs.Page.{page, page_under, shown}
use Rattle.minus_draw.proofs.DrawnLaws.{shown_fits}

-- an open prompt that was read, or none
pub open_as : {A B : Type 0} (f : A → B) (read : Option A) (search : Option B) (a : A) → read ≡ Some a → option_map f read ≡ search → search ≡ Some (f a)
open_as f read search a is e = sym e ∙ ap (option_map f) is

pub closed_as : {A B : Type 0} (f : A → B) (read : Option A) (search : Option B) → read ≡ None → option_map f read ≡ search → search ≡ None
closed_as f read search is e = sym e ∙ ap (option_map f) is

-- a search leaves the size
rows_by : (c : Control) (found : Option Re) → (confirmed_by c found).rows ≡ c.rows
rows_by c None = refl
rows_by c (Some query) = refl

pub searched_fits : (c : Control) (found : Option Re) → 1 ≤ c.rows → length (shown (confirmed_by c found)) < c.rows
searched_fits c found some =
    subst (λ (n : ℕ). length (shown (confirmed_by c found)) < n) (rows_by c found) (shown_fits (confirmed_by c found) (subst (λ (n : ℕ). 1 ≤ n) (sym (rows_by c found)) some))

-- the rows of text do not hang on the prompt
pub shown_still : (c : Control) (search : Option OpenSearch) (found : Option Re) → shown (confirmed_by (record c { search = search }) found) ≡ shown (confirmed_by c found)
shown_still c search None = refl
shown_still c search (Some query) = refl

-- after a change of the search prompt alone
pub alone_shown : (old new : Control) (found : Option Re) → new ≡ record old { search = new.search } → shown (confirmed_by old found) ≡ shown (confirmed_by new found)
alone_shown old new found is = sym (ap (λ (x : Control). shown (confirmed_by x found)) is ∙ shown_still old new.search found)

pub page_of_prompt : (c : Control) (o : OpenSearch) (rows : List (List ℕ)) → c.search ≡ Some o → rows ≡ shown (confirmed_by c o.preview) → page c ≡ typed_page c.rows rows (typed_in o.prompt) o.prompt.editor.cursor
page_of_prompt c o rows is same =
    ap (page_under c) is
    ∙ ap (λ (xs : List (List ℕ)). typed_page c.rows xs (typed_in o.prompt) o.prompt.editor.cursor) (sym same)
