-- The page of a control.
use Rattle.std.specs.Prelude.{ℕ, List, length, take, drop, Option, None, Some}
use Rattle.regex.specs.Patterns.{Re}
use Rattle.minus_term.specs.PageRows.{page_len}
use Rattle.minus_term.specs.PlayedScreen.{ShownPage}
use Rattle.minus_term.specs.FullRedraw.{page_of}
use Rattle.minus_term.specs.SearchPrompt.{typed_page}
use Rattle.minus_text.specs.Document.{Document, rows_of}
use Rattle.minus_state.specs.declared.selection.SelectionEnds.{SelectionEnds}
use Rattle.minus_state.specs.Selection.{ends_in_order}
use Rattle.minus_state.specs.ShownRow.{shown_rows}
use Rattle.minus_state.specs.Control.{Control, document_of}
use Rattle.minus_state.specs.ShownPrompt.{prompt_row}
use Rattle.minus_state.specs.Confirming.{confirmed_by}
use Rattle.minus_state.specs.OpenSearches.{OpenSearch, typed_in}

-- what is shown of all rows of a document under a term, if there is one, from a left mark on and with a selection
abbrev pub shown_of : Option Re → Document → ℕ → SelectionEnds → List (List ℕ)
shown_of term d left ends = shown_rows term d left (ends_in_order ends) 0 (length (rows_of d))

-- what is shown of all rows of text
abbrev pub all_shown : Control → List (List ℕ)
all_shown c = shown_of c.term (document_of c) c.left c.ends

-- the rows of text on the page: one less than the rows of the terminal, from the mark on
abbrev pub shown : Control → List (List ℕ)
shown c = take (page_len c.rows) (drop c.mark (all_shown c))

-- a page of the control with these rows of text at its top, blank rows after them, and the prompt row last
abbrev pub page_with : Control → List (List ℕ) → ShownPage
page_with c texts = page_of c.rows texts (prompt_row c)

-- the page with a search prompt, if one is open: then the rows are those that its pattern leads to, if there is one,
-- the last row has what is typed, and the cursor stands there
abbrev pub page_under : Control → Option OpenSearch → ShownPage
page_under c None = page_with c (shown c)
page_under c (Some o) = typed_page c.rows (shown (confirmed_by c o.preview)) (typed_in o.prompt) o.prompt.editor.cursor

-- the page
abbrev pub page : Control → ShownPage
page c = page_under c c.search
