-- What a page shows of a search before its query is taken.
use Rattle.std.specs.Prelude.{ℕ, List, option_map}
use Rattle.regex.specs.Patterns.{Re}
use Rattle.regex.specs.Strings.{regex_pattern}
use Rattle.minus_term.specs.PlayedScreen.{ShownPage}
use Rattle.minus_term.specs.SearchPrompt.{typed_page}
use Rattle.minus_state.specs.Confirming.{confirmed}
use Rattle.minus_state.specs.Control.{Control}
use Rattle.minus_state.specs.OpenPrompts.{Prompt}
use Rattle.minus_state.specs.OpenSearches.{OpenSearch, typed_in}
use Rattle.minus_state.specs.Page.{shown}
use Rattle.minus_draw.specs.declared.search_prompt_drawing.OpenView.{OpenView}

-- a prompt with its cursor at a place
abbrev pub with_cursor : Prompt → ℕ → Prompt
with_cursor p cursor = record p { editor = record p.editor { cursor = cursor } }

-- what is seen of a search prompt that is open
abbrev pub view_seen : OpenView → OpenSearch
view_seen v = record {
  prompt = with_cursor v.prompt.now v.cursor;
  edited = v.edited;
  preview = option_map (λ r. regex_pattern r.now) v.preview;
}

-- the page of a terminal with this number of rows, with these rows of text at its top and
-- a search prompt in its last row
abbrev pub prompt_page : ℕ → List (List ℕ) → Prompt → ShownPage
prompt_page rows texts prompt = typed_page rows texts (typed_in prompt) prompt.editor.cursor

-- the page with a search prompt that shows where a pattern leads
abbrev pub preview_page : Control → Re → Prompt → ShownPage
preview_page c pattern prompt = prompt_page c.rows (shown (confirmed c pattern)) prompt
