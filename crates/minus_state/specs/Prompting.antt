-- How a control changes as a search prompt is opened, edited and closed.
use Rattle.std.specs.Prelude.{ℕ, ◌==◌, length, true, Option, None, Some, option_map, if◌then◌else◌}
use Rattle.regex.specs.Patterns.{Re}
use Rattle.minus_state.specs.declared.change.Redraw.{Redraw}
use Rattle.minus_state.specs.declared.change.Redraw.TheVariants.{Stays, Opening}
use Rattle.minus_state.specs.declared.search.SearchMode.{SearchMode}
use Rattle.minus_state.specs.SearchMode.{char_of}
use Rattle.minus_state.specs.declared.search.keys.QueryEdit.{QueryEdit}
use Rattle.minus_state.specs.OpenPrompts.{Prompt, cursor_moved as prompt_moved}
use Rattle.minus_state.specs.OpenSearches.{OpenSearch, newly_open}
use Rattle.minus_state.specs.Control.{Control, document_of, matches_in}

-- a search prompt opens for a direction, where that has a character, and the prompt row
-- reports the first match from then on
abbrev pub opened_by : Control → SearchMode → Option ℕ → Control
opened_by c mode None = c
opened_by c mode (Some character) = record c { search_mark = 0; mode = mode; search = Some (newly_open mode) }

-- a search prompt opens for a direction; for one without a character nothing changes
abbrev pub opened : Control → SearchMode → Control
opened c mode = opened_by c mode (char_of mode)

-- how much of the page is to be drawn as a search prompt opens: nothing where its direction has no character
abbrev pub opening_redraw_by : Option ℕ → Redraw
opening_redraw_by None = Stays
opening_redraw_by (Some character) = Opening

-- how much of the page is to be drawn as a search prompt opens for a direction
abbrev pub opening_redraw : SearchMode → Redraw
opening_redraw mode = opening_redraw_by (char_of mode)

-- the search prompt is closed
abbrev pub closed : Control → Control
closed c = record c { search = None }

-- its cursor has moved
abbrev pub typed : Control → Prompt → Control
typed c prompt = record c { search = option_map (λ o. let x : OpenSearch = record o { prompt = prompt } in x) c.search }

-- its cursor moves as an edit says
abbrev pub cursor_moved : Control → QueryEdit → Control
cursor_moved c edit = record c {
  search = option_map (λ o. let x : OpenSearch = record o { prompt = prompt_moved o.prompt edit } in x) c.search;
}

-- the pattern whose matches the page shows: one that was found, where some row matches it
abbrev pub previewed : Control → Option Re → Option Re
previewed c None = None
previewed c (Some query) = if length (matches_in (Some query) (document_of c)) == 0 then None else Some query

-- its query was edited, and a pattern was found for it, or none
abbrev pub edited : Control → Prompt → Option Re → Control
edited c prompt found =
    record c { search = Some (record { prompt = prompt; edited = true; preview = previewed c found }) }
