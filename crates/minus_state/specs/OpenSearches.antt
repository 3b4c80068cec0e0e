-- A search prompt that is open in a pager.
use Rattle.std.specs.Prelude.{ℕ, Bool, false, List, ◌∷◌, Option, None, Some, option_map}
use Rattle.std.specs.Str.{encode_utf8_all}
use Rattle.regex.specs.Patterns.{Re}
use Rattle.regex.specs.Strings.{regex_pattern}
use Rattle.minus_state.specs.declared.search.SearchMode.{SearchMode}
use Rattle.minus_state.specs.declared.search.open_search.OpenSearch as code
use Rattle.minus_state.specs.declared.search.open_search.SearchChange.{SearchChange}
use Rattle.minus_state.specs.declared.search.open_search.SearchChange.TheVariants.{Stays, Moves, Is, Closes}
use Rattle.minus_state.specs.SearchMode.{char_of}
use Rattle.minus_state.specs.OpenPrompts.{Prompt, prompt_of, cursor_moved}

-- its direction and its query, whether the query was edited since the prompt was opened, and the pattern whose matches
-- the page shows before the query is taken, if one is
pub record OpenSearch : Type 0 where
  pub prompt : Prompt
  pub edited : Bool
  pub preview : Option Re

-- what a value of the code is seen as
abbrev pub seen_search : code.OpenSearch → OpenSearch
seen_search o =
    record { prompt = o.prompt; edited = o.edited; preview = option_map (λ b. regex_pattern b.value) o.preview }

-- one whose query was not edited
abbrev pub unedited : Prompt → OpenSearch
unedited p = record { prompt = p; edited = false; preview = None }

-- one that was opened just now
abbrev pub newly_open : SearchMode → OpenSearch
newly_open mode = unedited (prompt_of mode)

-- the search prompt that is open after a change of it, if one is
abbrev pub search_after : SearchChange → Option OpenSearch → Option OpenSearch
search_after Stays search = search
search_after (Moves edit) search =
    option_map (λ o. let x : OpenSearch = record o { prompt = cursor_moved o.prompt edit } in x) search
search_after (Is o) search = Some (seen_search o.value)
search_after Closes search = None

-- the character of a direction, if it has one, and the characters of a query behind it
abbrev pub typed_behind : Option ℕ → List ℕ → List ℕ
typed_behind None query = query
typed_behind (Some character) query = character ∷ query

-- what stands in the row of a search prompt, as bytes: the character of its direction, if it has one, and the query
abbrev pub typed_in : Prompt → List ℕ
typed_in p = encode_utf8_all (typed_behind (char_of p.mode) p.editor.query)
