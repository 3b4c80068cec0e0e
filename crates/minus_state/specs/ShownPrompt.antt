-- The prompt row of a control.
use Rattle.std.specs.Prelude.{◌≡◌, ℕ, ◌==◌, List, length, Bool, true, Option, option_map, slice_get, if◌then◌else◌}
use Rattle.std.specs.List.{list_any}
use Rattle.std.specs.Option.{unwrap_or}
use Rattle.minus_term.specs.declared.error.MinusError.{MinusError}
use Rattle.minus_term.specs.declared.error.MinusError.TheVariants.{NewlineInPrompt}
use Rattle.minus_text.specs.Found.{RowMatches, jump_rows, match_total, matches_above}
use Rattle.minus_text.specs.Finds.{finds}
use Rattle.minus_text.specs.JumpRows.{counted}
use Rattle.minus_state.specs.PromptRow.{PromptRow, prompt_row as row_text}
use Rattle.minus_state.specs.Control.{Control, Settings, document_of}

-- how many matches begin above the row that the search mark is at; without such a row, the search mark
abbrev pub told_above : List RowMatches → ℕ → ℕ
told_above found search_mark =
    unwrap_or (option_map (λ row. counted (matches_above row found)) (slice_get (jump_rows found) search_mark))
    search_mark

-- which match the prompt row reports, counted from 0: where lines are searched, the first of all that begins in the row
-- of the search mark, and else that row, among those that match
abbrev pub told_match : Bool → List RowMatches → ℕ → ℕ
told_match match_lines found search_mark = if match_lines then told_above found search_mark else search_mark

-- of how many: where lines are searched, of all matches, and else of the rows that match
abbrev pub told_count : Bool → List RowMatches → ℕ
told_count match_lines found = if match_lines then counted (match_total found) else length (jump_rows found)

-- what the prompt row with `cols` columns is formed of, where this was found in lines or in rows, and the search mark
-- is at this place among the rows that match
abbrev pub shown_in : ℕ → Settings → Bool → List RowMatches → ℕ → PromptRow
shown_in cols s match_lines found search_mark = record {
  is_shown = s.is_shown;
  prompt = s.prompt;
  message = s.message;
  prefix = s.prefix;
  search_mark = told_match match_lines found search_mark;
  match_count = told_count match_lines found;
  follow = s.follow;
  cols = cols;
}

-- the prompt row of a control, as bytes
abbrev pub prompt_row : Control → List ℕ
prompt_row c = row_text (shown_in c.cols c.settings c.match_lines (finds c.term (document_of c)) c.search_mark)

-- a prompt row, if there is one, or else that of a control
abbrev pub row_or : Control → Option (List ℕ) → List ℕ
row_or c row = unwrap_or row (prompt_row c)

-- whether a text has a newline
abbrev pub has_newline : List ℕ → Bool
has_newline text = list_any (λ b. b == 10) text

-- why a text is refused as a prompt or a message: it has a newline
abbrev pub IsNewlineRefused : MinusError → List ℕ → Type 0
IsNewlineRefused e text = (e ≡ NewlineInPrompt) × (has_newline text ≡ true)
