-- Where a query leads.
use Rattle.std.specs.Prelude.{ℕ, ◌==◌, length, List, Option, Some, None, if◌then◌else◌}
use Rattle.regex.specs.Patterns.{Re}
use Rattle.minus_text.specs.Matches.{match_at}
use Rattle.minus_state.specs.Control.{Control, document_of, matches_in, searched_for}
use Rattle.minus_state.specs.ClampedMark.{moved_to}
use Rattle.minus_state.specs.Confirming.{confirmed}
use Rattle.minus_state.specs.Page.{shown}

-- the row of the match that a query leads to, if some row matches it
abbrev pub row_found : Re → Control → Option ℕ
row_found query c = match_at (matches_in (Some query) (document_of c)) c.mark

-- the rows of text that the page shows once a query is the term and the mark goes to a row
abbrev pub shown_at : Re → Control → ℕ → List (List ℕ)
shown_at query c row = shown (moved_to (searched_for c (Some query)) row)

-- the rows of text that a query shows before it is taken: those that are shown then, if some row matches
abbrev pub preview : Re → Control → Option (List (List ℕ))
preview query c =
    if length (matches_in (Some query) (document_of c)) == 0 then None else Some (shown (confirmed c query))
