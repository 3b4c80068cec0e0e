-- Which match the prompt row reports after an append, and where rows are formed again.
use Rattle.std.specs.Prelude.{ℕ, ◌-◌, min, List, length, unwrap_or, Option, Bool, if◌then◌else◌}
use Rattle.regex.specs.Patterns.{Re}
use Rattle.minus_text.specs.Document.{Document}
use Rattle.minus_text.specs.Found.{RowMatches, jump_rows}
use Rattle.minus_text.specs.Finds.{finds}
use Rattle.minus_text.specs.Matches.{nth_match}

-- the place, among the rows in which matches were found to begin, of the first one at a mark or behind it, or else of
-- the first; 0 where there is none
abbrev pub first_match : List RowMatches → ℕ → ℕ
first_match found mark = unwrap_or (nth_match (jump_rows found) mark 0) 0

-- the search mark after an append: at most at the last match, where the rows before it stay, and else at the
-- first match
abbrev pub search_mark_after : Bool → List RowMatches → (mark search_mark : ℕ) → ℕ
search_mark_after keeps_rows found mark search_mark =
    if keeps_rows then min search_mark (length (jump_rows found) - 1) else first_match found mark

-- the search mark where rows are formed again: the first match at a mark or behind it, or else the first one
abbrev pub search_mark_anew : Option Re → Document → ℕ → ℕ
search_mark_anew term d mark = first_match (finds term d) mark
