-- Rows that print as they are stored: what stands before each, and its own text as a term shows it.
use Rattle.std.specs.Prelude.{ℕ, Bool, false, List, ◌++◌, Option, None, Some}
use Rattle.regex.specs.Patterns.{Re}
use Rattle.minus_text.specs.declared.number_prefix.RowPrefix.{RowPrefix}
use Rattle.minus_text.specs.declared.formatted.FormattedRow.{FormattedRow}
use Rattle.minus_text.specs.declared.formatted.SearchFormattedRow.{SearchFormattedRow}
use Rattle.minus_text.specs.declared.search.highlight.HighlightMatchesArgs.{HighlightMatchesArgs}
use Rattle.minus_text.specs.NumberPrefix.{prefix}
use Rattle.minus_text.specs.Highlight.{line_matches}
use Rattle.minus_text.specs.Shown.{shown_line}
use Rattle.minus_text.specs.Searched.{shown_for}

-- whether a row matches a term
abbrev pub row_matches : Option Re → List ℕ → Bool
row_matches None row = false
row_matches (Some pattern) row = line_matches pattern row

-- what stands before a row
abbrev pub prefix_of : RowPrefix → List ℕ
prefix_of p = prefix p.numbers p.line_count p.line p.is_first

-- what a row prints, and what it prints under a term
abbrev pub printed_row : FormattedRow → List ℕ
printed_row r = prefix_of r.prefix ++ r.row.now

-- what a row prints under a term: what stands before it, and its text with the matches in reverse
abbrev pub printed_under : Option Re → FormattedRow → List ℕ
printed_under term r = prefix_of r.prefix ++ shown_for term r.row.now

-- what a row that was searched prints: its highlight, if there is one
abbrev pub highlight_or : List ℕ → Option HighlightMatchesArgs → List ℕ
highlight_or row None = row
highlight_or row (Some h) = shown_line h

-- what a row that was searched prints: what stands before it, and its highlight or its text
abbrev pub printed_searched : SearchFormattedRow → List ℕ
printed_searched r = prefix_of r.row.prefix ++ highlight_or r.row.row.now r.shown
