-- Lines of a document, each with its rows. Lines count from 0.
use Rattle.std.specs.Prelude.{◌≡◌, ℕ, ◌-◌, ◌≤◌, ◌<◌, nat_le, List, [], ◌∷◌, Option, None, Some, get_or, take, drop}
use Rattle.std.specs.Prelude.{if◌then◌else◌}
use Rattle.std.specs.Str.Lines.{lines}
use Rattle.regex.specs.Patterns.{Re}
use Rattle.minus_text.specs.declared.stored_line.StoredLine.{StoredLine}
use Rattle.minus_text.specs.Document.{Document, line_map, wrap_in}
use Rattle.minus_text.specs.Kept.{line_stored}
use Rattle.minus_text.specs.Found.{RowMatches, found_of_row}
use Rattle.minus_text.specs.LineFinds.{finds_in_line, finds_in_lines}

-- the number of the first row of a line, and the line
abbrev pub first_of : Document → ℕ → ℕ
first_of d k = get_or (line_map d) k 0

-- a line of a document, counted from 0
abbrev pub line_of : Document → ℕ → List ℕ
line_of d k = get_or (lines d.text) k []

-- a line of a document, the number of its first row, and the places of its rows in the text
pub record IsStoredLine (d : Document) (k : ℕ) (l : StoredLine) : Type 0 where
  pub its_first : l.first ≡ first_of d k
  pub its_text : l.text.now ≡ line_of d k
  pub its_rows : l.rows.now ≡ line_stored (wrap_in d) l.base l.text.now

-- what a pattern finds in a line of a document, and in its lines from one on up to but without another
abbrev pub finds_in_line_at : Re → Document → ℕ → List RowMatches
finds_in_line_at pattern d k = finds_in_line pattern (wrap_in d) (first_of d k) (line_of d k)

-- what a pattern finds in the lines of a document from one on up to but without another, counted from 0
abbrev pub finds_between : Re → Document → ℕ → ℕ → List RowMatches
finds_between pattern d start end =
    finds_in_lines pattern (wrap_in d) (first_of d start) (take (end - start) (drop start (lines d.text)))

-- what was found in these rows of a document whose lines are searched is what a pattern finds in its lines
abbrev pub IsFoundOfLines : Re → Document → List RowMatches → ℕ → ℕ → Type 0
IsFoundOfLines pattern d found start end =
    (i : ℕ) → start ≤ i → i < end
    → found_of_row i found ≡ found_of_row i (finds_in_lines pattern (wrap_in d) 0 (lines d.text))

-- the first of some rows from one on
abbrev pub first_from : ℕ → List ℕ → Option ℕ
first_from row [] = None
first_from row (n ∷ ns) = if nat_le row n then Some n else first_from row ns
