-- What a term finds in a text: in each of its rows by itself, or in each of its lines.
use Rattle.std.specs.Prelude.{◌≡◌, ℕ, Bool, List, [], Option, None, Some, if◌then◌else◌}
use Rattle.std.specs.Str.Lines.{lines}
use Rattle.regex.specs.Patterns.{Re}
use Rattle.minus_text.specs.Document.{Document, rows_of, wrap_in}
use Rattle.minus_text.specs.Fragments.{Fragment, rows_in}
use Rattle.minus_text.specs.Pending.{Pending}
use Rattle.minus_text.specs.Found.{RowMatches, found_in_rows}
use Rattle.minus_text.specs.LineFinds.{finds_in_lines}

-- what a term finds in the lines of a fragment or in its rows, of which the first has a number
abbrev pub found_in : Option Re → Bool → ℕ → Fragment → List RowMatches
found_in None match_lines n f = []
found_in (Some pattern) match_lines n f =
    if match_lines then finds_in_lines pattern f.wrap n (lines f.text) else found_in_rows pattern n (rows_in f)

-- what a pattern finds in the lines that a push forms
abbrev pub finds_in_pushed_lines : Re → Pending → List RowMatches
finds_in_pushed_lines pattern p = finds_in_lines pattern p.tail.wrap p.kept_rows (lines p.tail.text)

-- what a pattern finds in what a push forms
abbrev pub finds_in_push : Re → Pending → List RowMatches
finds_in_push pattern p = found_in (Some pattern) p.match_lines p.kept_rows p.tail

-- what a term finds in a document
abbrev pub finds : Option Re → Document → List RowMatches
finds None d = []
finds (Some pattern) d =
    if d.layout.match_lines then finds_in_lines pattern (wrap_in d) 0 (lines d.text)
    else found_in_rows pattern 0 (rows_of d)

-- a document as a fragment
abbrev pub whole : Document → Fragment
whole d = record { text = d.text; wrap = wrap_in d }

-- where the first of these is what a term finds in a document, so is the second
abbrev pub StaysFound : Option Re → Document → (old new : List RowMatches) → Type 0
StaysFound term d old new = old ≡ finds term d → new ≡ finds term d
