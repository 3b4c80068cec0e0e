-- How searches in lines stand to searches in rows, and where a push forms for them.
use Rattle.std.specs.Prelude.{◌≡◌, ℕ, ◌<◌, List, map}
use Rattle.std.specs.List.{All}
use Rattle.std.specs.Str.{IsUtf8}
use Rattle.regex.specs.Patterns.{Re}
use Rattle.minus_text.specs.declared.layout.Wrap.{Wrap}
use Rattle.minus_text.specs.declared.layout.Wrap.TheVariants.{Off}
use Rattle.minus_text.specs.declared.formed.Finished.{Finished}
use Rattle.minus_text.specs.declared.formed.Border.{Border}
use Rattle.minus_text.specs.Lines.{cut, whole}
use Rattle.minus_text.specs.Kept.{IsBorder, IsRestart}
use Rattle.minus_text.specs.Escapes.{escape_places}
use Rattle.minus_text.specs.Found.{found_in_row, found_in_rows, jump_rows}
use Rattle.minus_text.specs.LineFinds.{finds_in_line}

-- in a line that is its one row a search in lines finds what a search in rows does
abbrev pub UnwrappedLinesAreRows : Type 0
UnwrappedLinesAreRows = (pattern : Re) (n : ℕ) (line : List ℕ) → All (λ p. p.0 < p.1) (escape_places line)
    → finds_in_line pattern Off n line ≡ found_in_row pattern n line

-- of a search in rows jumps go to all rows that match
abbrev pub JumpsGoToAllRows : Type 0
JumpsGoToAllRows =
    (pattern : Re) (n : ℕ) (rows : List (List ℕ))
    → jump_rows (found_in_rows pattern n rows) ≡ map (λ f. f.row) (found_in_rows pattern n rows)

-- an unfinished line can be formed again from its start
abbrev pub LinesFormAgain : Type 0
LinesFormAgain =
    (wrap : Wrap) (line : List ℕ) (finished : Finished) (border : Border) → IsUtf8 line → cut line ≡ whole line
    → IsBorder line border
    → IsRestart wrap line (record { finished = finished; rows = 0; bytes = 0; border = border })
