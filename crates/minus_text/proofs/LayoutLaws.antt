-- Laws on the rows of a line by itself.
use Rattle.std.proofs.Common.{ℕ, ◌-◌, ◌<◌, List, length, arith}
use Rattle.std.specs.Str.{IsUtf8}
use Rattle.std.proofs.lemmas.List.{take_all}
use Rattle.std.proofs.lemmas.Str.{IsCharBoundary-start, IsCharBoundary-end}
use Rattle.minus_text.specs.declared.layout.Wrap.{Wrap}
use Rattle.minus_text.specs.declared.layout.Wrap.TheVariants.{At, Off}
use Rattle.minus_text.specs.Layouts.{own_rows, own_places}
use Rattle.minus_text.specs.Rows.{ArePlaces}
use Rattle.minus_text.proofs.RowsLaws.{line_rows-some, line_places-are}

-- there is one at least
pub own_rows-some : (wrap : Wrap) (line : List ℕ) → 0 < length (own_rows wrap line)
own_rows-some (At cols) line = line_rows-some cols line
own_rows-some Off line = omega arith

-- their places are places of the line
pub own_places-are : (wrap : Wrap) (line : List ℕ) → IsUtf8 line → ArePlaces line (own_places wrap line) (own_rows wrap line)
own_places-are (At cols) line u = line_places-are cols line u
own_places-are Off line u = (
  record {
    ordered = omega arith;
    start = IsCharBoundary-start line u;
    end = IsCharBoundary-end line;
    value = take_all (length line - 0) line (omega arith);
  },
  tt,
)
