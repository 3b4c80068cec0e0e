-- Where the rows of a document stand in its lines. Lines count from 0.
use Rattle.std.specs.Prelude.{◌≡◌, ℕ, ◌+◌, ◌==◌, Some, List, [], ◌∷◌, ◌++◌, length, map, slice_get, if◌then◌else◌}
use Rattle.minus_text.specs.declared.rows.Span.{Span}
use Rattle.minus_text.specs.declared.layout.Wrap.{Wrap}
use Rattle.minus_text.specs.Lines.{finished_lines, unfinished_line}
use Rattle.minus_text.specs.Layouts.{own_places}
use Rattle.minus_text.specs.Document.{Document, wrap_in}
use Rattle.minus_text.specs.LinePlaces.{row_places}
use Rattle.minus_text.specs.LineParts.{line_start}

-- the line that a row is of, and its place in the line
pub record RowHome : Type 0 where
  pub line : ℕ
  pub place : Span

-- the rows of a line with a number
abbrev pub line_homes : Wrap → ℕ → List ℕ → List RowHome
line_homes wrap k line = map (λ s. let h : RowHome = record { line = k; place = s } in h) (own_places wrap line)

-- those of lines, of which the first has a number
abbrev pub homes_from : Wrap → ℕ → List (List ℕ) → List RowHome
homes_from wrap k [] = []
homes_from wrap k (x ∷ xs) = line_homes wrap k x ++ homes_from wrap (k + 1) xs

-- those of what follows the last newline, none where nothing follows it
abbrev pub open_homes : Wrap → ℕ → List ℕ → List RowHome
open_homes wrap k text = if length text == 0 then [] else line_homes wrap k text

-- the rows of a document, in order
unfoldable pub row_homes : Document → List RowHome
row_homes d =
    homes_from (wrap_in d) 0 (finished_lines d.text)
    ++ open_homes (wrap_in d) (length (finished_lines d.text)) (unfinished_line d.text)

-- the place of a row in the text is its place in its line, behind where the line begins
abbrev pub RowsStandInLines : Type 0
RowsStandInLines = (d : Document) (i : ℕ) (s : Span) → slice_get (row_places d) i ≡ Some s
    → (h : RowHome) × (slice_get (row_homes d) i ≡ Some h)
    × (s.start ≡ line_start d.text h.line + h.place.start) × (s.end ≡ line_start d.text h.line + h.place.end)
