-- The rows of a line for some columns.
use Rattle.std.specs.Prelude.{◌≡◌, ℕ, ◌+◌, ◌≤◌, ◌<◌, ◌==◌, ◌⊎◌, List, [], ◌∷◌, ◌++◌, length, map, chars, if◌then◌else◌}
use Rattle.std.specs.List.{flat_map, concat, slice_range, All}
use Rattle.std.specs.Str.{encode_utf8_all, IsCharBoundary}
use Rattle.minus_text.specs.Units.{unit_columns}
use Rattle.minus_text.specs.TheRuns.{TheRuns, the_runs}
use Rattle.minus_text.specs.Pieces.{Piece, pieces, piece_text}
use Rattle.minus_text.specs.RowRuns.{fits_row, row_rule, run_columns}
use Rattle.minus_text.specs.declared.rows.Span.{Span}

-- the one division of pieces into rows
abbrev pub the_rows : (cols : ℕ) (ps : List Piece) → TheRuns (fits_row cols) ps
the_rows cols ps = the_runs (fits_row cols) (row_rule cols) ps

-- whatever the columns, pieces are divided into rows in one way
abbrev pub RowsAreDetermined : Type 0
RowsAreDetermined = (cols : ℕ) (ps : List Piece) → TheRuns (fits_row cols) ps

-- the text of a run, and the text that is shown on its row: without the last spaces
abbrev pub run_text : List Piece → List ℕ
run_text run = flat_map piece_text run

-- the text that is shown on the row of a run: without its last spaces
abbrev pub row_text : List Piece → List ℕ
row_text [] = []
row_text (p ∷ []) = concat p.body
row_text (p ∷ q ∷ ps) = piece_text p ++ row_text (q ∷ ps)

-- the runs of a line
abbrev pub line_runs : ℕ → List ℕ → List (List Piece)
line_runs cols line = (the_rows cols (pieces cols (chars line))).runs

-- the rows of a line, as texts; an empty line is one empty row
unfoldable pub line_rows : ℕ → List ℕ → List (List ℕ)
line_rows cols line =
    if length (chars line) == 0 then [] ∷ [] else map (λ run. encode_utf8_all (row_text run)) (line_runs cols line)

-- the places of runs in the bytes of their line: a row begins where the run before it ends, and ends where its text
-- does
abbrev pub places : ℕ → List (List Piece) → List Span
places at [] = []
places at (run ∷ runs) =
    record { start = at; end = at + length (encode_utf8_all (row_text run)) }
    ∷ places (at + length (encode_utf8_all (run_text run))) runs

-- the places of the rows of a line in its bytes; an empty line has one empty row
unfoldable pub line_places : ℕ → List ℕ → List Span
line_places cols line =
    if length (chars line) == 0 then record { start = 0; end = 0 } ∷ [] else places 0 (line_runs cols line)

-- a part of a text that may be cut out, and what it is
pub record IsPlace (text : List ℕ) (s : Span) (row : List ℕ) : Type 0 where
  pub ordered : s.start ≤ s.end
  pub start : IsCharBoundary text s.start
  pub end : IsCharBoundary text s.end
  pub value : slice_range text s.start s.end ≡ row

-- so are these parts of a text and these rows, one by one
abbrev pub ArePlaces : List ℕ → List Span → List (List ℕ) → Type 0
ArePlaces text [] [] = Unit {0}
ArePlaces text [] (r ∷ rs) = ⊥
ArePlaces text (s ∷ ss) [] = ⊥
ArePlaces text (s ∷ ss) (r ∷ rs) = IsPlace text s r × ArePlaces text ss rs

-- the pieces of a line, one after another, are the line
abbrev pub PiecesJoin : Type 0
PiecesJoin = (cols : ℕ) (line : List ℕ) → run_text (pieces cols line) ≡ line

-- one unit is wider than the columns, and the others have no columns
pub record HoldsOneWide (cols : ℕ) (us : List (List ℕ)) : Type 0 where
  pub before : List (List ℕ)
  pub wide : List ℕ
  pub after : List (List ℕ)
  pub all : us ≡ before ++ wide ∷ after
  pub wider : cols < unit_columns wide
  pub none_before : All (λ u. unit_columns u ≡ 0) before
  pub none_after : All (λ u. unit_columns u ≡ 0) after

-- each row takes at most the columns, or holds one unit wider than them and otherwise only units without columns
abbrev pub RowsFit : Type 0
RowsFit =
    (cols : ℕ) (line : List ℕ)
    → All (λ run. (run_columns run ≤ cols) ⊎ HoldsOneWide cols (flat_map (λ p. p.body) run)) (line_runs cols line)
