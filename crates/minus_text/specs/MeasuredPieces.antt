-- Pieces as the code measures them: bytes of the body, columns of the body, spaces after it.
use Rattle.std.specs.Prelude.{◌≡◌, ℕ, ◌+◌, ◌-◌, ◌<◌, ◌||◌, Bool, nat_le, List, [], ◌∷◌, ◌++◌, length, take, replicate}
use Rattle.std.specs.List.{sum_by, concat}
use Rattle.std.specs.Str.{encode_utf8_all}
use Rattle.minus_text.specs.declared.rows.Span.{Span}
use Rattle.minus_text.specs.declared.pieces.Measured.{Measured}
use Rattle.minus_text.specs.Runs.{IsRun}
use Rattle.minus_text.specs.Units.{units, unit_columns}
use Rattle.minus_text.specs.Fronts.{fits_front}
use Rattle.minus_text.specs.Pieces.{Piece, piece_columns, words, body_len}
use Rattle.minus_text.specs.Hyphens.{parts}

-- a piece as it is measured: bytes of its body, columns of its body, and how many spaces follow it
abbrev pub measure : Piece → Measured
measure p = record { len = length (encode_utf8_all (concat p.body)); width = piece_columns p; spaces = p.spaces }

-- the bytes of a piece with its spaces
abbrev pub size : Measured → ℕ
size m = m.len + m.spaces

-- the columns of a run of pieces, without the spaces after the last one
abbrev pub measured_columns : List Measured → ℕ
measured_columns [] = 0
measured_columns (m ∷ []) = m.width
measured_columns (m ∷ n ∷ ms) = (m.width + m.spaces) + measured_columns (n ∷ ms)

-- whether a run of pieces fits on a row: it has one piece at most, or takes at most these columns
abbrev pub fits_measured : ℕ → List Measured → Bool
fits_measured cols run = nat_le (length run) 1 || nat_le (measured_columns run) cols

-- where the text of a run that begins at a place ends
abbrev pub end_of : ℕ → List Measured → ℕ
end_of at [] = at
end_of at (m ∷ []) = at + m.len
end_of at (m ∷ n ∷ ms) = end_of (at + size m) (n ∷ ms)

-- the places of runs in the bytes of their line, the first of which begins at a place
abbrev pub measured_places : ℕ → List (List Measured) → List Span
measured_places at [] = []
measured_places at (run ∷ runs) =
    record { start = at; end = end_of at run } ∷ measured_places (at + sum_by size run) runs

-- the first unit of some characters, its columns, and what follows it
pub record SplitsUnit (cs : List ℕ) (width : ℕ) (rest : List ℕ) : Type 0 where
  pub unit : List ℕ
  pub some : 0 < length unit
  pub joins : cs ≡ unit ++ rest
  pub first : units cs ≡ unit ∷ units rest
  pub columns : width ≡ unit_columns unit

-- the first front of some characters, its columns, and what follows it
pub record SplitsFront (cols : ℕ) (cs : List ℕ) (width : ℕ) (rest : List ℕ) : Type 0 where
  pub front : List (List ℕ)
  pub joins : cs ≡ concat front ++ rest
  pub first : units cs ≡ front ++ units rest
  pub run : IsRun (fits_front cols) front (units rest)
  pub columns : width ≡ sum_by unit_columns front

-- the first part of some characters and the rest, neither of them empty
pub record SplitsPart (cs part rest : List ℕ) : Type 0 where
  pub some : 0 < length part
  pub more : 0 < length rest
  pub joins : cs ≡ part ++ rest
  pub first : parts cs ≡ part ∷ parts rest

-- the first word of some characters: its body, its spaces, and what follows them
pub record SplitsWord (cs body : List ℕ) (spaces : ℕ) (rest : List ℕ) : Type 0 where
  pub some : 0 < length (body ++ replicate spaces 32)
  pub joins : cs ≡ (body ++ replicate spaces 32) ++ rest
  pub first : words cs ≡ (body ++ replicate spaces 32) ∷ words rest
  pub body_is : take (body_len (body ++ replicate spaces 32)) (body ++ replicate spaces 32) ≡ body
  pub spaces_is : length (body ++ replicate spaces 32) - body_len (body ++ replicate spaces 32) ≡ spaces
