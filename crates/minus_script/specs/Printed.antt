-- The rows as they are printed.
use Rattle.std.specs.Prelude.{◌≡◌, ℕ, ◌==◌, List, [], ◌∷◌, ◌++◌, flat_map, Some, if◌then◌else◌}
use Rattle.minus_script.specs.Escapes.{unescaped}

-- a byte as it is printed: the escape character as `\e`, a carriage return as `\r`, a
-- backslash as `\\`, and any other as it is
abbrev pub escaped_byte : ℕ → List ℕ
escaped_byte b =
    if b == 27 then 92 ∷ 101 ∷ [] else if b == 13 then 92 ∷ 114 ∷ [] else if b == 92 then 92 ∷ 92 ∷ [] else b ∷ []

-- a row's bytes as they are printed
abbrev pub escaped : List ℕ → List ℕ
escaped row = flat_map escaped_byte row

-- a row as it is printed, with a newline after it
abbrev pub printed : List ℕ → List ℕ
printed row = escaped row ++ 10 ∷ []

-- rows as they are printed, one after another
abbrev pub printed_all : List (List ℕ) → List ℕ
printed_all rows = flat_map printed rows

-- as the text of a script, what is printed of a row is the row
abbrev pub PrintedReadsBack : Type 0
PrintedReadsBack = (row : List ℕ) → unescaped (escaped row) ≡ Some row
