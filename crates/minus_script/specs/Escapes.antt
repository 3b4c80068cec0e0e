-- The escapes in the texts of a script.
use Rattle.std.specs.Prelude.{ℕ, ◌==◌, List, [], ◌∷◌, Option, Some, None, if◌then◌else◌}
use Rattle.std.specs.Option.{option_map, option_and_then}

-- the byte that an escape's letter stands for: `n` a newline, `r` a carriage return, `e`
-- the escape character, and a backslash itself
abbrev pub escape_byte : ℕ → Option ℕ
escape_byte letter =
    if letter == 110 then Some 10 else if letter == 114 then Some 13 else if letter == 101 then Some 27
    else if letter == 92 then Some 92 else None

-- the text that is written with escapes, if each backslash begins a known one
abbrev pub unescaped : List ℕ → Option (List ℕ)
unescaped [] = Some []
unescaped (b ∷ []) = if b == 92 then None else Some (b ∷ [])
unescaped (b ∷ letter ∷ bytes) =
    if b == 92 then option_and_then (λ e. option_map (λ text. e ∷ text) (unescaped bytes)) (escape_byte letter)
    else option_map (λ text. b ∷ text) (unescaped (letter ∷ bytes))

-- what follows a backslash: the byte of the escape, and the bytes after its letter
abbrev pub split_escape_of : List ℕ → Option (ℕ × List ℕ)
split_escape_of [] = None
split_escape_of (letter ∷ bytes) = option_map (λ e. (e, bytes)) (escape_byte letter)
