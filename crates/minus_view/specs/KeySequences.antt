-- How many bytes the first unit of a terminal's bytes has. A unit is a character, a sequence of a key or of the
-- mouse, or a byte that is neither; it is never empty. Where the bytes end before the unit, the answer is nothing.
use Rattle.std.specs.Prelude.{ℕ, ◌+◌, ◌==◌, ◌&&◌, List, [], ◌∷◌, Option, Some, None, if◌then◌else◌, option_map, length}
use Rattle.std.specs.Prelude.{drop, min, nat_lt}
use Rattle.std.specs.List.{prefix_len}
use Rattle.std.specs.Int.{is_in_range}

-- how many bytes at the front are from `first` to `last`, up to `most`
abbrev pub tail_len : ℕ → ℕ → ℕ → List ℕ → Option ℕ
tail_len most first last bytes =
    let run = prefix_len (is_in_range first last) bytes in
    if nat_lt run most && (run == length bytes) then None else Some (min most run)

-- how many bytes go on with a character in UTF-8, by its first byte
abbrev pub more_of : ℕ → ℕ
more_of b =
    if is_in_range 0xC2 0xDF b then 1
    else (if is_in_range 0xE0 0xEF b then 2 else (if is_in_range 0xF0 0xF4 b then 3 else 0))

-- a character that begins with the byte `b`: the bytes 0x80 to 0xBF that go on with it, as far as there are
abbrev pub character_len : ℕ → List ℕ → Option ℕ
character_len b bytes = option_map (λ n. n + 1) (tail_len (more_of b) 0x80 0xBF bytes)

-- the byte that ends a sequence; any other byte belongs to the next unit, and so does what follows 64 parameters
abbrev pub final_len : ℕ → List ℕ → ℕ
final_len parameters [] = 0
final_len parameters (b ∷ bytes) = if nat_lt parameters 64 && is_in_range 0x40 0x7E b then 1 else 0

-- a sequence of parameters, bytes 0x20 to 0x3F, and its last byte
abbrev pub parameters_len : List ℕ → Option ℕ
parameters_len bytes = option_map (λ n. n + final_len n (drop n bytes)) (tail_len 64 0x20 0x3F bytes)

-- what follows `ESC [`: `[` and one byte (the Linux console's F1 to F5), `M` and three bytes (an old report of the
-- mouse), or parameters and a last byte
abbrev pub sequence_len : List ℕ → Option ℕ
sequence_len [] = None
sequence_len (b ∷ bytes) =
    if b == 91 then option_map (λ n. n + 1) (tail_len 1 0x20 0x7E bytes)
    else (if b == 77 then option_map (λ n. n + 1) (tail_len 3 0x20 0xFF bytes) else parameters_len (b ∷ bytes))

-- what follows `ESC`: `[` and its sequence, `O` and one byte, a character with Alt, or nothing where a second `ESC`
-- follows
abbrev pub escaped_len : List ℕ → Option ℕ
escaped_len [] = None
escaped_len (b ∷ bytes) =
    if b == 91 then option_map (λ n. n + 1) (sequence_len bytes)
    else (if b == 79 then option_map (λ n. n + 1) (tail_len 1 0x20 0x7E bytes)
    else (if b == 27 then Some 0 else character_len b bytes))

-- the first unit
abbrev pub unit_len : List ℕ → Option ℕ
unit_len [] = None
unit_len (b ∷ bytes) = if b == 27 then option_map (λ n. n + 1) (escaped_len bytes) else character_len b bytes
