-- The text of the prompt row: the name of the text, the displayed lines and how many
-- there are, and a part of the text in per cent.
use Rattle.std.specs.Prelude.{ℕ, ◌+◌, ◌-◌, ◌*◌, ◌/◌, ◌==◌, Bool, true, false, List, [], ◌∷◌, ◌++◌, chars, codes, min}
use Rattle.std.specs.Prelude.{length, nat_lt, if◌then◌else◌}
use Rattle.std.specs.Int.{is_in_range}
use Rattle.std.specs.List.{flat_map}
use Rattle.std.specs.Str.{encode_utf8_all}
use Rattle.std.specs.Fmt.{decimal}
use Rattle.minus_view.specs.declared.prompt_place.Place.{Place}
use Rattle.minus_view.specs.Prepared.{char_columns}

-- the characters that a character of a name is shown as: a control character is `^` and its letter or sign, and one
-- from U+0080 to U+009F is `?`
abbrev pub shown_as : ℕ → List ℕ
shown_as c =
    if is_in_range 0 0x1F c then 94 ∷ (c + 64) ∷ []
    else (if c == 0x7F then 94 ∷ 63 ∷ [] else (if is_in_range 0x80 0x9F c then 63 ∷ [] else c ∷ []))

-- how many per cent of a whole a part is; nothing is all of nothing
abbrev pub percent : ℕ → ℕ → ℕ
percent part whole = if whole == 0 then 100 else min 100 (part * 100 / whole)

-- characters have no more columns than there are
abbrev pub fits : ℕ → List ℕ → Bool
fits room [] = true
fits room (c ∷ cs) = if nat_lt room (char_columns c) then false else fits (room - char_columns c) cs

-- the longest end of characters that fits
abbrev pub end_within : ℕ → List ℕ → List ℕ
end_within room [] = []
end_within room (c ∷ cs) = if fits room (c ∷ cs) then c ∷ cs else end_within room cs

-- a name in at most `room` columns: where it is longer, `..` and its end; nothing where even `..` is
abbrev pub name_within : ℕ → List ℕ → List ℕ
name_within room name =
    if fits room name then encode_utf8_all name
    else (if nat_lt room 2 then [] else codes ".." ++ encode_utf8_all (end_within (room - 2) name))

-- as `20-43/100  27%`: the displayed lines, counted from 1, how many lines there are, and the part of the text up to
-- the last displayed row
abbrev pub numbers : Place → List ℕ
numbers place =
    let part = percent place.end place.bytes in
    decimal place.first
    ++ (codes "-" ++ (decimal place.last
    ++ (codes "/" ++ (decimal place.lines ++ (codes "  " ++ (decimal part ++ codes "%"))))))

-- as `notes.txt  20-43/100  27%`, where there is a name; it has the columns that the numbers and two blanks leave
abbrev pub with_name : List ℕ → List ℕ → List ℕ
with_name [] said = said
with_name (b ∷ name) said = (b ∷ name) ++ (codes "  " ++ said)

-- the text of the prompt row, for a number of columns: the name without control characters, of which `..` and its end
-- are shown where the columns that the numbers of the place and two blanks leave are too few, and then these numbers
abbrev pub place_text : ℕ → List ℕ → Place → List ℕ
place_text columns name place =
    let said = numbers place in
    let room = columns - (length said + 2) in
    with_name (name_within room (flat_map shown_as (chars name))) said
