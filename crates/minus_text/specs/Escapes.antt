-- The escape sequences of a text, and the text without them. Places count bytes from 0.
use Rattle.std.specs.Prelude.{ℕ, ◌+◌, ◌-◌, ◌≤◌, ◌⊎◌, List, [], ◌∷◌, ◌++◌, drop, slice_range, IsCharBoundary}
use Rattle.std.specs.Str.Iter.{HasSubslice}
use Rattle.std.specs.Coded.{le_prop}
use Rattle.minus_text.specs.FixedPatterns.{escape_sequence, match_places}
use Rattle.minus_text.specs.declared.search.escapes.Insert.{Insert}

-- what stands in a text from a place on, less what stands between these places
abbrev pub outside : List ℕ → ℕ → List (ℕ × ℕ) → List ℕ
outside text at [] = drop at text
outside text at (p ∷ ps) = slice_range text at p.0 ++ outside text p.1 ps

-- what stands between these places, each with its place in what is outside of them, where this many bytes stand before
abbrev pub inside : List ℕ → ℕ → ℕ → List (ℕ × ℕ) → List (ℕ × List ℕ)
inside text at before [] = []
inside text at before (p ∷ ps) =
    let place = before + (p.0 - at) in
    (place, slice_range text p.0 p.1) ∷ inside text p.1 place ps

-- where a line's escape sequences begin and end
abbrev pub escape_places : List ℕ → List (ℕ × ℕ)
escape_places line = match_places escape_sequence line

-- a text has ESC or U+009B, here in UTF-8: each escape sequence begins with one of them
abbrev pub HasEscapeStart : List ℕ → Type 0
HasEscapeStart text = HasSubslice text (0x1B ∷ []) ⊎ HasSubslice text (0xC2 ∷ 0x9B ∷ [])

-- a line without its escape sequences
unfoldable pub stripped : List ℕ → List ℕ
stripped line = outside line 0 (escape_places line)

-- the escape sequences of a line, each with its place in the stripped line
unfoldable pub escapes : List ℕ → List (ℕ × List ℕ)
escapes line = inside line 0 0 (escape_places line)

-- the places lie in order in a text from a place on, each between two characters
abbrev pub CutsText : List ℕ → ℕ → List (ℕ × ℕ) → Type 0
CutsText text at [] = IsCharBoundary text at
CutsText text at (p ∷ ps) =
    IsCharBoundary text at × (at ≤ p.0) × IsCharBoundary text p.0 × (p.0 ≤ p.1) × CutsText text p.1 ps

pub CutsText-prop : (text : List ℕ) (at : ℕ) (ps : List (ℕ × ℕ)) → IsProp (CutsText text at ps)
CutsText-prop text at [] = hlevel le_prop
CutsText-prop text at (p ∷ ps) = hlevel (le_prop, CutsText-prop text p.1 ps)

-- what is inserted, and where
abbrev pub insert_of : Insert → ℕ × List ℕ
insert_of i = (i.place, i.text.now)
