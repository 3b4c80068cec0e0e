-- Where the words of a text start.
use Rattle.std.specs.Prelude.{ℕ, ◌+◌, ◌≤◌, List, [], ◌∷◌, length, map, take, chars}
use Rattle.minus_text.specs.FixedPatterns.{query_word, match_places}

-- where the words of a text begin and end, in bytes
unfoldable pub word_places : List ℕ → List (ℕ × ℕ)
word_places text = match_places query_word text

-- the number, counted from 1, of the character that begins at a place
abbrev pub char_number : List ℕ → ℕ → ℕ
char_number text place = length (chars (take place text)) + 1

-- where the words of a text start, in characters counted from 1
unfoldable pub word_starts : List ℕ → List ℕ
word_starts text = map (λ p. char_number text p.0) (word_places text)

-- places from 1 to a last one
abbrev pub AreWithin : ℕ → List ℕ → Type 0
AreWithin last [] = Unit {0}
AreWithin last (p ∷ ps) = (1 ≤ p) × (p ≤ last) × AreWithin last ps
