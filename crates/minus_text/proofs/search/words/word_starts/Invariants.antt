-- What stands before the words that are passed.
use Rattle.std.proofs.Common.{◌≡◌, ◌+◌, map, take, drop, length, chars}
use Rattle.minus_text.specs.Escapes.{CutsText}
use Rattle.minus_text.specs.WordStarts.{char_number, AreWithin}
use Rattle.minus_text.proofs.search.words.word_starts.Given as goal

abbrev pub invariant-loop-place : goal.invariant-loop-place
invariant-loop-place l =
    CutsText l.text l.at (drop l.place-index l.place-items)
    × (l.count ≡ length (chars (take l.at l.text)))
    × (l.starts.items ≡ map (λ p. char_number l.text p.0) (take l.place-index l.place-items))
    × AreWithin (length (chars l.text) + 1) l.starts.items
