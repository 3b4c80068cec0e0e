-- This many characters are passed.
use Rattle.std.proofs.Common.{◌≡◌, ℕ, chars, drop, IsCharBoundary}
use denote.Text.{Utf8}
use denote.Shadow.{shadow}
use Rattle.minus_state.proofs.search.letters.split_at_char.Given as goal

abbrev pub invariant-loop : goal.invariant-loop
invariant-loop l =
    shadow (Utf8 l.rest)
    × (chars l.rest ≡ drop l.counter (chars l.text))
    × ((k : ℕ) × IsCharBoundary l.text k × (l.rest ≡ drop k l.text))
