-- The words so far lead to what is asked so far.
use Rattle.std.proofs.Common.{◌≡◌, drop, map}
use Rattle.minus_view.specs.Paging.{bare_paging}
use Rattle.minus_view.specs.Arguments.{bare_words, new_words, read_words}
use Rattle.minus_view.proofs.arguments.words.read_words.Given as goal

abbrev pub invariant-loop-at : goal.invariant-loop-at
invariant-loop-at l =
    read_words (bare_words l.so_far) (map (λ word. word.now) (drop l.at l.words))
    ≡ read_words (new_words (bare_paging l.paging)) (map (λ word. word.now) l.words)
