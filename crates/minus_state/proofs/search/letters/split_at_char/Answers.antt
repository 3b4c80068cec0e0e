-- The place behind this many characters.
use Rattle.std.proofs.Common.{◌≡◌, ◌+◌, ◌-◌, arith, ap, length, sym, ◌∙◌, refl, drop, chars}
use Rattle.std.proofs.lemmas.Str.{IsCharBoundary-start, IsCharBoundary-from_rest}
use Rattle.std.proofs.lemmas.List.{drop-drop, length-drop}
use Rattle.minus_state.proofs.CharacterLaws.{front_chars}
use Rattle.minus_state.proofs.search.letters.split_at_char.Goals as goal

pub loop-init : goal.loop-init
loop-init c = (c.utf8.text, refl, (0, IsCharBoundary-start c.args.text.now c.utf8.text, refl))

pub loop-preserved : goal.loop-preserved
loop-preserved c =
    let (text, passed, (k, at, rest)) = c.loop.invariant in
    let (j, next, more) = c.past_char-rest.ensures.tail in (
      c.past_char-rest.utf8,
      c.past_char-rest.ensures.chars ∙ ap (drop 1) passed ∙ drop-drop 1 c.loop.counter (chars c.args.text.now),
      (k + j, IsCharBoundary-from_rest c.args.text.now k j at.0 (rw rest at next), more ∙ ap (drop j) rest ∙ drop-drop j k c.args.text.now),
    )

pub returns-clause-front : goal.returns-clause-front
returns-clause-front c =
    let (text, passed, (k, at, rest)) = c.loop.invariant in
    let counted : c.loop.counter ≡ c.args.n = omega (arith, c.loop-test.false, c.loop.auto.counter-end) in
    let place : length c.args.text.now - length c.loop.rest.now ≡ k = omega (arith, ap length rest, length-drop k c.args.text.now, at.0) in
    rw (c.split_at.ensures.front, place) (front_chars c.args.text.now k c.args.n c.utf8.text at (ap chars (sym rest) ∙ passed ∙ ap (λ m. drop m (chars c.args.text.now)) counted))
