-- The starts so far.
use Rattle.std.proofs.Common.{◌≡◌, ◌≤◌, ◌+◌, ℕ, length, map, get_or, chars, refl, sym, subst, ap, ◌∙◌, arith}
use Rattle.std.proofs.lemmas.Str.{chars-nil}
use Rattle.std.proofs.lemmas.List.{take_all}
use Rattle.minus_text.specs.Escapes.{CutsText}
use Rattle.minus_text.specs.WordStarts.{char_number, word_starts}
use Rattle.minus_text.proofs.PartedLaws.{cuts_at, cuts_here}
use Rattle.minus_text.proofs.WordStartsLaws.{within_snoc, one_more_start}
use Rattle.minus_text.proofs.search.words.word_starts.Goals as goal

pub loop-place-init : goal.loop-place-init
loop-place-init c = (subst (CutsText c.args.text.now 0) (sym c.deref-place-items.ensures.value) c.in_ok-places.ensures.cuts, rw chars-nil refl, c.new-starts.ensures.items, rw c.new-starts.ensures.items tt)

pub counted_on-count-requires-clause-place : goal.counted_on-count-requires-clause-place
counted_on-count-requires-clause-place c = cuts_at c.args.text.now _ _ (cuts_here c.args.text.now c.deref-place-items.result.now c.loop-place.place-index c.loop-place.at c.loop-place-test.true c.loop-place.invariant.0).4

pub loop-place-preserved : goal.loop-place-preserved
loop-place-preserved c =
    let text = c.args.text.now in
    let ps = c.deref-place-items.result.now in
    let i = c.loop-place.place-index in
    let inv = c.loop-place.invariant in
    let cuts = cuts_here text ps i c.loop-place.at c.loop-place-test.true inv.0 in
    let start : c.counted_on-before.result + 1 ≡ char_number text (get_or ps i (0, 0)).0 = ap (λ n. n + 1) c.counted_on-before.ensures.count in
    let few : c.counted_on-before.result + 1 ≤ length (chars text) + 1 = omega (arith, c.counted_on-before.ensures.few) in (
      cuts.4,
      c.counted_on-count.ensures.count,
      one_more_start text ps i _ _ _ c.loop-place-test.true inv.2 start c.in_ok-push.ensures.items,
      rw c.in_ok-push.ensures.items (within_snoc (length (chars text) + 1) c.loop-place.starts.items (c.counted_on-before.result + 1) inv.3 (omega arith) few),
    )

pub returns-clause-starts : goal.returns-clause-starts
unfolding word_starts
returns-clause-starts c =
    let f : ℕ × ℕ → ℕ = λ p. char_number c.args.text.now p.0 in
    c.loop-place.invariant.2 ∙ ap (map f) (take_all c.loop-place.place-index c.deref-place-items.result.now c.loop-place-test.false) ∙ ap (map f) (c.deref-place-items.ensures.value ∙ c.in_ok-places.ensures.found)
