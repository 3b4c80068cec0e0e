-- A row that stands alone, or the line's start.
use Rattle.std.proofs.Common.{◌≡◌, ℕ, ◌+◌, ◌-◌, ◌<◌, ◌≤◌, true, false, length, drop, get_or, arith, sym, ap, ◌∙◌}
use Rattle.std.proofs.lemmas.List.{length-drop, get_or-drop, drop_all}
use Rattle.minus_text.specs.declared.rows.Span.{Span}
use Rattle.minus_text.specs.Seams.{StandsAlone}
use Rattle.minus_text.proofs.SeamLaws.{start_goes_on, stored_seam, none_from, none_further}
use Rattle.minus_text.proofs.seams.last_seam.Goals as goal
use Rattle.minus_text.proofs.seams.last_seam.Goals.{else-at-border-via-then-at-border+else-stands_alone, else-at-border-via-else-at-border}

pub overflow_sub-at : goal.overflow_sub-at
overflow_sub-at c =
    let d : Span = record { start = 0; end = 0 } in
    let within : (c.loop-i.i - 1) - c.args.first < length (drop c.args.first c.args.rows.now) = omega (arith, c.loop-i.invariant.count, c.loop-i-test.true, length-drop c.args.first c.args.rows.now) in
    let index : c.args.first + ((c.loop-i.i - 1) - c.args.first) ≡ c.loop-i.i - 1 = omega (arith, c.loop-i-test.true) in
    let row : get_or c.args.rows.now (c.loop-i.i - 1) d ≡ get_or (drop c.args.first c.args.rows.now) ((c.loop-i.i - 1) - c.args.first) d =
    sym (get_or-drop c.args.first c.args.rows.now ((c.loop-i.i - 1) - c.args.first) d ∙ ap (λ n. get_or c.args.rows.now n d) index) in
    rw row (c.requires.behind ((c.loop-i.i - 1) - c.args.first) d within)

pub returns-then-stands_alone-clause-goes_on : goal.returns-then-stands_alone-clause-goes_on
returns-then-stands_alone-clause-goes_on c = λ wrap u e.
    let d : Span = record { start = 0; end = 0 } in
    let here = c.stands_alone.ensures.0 c.if-stands_alone.true in
    let within : (c.loop-i.i - 1) - c.args.first < length (drop c.args.first c.args.rows.now) = omega (arith, c.loop-i.invariant.count, c.loop-i-test.true, length-drop c.args.first c.args.rows.now) in
    let index : c.args.first + ((c.loop-i.i - 1) - c.args.first) ≡ c.loop-i.i - 1 = omega (arith, c.loop-i-test.true) in
    let row : get_or c.args.rows.now (c.loop-i.i - 1) d ≡ get_or (drop c.args.first c.args.rows.now) ((c.loop-i.i - 1) - c.args.first) d =
    sym (get_or-drop c.args.first c.args.rows.now ((c.loop-i.i - 1) - c.args.first) d ∙ ap (λ n. get_or c.args.rows.now n d) index) in
    stored_seam wrap c.args.base c.args.line.now (drop c.args.first c.args.rows.now) _ ((c.loop-i.i - 1) - c.args.first) d u e here within (ap (λ (s : Span). s.start - c.args.base) row)

pub returns-clause-goes_on : goal.returns-clause-goes_on
returns-clause-goes_on c = λ wrap u e. start_goes_on wrap c.args.line.now u

pub returns-then-stands_alone-clause-last : goal.returns-then-stands_alone-clause-last
returns-then-stands_alone-clause-last c =
    none_further c.args.line.now c.args.base c.args.border c.loop-i.i ((c.args.first + ((c.loop-i.i - 1) - c.args.first)) + 1) c.args.rows.now (omega (arith, c.loop-i-test.true)) c.loop-i.invariant.none

pub returns-clause-last : goal.returns-clause-last
returns-clause-last c =
    none_further c.args.line.now c.args.base c.args.border c.loop-i.i ((c.args.first + 0) + 1) c.args.rows.now (omega (arith, c.loop-i-test.false)) c.loop-i.invariant.none

pub loop-i-preserved : goal.loop-i-preserved
loop-i-preserved c =
    let d : Span = record { start = 0; end = 0 } in
    let at : ℕ = (get_or c.args.rows.now (c.loop-i.i - 1) d).start - c.args.base in
    let here : at ≤ c.args.border → StandsAlone c.args.line.now at → ⊥ = λ l s. elim c.else-at-border.branch [
      | else-at-border-via-then-at-border+else-stands_alone w ↦ let both : true ≡ false = sym (w.stands_alone.ensures.1 s) ∙ w.if-stands_alone.false in absurd cc
      | else-at-border-via-else-at-border w ↦ absurd (omega (arith, l, w.if-at-border.false))
    ] in
    record {
      least = omega (arith, c.loop-i-test.true);
      count = omega (arith, c.loop-i.invariant.count);
      none = none_from c.args.line.now c.args.base c.args.border c.loop-i.i (c.loop-i.i - 1) c.args.rows.now d (omega (arith, c.loop-i.invariant.count, c.loop-i-test.true)) (omega (arith, c.loop-i-test.true)) here c.loop-i.invariant.none;
    }

pub loop-i-init : goal.loop-i-init
loop-i-init c = record {
  least = c.requires.rows;
  count = omega arith;
  none = rw (drop_all (length c.args.rows.now) c.args.rows.now (omega arith)) (λ k d l. absurd (omega (arith, l)));
}
