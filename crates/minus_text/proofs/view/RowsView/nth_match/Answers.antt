-- A step that stays before the end.
use Rattle.std.proofs.Common.{rules, ◌≡◌, ◌+◌, ◌-◌, ◌%◌, ◌<◌, ◌≤◌, false, eqb, length, Some, sym, ap, ap₂, ◌∙◌, arith}
use Rattle.std.proofs.Math.Nat.{add-mod-mod, mod-lt}
use Rattle.std.proofs.lemmas.Bool.{ne_eqb}
use Rattle.minus_text.specs.Matches.{nearest}
use Rattle.minus_text.specs.Found.{jump_rows}
use Rattle.minus_text.specs.Views.{viewed}
use Rattle.minus_text.proofs.ViewLaws.{steps_on, steps_over, near_within, nth_is}
use Rattle.minus_text.proofs.view.RowsView.nth_match.Goals as goal

pub returns-then-step-left : goal.returns-then-step-left
returns-then-step-left c =
    let count = c.match_count-count.result in
    let first = c.nearest-first.result in
    let size : length (jump_rows (viewed c.args.self).found) ≡ count = search rules in
    let few : first + (c.args.jump - 1) % count < count = omega (arith, c.if-step-left.true) in
    let on = steps_on first (c.args.jump - 1) count few in
    search rules

pub returns-else-step-left : goal.returns-else-step-left
returns-else-step-left c =
    let ns = jump_rows (viewed c.args.self).found in
    let count = c.match_count-count.result in
    let first = c.nearest-first.result in
    let j = c.args.jump - 1 in
    let size : length ns ≡ count = sym c.match_count-count.ensures in
    let near : first ≡ nearest ns c.args.mark c.args.jump = c.nearest-first.ensures in
    let full : 0 < count = omega (arith, c.if-count-eq0.false) in
    let some : eqb (length ns) 0 ≡ false = ne_eqb (length ns) 0 (λ e. omega (arith, e, size, full)) in
    let more : eqb c.args.jump 0 ≡ false = ne_eqb c.args.jump 0 (λ e. omega (arith, e, c.if-jump-eq0.false)) in
    let few : first < count = omega (arith, near, near_within ns c.args.mark c.args.jump (omega (arith, size, full)), size) in
    let step : j % count < count = mod-lt j full in
    let over : count ≤ first + j % count = omega (arith, c.if-step-left.false, few) in
    ap (λ n. Some n) (steps_over first (j % count) count few step over ∙ add-mod-mod first j count ∙ ap₂ (λ f n. (f + j) % n) near (sym size))
    ∙ sym (nth_is ns c.args.mark c.args.jump some more)
