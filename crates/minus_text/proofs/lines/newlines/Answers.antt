-- Each newline ends a line.
use Rattle.std.proofs.Common.{◌≡◌, ◌<◌, length, take, ap, sym, arith, rules, ◌∙◌}
use Rattle.std.specs.List.{sum_by}
use Rattle.std.proofs.lemmas.List.{take_all}
use Rattle.std.proofs.lemmas.List.Sums.{sum_by_more}
use Rattle.minus_text.proofs.LineCountLaws.{newline_here, closed-count}
use Rattle.minus_text.proofs.lines.newlines.Goals as goal

pub returns-clause-value : goal.returns-clause-value
returns-clause-value c =
    let all : take c.loop-b.b-index c.args.text.now ≡ c.args.text.now = take_all c.loop-b.b-index c.args.text.now (omega (arith, c.loop-b-test.false, ap length c.as_bytes-b-items.ensures.value)) in
    c.loop-b.invariant.so_far ∙ ap (sum_by newline_here) all ∙ sym (closed-count c.args.text.now)

pub loop-b-preserved : goal.loop-b-preserved
loop-b-preserved c =
    let within : c.loop-b.b-index < length c.args.text.now = omega (arith, c.loop-b-test.true, ap length c.as_bytes-b-items.ensures.value) in
    let more = sum_by_more newline_here c.args.text.now c.loop-b.b-index 0 within in
    search rules
