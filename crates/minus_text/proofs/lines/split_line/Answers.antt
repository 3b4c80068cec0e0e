use Rattle.std.proofs.Common.{◌≡◌, ◌-◌, length, get_or, arith, sym, ap, eqb, ◌∙◌}
use Rattle.std.proofs.lemmas.Bool.{eqb-true}
use Rattle.std.proofs.lemmas.Str.{IsCharBoundary-after_ascii}
use Rattle.minus_text.proofs.LinesLaws.{newline_at, newline_nowhere, cut_at_newline, cut_none}
use Rattle.minus_text.proofs.lines.split_line.Goals as goal

pub range_from-requires : goal.range_from-requires
range_from-requires c = λ l.
    let h = c.in-Some.ensures in
    let byte = eqb-true (get_or c.args.text.now c.in-Some.place 0) 10 (ap (λ bs. eqb (get_or bs c.in-Some.place 0) 10) (sym c.as_bytes.ensures.value) ∙ h.1) in
    IsCharBoundary-after_ascii c.args.text.now c.in-Some.place c.utf8.text (omega (arith, h.0.high, ap length c.as_bytes.ensures.value)) (omega (arith, byte))

pub returns-in-Some-clause-cut : goal.returns-in-Some-clause-cut
returns-in-Some-clause-cut c =
    let text = c.as_bytes.ensures.value in
    let h = c.in-Some.ensures in
    let k = c.in-Some.place in
    let place = rw text at (newline_at c.as_bytes.result.now k h.0.high h.0.before h.1) in
    let front : k - 0 ≡ k = omega arith in
    rw (c.range.ensures.value, c.range_from.ensures.value, front) (cut_at_newline c.args.text.now k (omega (arith, h.0.high, ap length text)) place)

pub returns-in-None-clause-cut : goal.returns-in-None-clause-cut
returns-in-None-clause-cut c =
    let place = rw c.as_bytes.ensures.value at (newline_nowhere c.as_bytes.result.now c.in-None.ensures) in
    cut_none c.args.text.now place
