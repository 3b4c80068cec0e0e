-- What fits and ends with no space is one row.
use Rattle.std.proofs.Common.{arith, lit<, sym, ◌∙◌}
use Rattle.std.proofs.lemmas.Str.Pattern.{ends_char}
use Rattle.minus_text.proofs.PlainLaws.{whole_row}
use Rattle.minus_text.proofs.rows.is_one_row.Goals as goal

pub returns-then-not-ends_with : goal.returns-then-not-ends_with
returns-then-not-ends_with c = λ t.
    let ends = ends_char 32 c.args.line.now c.ends_with.result c.ends_with.ensures.cases (lit< tt) in
    whole_row c.args.cols c.args.line.now (omega (arith, c.if-line-cols.true)) (sym c.is_printable.ensures ∙ t)
    (λ xs e. let yes = ends.1 xs e in let no = c.if-not-ends_with.true in cc)
