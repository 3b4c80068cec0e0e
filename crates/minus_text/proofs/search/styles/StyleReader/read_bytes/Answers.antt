-- Each byte is read, and then what is left behind it.
use Rattle.std.proofs.Common.{sym, ap, ◌∙◌, arith}
use Rattle.minus_text.specs.Styles.{read_all}
use Rattle.minus_text.proofs.StyleSourceLaws.{read_on, read_to_end}
use Rattle.minus_text.proofs.search.styles.StyleReader.read_bytes.Goals as goal

pub loop-first-init : goal.loop-first-init
loop-first-init c = c.left-rest.ensures.read

pub loop-first-smaller : goal.loop-first-smaller
loop-first-smaller c = omega (arith, c.left-rest-in-Some.ensures.len, c.in-Some.ensures.cases.1)

pub loop-first-preserved : goal.loop-first-preserved
loop-first-preserved c =
    let whole = ap (read_all c.loop-first.self) (sym c.in-Some.ensures.cases.0) ∙ c.loop-first.invariant in
    read_on _ c.loop-first.self c.in-Some.first.now c.in-Some.more.now c.left-rest-in-Some.result.now c.read_byte.new.self whole c.in_ok-read_byte.ensures c.left-rest-in-Some.ensures.read

pub returns : goal.returns
returns c = read_to_end c.loop-first.self _ c.loop-first.rest.now c.in_default.ensures.cases c.loop-first.invariant
