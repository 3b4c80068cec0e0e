-- No row yet, and one more row.
use Rattle.std.proofs.Common.{ℕ, ◌<◌, length, ap, subst, ◌∙◌}
use Rattle.minus_state.specs.States.{control_of}
use Rattle.minus_state.proofs.AppendLaws.{document_is}
use Rattle.minus_text.specs.Document.{Document, rows_of}
use Rattle.minus.proofs.PrintLaws.{rows_none, rows_next, rows_fit}
use Rattle.minus.proofs.static_pager.fitting_rows.Goals as goal

pub loop-i-init : goal.loop-i-init
loop-i-init c = c.new-bytes.ensures.items ∙ rows_none

pub loop-i-preserved : goal.loop-i-preserved
loop-i-preserved c =
    let count = c.formatted_lines_count-count.ensures.value ∙ ap (λ (d : Document). length (rows_of d)) (document_is c.args.state.now c.requires) in
    rows_next (control_of c.args.state.now) c.loop-i.i c.loop-i.bytes.items c.push_printed_row.new.out.items (subst (λ (n : ℕ). c.loop-i.i < n) count c.loop-i-test.true) c.loop-i.invariant c.in_ok-push_printed_row.ensures

pub returns : goal.returns
returns c =
    let count = c.formatted_lines_count-count.ensures.value ∙ ap (λ (d : Document). length (rows_of d)) (document_is c.args.state.now c.requires) in
    rows_fit (control_of c.args.state.now) _ c.loop-i.i c.loop-i.bytes.items count c.if-count-state.false c.loop-i-test.false c.loop-i.invariant
