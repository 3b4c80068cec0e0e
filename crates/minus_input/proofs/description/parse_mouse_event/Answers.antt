use Rattle.std.proofs.Common.{sym, ◌∙◌}
use Rattle.std.proofs.lemmas.Result.{err_from_is_err_and}
use Rattle.minus_input.proofs.DescriptionLaws.{parsed_mouse, refused_mouse, no_action}
use Rattle.minus_input.proofs.description.parse_mouse_event.Goals as goal

pub returns-in_err-seq-clause-err : goal.returns-in_err-seq-clause-err
returns-in_err-seq-clause-err c =
    let part = c.in_ok-part.ensures.ok in
    let p = err_from_is_err_and c.from_residual-in_err-seq.result c.from_residual-in_err-seq.ensures.1 in
    let fault = refused_mouse c.args.text.now c.in_ok-part.part.now c.in_err-seq.field-0.0 part.0 part.1 part.2 (sym c.in_err-seq.was ∙ c.read_all.ensures) in
    rw (p.1, p.2) fault

pub returns-in_default-clause-err : goal.returns-in_default-clause-err
returns-in_default-clause-err c =
    let part = c.in_ok-part.ensures.ok in
    no_action c.args.text.now c.in_ok-part.part.now c.in_ok-seq.seq part.0 part.1 part.2 (sym c.in_ok-seq.was ∙ c.read_all.ensures) c.in_default.is

pub returns-clause-ok : goal.returns-clause-ok
returns-clause-ok c =
    let part = c.in_ok-part.ensures.ok in
    parsed_mouse c.args.text.now c.in_ok-part.part.now c.in_ok-seq.seq c.in-Some.kind part.0 part.1 part.2 (sym c.in_ok-seq.was ∙ c.read_all.ensures) c.in-Some.is
