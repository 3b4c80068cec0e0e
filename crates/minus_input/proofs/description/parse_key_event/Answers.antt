use Rattle.std.proofs.Common.{sym, ◌∙◌}
use Rattle.std.proofs.lemmas.Result.{err_from_is_err_and}
use Rattle.minus_input.proofs.DescriptionLaws.{parsed_key, refused_key}
use Rattle.minus_input.proofs.description.parse_key_event.Goals as goal

pub returns-in_err-seq-clause-err : goal.returns-in_err-seq-clause-err
returns-in_err-seq-clause-err c =
    let part = c.in_ok-part.ensures.ok in
    let p = err_from_is_err_and c.from_residual-in_err-seq.result c.from_residual-in_err-seq.ensures.1 in
    let fault = refused_key c.args.text.now c.in_ok-part.part.now c.in_err-seq.field-0.0 part.0 part.1 part.2 (sym c.in_err-seq.was ∙ c.read_all.ensures) in
    rw (p.1, p.2) fault

pub returns-clause-ok : goal.returns-clause-ok
returns-clause-ok c =
    let part = c.in_ok-part.ensures.ok in
    parsed_key c.args.text.now c.in_ok-part.part.now c.in_ok-seq.seq c.unwrap_or.result part.0 part.1 part.2 (sym c.in_ok-seq.was ∙ c.read_all.ensures) c.unwrap_or.ensures
