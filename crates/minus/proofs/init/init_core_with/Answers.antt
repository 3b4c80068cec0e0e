-- What is formed first is shown, and where it is not formed, nothing is written.
use Rattle.std.proofs.Common.{subst}
use Rattle.minus.specs.SessionStarts.{IsStart}
use Rattle.minus.proofs.BeginLaws.{if_ok, if_err}
use Rattle.minus.proofs.StartLaws.{refused_with}
use Rattle.minus.proofs.init.init_core_with.Goals as goal

pub returns-in-Ok-clause-started : goal.returns-in-Ok-clause-started
returns-in-Ok-clause-started g c =
    let first = c.in-Ok.ensures in
    if_ok c.begin.result (λ s h. subst (λ k. IsStart g.S.OutputSink.seen c.args.pager c.args.mode c.args.cols c.args.rows k c.args.sink s) first.classifier (h c.args.cols c.args.rows first.begins first.control)) c.begin.ensures.started

pub returns-in-Ok-clause-refused : goal.returns-in-Ok-clause-refused
returns-in-Ok-clause-refused g c =
    let first = c.in-Ok.ensures in
    if_err c.begin.result (λ e h. h c.args.cols c.args.rows first.begins first.control) c.begin.ensures.refused

pub returns-in-Err-clause-refused : goal.returns-in-Err-clause-refused
returns-in-Err-clause-refused g c = refused_with g.S.OutputSink.seen c.args.pager c.args.mode c.args.cols c.args.rows c.args.sink c.in-Err.cause c.early.result c.early.ensures.sink c.early.ensures.pager c.early.ensures.cause c.in-Err.ensures.refused
