-- It is the paging that it calls, with a register of the default bindings.
use Rattle.std.proofs.Common.{map, sym, subst}
use Rattle.minus_term.specs.Refusals.{refusal_of}
use Rattle.minus_state.specs.declared.state.RunMode.TheVariants.{Static}
use Rattle.minus_input.specs.DefaultClassifier.{IsDefault}
use Rattle.minus_input.specs.declared.classifier.Classifier.TheVariants.{Register}
use Rattle.minus_commands.specs.Reads.{wanted_of}
use Rattle.minus.specs.Starts.{IsFormRefused}
use Rattle.minus.proofs.PrintLaws.{first_paged, unpaged_early}
use Rattle.minus.proofs.StartLaws.{unregistered}
use Rattle.minus.proofs.static_pager.page_all.Goals as goal

pub returns-in-Ok-clause-paged : goal.returns-in-Ok-clause-paged
returns-in-Ok-clause-paged g c = first_paged IsDefault _ _ _ _ _ (Register c.in-Ok.register) c.page_all_with.result c.in-Ok.ensures.default c.page_all_with.ensures.paged

pub returns-in-Err-clause-refused : goal.returns-in-Err-clause-refused
returns-in-Err-clause-refused g c =
    let waiting = map wanted_of c.args.pager.queue.items in
    unpaged_early g.S.OutputSink.seen c.args.pager c.args.cols c.args.rows c.args.sink c.early.result c.early.ensures.sink c.early.ensures.pager (subst (λ e. IsFormRefused (refusal_of e) Static c.args.cols c.args.rows waiting) (sym c.early.ensures.cause) (unregistered (refusal_of c.in-Err.cause) Static c.args.cols c.args.rows waiting c.in-Err.ensures.refused))
