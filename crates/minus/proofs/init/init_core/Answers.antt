-- It is the start that it calls, with a register of the default bindings.
use Rattle.std.proofs.Common.{map}
use Rattle.minus_term.specs.Refusals.{refusal_of}
use Rattle.minus_input.specs.DefaultClassifier.{IsDefault}
use Rattle.minus_input.specs.declared.classifier.Classifier.TheVariants.{Register}
use Rattle.minus_commands.specs.Reads.{wanted_of}
use Rattle.minus.proofs.StartLaws.{first_start, refused_with, unregistered}
use Rattle.minus.proofs.init.init_core.Goals as goal

pub returns-in-Ok-clause-started : goal.returns-in-Ok-clause-started
returns-in-Ok-clause-started g c =
    first_start IsDefault _ _ _ _ _ _ (Register c.in-Ok.register) c.init_core_with.result c.in-Ok.ensures.default c.init_core_with.ensures.started

pub returns-in-Err-clause-refused : goal.returns-in-Err-clause-refused
returns-in-Err-clause-refused g c =
    refused_with g.S.OutputSink.seen c.args.pager c.args.mode c.args.cols c.args.rows c.args.sink c.in-Err.cause c.early.result c.early.ensures.sink c.early.ensures.pager c.early.ensures.cause (unregistered (refusal_of c.in-Err.cause) c.args.mode c.args.cols c.args.rows (map wanted_of c.args.pager.queue.items) c.in-Err.ensures.refused)
