-- What is registered is kept, or could not be.
use Rattle.std.proofs.Common.{refl, ap}
use Rattle.minus_state.proofs.RefusalLaws.{passed_on}
use Rattle.minus_state.specs.States.{control_of}
use Rattle.minus.specs.Asked.{Asks}
use Rattle.minus.specs.Core.{seen_of}
use Rattle.minus_commands.specs.Reads.{Told, handing_of}
use Rattle.minus.specs.Says.{says_of}
use Rattle.minus.specs.SessionSteps.{IsUntakenOf}
use Rattle.minus_commands.specs.Table.{hands_over}
use Rattle.minus.proofs.StartLaws.{Stays-refl}
use Rattle.minus.proofs.StepLaws.{handed_take, unhanded_take, seen_alike}
use Rattle.minus.proofs.session.Core.take_handed.Goals as goal

pub returns-clause-taken : goal.returns-clause-taken
returns-clause-taken g c told asked =
    let old = seen_of c.args.self.now in
    let kept = c.in_ok-keep_handed.ensures in
    record {
      took = handed_take _ old _ told (handing_of c.args.handed) _ c.requires.closed c.args.self.now.clamped asked kept.free (seen_alike _ _ (ap control_of c.keep_handed.ensures.state) kept.classifier kept.condition kept.kept refl refl refl);
      stays = Stays-refl _;
    }

pub returns-in_err-keep_handed-clause-refused : goal.returns-in_err-keep_handed-clause-refused
returns-in_err-keep_handed-clause-refused g c =
    let says = says_of g.P.Condition.ConditionCall.judges g.P.Classifier.InputClassifier.says in
    let old = seen_of c.args.self.now in
    let kept = c.in_err-keep_handed.ensures in
    passed_on c.from_residual.result (λ e. (told : Told _ _) → Asks says old told (hands_over (handing_of c.args.handed)) → IsUntakenOf g.S.OutputSink.seen says c.args.self.now told _ e)
    c.in_err-keep_handed.field-0.0 c.from_residual.ensures (λ told asked.
    unhanded_take _ _ c.args.self.now _ told (handing_of c.args.handed) _ c.requires.closed asked kept.refused (seen_alike _ old (ap control_of c.keep_handed.ensures.state) kept.same.0 kept.same.1 kept.err refl refl refl) refl)
