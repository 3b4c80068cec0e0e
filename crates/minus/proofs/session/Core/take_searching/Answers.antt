-- The editor has the event, or the input waits.
use Rattle.std.proofs.Common.{sym, subst}
use Rattle.std.proofs.lemmas.Result.{IfOk-weaker, IfErr-weaker}
use Rattle.minus.specs.Says.{says_of}
use Rattle.minus_commands.specs.Reads.{Told, told_of}
use Rattle.minus.specs.SessionSteps.{IsTakenOf, IsUntakenOf}
use Rattle.minus.proofs.WaitLaws.{kept_take, unkept_take}
use Rattle.minus.proofs.session.Core.take_searching.Goals as goal

pub returns-in-Some-clause-taken : goal.returns-in-Some-clause-taken
returns-in-Some-clause-taken g c =
    IfOk-weaker c.edit.result _ _ (λ t h. subst (λ (told : Told _ _). IsTakenOf g.S.OutputSink.seen (says_of g.P.Condition.ConditionCall.judges g.P.Classifier.InputClassifier.says) c.args.self.now told c.edit.new.self t) (sym c.in-Some.ensures.fed) h) c.edit.ensures.taken

pub returns-in-Some-clause-refused : goal.returns-in-Some-clause-refused
returns-in-Some-clause-refused g c =
    IfErr-weaker c.edit.result _ _ (λ e h. subst (λ (told : Told _ _). IsUntakenOf g.S.OutputSink.seen (says_of g.P.Condition.ConditionCall.judges g.P.Classifier.InputClassifier.says) c.args.self.now told c.edit.new.self e) (sym c.in-Some.ensures.fed) h) c.edit.ensures.refused

pub returns-in-None-clause-taken : goal.returns-in-None-clause-taken
returns-in-None-clause-taken g c =
    IfOk-weaker c.wait.result _ _ (λ t h. kept_take g.S.OutputSink.seen _ c.args.self.now c.wait.new.self (told_of c.args.input) t c.requires.searching c.in-None.ensures.waits h) c.wait.ensures.kept

pub returns-in-None-clause-refused : goal.returns-in-None-clause-refused
returns-in-None-clause-refused g c =
    IfErr-weaker c.wait.result _ _ (λ e h. unkept_take g.S.OutputSink.seen _ c.args.self.now c.wait.new.self (told_of c.args.input) e c.requires.searching c.in-None.ensures.waits h) c.wait.ensures.refused
