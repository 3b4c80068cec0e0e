-- The appends behind it went with it.
use Rattle.std.proofs.Common.{string_bytes}
use Rattle.minus.specs.Says.{says_of}
use Rattle.minus.proofs.JoinedTakeLaws.{taken_joined, untaken_gone, untaken_kept}
use Rattle.minus.proofs.session.Core.take_joined.Goals as goal

pub returns-in-Ok-clause-taken : goal.returns-in-Ok-clause-taken
returns-in-Ok-clause-taken g c = λ told goes.
    let says = says_of g.P.Condition.ConditionCall.judges g.P.Classifier.InputClassifier.says in
    taken_joined g.S.OutputSink.seen says c.args.self.now c.perform.new.self c.let_go.new.self told (string_bytes c.args.joined.text) c.args.joined.count c.in-Ok.taken goes c.let_go.ensures.seen c.let_go.ensures.sink c.in-Ok.ensures.taken

pub returns-else-is_running-clause-refused : goal.returns-else-is_running-clause-refused
returns-else-is_running-clause-refused g c = λ told goes.
    let says = says_of g.P.Condition.ConditionCall.judges g.P.Classifier.InputClassifier.says in
    untaken_gone g.S.OutputSink.seen says c.args.self.now c.perform.new.self c.let_go-in-Err.new.self told (string_bytes c.args.joined.text) c.args.joined.count c.in-Err.refusal goes c.requires.running (c.is_running.ensures.over c.if-is_running.false) c.let_go-in-Err.ensures.seen c.let_go-in-Err.ensures.sink c.in-Err.ensures.refused

pub returns-then-is_running-clause-refused : goal.returns-then-is_running-clause-refused
returns-then-is_running-clause-refused g c = λ told goes.
    let says = says_of g.P.Condition.ConditionCall.judges g.P.Classifier.InputClassifier.says in
    untaken_kept g.S.OutputSink.seen says c.args.self.now c.perform.new.self told (string_bytes c.args.joined.text) c.args.joined.count c.in-Err.refusal goes c.requires.running (c.is_running.ensures.running c.if-is_running.true) c.in-Err.ensures.refused
