-- The session is run on, until nothing is left.
use Rattle.std.proofs.Common.{[], ◌++◌, map, None, Some, is_some, inl, refl, sym, ap, ◌∙◌}
use Rattle.minus.specs.Core.{seen_of}
use Rattle.minus_commands.specs.Reads.{told_of}
use Rattle.minus_script.proofs.RunLaws.{worked_none, some_left, none_left, run_as, ran_on, ran_less, ran_last, ran_running, whole_by_exit, ran_into}
use Rattle.minus_script.proofs.run.perform_all.Goals as goal

pub loop-session-init : goal.loop-session-init
loop-session-init g c = ([], worked_none (seen_of c.args.session.now) (map told_of c.args.inputs.items) (g.S.OutputSink.seen c.args.session.now.sink).bytes, refl, c.requires)

pub returns-in-Some-clause-refused : goal.returns-in-Some-clause-refused
returns-in-Some-clause-refused g c =
    let (answers, worked, last, runs) = c.loop-session.invariant in
    let ran = run_as c.run-ran.result.stopped (Some c.in-Some.refusal) c.in-Some.is c.run-ran.ensures.run in
    ran_into c.in-Some.refusal (seen_of c.args.session.now) (map told_of c.args.inputs.items) answers (g.S.OutputSink.seen c.args.session.now.sink).bytes worked runs ran

pub returns-then-is_some-clause-run : goal.returns-then-is_some-clause-run
returns-then-is_some-clause-run g c =
    let (answers, worked, last, runs) = c.loop-session.invariant in
    let ran = run_as c.run-ran.result.stopped None c.in_default.is c.run-ran.ensures.run in
    let some = some_left c.loop-session.left.items c.loop-session.left.len c.loop-session.left.ok.0 c.loop-session-test.ensures in
    let is = ran_last answers some ran in
    record {
      answers = answers ++ ran.answers;
      rest = map told_of c.run-ran.result.rest.items;
      worked = ran_on (seen_of c.args.session.now) (map told_of c.args.inputs.items) answers (g.S.OutputSink.seen c.args.session.now.sink).bytes worked ran;
      answer = is;
      whole = whole_by_exit (answers ++ ran.answers) c.run-ran.result.last (map told_of c.run-ran.result.rest.items) is (ap is_some (sym c.exit_code.ensures) ∙ sym c.if-is_some.ensures);
    }

pub loop-session-smaller : goal.loop-session-smaller
loop-session-smaller g c =
    let some = some_left c.loop-session.left.items c.loop-session.left.len c.loop-session.left.ok.0 c.loop-session-test.ensures in
    ran_less some (run_as c.run-ran.result.stopped None c.in_default.is c.run-ran.ensures.run)

pub loop-session-preserved : goal.loop-session-preserved
loop-session-preserved g c =
    let (answers, worked, last, runs) = c.loop-session.invariant in
    let ran = run_as c.run-ran.result.stopped None c.in_default.is c.run-ran.ensures.run in
    let some = some_left c.loop-session.left.items c.loop-session.left.len c.loop-session.left.ok.0 c.loop-session-test.ensures in (
      answers ++ ran.answers,
      ran_on (seen_of c.args.session.now) (map told_of c.args.inputs.items) answers (g.S.OutputSink.seen c.args.session.now.sink).bytes worked ran,
      ran_last answers some ran,
      ran_running runs (ap is_some (sym c.exit_code.ensures) ∙ sym c.if-is_some.ensures) ran,
    )

pub returns-clause-run : goal.returns-clause-run
returns-clause-run g c =
    let (answers, worked, last, runs) = c.loop-session.invariant in
    let none = none_left c.loop-session.left.items c.loop-session.left.len c.loop-session.left.ok.0 c.loop-session-test.ensures in
    record {
      answers = answers;
      rest = map told_of c.loop-session.left.items;
      worked = worked;
      answer = last;
      whole = inl (ap (map told_of) none);
    }
