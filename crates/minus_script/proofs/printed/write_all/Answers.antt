-- One more write: what it took is done too.
use Rattle.std.proofs.Common.{rules, ◌++◌, take}
use Rattle.std.proofs.KnownBytes.{Appends-trans}
use Rattle.minus_term.proofs.SinkLaws.{AppendsFront-of, Appends-kept, moves_front}
use Rattle.minus_script.proofs.printed.write_all.Goals as goal

pub returns-in-Ok-eq0-clause-err : goal.returns-in-Ok-eq0-clause-err
returns-in-Ok-eq0-clause-err g c =
    let writing = c.loop-rest.invariant in
    let rest = c.loop-rest.rest.now in
    let n = c.in-Ok-eq0.field-0 in
    AppendsFront-of _ _ _ (writing.done ++ take n rest) _ (moves_front _ writing.done rest n writing.all) (Appends-trans _ _ _ _ _ writing.appended c.in-Ok-eq0.ensures.bytes)

pub loop-rest-preserved-in-Ok : goal.loop-rest-preserved-in-Ok
loop-rest-preserved-in-Ok g c =
    let writing = c.loop-rest.invariant in
    let rest = c.loop-rest.rest.now in
    let n = c.in-Ok.n in
    record { done = writing.done ++ take n rest; all = moves_front _ writing.done rest n writing.all; appended = Appends-trans _ _ _ _ _ writing.appended c.in-Ok.ensures.bytes; few = writing.few }

pub returns-then-ne-clause-err : goal.returns-then-ne-clause-err
returns-then-ne-clause-err g c =
    let writing = c.loop-rest.invariant in
    AppendsFront-of _ _ _ writing.done _ writing.all (Appends-kept _ _ _ _ writing.appended c.in-Err.ensures.bytes)

pub loop-rest-init : goal.loop-rest-init
loop-rest-init g c = search rules
