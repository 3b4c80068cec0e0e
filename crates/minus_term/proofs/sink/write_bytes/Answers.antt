-- One more call of `put`: what it took is done too.
use Rattle.std.proofs.Common.{◌++◌, take}
use Rattle.std.proofs.KnownBytes.{Appends-trans}
use Rattle.minus_term.proofs.SinkLaws.{Stays-taken, RisesBy-trans, AppendsFront-of, Appends-kept, moves_front}
use Rattle.minus_term.proofs.sink.write_bytes.Goals as goal

pub returns-in-Ok-eq0-clause-err : goal.returns-in-Ok-eq0-clause-err
returns-in-Ok-eq0-clause-err g c =
    let (done, split, appended, stays, unsettled) = c.loop-rest.invariant in
    let rest = c.loop-rest.rest.now in
    let n = c.in-Ok-eq0.field-0 in
    AppendsFront-of _ _ _ (done ++ take n rest) _ (moves_front _ done rest n split) (Appends-trans _ _ _ _ _ appended c.in-Ok-eq0.ensures.bytes)

pub loop-rest-preserved : goal.loop-rest-preserved
loop-rest-preserved g c =
    let (done, split, appended, stays, unsettled) = c.loop-rest.invariant in
    let rest = c.loop-rest.rest.now in
    let n = c.in-Ok.n in
    (done ++ take n rest, moves_front _ done rest n split, Appends-trans _ _ _ _ _ appended c.in-Ok.ensures.bytes, Stays-taken _ _ _ n stays c.in-Ok.n-test.1 c.in-Ok.ensures.counted, RisesBy-trans _ _ _ 0 0 unsettled c.in-Ok.ensures.unsettled)

pub returns-in-Err-clause-err : goal.returns-in-Err-clause-err
returns-in-Err-clause-err g c =
    let (done, split, appended, stays, unsettled) = c.loop-rest.invariant in
    AppendsFront-of _ _ _ done _ split (Appends-kept _ _ _ _ appended c.in-Err.ensures.bytes)

pub returns-in-Ok-eq0-clause-ok : goal.returns-in-Ok-eq0-clause-ok
returns-in-Ok-eq0-clause-ok g c = tt

pub returns-in-Ok-eq0-clause-stays : goal.returns-in-Ok-eq0-clause-stays
returns-in-Ok-eq0-clause-stays g c = tt

pub returns-clause-stays : goal.returns-clause-stays
returns-clause-stays g c =
    let (done, split, appended, stays, unsettled) = c.loop-rest.invariant in
    stays

pub returns-in-Ok-eq0-clause-unsettled : goal.returns-in-Ok-eq0-clause-unsettled
returns-in-Ok-eq0-clause-unsettled g c =
    let (done, split, appended, stays, unsettled) = c.loop-rest.invariant in
    RisesBy-trans _ _ _ 0 0 unsettled c.in-Ok-eq0.ensures.unsettled

pub returns-in-Err-clause-unsettled : goal.returns-in-Err-clause-unsettled
returns-in-Err-clause-unsettled g c =
    let (done, split, appended, stays, unsettled) = c.loop-rest.invariant in
    RisesBy-trans _ _ _ 0 0 unsettled c.in-Err.ensures.unsettled

pub returns-clause-unsettled : goal.returns-clause-unsettled
returns-clause-unsettled g c =
    let (done, split, appended, stays, unsettled) = c.loop-rest.invariant in
    unsettled
