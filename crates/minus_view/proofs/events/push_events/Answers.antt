use Rattle.std.proofs.Common.{◌-◌, take, drop, length, sym, arith}
use Rattle.std.proofs.lemmas.List.{length-take, length-drop}
use Rattle.minus_view.proofs.EventLaws.{one_more}
use Rattle.minus_view.proofs.KeySequencesLaws.{unit_waits}
use Rattle.minus_view.proofs.events.push_events.Goals as goal

pub loop-len-preserved : goal.loop-len-preserved
loop-len-preserved c = record {
  within = omega (arith, c.in-Some.ensures.within);
  read = one_more c.args.bytes.now c.loop-len.taken c.in-Some.len _ _ _ c.in-Some.ensures.is c.in-Some.ensures.within
      c.in_ok-push_event.ensures.added c.loop-len.invariant.read;
}

pub returns-clause-short : goal.returns-clause-short
returns-clause-short c =
    let bytes = c.args.bytes.now in
    let taken = c.loop-len.taken in
    let rest = take (length bytes - taken) (drop taken bytes) in
    let few = unit_waits rest (sym c.in_default.ensures.is) in
    omega (arith, few, length-take (length bytes - taken) (drop taken bytes), length-drop taken bytes)
