-- The flush comes after the bytes.
use Rattle.std.proofs.Common.{rules}
use Rattle.minus_term.proofs.SinkLaws.{Rises-call, RisesBy-trans, Appends-kept, AppendsFront-all, at_err}
use Rattle.minus_term.proofs.sink.draw_bytes.Goals as goal

pub returns-clause-ok : goal.returns-clause-ok
returns-clause-ok g c = Appends-kept _ _ _ _ c.in_ok-write_bytes.ensures.ok c.in_ok-settle.ensures.bytes

pub returns-clause-stays : goal.returns-clause-stays
returns-clause-stays g c = search rules

pub returns-in_err-settle-clause-err : goal.returns-in_err-settle-clause-err
returns-in_err-settle-clause-err g c =
    at_err _ (AppendsFront-all _ _ _ (Appends-kept _ _ _ _ c.in_ok-write_bytes.ensures.ok c.in_err-settle.ensures.bytes))

pub returns-in_err-settle-clause-rises : goal.returns-in_err-settle-clause-rises
returns-in_err-settle-clause-rises g c =
    at_err _ (Rises-call _ _ _ c.in_ok-write_bytes.ensures.stays c.in_err-settle.ensures.counted)

pub returns-in_err-write_bytes-clause-err : goal.returns-in_err-write_bytes-clause-err
returns-in_err-write_bytes-clause-err g c = at_err _ c.in_err-write_bytes.ensures.err

pub returns-in_err-write_bytes-clause-rises : goal.returns-in_err-write_bytes-clause-rises
returns-in_err-write_bytes-clause-rises g c = at_err _ c.in_err-write_bytes.ensures.rises

pub returns-clause-settled : goal.returns-clause-settled
returns-clause-settled g c = RisesBy-trans _ _ _ 0 1 c.in_ok-write_bytes.ensures.unsettled c.in_ok-settle.ensures.settled
