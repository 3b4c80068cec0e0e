use Rattle.std.proofs.Common.{rules}
use Rattle.minus_term.proofs.WritesLaws.{refused_draw}
use Rattle.minus_term.proofs.writes.write_formed.Goals as goal

pub returns-in_err-write_bytes-clause-err : goal.returns-in_err-write_bytes-clause-err
returns-in_err-write_bytes-clause-err g c =
    refused_draw g.W.OutputSink.seen _ _ _ _ _ c.from_residual-in_err-write_bytes.ensures.1 c.in_err-write_bytes.ensures.err c.in_err-write_bytes.ensures.rises

pub returns-in_err-draw_bytes-clause-err : goal.returns-in_err-draw_bytes-clause-err
returns-in_err-draw_bytes-clause-err g c =
    refused_draw g.W.OutputSink.seen _ _ _ _ _ c.from_residual.ensures.1 c.in_err-draw_bytes.ensures.err c.in_err-draw_bytes.ensures.rises

pub returns-in_ok-write_bytes-clause-stays : goal.returns-in_ok-write_bytes-clause-stays
returns-in_ok-write_bytes-clause-stays g c = search rules
