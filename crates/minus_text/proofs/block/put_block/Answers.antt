-- What was put is taken out again.
use Rattle.std.proofs.Common.{take, ap₂, ◌∙◌}
use Rattle.std.proofs.Math.Seq.{take-append_seam}
use Rattle.minus_text.proofs.block.put_block.Goals as goal

pub returns-in-Err-clause-err : goal.returns-in-Err-clause-err
returns-in-Err-clause-err g c = c.truncate_rows.ensures ∙ ap₂ take c.rows_len-len.ensures c.put_rows.ensures.grows.1 ∙ take-append_seam _ _
