use Rattle.std.proofs.Common.{rules}
use Rattle.minus_text.proofs.buffers.ReusableRows.new.Goals as goal

pub returns : goal.returns
returns c = search rules
