use Rattle.std.proofs.Common.{rules}
use Rattle.minus_input.proofs.key_seq.KeySeq.read_leading.Goals as goal

pub returns : goal.returns
returns g c = search rules
