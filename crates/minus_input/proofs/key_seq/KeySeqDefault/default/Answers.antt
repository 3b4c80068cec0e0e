use Rattle.std.proofs.Common.{rules}
use Rattle.minus_input.proofs.key_seq.KeySeqDefault.default.Goals as goal

pub returns : goal.returns
returns g c = search rules
