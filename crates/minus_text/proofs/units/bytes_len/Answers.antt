-- The bytes of the body, and the spaces.
use Rattle.std.proofs.Common.{arith}
use Rattle.minus_text.specs.TextUnits.{bytes_left}
use Rattle.minus_text.proofs.TextUnitsLaws.{length_left}
use Rattle.minus_text.proofs.units.bytes_len.Goals as goal

pub overflow_add-result : goal.overflow_add-result
unfolding bytes_left
overflow_add-result c = let small = c.requires in omega (arith, small, length_left c.args.left.body.now c.args.left.spaces)

pub returns : goal.returns
unfolding bytes_left
returns c = omega (arith, length_left c.args.left.body.now c.args.left.spaces)
