-- What is printable is ASCII.
use Rattle.minus_text.proofs.CropPlainLaws.{printable_boundary}
use Rattle.minus_text.proofs.plain.printable_front.Goals as goal

pub returns-else-matches-clause-boundary : goal.returns-else-matches-clause-boundary
returns-else-matches-clause-boundary c = printable_boundary c.args.text.now c.loop-at.at c.utf8.text c.loop-at.invariant.0 c.loop-at.invariant.1
