use Rattle.std.proofs.Common.{rules}
use Rattle.minus_text.proofs.hyphens.is_joint.Goals as goal

pub returns-then-c-eq45 : goal.returns-then-c-eq45
returns-then-c-eq45 c = search rules
