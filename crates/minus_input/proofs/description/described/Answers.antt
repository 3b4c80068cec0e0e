use Rattle.std.proofs.Common.{rules}
use Rattle.minus_input.proofs.description.described.Goals as goal

pub returns-then-is_empty-clause-err : goal.returns-then-is_empty-clause-err
returns-then-is_empty-clause-err c = search rules

pub returns-then-is_empty-clause-mouse : goal.returns-then-is_empty-clause-mouse
returns-then-is_empty-clause-mouse c = search rules

pub returns-clause-ok : goal.returns-clause-ok
returns-clause-ok c = search rules
