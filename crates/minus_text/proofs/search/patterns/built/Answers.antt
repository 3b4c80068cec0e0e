use Rattle.std.proofs.Common.{rules}
use Rattle.minus_text.proofs.search.patterns.built.Goals as goal

pub returns-in-Err : goal.returns-in-Err
returns-in-Err c = search rules
