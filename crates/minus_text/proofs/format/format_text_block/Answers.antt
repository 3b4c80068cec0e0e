use Rattle.std.proofs.Common.{rules}
use Rattle.minus_text.proofs.format.format_text_block.Goals as goal

pub returns-clause-told : goal.returns-clause-told
returns-clause-told c = search rules
