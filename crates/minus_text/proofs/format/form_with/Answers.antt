use Rattle.std.proofs.Common.{rules}
use Rattle.minus_text.proofs.format.form_with.Goals as goal

pub returns : goal.returns
returns c = search rules
