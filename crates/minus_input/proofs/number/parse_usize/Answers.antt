use Rattle.std.proofs.Common.{◌∙◌}
use Rattle.minus_input.proofs.NumberLaws.{read_number}
use Rattle.minus_input.proofs.number.parse_usize.Goals as goal

pub returns : goal.returns
returns c = c.ok.ensures.value ∙ read_number c.args.text.now c.parse.result c.parse.ensures.value.0
