use Rattle.std.proofs.Common.{◌∙◌}
use Rattle.minus_view.proofs.OptionWordsLaws.{cut_drop}
use Rattle.minus_view.proofs.arguments.reading.cut_behind.Goals as goal

pub returns : goal.returns
returns c = c.cut.ensures ∙ cut_drop c.args.text.now c.args.at c.args.from c.args.to c.requires.from c.requires.to
