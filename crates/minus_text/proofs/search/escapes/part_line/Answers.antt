use Rattle.std.proofs.Common.{◌∙◌, ap}
use Rattle.minus_text.specs.Escapes.{stripped, escapes, outside, inside}
use Rattle.minus_text.proofs.search.escapes.part_line.Goals as goal

pub returns-clause-text : goal.returns-clause-text
unfolding stripped
returns-clause-text c = c.in_ok-parted.ensures.text ∙ ap (outside c.args.line.now 0) (c.deref.ensures.value ∙ c.in_ok-places.ensures.found)

pub returns-clause-escapes : goal.returns-clause-escapes
unfolding escapes
returns-clause-escapes c = c.in_ok-parted.ensures.escapes ∙ ap (inside c.args.line.now 0 0) (c.deref.ensures.value ∙ c.in_ok-places.ensures.found)
