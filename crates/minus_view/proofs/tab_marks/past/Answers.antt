-- The character stands there, or it does not.
use Rattle.std.proofs.lemmas.Str.Pattern.{strip_prefix_char}
use Rattle.minus_view.proofs.TabLaws.{past_stripped}
use Rattle.minus_view.proofs.tab_marks.past.Goals as goal

pub returns : goal.returns
returns c = past_stripped c.args.c c.args.text.now c.strip_prefix.result (strip_prefix_char c.args.c c.args.text.now c.strip_prefix.result c.strip_prefix.ensures.cases c.requires)
