-- What is selected of a row behind its prefix.
use Rattle.std.proofs.Common.{rules}
use Rattle.minus_state.proofs.frame.Frame.selected_range.Goals as goal

pub returns : goal.returns
returns c d left e = search (rules, c.prefix.ensures d left e, c.cut.ensures d left e)
