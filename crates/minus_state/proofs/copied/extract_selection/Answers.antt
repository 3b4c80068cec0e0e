-- What stands between the two places.
use Rattle.std.proofs.Common.{rules}
use Rattle.minus_state.proofs.copied.extract_selection.Goals as goal

pub returns : goal.returns
returns c = search rules
