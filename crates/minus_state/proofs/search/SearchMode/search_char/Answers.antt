use Rattle.std.proofs.Common.{rules}
use Rattle.minus_state.proofs.search.SearchMode.search_char.Goals as goal

pub returns-in-Reverse : goal.returns-in-Reverse
returns-in-Reverse c = search rules
