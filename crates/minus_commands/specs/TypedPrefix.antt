-- Which requests let the typed prefix go.
use Rattle.std.specs.Prelude.{Bool, true, false}
use Rattle.minus_commands.specs.Table.{Wanted, types, hands_over}

-- whether the typed prefix goes with it, where an event asks for it: not with a character that is typed; no event
-- registers anything
abbrev pub lets_prefix_go : {Q K : Type 0} → Wanted Q K → Bool
lets_prefix_go (types character) = false
lets_prefix_go (hands_over handing) = false
lets_prefix_go w = true
