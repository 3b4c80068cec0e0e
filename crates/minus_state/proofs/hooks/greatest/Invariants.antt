-- So far the greatest id is that of what was passed.
use Rattle.std.proofs.Common.{◌≡◌, take}
use Rattle.minus_state.specs.HookIds.{ids_of, greatest}
use Rattle.minus_state.proofs.hooks.greatest.Given as goal

abbrev pub invariant-loop-entry : goal.invariant-loop-entry
invariant-loop-entry l = l.greatest ≡ greatest (ids_of (take l.entry-index l.ids) l.hook)
