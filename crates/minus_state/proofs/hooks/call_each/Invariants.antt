-- The callbacks of other hooks are as they were so far.
use Rattle.std.proofs.Common.{◌≡◌, length}
use Rattle.minus_state.specs.HookIds.{AreOthersKept}
use Rattle.minus_state.proofs.hooks.call_each.Given as goal

abbrev pub invariant-loop-i : goal.invariant-loop-i
invariant-loop-i g l =
    (length l.callbacks ≡ length l.initial.callbacks) × AreOthersKept l.hook l.ids l.initial.callbacks l.callbacks × (l.i-end ≡ length l.ids)
