-- The spaces so far, and fewer left with each piece.
use Rattle.std.proofs.Common.{◌≡◌, ◌≤◌, ◌-◌, ◌++◌, replicate}
use Rattle.minus_text.proofs.spaces.push_spaces.Given as goal

abbrev pub invariant-loop-left : goal.invariant-loop-left
invariant-loop-left g l = (l.left ≤ l.count) × (g.T.PushText.bytes l.out ≡ g.T.PushText.bytes l.fn.out ++ replicate (l.count - l.left) 32)

abbrev pub decreases-loop-left : goal.decreases-loop-left
decreases-loop-left g l = l.left
