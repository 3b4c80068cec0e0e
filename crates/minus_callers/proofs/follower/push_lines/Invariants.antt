-- The lines so far stand behind the text, which is followed.
use Rattle.std.proofs.Common.{◌≡◌, ◌++◌, ℕ, List, None, map, take, flat_map, Bor}
use Rattle.minus.specs.Core.{seen_of}
use Rattle.minus.specs.Waiting.{IsReady}
use Rattle.minus_callers.specs.Follower.{Follows, ended}
use Rattle.minus_callers.proofs.follower.push_lines.Given as goal

abbrev pub invariant-loop-line : goal.invariant-loop-line
invariant-loop-line g l =
    (seen_of l.fn.session).control.help ≡ None → IsReady (seen_of l.fn.session)
    → Follows ((seen_of l.fn.session).control.text ++ flat_map ended (map (λ (t : Bor (List ℕ)). t.now) (take l.line-index l.lines))) (seen_of l.session)
