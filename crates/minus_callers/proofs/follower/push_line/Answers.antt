-- The step adds the line with its newline.
use Rattle.std.proofs.Common.{◌≡◌, ◌++◌, ℕ, List, rules, subst, string_bytes}
use Rattle.minus.specs.Core.{seen_of}
use Rattle.minus_callers.specs.Follower.{Follows, ended}
use Rattle.minus_callers.proofs.StepLaws.{still_follows}
use Rattle.minus_callers.proofs.follower.push_line.Goals as goal

pub returns : goal.returns
returns g c = λ text follows.
    let bytes : string_bytes c.in_ok-text.text ≡ ended c.args.line.now = search rules in
    subst (λ (more : List ℕ). Follows (text ++ more) (seen_of c.step.new.self)) bytes
    (still_follows _ _ _ _ _ _ text _ c.in_ok-step.ensures.step.step follows)
