-- One line more is followed.
use Rattle.std.proofs.Common.{◌≡◌, ◌++◌, ℕ, List, Bor, length, map, take, flat_map, subst, sym, ap, ◌∙◌, arith}
use Rattle.std.proofs.Math.Seq.{take-length}
use Rattle.std.proofs.lemmas.List.{append-nil}
use Rattle.minus.specs.Core.{seen_of}
use Rattle.minus_callers.specs.Follower.{Follows, ended}
use Rattle.minus_callers.proofs.StepLaws.{one_more}
use Rattle.minus_callers.proofs.follower.push_lines.Goals as goal

pub loop-line-init : goal.loop-line-init
loop-line-init g c = λ closed ready.
    subst (λ (text : List ℕ). Follows text (seen_of c.follow.new.session)) (sym (append-nil (seen_of c.args.session.now).control.text)) (c.in_ok-follow.ensures closed ready)

pub loop-line-preserved : goal.loop-line-preserved
loop-line-preserved g c = λ closed ready.
    subst (λ (text : List ℕ). Follows text (seen_of c.push_line.new.session))
    (one_more (λ (t : Bor (List ℕ)). t.now) (seen_of c.args.session.now).control.text c.args.lines.now c.loop-line.line-index _ c.loop-line-test.true)
    (c.in_ok-push_line.ensures _ (c.loop-line.invariant closed ready))

pub returns : goal.returns
returns g c = λ closed ready.
    let lines : List (Bor (List ℕ)) = c.args.lines.now in
    let end : c.loop-line.line-index ≡ length lines = omega (arith, c.loop-line-test.false, c.loop-line.auto.line-index-end) in
    let all : take c.loop-line.line-index lines ≡ lines = ap (λ (n : ℕ). take n lines) end ∙ take-length lines in
    subst (λ (xs : List (Bor (List ℕ))). Follows ((seen_of c.args.session.now).control.text ++ flat_map ended (map (λ (t : Bor (List ℕ)). t.now) xs)) (seen_of c.loop-line.session)) all (c.loop-line.invariant closed ready)
