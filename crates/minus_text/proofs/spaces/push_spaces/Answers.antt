-- Each piece is of spaces.
use Rattle.std.proofs.Common.{◌≡◌, ◌≤◌, ◌-◌, ℕ, List, take, replicate, ap, ◌∙◌, arith}
use Rattle.minus_text.proofs.SpacesLaws.{spaces_cut, spaces_more}
use Rattle.minus_text.proofs.spaces.push_spaces.Goals as goal

pub range-requires-clause-end_boundary : goal.range-requires-clause-end_boundary
range-requires-clause-end_boundary g c = spaces_cut 80 c.min-piece.result (omega (arith, c.min-piece.ensures))

pub loop-left-preserved : goal.loop-left-preserved
loop-left-preserved g c =
    let few : c.min-piece.result ≤ 80 = omega (arith, c.min-piece.ensures) in
    let some : c.min-piece.result ≤ c.loop-left.left = omega (arith, c.min-piece.ensures) in
    let spaces : List ℕ = replicate 80 32 in
    let from_start : c.min-piece.result - 0 ≡ c.min-piece.result = omega arith in
    let cut = c.range.ensures.value ∙ ap (λ (n : ℕ). take n spaces) from_start in
    (omega (arith, c.loop-left.invariant.0), spaces_more (g.T.PushText.bytes c.args.out.now) (g.T.PushText.bytes c.loop-left.out) (g.T.PushText.bytes c.push_text.new.self) c.range.result.now c.args.count c.loop-left.left 80 c.min-piece.result c.loop-left.invariant.0 some few c.loop-left.invariant.1 cut c.in_ok-push_text.ensures)
