-- The move, and the bytes.
use Rattle.std.proofs.Common.{ℕ, List, ◌++◌, ap, ◌∙◌, append_assoc}
use Rattle.minus_term.specs.Operations.{GoTo}
use Rattle.minus_term.specs.Written.{written}
use Rattle.minus_term.proofs.draw.push_at_row.Goals as goal

pub returns : goal.returns
returns c =
    let then : List ℕ = c.args.then.now in
    c.in_ok-push_bytes.ensures.ok ∙ ap (λ (bs : List ℕ). bs ++ then) c.in_ok-push_go_to.ensures.ok ∙ append_assoc c.args.out.now.items (written (GoTo 0 c.args.row)) then
