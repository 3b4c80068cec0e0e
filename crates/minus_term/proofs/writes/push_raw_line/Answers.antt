-- The three operations, one after another.
use Rattle.std.proofs.Common.{◌++◌, [], ◌∷◌, List, ℕ, ap, ◌∙◌}
use Rattle.minus_term.specs.Written.{written}
use Rattle.minus_term.proofs.WrittenLaws.{append-three}
use Rattle.minus_term.proofs.writes.push_raw_line.Goals as goal

pub returns : goal.returns
unfolding written
returns c =
    let texts = c.in_ok-write_op-2.ensures.ok ∙ ap (λ (l : List ℕ). l ++ c.args.line.now) c.in_ok-write_op.ensures.ok in
    c.in_ok-write_op-3.ensures.ok ∙ ap (λ (l : List ℕ). l ++ 10 ∷ []) texts ∙ append-three c.args.bytes.now.items c.args.before.now c.args.line.now (10 ∷ [])
