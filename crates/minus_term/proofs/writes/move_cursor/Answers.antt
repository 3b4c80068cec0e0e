-- The bytes that were formed are the operation's.
use Rattle.std.proofs.Common.{◌++◌, List, ℕ, ap, ◌∙◌}
use Rattle.minus_term.specs.Operations.{GoTo}
use Rattle.minus_term.specs.Written.{written}
use Rattle.minus_term.proofs.WritesLaws.{formed_taken, formed_refused}
use Rattle.minus_term.proofs.writes.move_cursor.Goals as goal

pub returns-clause-ok : goal.returns-clause-ok
returns-clause-ok g c =
    let is = c.as_slice.ensures.value ∙ c.in_ok-write_op.ensures.ok ∙ ap (λ (l : List ℕ). l ++ written (GoTo c.args.x c.args.y)) c.new-bytes.ensures.items in
    formed_taken _ _ _ _ _ is c.write_formed.ensures.ok

pub returns-clause-err : goal.returns-clause-err
returns-clause-err g c =
    let is = c.as_slice.ensures.value ∙ c.in_ok-write_op.ensures.ok ∙ ap (λ (l : List ℕ). l ++ written (GoTo c.args.x c.args.y)) c.new-bytes.ensures.items in
    formed_refused g.W.OutputSink.seen _ _ _ _ _ is c.write_formed.ensures.err
