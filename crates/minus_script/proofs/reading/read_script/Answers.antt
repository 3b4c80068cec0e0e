use Rattle.std.proofs.Common.{rules, sym, ap, subst, ◌∙◌}
use Rattle.std.specs.Io.KnownBytes.{Consumes}
use Rattle.std.proofs.KnownBytes.{Consumes-trans, Consumes-kept}
use Rattle.std.proofs.lemmas.Result.{err_from_is_err_and}
use Rattle.minus_script.proofs.reading.read_script.Goals as goal
use Rattle.minus_script.proofs.reading.read_script.Goals.{in-Ok+in_ok-extend_from_slice-in-Ok, in-Err+else-ne}

pub returns-in_err-extend_from_slice-in-Ok-clause-lost :
    goal.returns-in_err-extend_from_slice-in-Ok-clause-lost
returns-in_err-extend_from_slice-in-Ok-clause-lost g c =
    let p = err_from_is_err_and c.from_residual.result c.from_residual.ensures.1 in
    rw p.1 (_, Consumes-trans _ _ _ _ _ c.loop.invariant c.in-Ok.ensures.bytes.0)

pub returns-then-ne-clause-end : goal.returns-then-ne-clause-end
returns-then-ne-clause-end g c = search rules

pub returns-then-ne-clause-retried : goal.returns-then-ne-clause-retried
returns-then-ne-clause-retried g c = search rules

pub loop-preserved : goal.loop-preserved
loop-preserved g c = elim c.match-read.branch [
  | in-Ok+in_ok-extend_from_slice-in-Ok w ↦ subst (λ l. Consumes (g.R.Read.remaining c.args.reader.now) (g.R.Read.remaining c.read.new.self) l) (sym (ap (λ v. v.items) w.script-is ∙ w.in_ok-extend_from_slice-in-Ok.ensures.items)) (Consumes-trans _ _ _ _ _ c.loop.invariant w.in-Ok.ensures.bytes.0)
  | in-Err+else-ne w ↦ subst (λ v. Consumes (g.R.Read.remaining c.args.reader.now) (g.R.Read.remaining c.read.new.self) v.items) (sym w.script-is) (Consumes-kept _ _ _ _ c.loop.invariant w.in-Err.ensures.bytes)
]
