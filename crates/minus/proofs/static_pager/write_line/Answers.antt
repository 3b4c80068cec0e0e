-- The text was written, and a beginning of the newline.
use Rattle.std.proofs.Common.{◌++◌, ℕ, List, subst}
use Rattle.std.specs.Prelude.{codes}
use Rattle.std.specs.Io.KnownBytes.{Appends}
use Rattle.minus_term.specs.Counts.{AppendsFront}
use Rattle.minus_state.proofs.RefusalLaws.{passed_on}
use Rattle.minus.proofs.LoopLaws.{front_join}
use Rattle.minus.proofs.static_pager.write_line.Goals as goal

pub returns-in_err-draw_bytes-clause-err : goal.returns-in_err-draw_bytes-clause-err
returns-in_err-draw_bytes-clause-err g c =
    let seen = g.S.OutputSink.seen in
    passed_on c.from_residual-in_err-draw_bytes.result (λ e. AppendsFront (seen c.args.sink.now).bytes (seen c.draw_bytes.new.out).bytes (c.args.text.now ++ codes "\n")) c.in_err-draw_bytes.field-0.0 c.from_residual-in_err-draw_bytes.ensures
    (front_join _ _ _ _ _ (subst (λ (x : List ℕ). Appends (seen c.args.sink.now).bytes (seen c.write_bytes.new.out).bytes x) c.as_bytes.ensures.value c.in_ok-write_bytes.ensures.ok) c.in_err-draw_bytes.ensures.err)
