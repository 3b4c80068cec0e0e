-- One more piece on the row, or none.
use Rattle.std.proofs.Common.{◌<◌, length, arith, sym}
use Rattle.std.proofs.lemmas.List.Sums.{sum_by_more}
use Rattle.minus_text.specs.declared.pieces.Measured.{Measured}
use Rattle.minus_text.specs.MeasuredPieces.{size}
use Rattle.minus_text.proofs.RowsMeasured.{columns_more, gap_more, end_of_more, columns_none, gap_none, run_before}
use Rattle.minus_text.proofs.rows.first_run.Goals as goal
use Rattle.minus_text.proofs.rows.first_run.Goals.{then-i-eq0, else-i-eq0+in-Some}

pub loop-i-preserved : goal.loop-i-preserved
loop-i-preserved c =
    let d : Measured = record { len = 0; width = 0; spaces = 0 } in
    let lt : c.loop-i.i < length c.args.pieces.now = c.loop-i-test.true in
    let columns = columns_more c.args.pieces.now c.loop-i.i d lt in
    record {
      columns = elim c.if-i-eq0.branch [
        | then-i-eq0 w ↦ omega (arith, columns_none c.args.pieces.now c.loop-i.i (omega arith), gap_none c.args.pieces.now c.loop-i.i (omega arith), columns)
        | else-i-eq0+in-Some w ↦ omega (arith, columns, w.in-Some.ensures)
      ];
      gap = sym (gap_more c.args.pieces.now c.loop-i.i d lt);
      end = omega (arith, end_of_more c.args.at c.args.pieces.now c.loop-i.i d lt);
      next = omega (arith, sum_by_more size c.args.pieces.now c.loop-i.i d lt);
      seam = omega arith;
      fits = λ l. elim c.if-i-eq0.branch [
        | then-i-eq0 w ↦ absurd (omega arith)
        | else-i-eq0+in-Some w ↦ omega (arith, w.in-Some.ensures)
      ];
    }

pub returns-in-None-clause-run : goal.returns-in-None-clause-run
returns-in-None-clause-run c =
    let d : Measured = record { len = 0; width = 0; spaces = 0 } in
    run_before c.args.cols c.args.pieces.now c.loop-i.i d (omega arith) c.loop-i-test.true (λ l. omega (arith, c.loop-i.invariant.fits l)) (omega (arith, c.in-None.ensures))
