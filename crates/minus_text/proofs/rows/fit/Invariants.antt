-- Whatever division completes the rest completes the whole.
use Rattle.std.proofs.Common.{length, ◌-◌, ◌≡◌, ◌≤◌, List, drop, take, ◌++◌}
use Rattle.std.specs.List.{sum_by}
use Rattle.minus_text.specs.declared.pieces.Measured.{Measured}
use Rattle.minus_text.specs.Runs.{AreRuns}
use Rattle.minus_text.specs.MeasuredPieces.{size, fits_measured, measured_places}
use Rattle.minus_text.proofs.rows.fit.Given as goal

abbrev pub invariant-loop-done : goal.invariant-loop-done
invariant-loop-done l = record {
  within : l.done ≤ length l.pieces;
  at : l.at ≡ sum_by size (take l.done l.pieces);
  rest : (more : List (List Measured)) → AreRuns (fits_measured l.cols) (drop l.done l.pieces) more
      → (runs : List (List Measured)) × AreRuns (fits_measured l.cols) l.pieces runs × (l.rows.items ++ measured_places l.at more ≡ measured_places 0 runs);
}

abbrev pub decreases-loop-done : goal.decreases-loop-done
decreases-loop-done l = length l.pieces - l.done
