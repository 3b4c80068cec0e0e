-- The blank rows so far are written.
use Rattle.std.proofs.Common.{◌≡◌, ◌++◌, []}
use Rattle.minus_term.specs.Append.{rows_anew}
use Rattle.minus_term.specs.Written.{written_all}
use Rattle.minus_draw.proofs.append_drawing.clear_rows.Given as goal

abbrev pub invariant-loop-i : goal.invariant-loop-i
invariant-loop-i l = l.out.items ≡ l.fn.out.items ++ written_all (rows_anew l.first [] l.i)
