-- The rows so far are written.
use Rattle.std.proofs.Common.{◌≡◌, ◌++◌, map, take}
use Rattle.std.specs.List.{flat_map}
use Rattle.minus_term.specs.Written.{written_all}
use Rattle.minus_term.specs.FullRedraw.{row_ops}
use Rattle.minus_term.proofs.full_redraw.push_rows.Given as goal

abbrev pub invariant-loop-row : goal.invariant-loop-row
invariant-loop-row g l = l.out.items ≡ l.fn.out.items ++ written_all (flat_map row_ops (map g.R.AsStr.text (take l.row-index l.shown)))
