-- The rows so far are written.
use Rattle.std.proofs.Common.{◌≡◌, take}
use Rattle.std.specs.List.{flat_map}
use Rattle.minus_term.specs.FullRedraw.{row_ops}
use Rattle.minus_term.specs.Written.{written_all}
use Rattle.minus_state.specs.States.{control_of}
use Rattle.minus.specs.StaticPager.{ended_rows}
use Rattle.minus.proofs.static_pager.fitting_rows.Given as goal

abbrev pub invariant-loop-i : goal.invariant-loop-i
invariant-loop-i l = l.bytes.items ≡ written_all (flat_map row_ops (take l.i (ended_rows (control_of l.state))))
