-- The texts so far are written.
use Rattle.std.proofs.Common.{◌≡◌, ◌++◌, take, drop}
use Rattle.std.specs.List.{flat_map}
use Rattle.minus_term.specs.FullRedraw.{row_ops}
use Rattle.minus_term.specs.Written.{written_all}
use Rattle.minus_text.specs.Document.{rows_of}
use Rattle.minus_text.specs.Views.{viewed}
use Rattle.minus_state.proofs.writing.write_texts.Given as goal

abbrev pub invariant-loop-i : goal.invariant-loop-i
invariant-loop-i l = l.out.items ≡ l.fn.out.items ++ written_all (flat_map row_ops (drop l.first (take l.i (rows_of (viewed l.view).document))))
