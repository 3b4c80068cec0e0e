-- The texts so far are written.
use Rattle.std.proofs.Common.{◌≡◌, ◌++◌, map, take}
use Rattle.minus_term.specs.Append.{rows_anew}
use Rattle.minus_term.specs.Written.{written_all}
use Rattle.minus_state.specs.Showing.{row_text}
use Rattle.minus_draw.proofs.append_drawing.push_texts_anew.Given as goal

abbrev pub invariant-loop-i : goal.invariant-loop-i
invariant-loop-i l = l.out.items ≡ l.fn.out.items ++ written_all (rows_anew l.first (map row_text (take l.i l.texts)) 0)
