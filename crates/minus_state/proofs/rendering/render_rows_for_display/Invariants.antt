-- The rows so far, and those to come.
use Rattle.std.proofs.Common.{◌≡◌, ◌-◌, ◌++◌, Option, map, string_bytes}
use Rattle.regex.specs.Patterns.{Re}
use Rattle.minus_text.specs.Searched.{IsFoundBetween}
use Rattle.minus_text.specs.Views.{viewed}
use Rattle.minus_state.specs.Selection.{ends_in_order}
use Rattle.minus_state.specs.ShownRow.{rows_from}
use Rattle.minus_state.proofs.rendering.render_rows_for_display.Given as goal

abbrev pub invariant-loop-i : goal.invariant-loop-i
invariant-loop-i l =
    (term : Option Re) → IsFoundBetween term (viewed l.rendering.view) l.start l.end
    → map string_bytes l.rows.items ++ rows_from term (viewed l.rendering.view).document l.rendering.left_mark (ends_in_order l.rendering.ends) l.i (l.i-end - l.i)
    ≡ rows_from term (viewed l.rendering.view).document l.rendering.left_mark (ends_in_order l.rendering.ends) l.start (l.i-end - l.start)
