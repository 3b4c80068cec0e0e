-- The row begins with the byte or before it, if it is not the first one of all, and the one behind does not.
use Rattle.std.proofs.Common.{◌≡◌, ◌-◌, ◌<◌, ◌⊎◌, true, false, length}
use Rattle.minus_text.specs.Document.{rows_of}
use Rattle.minus_app.specs.RowOfByte.{begins_by}
use Rattle.minus_app.proofs.view.row_of_byte.row_at.Given as goal

abbrev pub invariant-loop-behind : goal.invariant-loop-behind
invariant-loop-behind l = record {
  order : l.row < l.behind;
  begins : (l.row ≡ 0) ⊎ (begins_by l.state l.byte l.row ≡ true);
  ends : l.behind < length (rows_of l.state.screen.document) → begins_by l.state l.byte l.behind ≡ false;
}

abbrev pub decreases-loop-behind : goal.decreases-loop-behind
decreases-loop-behind l = l.behind - l.row
