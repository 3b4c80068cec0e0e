-- The rows so far.
use Rattle.std.proofs.Common.{◌≡◌, ◌+◌, ◌≤◌, length, map, take, drop}
use Rattle.minus_state.specs.Changes.{IsFormedFor}
use Rattle.minus_state.specs.NextTexts.{next_document, next_term}
use Rattle.minus_state.specs.Page.{shown_of}
use Rattle.minus_state.specs.States.{term_of}
use Rattle.minus_state.specs.Showing.{row_text}
use Rattle.minus_state.proofs.state.after.shown_between.Given as goal

abbrev pub invariant-loop-i : goal.invariant-loop-i
invariant-loop-i l =
    (length l.shown.items + l.start ≤ l.i)
    × (IsFormedFor l.state l.change → map row_text l.shown.items ≡ drop l.start (take l.i (drop l.change.mark (shown_of (next_term (term_of l.state) l.change.text) (next_document l.state.screen.document l.change.text) l.change.left l.change.ends))))
