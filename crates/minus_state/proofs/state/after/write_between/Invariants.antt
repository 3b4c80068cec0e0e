-- The rows so far are written.
use Rattle.std.proofs.Common.{◌≡◌, ◌++◌, take, drop}
use Rattle.std.specs.List.{flat_map}
use Rattle.minus_term.specs.FullRedraw.{row_ops}
use Rattle.minus_term.specs.Written.{written_all}
use Rattle.minus_state.specs.Changes.{IsFormedFor}
use Rattle.minus_state.specs.NextTexts.{next_document, next_term}
use Rattle.minus_state.specs.Page.{shown_of}
use Rattle.minus_state.specs.States.{term_of}
use Rattle.minus_state.proofs.state.after.write_between.Given as goal

abbrev pub invariant-loop-i : goal.invariant-loop-i
invariant-loop-i l =
    IsFormedFor l.state l.change → l.out.items ≡ l.fn.out.items ++ written_all (flat_map row_ops (drop l.start (take l.i (drop l.change.mark (shown_of (next_term (term_of l.state) l.change.text) (next_document l.state.screen.document l.change.text) l.change.left l.change.ends)))))
