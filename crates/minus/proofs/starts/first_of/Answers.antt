-- The page is drawn in full, by a change that changes nothing.
use Rattle.std.proofs.Common.{[], is_some, map, sym, ap, subst, ◌∙◌, rules}
use Rattle.minus_term.specs.Refusals.{refusal_of}
use Rattle.minus_state.proofs.ChangeLaws.{unchanged}
use Rattle.minus_state.proofs.RefusalLaws.{passed_on}
use Rattle.minus_state.specs.Control.{Control}
use Rattle.minus_state.specs.ShownPrompt.{prompt_row}
use Rattle.minus_state.specs.States.{control_of}
use Rattle.minus_state.specs.declared.state.PagerState.{PagerState}
use Rattle.minus_term.specs.Written.{written_all}
use Rattle.minus_draw.specs.Drawings.{whole_page}
use Rattle.minus_commands.specs.Reads.{wanted_of}
use Rattle.minus_commands.specs.WaitingRegistrations.{CanTakeAll}
use Rattle.minus.specs.Starts.{IsUntaken, IsFormRefused}
use Rattle.minus.proofs.StartLaws.{untaken, first_search, first_is_clamped}
use Rattle.minus.proofs.starts.first_of.Goals as goal

pub draw_move-requires-clause-closed : goal.draw_move-requires-clause-closed
draw_move-requires-clause-closed g c = ap (λ (k : Control). k.search) c.in_ok-state.ensures.control ∙ first_search c.args.cols c.args.rows (map wanted_of c.args.pager.now.queue.items)

pub draw_move-requires-clause-prompt : goal.draw_move-requires-clause-prompt
draw_move-requires-clause-prompt g c =
    let state = c.in_ok-state.state in
    let same = unchanged state c.redrawn-change.result _ c.redrawn-change.ensures.is in
    c.deref.ensures ∙ c.in_ok-prompt_row.ensures.prompt (control_of state) c.in_ok-state.ensures.formed same

pub returns-clause-begins : goal.returns-clause-begins
returns-clause-begins g c = record { can = c.in_ok-check_start.ensures.can; takes = subst (λ queue. CanTakeAll [] (map wanted_of queue)) c.waiting.ensures c.in_ok-check_waiting.ensures.can }

pub invariant_of-result : goal.invariant_of-result
invariant_of-result g c =
    let state = c.in_ok-state.state in
    let waiting = map wanted_of c.args.pager.now.queue.items in
    let same = unchanged state c.redrawn-change.result _ c.redrawn-change.ensures.is in
    let closed = ap (λ (k : Control). k.search) c.in_ok-state.ensures.control ∙ first_search c.args.cols c.args.rows waiting in
    let kept = ap (λ p. p.state) c.reserve.ensures.rest ∙ c.keeping-parts.ensures.state in
    record {
      formed = rw kept c.in_ok-state.ensures.formed;
      clamped = rw kept (first_is_clamped c.args.cols c.args.rows waiting (control_of state) c.in_ok-state.ensures.control);
      prompted = c.in_ok-prompt_row.ensures.prompt (control_of state) c.in_ok-state.ensures.formed same ∙ ap (λ (s : PagerState). prompt_row (control_of s)) (sym kept);
      drawn = c.in_ok-prompt_row.ensures.bytes c.in_ok-state.ensures.formed (control_of state) same tt ∙ ap (λ (s : PagerState). written_all (whole_page (control_of s))) (sym kept);
      closed = rw kept (ap is_some closed);
      moved = rw kept c.in_ok-movement.ensures.drawn;
      marked = rw kept c.in_ok-movement.ensures.mark;
    }

pub returns-in_err-reserve-clause-refused : goal.returns-in_err-reserve-clause-refused
returns-in_err-reserve-clause-refused g c =
    let can = c.in_ok-check_start.ensures.can in
    let from = c.from_residual-in_err-reserve.ensures in
    search (rules, can, from)

pub returns-in_err-check_waiting-clause-refused : goal.returns-in_err-check_waiting-clause-refused
returns-in_err-check_waiting-clause-refused g c =
    let e = c.in_err-check_waiting.field-0.0 in
    let refused = subst (λ queue. IsUntaken (refusal_of e) [] (map wanted_of queue)) c.waiting.ensures c.in_err-check_waiting.ensures.refused in
    passed_on c.from_residual-in_err-check_waiting.result (λ x. IsFormRefused (refusal_of x) c.args.mode c.args.cols c.args.rows (map wanted_of c.args.pager.now.queue.items)) e c.from_residual-in_err-check_waiting.ensures
    (untaken (refusal_of e) c.args.mode c.args.cols c.args.rows (map wanted_of c.args.pager.now.queue.items) c.in_ok-check_start.ensures.can refused)
