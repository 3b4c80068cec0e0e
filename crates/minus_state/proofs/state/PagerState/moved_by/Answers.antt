-- What the move tells is whether the cursor stays.
use Rattle.std.proofs.Common.{◌≡◌, None, sym, subst, ◌∙◌}
use Rattle.minus_state.specs.declared.search.query.Fed.{Fed}
use Rattle.minus_state.specs.declared.search.query.Fed.TheVariants as told
use Rattle.minus_state.specs.Changes.{Leads}
use Rattle.minus_state.specs.Control.{Control}
use Rattle.minus_state.specs.PromptKeys.{left_by, told_by}
use Rattle.minus_state.specs.OpenPrompts.{fed}
use Rattle.minus_state.specs.OpenSearches.{OpenSearch, seen_search}
use Rattle.minus_state.specs.States.{control_of}
use Rattle.minus_state.proofs.PromptKeysLaws.{told_still, told_goes, moves_own}
use Rattle.minus_state.proofs.state.PagerState.moved_by.Goals as goal

pub returns-then-cursor_after-cursor-clause-next : goal.returns-then-cursor_after-cursor-clause-next
returns-then-cursor_after-cursor-clause-next c =
    let k : Control = control_of c.args.self.now in
    let o : OpenSearch = seen_search c.args.search.now in
    let same = sym c.cursor_after.ensures.value ∙ c.if-cursor_after-cursor.true ∙ c.cursor.ensures.value in
    let tells : told_by o c.args.edit ≡ told.Unchanged = told_still o.prompt.editor c.args.edit c.requires.moves same in
    subst (λ (t : Fed). Leads c.args.self.now c.redrawn.result (left_by t k o.edited (fed o.prompt c.args.edit) None)) (sym tells) c.redrawn.ensures.next

pub returns-clause-next : goal.returns-clause-next
returns-clause-next c =
    let k : Control = control_of c.args.self.now in
    let o : OpenSearch = seen_search c.args.search.now in
    let tells : told_by o c.args.edit ≡ told.Moved = told_goes o.prompt.editor c.args.edit c.requires.moves (λ is. c.if-cursor_after-cursor.false (c.cursor_after.ensures.value ∙ is ∙ sym c.cursor.ensures.value)) in
    let leads = subst (Leads c.args.self.now c.cursor_moved.result) (moves_own k o c.args.edit c.requires.own c.requires.moves) c.cursor_moved.ensures.next in
    subst (λ (t : Fed). Leads c.args.self.now c.cursor_moved.result (left_by t k o.edited (fed o.prompt c.args.edit) None)) (sym tells) leads
