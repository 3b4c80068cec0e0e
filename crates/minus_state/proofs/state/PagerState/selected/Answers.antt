-- It begins at the end there.
use Rattle.std.proofs.Common.{is_some, Option, ap, subst, ◌∙◌}
use Rattle.minus_state.specs.declared.selection.Selection.{Selection}
use Rattle.minus_state.specs.Control.{Control}
use Rattle.minus_state.specs.Changes.{IsChange}
use Rattle.minus_state.specs.States.{control_of}
use Rattle.minus_state.specs.Selecting.{ends_begun}
use Rattle.minus_state.specs.RedrawExtent.{whole_where}
use Rattle.minus_state.proofs.state.PagerState.selected.Goals as goal

pub returns-clause-next : goal.returns-clause-next
returns-clause-next c = λ f.
    let s : Control = control_of c.args.self.now in
    subst (λ (o : Option Selection). IsChange s c.begun.result (record s { ends = ends_begun s.ends o })) (c.end_at.ensures f) (c.begun.ensures.next f)

pub returns-clause-redraw : goal.returns-clause-redraw
returns-clause-redraw c = λ f. c.begun.ensures.redraw ∙ ap (λ (o : Option Selection). whole_where (is_some o)) (c.end_at.ensures f)
