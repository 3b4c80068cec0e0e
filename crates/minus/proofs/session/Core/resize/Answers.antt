-- A resize by the table, which is drawn whole.
use Rattle.std.proofs.Common.{sym, ap, subst, ◌∙◌}
use Rattle.minus_term.specs.Written.{written_all}
use Rattle.minus_state.specs.Control.{Control}
use Rattle.minus_state.specs.declared.change.Redraw.{Redraw}
use Rattle.minus.specs.Core.{seen_of}
use Rattle.minus_draw.specs.Drawings.{whole_page, ops_of_step, IsDrawable, drawing_by}
use Rattle.minus.specs.Seen.{Seen}
use Rattle.minus_commands.specs.Table.{effect_of, changed_by, resizes}
use Rattle.minus.proofs.session.Core.resize.Goals as goal

pub returns-clause-seen : goal.returns-clause-seen
returns-clause-seen g c =
    let old : Seen _ _ = seen_of c.args.self.now in
    let new : Control = changed_by (effect_of {Q = g.row.P-Condition.Denot} {K = g.row.P-Classifier.Denot} old.control (resizes c.args.cols c.args.rows)) in
    c.in_ok-apply.ensures.done new c.in_ok-outcome.ensures.ok.leads

pub returns-clause-drawn : goal.returns-clause-drawn
returns-clause-drawn g c =
    let old : Seen _ _ = seen_of c.args.self.now in
    let new : Control = changed_by (effect_of {Q = g.row.P-Condition.Denot} {K = g.row.P-Classifier.Denot} old.control (resizes c.args.cols c.args.rows)) in
    let o = c.in_ok-outcome.ensures.ok in
    let mark = c.in_ok-outcome.outcome.change.mark in
    let drawable = subst (λ (r : Redraw). IsDrawable (drawing_by r old.control mark) old.control new) (sym o.redraw) tt in
    let left = c.in_ok-apply.ensures.done new o.leads in
    c.in_ok-apply.ensures.drawn new o.leads drawable ∙ ap (λ (r : Redraw). written_all (ops_of_step (drawing_by r old.control mark) old.control new)) o.redraw
    ∙ sym (ap (λ (s : Seen _ _). written_all (whole_page s.control)) left)
