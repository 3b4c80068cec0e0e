-- The drawing of the change that the command leads to.
use Rattle.std.proofs.Common.{◌≡◌, ℕ, sym, ap, subst, ◌∙◌}
use Rattle.minus_term.specs.Written.{written_all}
use Rattle.minus_state.specs.Control.{Control}
use Rattle.minus_state.specs.NextTexts.{Belongs}
use Rattle.minus_state.specs.States.{control_of}
use Rattle.minus_state.specs.declared.change.NextText.{NextText}
use Rattle.minus_state.specs.declared.change.Redraw.{Redraw}
use Rattle.minus_draw.specs.declared.drawings.Drawing.{Drawing}
use Rattle.minus_draw.specs.Drawings.{ops_of, IsDrawable, drawing_by}
use Rattle.minus_commands.specs.EvHandler.{io_left, io_redraw}
use Rattle.minus_commands.specs.Reads.{io_wanted}
use Rattle.minus_commands.specs.Table.{Wanted, drawing_of}
use Rattle.minus_commands.proofs.EventLaws.{io_drawable}
use Rattle.minus_commands.proofs.ev_handler.drawn_io.Goals as goal

pub draw_page-requires : goal.draw_page-requires
draw_page-requires g c = subst (λ (t : NextText). Belongs c.args.state.now.screen.document t) (sym c.in_ok-change.ensures.text) tt

pub returns-clause-bytes : goal.returns-clause-bytes
returns-clause-bytes g c f =
    let old : Control = control_of c.args.state.now in
    let wanted : Wanted g.row.P-Condition.Denot g.row.P-Classifier.Denot = io_wanted c.args.command in
    let new : Control = io_left g.row.P-Condition.Denot g.row.P-Classifier.Denot old c.args.command in
    let change = c.in_ok-change.change in
    let leads = c.in_ok-change.ensures.leads f in
    let drawing : c.of-drawing.result ≡ drawing_of old wanted = c.of-drawing.ensures f ∙ ap (λ (r : Redraw). drawing_by r old change.mark) c.in_ok-change.ensures.redraw ∙ ap (λ (n : ℕ). drawing_by (io_redraw g.row.P-Condition.Denot g.row.P-Classifier.Denot old c.args.command) old n) leads.mark_is in
    let drawable = subst (λ (d : Drawing). IsDrawable d old new) (sym drawing) (io_drawable g.row.P-Condition.Denot g.row.P-Classifier.Denot old new c.args.command) in
    c.in_ok-bytes.ensures.bytes f new leads drawable ∙ ap (λ (d : Drawing). written_all (ops_of d new)) drawing
