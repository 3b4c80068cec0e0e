-- The search prompt stays as it is, and the mark is clamped.
use Rattle.std.proofs.Common.{ap, ◌∙◌}
use Rattle.minus_state.specs.Control.{Control}
use Rattle.minus_state.specs.States.{control_of}
use Rattle.minus_state.specs.declared.change.Change.{Change}
use Rattle.minus_state.proofs.ChangeLaws.{formed_for}
use Rattle.minus_commands.specs.Reads.{wanted_by}
use Rattle.minus_commands.specs.Shapes.{Effect}
use Rattle.minus_commands.specs.Table.{effect_of}
use Rattle.minus_commands.proofs.OutcomeLaws.{clamped_change, unsearched}
use Rattle.minus_commands.proofs.outcome.unmoved.Goals as goal

pub returns-clause-ok : goal.returns-clause-ok
returns-clause-ok g c f =
    let s = c.args.state.now in
    let old : Control = control_of s in
    let e : Effect = effect_of old (wanted_by c.args.request) in
    let formed = c.in_ok-outcome.ensures.formed in
    let leads = unsearched old c.in_ok-outcome.outcome.change e.changed _ (formed.leads f) in
    record {
      leads = clamped_change s _ c.clamp.new.self _ f leads (c.clamp.ensures.belongs (formed_for s _ _ f leads).0);
      redraw = ap (λ (x : Change). x.redraw) c.clamp.ensures.rest ∙ formed.redraw f;
      row_only = formed.row_only;
      moves_to = formed.moves_to f;
      exits = formed.exits;
      copies = formed.copied f;
    }
