-- The opened search prompt, with the mark clamped.
use Rattle.std.proofs.Common.{◌≡◌, sym, ap, subst}
use Rattle.minus_state.proofs.ChangeLaws.{formed_for}
use Rattle.minus_state.specs.Changes.{IsChange}
use Rattle.minus_state.specs.Control.{Control}
use Rattle.minus_state.specs.ClampedMark.{clamp}
use Rattle.minus_state.specs.Prompting.{opened}
use Rattle.minus_state.specs.States.{control_of}
use Rattle.minus_commands.specs.EvHandler.{io_left}
use Rattle.minus_commands.specs.declared.commands.IoCommand.{IoCommand}
use Rattle.minus_commands.specs.declared.commands.IoCommand.TheVariants.{FetchSearchQuery}
use Rattle.minus_commands.proofs.OutcomeLaws.{clamped_change}
use Rattle.minus_commands.proofs.ev_handler.io_change.Goals as goal

opens_by_hand : (Q K : Type 0) (c : Control) (io : IoCommand) → io ≡ FetchSearchQuery → clamp (opened c c.mode) ≡ io_left Q K c io
opens_by_hand Q K c io is = sym (ap (λ (i : IoCommand). io_left Q K c i) is)

pub returns-in_ok-change-in-FetchSearchQuery-clause-leads : goal.returns-in_ok-change-in-FetchSearchQuery-clause-leads
returns-in_ok-change-in-FetchSearchQuery-clause-leads g c f =
    let s = c.args.state.now in
    let now : Control = control_of s in
    let leads = c.in_ok-change-in-FetchSearchQuery.ensures.next f in
    let after = clamped_change s _ c.clamp.new.self _ f leads (c.clamp.ensures.belongs (formed_for s _ _ f leads).0) in
    subst (λ (k : Control). IsChange now c.clamp.new.self k) (opens_by_hand g.row.P-Condition.Denot g.row.P-Classifier.Denot now c.args.command c.in-FetchSearchQuery.is) after
