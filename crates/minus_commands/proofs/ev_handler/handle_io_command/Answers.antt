-- The change is in its place, and its drawing is written; the hook of the end is due where the mark was moved and the
-- page shows an end.
use Rattle.std.proofs.Common.{◌≡◌, Bool, Option, is_some, refl, ap, subst, ◌∙◌}
use Rattle.minus_term.specs.declared.hooks.Hook.{Hook}
use Rattle.minus_state.specs.Control.{Control}
use Rattle.minus_state.specs.States.{control_of}
use Rattle.minus_commands.specs.Callbacks.{callbacks_of, CallsHook}
use Rattle.minus_commands.specs.EvHandler.{io_left, is_io_move}
use Rattle.minus_commands.specs.Reads.{io_wanted}
use Rattle.minus_commands.specs.Table.{Wanted, effect_of, hook_after, end_hook, is_at_end}
use Rattle.minus_commands.specs.declared.commands.IoCommand.{IoCommand}
use Rattle.minus_commands.specs.declared.commands.IoCommand.TheVariants.{SetUpperMark}
use Rattle.minus_commands.proofs.ev_handler.handle_io_command.Goals as goal

pub returns-clause-done : goal.returns-clause-done
returns-clause-done g c = record {
  control = λ f. ap (λ p. control_of p.state) c.call_due.ensures.rest ∙ c.in_ok-place.ensures.control _ f (c.in_ok-change.ensures.leads f);
  drawn = (_, λ f. c.deref.ensures.value ∙ c.in_ok-change.ensures.bytes f, c.in_default.ensures.ok);
  stays = c.in_default.ensures.stays;
  settled = c.in_default.ensures.settled;
}

moves_as : (Q K : Type 0) (c : Control) (io : IoCommand) → is_io_move io ≡ is_some (effect_of {Q = Q} {K = K} c (io_wanted io)).moves_to
moves_as Q K c (SetUpperMark mark) = refl
moves_as Q K c io = refl

pub returns-clause-called : goal.returns-clause-called
returns-clause-called g c formed =
    let old : Control = control_of c.args.parts.now.state in
    let wanted : Wanted g.row.P-Condition.Denot g.row.P-Classifier.Denot = io_wanted c.args.command in
    let left : Control = io_left g.row.P-Condition.Denot g.row.P-Classifier.Denot old c.args.command in
    let control : control_of c.place.new.self ≡ left = c.in_ok-place.ensures.control left formed (c.in_ok-change.ensures.leads formed) in
    let placed = c.in_ok-place.ensures.formed left formed (c.in_ok-change.ensures.leads formed) in
    let moves = c.is_move-is_move.ensures ∙ moves_as g.row.P-Condition.Denot g.row.P-Classifier.Denot old c.args.command in
    let due : c.end_hook-hook.result ≡ hook_after old wanted = c.end_hook-hook.ensures placed ∙ ap (λ (b : Bool). end_hook b (is_at_end (control_of c.place.new.self))) moves ∙ ap (λ (k : Control). end_hook (is_some (effect_of old wanted).moves_to) (is_at_end k)) control in
    subst (λ (h : Option Hook). CallsHook h (callbacks_of c.args.parts.now) (callbacks_of c.call_due.new.parts)) due c.call_due.ensures.called
