-- The first page is drawn whole, and the first move over it, or one of them is broken off.
use Rattle.std.proofs.Common.{ℕ, refl, ap, ◌∙◌, map}
use Rattle.minus_term.specs.Refusals.{refusal_of}
use Rattle.minus_term.proofs.SinkLaws.{Stays-trans}
use Rattle.minus_state.specs.Control.{Control}
use Rattle.minus_state.specs.States.{control_of}
use Rattle.minus_commands.specs.Reads.{told_of}
use Rattle.minus.proofs.StartLaws.{none_open, start_broken, move_refused, page_and_move, Stays-rises}
use Rattle.minus.proofs.StepLaws.{seen_alike}
use Rattle.minus.proofs.init.open.Goals as goal

pub returns-in-Err-clause-refused : goal.returns-in-Err-clause-refused
returns-in-Err-clause-refused g c =
    let first = c.args.first in
    let k : Control = control_of first.parts.state in
    let shown = c.in-Err.ensures in
    record {
      refused = shown.refused;
      gone = refl;
      broken = start_broken (refusal_of c.in-Err.cause) _ _ _ _ _ _ _ k (none_open k.search first.closed) first.parts.state.sized.some_rows c.deref.ensures.value first.drawn shown.refused shown.broken;
      rises = shown.rises;
      untouched = shown.untouched;
    }

pub returns-in-Err-draw-clause-refused : goal.returns-in-Err-draw-clause-refused
returns-in-Err-draw-clause-refused g c =
    let first = c.args.first in
    let k : Control = control_of first.parts.state in
    let shown = c.in_default.ensures in
    let off = c.in-Err-draw.ensures in
    let r = move_refused (refusal_of c.in-Err-draw.cause) _ _ _ _ _ _ _ _ _ k off.cause shown.terminal (none_open k.search first.closed) first.clamped first.parts.state.sized.some_rows (c.deref.ensures.value ∙ first.drawn) (c.deref-2.ensures.value ∙ first.moved) shown.ok shown.stays off.broken off.some in
    record {
      refused = r.0;
      gone = refl;
      broken = r.1;
      rises = λ fault. Stays-rises _ _ _ shown.stays off.rises;
      untouched = λ none. absurd (none r.2);
    }

pub returns-clause-opened : goal.returns-clause-opened
returns-clause-opened g c =
    let first = c.args.first in
    let k : Control = control_of first.parts.state in
    let shown = c.in_default.ensures in
    let moved = c.in_default-draw.ensures in
    let rest = c.call_hook.ensures.rest in
    let control = ap (λ p. let r : Control = record (control_of p.state) { mark = first.mark } in r) rest ∙ ap (λ (n : ℕ). let r : Control = record k { mark = n } in r) first.marked in
    record {
      on_terminal = shown.terminal;
      begins = seen_alike _ _ control (ap (λ p. p.classifier) rest) (ap (λ p. p.condition) rest) c.call_hook.ensures.kept refl (ap (map told_of) c.new.ensures.items) refl;
      drawn = page_and_move _ _ _ _ _ k (none_open k.search first.closed) first.clamped first.parts.state.sized.some_rows (c.deref.ensures.value ∙ first.drawn) (c.deref-2.ensures.value ∙ first.moved) shown.ok moved.ok;
      stays = Stays-trans _ _ _ shown.stays moved.stays;
    }
