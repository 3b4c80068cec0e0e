-- The page with the new term is drawn, or broken off.
use Rattle.std.proofs.Common.{Option, ap, subst, sym, ◌∙◌}
use Rattle.std.specs.Option.{option_map}
use Rattle.regex.specs.Patterns.{Re}
use Rattle.regex.specs.Strings.{regex_pattern}
use Rattle.minus_term.specs.Refusals.{Refusal, refusal_of}
use Rattle.minus.specs.Core.{seen_of}
use Rattle.minus.specs.Seen.{Seen}
use Rattle.minus.specs.TermChanges.{RefusesTerm}
use Rattle.minus.specs.declared.status.Status.TheVariants as status
use Rattle.minus.proofs.StartLaws.{redrawn, redraw_broken}
use Rattle.minus_state.proofs.RefusalLaws.{passed_on}
use Rattle.minus.proofs.session.Core.set_term.Goals as goal

pub returns-clause-set : goal.returns-clause-set
returns-clause-set g c =
    let can = c.in_ok-check_exchange.ensures.can in
    let taken = c.in_ok-take_term.ensures in
    let written = c.in_ok-write_drawing.ensures in
    let closed = ap (λ (s : Seen _ _). s.control.search) taken.seen ∙ can.closed in
    let seen = ap seen_of written.rest in
    let drawn = redrawn _ _ _ (seen_of c.take_term.new.self).control closed c.take_term.new.self.parts.state.sized.some_rows taken.drawn written.ok in
    record {
      can = can;
      seen = seen ∙ taken.seen;
      drawn = rw (ap (λ (s : Seen _ _). s.control) seen, ← taken.sink) drawn;
      stays = rw (← taken.sink) written.stays;
    }

pub returns-in_err-write_drawing-clause-refused : goal.returns-in_err-write_drawing-clause-refused
returns-in_err-write_drawing-clause-refused g c =
    let can = c.in_ok-check_exchange.ensures.can in
    let taken = c.in_ok-take_term.ensures in
    let broken = c.in_err-write_drawing.ensures in
    let seen = g.S.OutputSink.seen in
    let e = c.in_err-write_drawing.field-0.0 in
    let term : Option Re = option_map regex_pattern c.args.term in
    let closed = ap (λ (s : Seen _ _). s.control.search) taken.seen ∙ can.closed in
    let begun = redraw_broken _ _ _ (seen_of c.take_term.new.self).control closed c.take_term.new.self.parts.state.sized.some_rows taken.drawn broken.front in
    passed_on c.from_residual-in_err-write_drawing.result (λ x. RefusesTerm (refusal_of x) seen c.args.self.now term c.write_drawing.new.self) e c.from_residual-in_err-write_drawing.ensures
    (subst (λ (r : Refusal). RefusesTerm r seen c.args.self.now term c.write_drawing.new.self) (sym broken.cause) (record {
      can = can;
      seen = broken.fails ∙ ap (λ (s : Seen _ _). let r : Seen _ _ = record s { status = status.Failed } in r) taken.seen;
      broken = rw (ap (λ (s : Seen _ _). s.control) broken.fails, ← taken.sink) begun;
      rises = rw (← taken.sink) broken.rises;
    }))
