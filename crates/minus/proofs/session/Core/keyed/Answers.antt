-- What the key comes to.
use Rattle.std.proofs.Common.{rules, refl, sym, ap, subst, ◌∙◌}
use Rattle.minus_state.specs.declared.change.Change.{Change}
use Rattle.minus_state.specs.Changes.{IsChange}
use Rattle.minus_state.specs.Control.{Control}
use Rattle.minus_state.specs.PromptKeys.{keyed, told_by, redraw_at, MayFind, MayLead, IsUnkeyedAt}
use Rattle.minus_state.specs.OpenPrompts.{fed}
use Rattle.minus_state.specs.QueryKeys.{edit_of}
use Rattle.minus_term.specs.Refusals.{refusal_of}
use Rattle.minus.specs.Says.{says_of}
use Rattle.minus.specs.Core.{seen_of}
use Rattle.minus.specs.Seen.{Seen}
use Rattle.minus_draw.proofs.KeyedLaws.{keyed_clamped}
use Rattle.minus.proofs.LoopLaws.{some_of}
use Rattle.minus.proofs.StepLaws.{keyed_by, unkeyed_take}
use Rattle.minus.proofs.session.Core.keyed.Goals as goal

pub returns-clause-leads : goal.returns-clause-leads
returns-clause-leads g c =
    let old : Control = (seen_of c.args.self.now).control in
    let (o, searching) = some_of old.search c.requires.searching in
    let e = c.args.event.now in
    let (found, may, leads) = subst (MayLead _ _ c.args.self.now.parts.state e c.in_ok-change.change) searching c.in_ok-change.ensures.next in
    let new : Control = keyed old o (edit_of e) found in (
      new,
      subst (λ (x : Change). IsChange old x new) (sym c.of-outcome.ensures.change) (leads c.args.self.now.formed),
      keyed_clamped (told_by o (edit_of e)) old o.edited (fed o.prompt (edit_of e)) found c.args.self.now.clamped,
    )

pub returns-clause-taken : goal.returns-clause-taken
returns-clause-taken g c =
    let says = says_of g.P.Condition.ConditionCall.judges g.P.Classifier.InputClassifier.says in
    let old : Seen _ _ = seen_of c.args.self.now in
    let (o, searching) = some_of old.control.search c.requires.searching in
    let e = c.args.event.now in
    let (found, may, leads) = subst (MayLead _ _ c.args.self.now.parts.state e c.in_ok-change.change) searching c.in_ok-change.ensures.next in
    let judged = subst (λ q. MayFind g.P.Condition.ConditionCall.judges q c.args.self.now.parts.state o e found) c.as_ref-condition.ensures.value may in
    let new : Control = keyed old.control o (edit_of e) found in
    let is = subst (λ (x : Change). IsChange old.control x new) (sym c.of-outcome.ensures.change) (leads c.args.self.now.formed) in
    let redraw = ap (λ (x : Change). x.redraw) c.of-outcome.ensures.change ∙ c.in_ok-change.ensures.redraw ∙ ap (λ s. redraw_at s (edit_of e)) searching in
    (_, keyed_by says old e o found c.of-outcome.result searching c.requires.fed c.args.self.now.parts.state c.args.self.now.formed refl judged c.args.self.now.parts.state.sized.some_rows is redraw c.of-outcome.ensures.copied c.of-outcome.ensures.moves_to)

pub returns-in_err-change-clause-refused : goal.returns-in_err-change-clause-refused
returns-in_err-change-clause-refused g c =
    let says = says_of g.P.Condition.ConditionCall.judges g.P.Classifier.InputClassifier.says in
    let old : Seen _ _ = seen_of c.args.self.now in
    let (o, searching) = some_of old.control.search c.requires.searching in
    let unkeyed = subst (λ s. IsUnkeyedAt (refusal_of c.in_err-change.field-0.0) s (edit_of c.args.event.now)) searching c.in_err-change.ensures.refused in
    let untaken = unkeyed_take g.S.OutputSink.seen says c.args.self.now c.args.event.now o _ searching unkeyed in
    search rules
