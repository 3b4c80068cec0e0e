-- What was placed is the control that the change leads to.
use Rattle.std.proofs.Common.{◌≡◌, ℕ, List, string_bytes, sym, ap, subst, ◌∙◌}
use Rattle.std.specs.Option.{option_map, unwrap_or}
use Rattle.minus_state.specs.Changes.{IsChange}
use Rattle.minus_state.specs.Control.{Control}
use Rattle.minus_state.specs.ClampedMark.{IsClamped}
use Rattle.minus_state.specs.ShownPrompt.{prompt_row}
use Rattle.minus_state.specs.States.{control_of}
use Rattle.minus_state.specs.declared.change.Change.{Change}
use Rattle.minus_state.specs.declared.state.PagerState.{PagerState}
use Rattle.minus.specs.declared.session.Core.{Core}
use Rattle.minus_draw.proofs.PromptLaws.{row_kept}
use Rattle.minus.proofs.session.Core.apply.Goals as goal

pub invariant_of-self-2 : goal.invariant_of-self-2
invariant_of-self-2 g c =
    let old : Control = control_of c.args.self.now.parts.state in
    let drawn = c.draw.new.self in
    let given : Change = c.into_change-change.result in
    let (new, leads, clamped) = c.requires.leads in
    let state : drawn.parts.state ≡ c.args.self.now.parts.state = ap (λ (s : Core _ _ _ _ _ _). s.parts.state) c.draw.ensures.rest in
    let parts : IsChange old given new = subst (λ (x : Change). IsChange old x new) (sym c.into_change-change.ensures) leads in
    let same : IsChange (control_of drawn.parts.state) given new = subst (λ (s : PagerState). IsChange (control_of s) given new) (sym state) parts in
    let is : control_of c.place.new.self ≡ new = c.in_ok-place.ensures.control new drawn.formed same in
    let row = c.in_ok-row.row in
    record {
      formed = c.in_ok-place.ensures.formed new drawn.formed same;
      clamped = subst IsClamped (sym is) clamped;
      prompted = λ running. (
          ap string_bytes c.keep.ensures ∙ row_kept row drawn.prompt_row
          ∙ ap (λ (before : List ℕ). unwrap_or (option_map string_bytes row) before) (ap (λ (s : Core _ _ _ _ _ _). string_bytes s.prompt_row) c.draw.ensures.rest ∙ c.args.self.now.prompted c.requires.running)
          ∙ c.in_ok-row.ensures.formed new c.args.self.now.formed parts ∙ ap prompt_row (sym is)
          );
    }
