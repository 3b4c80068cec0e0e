-- What the key did is what the editor's copy tells.
use Rattle.std.proofs.Common.{◌≡◌, None, option_map, refl, sym, ap, subst, ◌∙◌}
use Rattle.regex.specs.Strings.{regex_pattern}
use Rattle.minus_state.specs.declared.search.keys.QueryEdit.{QueryEdit}
use Rattle.minus_state.specs.declared.search.query.Fed.{Fed}
use Rattle.minus_state.specs.declared.search.query.Fed.TheVariants as told
use Rattle.minus_state.specs.Changes.{Leads}
use Rattle.minus_state.specs.Control.{Control}
use Rattle.minus_state.specs.PromptKeys.{left_by, redraw_by, told_by, MayFindBy}
use Rattle.minus_state.specs.OpenPrompts.{Prompt, fed}
use Rattle.minus_state.specs.OpenSearches.{OpenSearch, seen_search}
use Rattle.minus_state.specs.Prompting.{edited}
use Rattle.minus_state.specs.QueryEditor.{told_of}
use Rattle.minus_state.specs.QueryKeys.{edit_of}
use Rattle.minus_state.specs.States.{control_of}
use Rattle.minus_state.proofs.PromptKeysLaws.{told_stays, never_moved}
use Rattle.minus_state.proofs.state.PagerState.edited_by.Goals as goal

-- the copy is fed as the prompt is
pub found_for-requires : goal.found_for-requires
found_for-requires g c = c.in_ok-feed.ensures.new ∙ ap (λ (p : Prompt). fed p (edit_of c.args.event.now)) c.in_ok-prompt.ensures

pub returns-in_ok-edited-in-Edited-clause-next : goal.returns-in_ok-edited-in-Edited-clause-next
returns-in_ok-edited-in-Edited-clause-next g c =
    let k : Control = control_of c.args.self.now in
    let o : OpenSearch = seen_search c.args.search.now in
    let e : QueryEdit = edit_of c.args.event.now in
    let kept = option_map (λ q. q.now) c.args.condition in
    let found = option_map regex_pattern c.in_ok-found-in-Edited.found in
    let tells : told_by o e ≡ told.Edited = ap (λ (p : Prompt). told_of p.editor e) (sym c.in_ok-prompt.ensures) ∙ sym c.in_ok-feed.ensures.told ∙ c.in-Edited.is in
    let after : c.feed.new.self ≡ fed o.prompt e = c.in_ok-feed.ensures.new ∙ ap (λ (p : Prompt). fed p e) c.in_ok-prompt.ensures in
    let leads = subst (λ (p : Prompt). Leads c.args.self.now c.in_ok-edited-in-Edited.field-0 (edited k p found)) after c.in_ok-edited-in-Edited.ensures.next in (
      found,
      subst (λ (t : Fed). MayFindBy t g.C.ConditionCall.judges kept c.args.self.now o c.args.event.now found) (sym tells) c.in_ok-found-in-Edited.ensures.found,
      subst (λ (t : Fed). Leads c.args.self.now c.in_ok-edited-in-Edited.field-0 (left_by t k o.edited (fed o.prompt e) found)) (sym tells) leads,
    )

pub returns-in_default-clause-next : goal.returns-in_default-clause-next
returns-in_default-clause-next g c =
    let k : Control = control_of c.args.self.now in
    let o : OpenSearch = seen_search c.args.search.now in
    let e : QueryEdit = edit_of c.args.event.now in
    let kept = option_map (λ q. q.now) c.args.condition in
    let told_is : told_by o e ≡ c.in_ok-feed.field-0 = ap (λ (p : Prompt). told_of p.editor e) (sym c.in_ok-prompt.ensures) ∙ sym c.in_ok-feed.ensures.told in
    let tells : told_by o e ≡ told.Unchanged = told_stays o.prompt.editor e c.requires (λ is. never_moved e c.requires (c.in_ok-feed.ensures.moved (sym told_is ∙ is))) (λ is. c.in_default.not-Edited (sym told_is ∙ is)) in (
      None,
      subst (λ (t : Fed). MayFindBy t g.C.ConditionCall.judges kept c.args.self.now o c.args.event.now None) (sym tells) refl,
      subst (λ (t : Fed). Leads c.args.self.now c.redrawn.result (left_by t k o.edited (fed o.prompt e) None)) (sym tells) c.redrawn.ensures.next,
    )

pub returns-in_default-clause-redraw : goal.returns-in_default-clause-redraw
returns-in_default-clause-redraw g c =
    let o : OpenSearch = seen_search c.args.search.now in
    let e : QueryEdit = edit_of c.args.event.now in
    let told_is : told_by o e ≡ c.in_ok-feed.field-0 = ap (λ (p : Prompt). told_of p.editor e) (sym c.in_ok-prompt.ensures) ∙ sym c.in_ok-feed.ensures.told in
    let tells : told_by o e ≡ told.Unchanged = told_stays o.prompt.editor e c.requires (λ is. never_moved e c.requires (c.in_ok-feed.ensures.moved (sym told_is ∙ is))) (λ is. c.in_default.not-Edited (sym told_is ∙ is)) in
    c.redrawn.ensures.redraw ∙ sym (ap redraw_by tells)
