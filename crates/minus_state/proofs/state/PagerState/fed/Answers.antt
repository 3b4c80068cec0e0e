-- A key that closes the prompt tells so by itself.
use Rattle.std.proofs.Common.{◌≡◌, option_map, sym, subst, ◌∙◌}
use Rattle.std.proofs.lemmas.Result.{IfOk-weaker}
use Rattle.minus_state.specs.declared.search.keys.QueryEdit.{QueryEdit}
use Rattle.minus_state.specs.declared.search.keys.QueryEdit.TheVariants as edits
use Rattle.minus_state.specs.Changes.{Leads}
use Rattle.minus_state.specs.Control.{Control}
use Rattle.minus_state.specs.PromptKeys.{keyed, told_by, MayFindBy}
use Rattle.minus_state.specs.OpenSearches.{OpenSearch, seen_search}
use Rattle.minus_state.specs.QueryKeys.{edit_of}
use Rattle.minus_state.specs.States.{control_of}
use Rattle.minus_state.proofs.state.PagerState.fed.Goals as goal

pub returns-in-Confirms-clause-next : goal.returns-in-Confirms-clause-next
returns-in-Confirms-clause-next g c =
    let k : Control = control_of c.args.self.now in
    let o : OpenSearch = seen_search c.args.search.now in
    let kept = option_map (λ q. q.now) c.args.condition in
    let confirms : edit_of c.args.event.now ≡ edits.Confirms = sym c.edit_of.ensures ∙ c.in-Confirms.is in
    IfOk-weaker c.entered.result _ _ (λ x h. (
      h.0,
      subst (λ (e : QueryEdit). MayFindBy (told_by o e) g.C.ConditionCall.judges kept c.args.self.now o c.args.event.now h.0) (sym confirms) h.1,
      subst (λ (e : QueryEdit). Leads c.args.self.now x (keyed k o e h.0)) (sym confirms) h.2,
    )) c.entered.ensures.next
