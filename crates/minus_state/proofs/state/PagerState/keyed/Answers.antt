-- Where none is open, nothing changes.
use Rattle.std.proofs.Common.{◌≡◌, Option, None, option_map, sym, ap, subst, ◌∙◌}
use Rattle.minus_state.specs.PromptKeys.{MayLead}
use Rattle.minus_state.specs.OpenSearches.{OpenSearch, seen_search}
use Rattle.minus_state.specs.States.{search_of}
use Rattle.minus_state.proofs.state.PagerState.keyed.Goals as goal

pub returns-in-None-clause-next : goal.returns-in-None-clause-next
returns-in-None-clause-next g c =
    let s = c.args.self.now in
    let none : None ≡ search_of s = sym (ap (option_map (λ o. seen_search o.now)) c.in-None.is) ∙ c.open_search.ensures in
    subst (λ (o : Option OpenSearch). MayLead g.C.ConditionCall.judges (option_map (λ q. q.now) c.args.condition) s c.args.event.now c.redrawn.result o) none c.redrawn.ensures.next
