-- The pattern is the one that is taken for the query.
use Rattle.std.proofs.Common.{Bool, None, Option, Some, Global, option_map, if◌then◌else◌, refl, sym, subst}
use Rattle.std.specs.declared.rc.Rc.{Rc}
use Rattle.regex.specs.Patterns.{Re}
use Rattle.regex.specs.Strings.{regex_pattern}
use Rattle.regex.specs.declared.string.regex.Regex.{Regex}
use Rattle.minus_state.specs.Changes.{Leads}
use Rattle.minus_state.specs.Confirming.{confirmed}
use Rattle.minus_state.specs.Control.{Control}
use Rattle.minus_state.specs.OpenSearches.{seen_search}
use Rattle.minus_state.specs.Prompting.{closed}
use Rattle.minus_state.specs.QueryPatterns.{MayTakeOver}
use Rattle.minus_state.specs.States.{control_of}
use Rattle.minus_state.proofs.state.PagerState.entered.Goals as goal

pub returns-clause-next : goal.returns-clause-next
returns-clause-next c =
    let k : Control = control_of c.args.self.now in
    let query : Re = regex_pattern c.in-Some.query.value in
    let taken = subst (λ (o : Option (Rc Regex Global)). MayTakeOver (seen_search c.args.search.now).preview (seen_search c.args.search.now).prompt (option_map (λ r. regex_pattern r.value) o)) c.in-Some.is c.in_ok-query.ensures.found in
    let leads = subst (λ (b : Bool). Leads c.args.self.now c.in_ok-taken.field-0 (closed (if b then confirmed k query else k))) (sym c.if-not-search.false) c.in_ok-taken.ensures.next in
    (Some query, rw c.if-not-search.false taken, leads)

pub returns-then-not-search-clause-next : goal.returns-then-not-search-clause-next
returns-then-not-search-clause-next c =
    let k : Control = control_of c.args.self.now in
    (None, rw c.if-not-search.true refl, rw c.if-not-search.true c.closed.ensures.next)
