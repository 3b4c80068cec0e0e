-- The pattern is the one that is shown, or one that was built of the query's text.
use Rattle.std.proofs.Common.{List, ℕ, Bool, chars, Option, None, Some, Result, Global, option_map, ◌≡◌, refl, sym, ap, subst, ◌∙◌}
use Rattle.std.specs.Prelude.{IfOk, IfSome, IfNone}
use Rattle.std.specs.Str.{encode_utf8_all}
use Rattle.std.specs.declared.rc.Rc.{Rc}
use Rattle.regex.specs.Strings.{regex_pattern}
use Rattle.regex.specs.declared.string.regex.Regex.{Regex}
use Rattle.minus_term.specs.declared.error.MinusError.{MinusError}
use Rattle.minus_state.specs.OpenPrompts.{Prompt}
use Rattle.minus_state.specs.OpenSearches.{seen_search}
use Rattle.minus_state.specs.QueryPatterns.{IsPatternOf, HasNoPattern, MayTakeOver}
use Rattle.minus_state.proofs.state.confirming.query_taken.Goals as goal

-- what was built of a text may be taken for the query of a prompt that it is
may_take : (p : Prompt) (text : List ℕ) (r : Result (Option (Rc Regex Global)) MinusError) → chars text ≡ p.editor.query → IfOk r (λ f. IfSome f (λ x. IsPatternOf (encode_utf8_all (chars text)) (regex_pattern x.value))) → IfOk r (λ f. IfNone f (HasNoPattern (encode_utf8_all (chars text))))
    → IfOk r (λ f. MayTakeOver None p (option_map (λ x. regex_pattern x.value) f))
may_take p text (Rattle.std.proofs.Common.Ok (Some x)) is built none = subst (λ (q : List ℕ). IsPatternOf (encode_utf8_all q) (regex_pattern x.value)) is built
may_take p text (Rattle.std.proofs.Common.Ok None) is built none = subst (λ (q : List ℕ). HasNoPattern (encode_utf8_all q)) is none
may_take p text (Rattle.std.proofs.Common.Err e) is built none = tt

pub returns-in-None-clause-found : goal.returns-in-None-clause-found
returns-in-None-clause-found c = rw c.in-None.is (may_take (seen_search c.args.search.now).prompt c.query.result.now c.built.result c.query.ensures c.built.ensures.found c.built.ensures.none)
