-- What is outside of no places is all.
use Rattle.std.proofs.Common.{◌≡◌, [], refl, sym, subst, ◌∙◌, IfOk, rules}
use Rattle.std.proofs.lemmas.Bool.{eqb-true}
use Rattle.std.proofs.lemmas.List.{nil_from_length}
use Rattle.std.proofs.lemmas.Result.{IfOk-from_err}
use Rattle.regex.specs.Strings.{matcher_pattern}
use Rattle.minus_text.specs.Escapes.{outside, CutsText}
use Rattle.minus_text.specs.FixedPatterns.{match_places}
use Rattle.minus_text.proofs.search.found.outside_matches.Goals as goal

pub returns-then-is_empty-clause-found : goal.returns-then-is_empty-clause-found
returns-then-is_empty-clause-found c =
    let none : c.args.places.now ≡ [] = nil_from_length _ (eqb-true _ 0 (sym c.is_empty.ensures ∙ c.if-is_empty.true)) in
    subst (λ ps. IfOk c.match_places.result (λ found. found.items ≡ match_places (matcher_pattern c.args.matcher.now) (outside c.args.row.now 0 ps))) (sym none) c.match_places.ensures.found

pub returns-then-is_empty-clause-cuts : goal.returns-then-is_empty-clause-cuts
returns-then-is_empty-clause-cuts c =
    let none : c.args.places.now ≡ [] = nil_from_length _ (eqb-true _ 0 (sym c.is_empty.ensures ∙ c.if-is_empty.true)) in
    subst (λ ps. IfOk c.match_places.result (λ found. CutsText (outside c.args.row.now 0 ps) 0 found.items)) (sym none) c.match_places.ensures.cuts

pub returns-then-is_empty-clause-same : goal.returns-then-is_empty-clause-same
returns-then-is_empty-clause-same c = c.match_places.ensures.same

pub returns-in_err-parted-clause-found : goal.returns-in_err-parted-clause-found
returns-in_err-parted-clause-found c = IfOk-from_err _ _ c.from_residual.ensures.0

pub returns-in_err-parted-clause-cuts : goal.returns-in_err-parted-clause-cuts
returns-in_err-parted-clause-cuts c = IfOk-from_err _ _ c.from_residual.ensures.0

pub returns-in_err-parted-clause-same : goal.returns-in_err-parted-clause-same
returns-in_err-parted-clause-same c = refl

pub returns-in_err-found-clause-found : goal.returns-in_err-found-clause-found
returns-in_err-found-clause-found c = IfOk-from_err _ _ c.from_residual-in_err-found.ensures.0

pub returns-in_err-found-clause-cuts : goal.returns-in_err-found-clause-cuts
returns-in_err-found-clause-cuts c = IfOk-from_err _ _ c.from_residual-in_err-found.ensures.0

pub returns-in_err-found-clause-same : goal.returns-in_err-found-clause-same
returns-in_err-found-clause-same c = c.match_places-2.ensures.same

pub returns-clause-found : goal.returns-clause-found
returns-clause-found c = search rules

pub returns-clause-cuts : goal.returns-clause-cuts
returns-clause-cuts c = search rules

pub returns-clause-same : goal.returns-clause-same
returns-clause-same c = c.match_places-2.ensures.same
