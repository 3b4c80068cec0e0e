-- The pattern is the one that was built.
use Rattle.std.proofs.Common.{chars, Option, sym, subst}
use Rattle.std.specs.Prelude.{IfSome}
use Rattle.std.specs.Str.{encode_utf8_all}
use Rattle.regex.specs.Strings.{regex_pattern}
use Rattle.regex.specs.declared.string.regex.Regex.{Regex}
use Rattle.minus_state.specs.QueryPatterns.{IsPatternOf}
use Rattle.minus_state.proofs.state.query_patterns.built.Goals as goal

pub returns-in_ok-pattern-in-Some-clause-found : goal.returns-in_ok-pattern-in-Some-clause-found
returns-in_ok-pattern-in-Some-clause-found c =
    let text = encode_utf8_all (chars c.args.query.now) in
    let found = subst (λ (o : Option Regex). IfSome o (λ r. IsPatternOf text (regex_pattern r))) c.in-Some.is c.in_ok-pattern.ensures.found in
    subst (λ (r : Regex). IsPatternOf text (regex_pattern r)) (sym c.in_ok-pattern-in-Some.ensures.ok) found
