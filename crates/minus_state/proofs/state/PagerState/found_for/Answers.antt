-- The pattern was built of the text of the query, and the page is to show where it leads.
use Rattle.std.proofs.Common.{chars, Bool, Option, option_map, subst}
use Rattle.std.specs.Prelude.{IfSome}
use Rattle.std.specs.Str.{encode_utf8_all}
use Rattle.regex.specs.Strings.{regex_pattern}
use Rattle.regex.specs.declared.string.regex.Regex.{Regex}
use Rattle.minus_state.specs.Conditions.{MayShow}
use Rattle.minus_state.specs.QueryPatterns.{IsPatternOf}
use Rattle.minus_state.proofs.PromptKeysLaws.{may_preview}
use Rattle.minus_state.proofs.state.PagerState.found_for.Goals as goal

pub returns-clause-found : goal.returns-clause-found
returns-clause-found g c =
    let text = c.query.result.now in
    let kept = option_map (λ q. q.now) c.args.condition in
    let built = subst (λ (o : Option Regex). IfSome o (λ r. IsPatternOf (encode_utf8_all (chars text)) (regex_pattern r))) c.in-Some.is c.in_ok-pattern.ensures.found in
    let shows = subst (λ (b : Bool). MayShow g.C.ConditionCall.judges kept c.args.self.now c.args.before.now c.args.event.now b) c.if-not-branch.false c.in_ok-is_to_show.ensures in
    may_preview g.C.ConditionCall.judges kept c.args.self.now c.args.before.now c.args.prompt.now c.args.event.now text (regex_pattern c.in-Some.pattern) c.requires c.query.ensures built shows
