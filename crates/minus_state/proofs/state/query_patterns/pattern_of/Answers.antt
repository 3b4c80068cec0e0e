use Rattle.std.proofs.Common.{refl, sym, subst, ◌∙◌}
use Rattle.std.proofs.lemmas.Str.{encodes-chars}
use Rattle.minus_state.specs.QueryPatterns.{HasNoPattern}
use Rattle.minus_state.proofs.state.query_patterns.pattern_of.Goals as goal

pub returns-in-Ok-clause-found : goal.returns-in-Ok-clause-found
returns-in-Ok-clause-found c =
    let built = c.in-Ok.ensures in
    (c.in-Ok.pattern, built.source ∙ sym (encodes-chars c.args.query.now c.utf8.query), built.config, built.read, refl)

pub returns-in_ok-check_cause-in-Err-clause-none : goal.returns-in_ok-check_cause-in-Err-clause-none
returns-in_ok-check_cause-in-Err-clause-none c =
    let text = c.args.query.now in
    let refused = c.in-Err.ensures in
    subst HasNoPattern (sym (encodes-chars text c.utf8.query)) (c.in-Err.cause, c.in_ok-check_cause-in-Err.ensures.other, refused.refused, refused.kind)
