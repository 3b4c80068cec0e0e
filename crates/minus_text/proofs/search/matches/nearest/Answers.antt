use Rattle.std.proofs.Common.{rules, ◌≡◌, position, ap, ◌∙◌}
use Rattle.std.proofs.lemmas.Iterator.Search.{position_from_yields_List}
use Rattle.std.proofs.lemmas.Iterator.Consumers.{YieldsList-from_rest}
use Rattle.std.specs.Option.{unwrap_or}
use Rattle.minus_text.specs.Matches.{counts_first}
use Rattle.minus_text.proofs.search.matches.nearest.Goals as goal

-- src/search/matches.rt:15:1
pub returns : goal.returns
returns c =
    let found : c.position.result ≡ position (counts_first c.args.mark c.args.jump) c.args.rows.now.keys =
    position_from_yields_List (counts_first c.args.mark c.args.jump) _ _ c.position.result c.position.ensures.ran (YieldsList-from_rest _ c.iter.ensures.rest) (λ x b q k. search rules) in
    c.unwrap_or.ensures ∙ ap (λ at. unwrap_or at 0) found
