use Rattle.std.proofs.Common.{rules, ◌≡◌, position, length, nat_le, ap, ◌∙◌}
use Rattle.std.proofs.lemmas.Iterator.Search.{position_from_yields_List}
use Rattle.std.proofs.lemmas.Iterator.{YieldsList-from_slice}
use Rattle.std.specs.Option.{unwrap_or}
use Rattle.minus_text.specs.declared.search.escapes.Insert.{Insert}
use Rattle.minus_text.proofs.HighlightLaws.{position_is}
use Rattle.minus_text.proofs.search.highlight.count_before.Goals as goal

-- src/search/highlight.rt:14:1
pub returns-clause-count : goal.returns-clause-count
returns-clause-count c =
    let found : c.position.result ≡ position (λ (i : Insert). nat_le c.args.place i.place) c.args.escapes.now =
    position_from_yields_List (λ (i : Insert). nat_le c.args.place i.place) _ _ c.position.result c.position.ensures.ran (YieldsList-from_slice _ c.iter.ensures.rest) (λ x b q k. search rules) in
    c.unwrap_or.ensures ∙ ap (λ at. unwrap_or at (length c.args.escapes.now)) found ∙ position_is c.args.place c.args.escapes.now
