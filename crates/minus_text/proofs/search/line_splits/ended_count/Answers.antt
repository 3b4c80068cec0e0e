use Rattle.std.proofs.Common.{rules, ◌≡◌, ℕ, position, length, nat_le, nat_lt, ◌||◌, ap, ◌∙◌}
use Rattle.std.proofs.lemmas.Iterator.Search.{position_from_yields_List}
use Rattle.std.proofs.lemmas.Iterator.{YieldsList-from_slice}
use Rattle.std.specs.Option.{unwrap_or}
use Rattle.minus_text.proofs.LineSplitLaws.{position_is}
use Rattle.minus_text.proofs.search.line_splits.ended_count.Goals as goal

pub returns-clause-count : goal.returns-clause-count
returns-clause-count c =
    let test = λ (m : ℕ × ℕ). nat_le c.args.x m.0 || nat_lt c.args.x m.1 in
    let found : c.position.result ≡ position test c.args.matches.now =
    position_from_yields_List test _ _ c.position.result c.position.ensures.ran (YieldsList-from_slice _ c.iter.ensures.rest) (λ x b q k. search rules) in
    c.unwrap_or.ensures ∙ ap (λ at. unwrap_or at (length c.args.matches.now)) found ∙ position_is test c.args.matches.now
