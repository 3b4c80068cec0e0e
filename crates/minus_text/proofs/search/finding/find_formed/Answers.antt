use Rattle.std.proofs.Common.{◌≡◌, true, map, sym, subst, ◌∙◌}
use Rattle.std.specs.Prelude.{IfOk}
use Rattle.std.specs.Str.Lines.{lines}
use Rattle.minus_text.specs.FoundRows.{matches_of}
use Rattle.minus_text.specs.LineFinds.{finds_in_lines}
use Rattle.minus_text.proofs.search.finding.find_formed.Goals as goal

pub returns-then-matches_lines-clause-found : goal.returns-then-matches_lines-clause-found
returns-then-matches_lines-clause-found c =
    let p = c.args.pending.now in
    let on : p.match_lines ≡ true = sym c.matches_lines.ensures ∙ c.if-matches_lines.true in
    rw on (subst (λ re. IfOk c.find_in_lines.result (λ f. map matches_of f.items ≡ finds_in_lines re p.tail.wrap p.kept_rows (lines p.tail.text))) c.in_ok-finder.ensures c.find_in_lines.ensures.found)
