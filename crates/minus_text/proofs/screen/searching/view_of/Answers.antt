-- What a search found stands in the rows of the screen.
use Rattle.std.proofs.Common.{List, sym, subst}
use Rattle.minus_text.specs.Document.{rows_of}
use Rattle.minus_text.specs.Found.{RowMatches, AreFoundIn}
use Rattle.minus_text.specs.FoundBy.{found_rows}
use Rattle.minus_text.specs.Searched.{Searched}
use Rattle.minus_text.proofs.screen.searching.view_of.Goals as goal

pub invariant_of-result : goal.invariant_of-result
invariant_of-result c =
    let stand = subst (λ (s : Searched). AreFoundIn 0 (rows_of s.document) (found_rows c.findings.inside.rows)) (sym c.screen.view_is)
    (subst (λ (rs : List RowMatches). AreFoundIn 0 (rows_of c.args.screen.now.document) rs) (sym c.findings.view_is) c.requires) in
    record { placed = stand.placed; ascend = stand.ascend; jumps = c.findings.invariant.1; pending = tt }
