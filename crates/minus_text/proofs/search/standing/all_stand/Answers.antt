-- Where one found row stands and those behind it do, all that are left stand.
use Rattle.std.proofs.Common.{map, sym, subst}
use Rattle.std.proofs.lemmas.List.{drop_more}
use Rattle.minus_text.specs.declared.search.found.FoundRow.{FoundRow}
use Rattle.minus_text.specs.Document.{rows_of}
use Rattle.minus_text.specs.Found.{IsPlacedIn, ArePlaced}
use Rattle.minus_text.specs.FoundRows.{matches_of}
use Rattle.minus_text.proofs.search.standing.all_stand.Goals as goal

pub loop-row-preserved : goal.loop-row-preserved
loop-row-preserved c = λ later.
    let rows = rows_of c.args.store.now in
    let here = subst (λ (f : FoundRow). IsPlacedIn 0 rows (matches_of f)) c.row-item.is (c.in_ok-stands_in.ensures c.if-not-branch.false) in
    let left = sym (drop_more c.args.found.now c.loop-row.row-index c.row-item.result c.loop-row-test.true) in
    c.loop-row.invariant (subst (λ fs. ArePlaced 0 rows (map matches_of fs)) left (here, later))
