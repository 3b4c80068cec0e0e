-- None above matches, so the first that does is the one, or there is none.
use Rattle.std.proofs.Common.{◌≡◌, ◌<◌, [], get_or, length, Some, true, false, sym, ap, ◌∙◌, arith}
use Rattle.std.specs.List.{slice_get}
use Rattle.std.proofs.Math.Nat.{min-le_left, min-le_right}
use Rattle.std.proofs.lemmas.Option.{slice_get-get_or}
use Rattle.minus_text.specs.Document.{rows_of}
use Rattle.minus_text.specs.Highlight.{line_matches}
use Rattle.minus_text.specs.Found.{found_in_rows, jump_rows}
use Rattle.minus_text.specs.FoundRows.{finder_pattern}
use Rattle.minus_text.proofs.FoundRangeLaws.{all_of_some}
use Rattle.minus_text.proofs.FirstFoundLaws.{first_hit, still_none, told_of}
use Rattle.minus_text.proofs.search.finding.first_in_rows.Goals as goal

pub returns-then-branch-clause-row : goal.returns-then-branch-clause-row
returns-then-branch-clause-row c =
    let rows = rows_of c.args.store.now in
    let re = finder_pattern c.args.finder.now in
    let i = c.loop-i.i in
    let size = c.formatted_lines_count.result in
    let row = get_or rows i [] in
    let more : i < length rows = omega (arith, c.formatted_lines_count.ensures.value, c.min-i-end.ensures, min-le_right c.args.end size, c.loop-i-test.true) in
    let to : i < c.args.end = omega (arith, c.min-i-end.ensures, min-le_left c.args.end size, c.loop-i-test.true) in
    let here : slice_get rows i ≡ Some row = slice_get-get_or rows i [] more in
    let told = told_of (λ r. r.now) (finder_pattern c.loop-i.finder) c.row_text.result row _ (c.row_text.ensures ∙ here) c.in_ok-matches_some.ensures.value in
    let hit : line_matches re row ≡ true = ap (λ p. line_matches p row) (sym c.loop-i.invariant.same) ∙ told ∙ c.if-branch.true in
    first_hit re c.args.start c.args.end i rows row c.loop-i.auto.i to c.loop-i.invariant.none here hit

pub loop-i-preserved : goal.loop-i-preserved
loop-i-preserved c =
    let rows = rows_of c.args.store.now in
    let re = finder_pattern c.args.finder.now in
    let i = c.loop-i.i in
    let size = c.formatted_lines_count.result in
    let row = get_or rows i [] in
    let left = min-le_left c.args.end size in
    let from = c.loop-i.auto.i in
    let more : i < length rows = omega (arith, c.formatted_lines_count.ensures.value, c.min-i-end.ensures, min-le_right c.args.end size, c.loop-i-test.true) in
    let here : slice_get rows i ≡ Some row = slice_get-get_or rows i [] more in
    let told = told_of (λ r. r.now) (finder_pattern c.loop-i.finder) c.row_text.result row _ (c.row_text.ensures ∙ here) c.in_ok-matches_some.ensures.value in
    let miss : line_matches re row ≡ false = ap (λ p. line_matches p row) (sym c.loop-i.invariant.same) ∙ told ∙ c.if-branch.false in
    record {
      same = c.matches_some.ensures.same ∙ c.loop-i.invariant.same;
      within = omega (arith, c.min-i-end.ensures, left, from, c.loop-i-test.true);
      none = still_none re c.args.start i rows row from more c.loop-i.invariant.none here miss;
    }

pub returns-clause-row : goal.returns-clause-row
returns-clause-row c =
    let re = finder_pattern c.args.finder.now in
    let all = all_of_some (rows_of c.args.store.now) c.args.start c.args.end c.loop-i.i c.min-i-end.result c.formatted_lines_count.result c.min-i-end.ensures c.formatted_lines_count.ensures.value c.loop-i.auto.i c.loop-i-test.false c.loop-i.invariant.within in
    ap (λ l. slice_get (jump_rows l) 0) (c.loop-i.invariant.none ∙ ap (found_in_rows re c.args.start) all)
