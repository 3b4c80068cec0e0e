-- No jump goes to a line above, so the first of these lines with one has it, or there is none.
use Rattle.std.proofs.Common.{◌≡◌, ℕ, ◌++◌, ◌<◌, map, Option, None, Some, false, refl, sym, ap, ◌∙◌, arith}
use Rattle.std.specs.Option.{is_some}
use Rattle.std.specs.Str.Lines.{lines}
use Rattle.std.proofs.Math.Nat.{min-le_left, min-le_right}
use Rattle.minus_text.specs.Document.{line_map, line_count, wrap_in}
use Rattle.minus_text.specs.Found.{jump_rows}
use Rattle.minus_text.specs.FoundRows.{finder_pattern, matches_of}
use Rattle.minus_text.specs.StoredLines.{finds_in_line_at, first_from}
use Rattle.minus_text.proofs.LineRangeLaws.{none_between, up_to_end}
use Rattle.minus_text.proofs.FirstJumpLaws.{still_nothing, early}
use Rattle.minus_text.proofs.search.finding.first_in_lines.Goals as goal

pub loop-line-init : goal.loop-line-init
unfolding line_map
loop-line-init c = record {
  same = refl;
  within = c.requires;
  none = ap (λ l. first_from c.args.row (jump_rows l)) (sym (none_between (finder_pattern c.args.finder.now) (wrap_in c.args.store.now) (lines c.args.store.now.text) c.args.start));
}

pub returns-then-is_some-clause-row : goal.returns-then-is_some-clause-row
unfolding line_map
returns-then-is_some-clause-row c =
    let d = c.args.store.now in
    let re = finder_pattern c.args.finder.now in
    let line = c.loop-line.line in
    let size = c.line_count.result in
    let left = min-le_left c.args.end size in
    let right = min-le_right c.args.end size in
    let there : line < line_count d = omega (arith, c.line_count.ensures, c.min-line-end.ensures, right, c.loop-line-test.true) in
    let to : line < c.args.end = omega (arith, c.min-line-end.ensures, left, c.loop-line-test.true) in
    let own = c.as_slice.ensures.value in
    let found = ap (map matches_of) own ∙ c.in_ok-find_in_line.ensures.found ∙ ap (λ l. map matches_of l ++ finds_in_line_at (finder_pattern c.loop-line.finder) d line) c.new-found.ensures.items
    ∙ ap (λ p. finds_in_line_at p d line) c.loop-line.invariant.same in
    let first = c.first_jump-first.ensures ∙ ap (λ l. first_from c.args.row (jump_rows l)) found in
    let so_far = still_nothing re (wrap_in d) (lines d.text) c.args.start line c.args.row c.first_jump-first.result c.loop-line.auto.line there c.loop-line.invariant.none first in
    early re (wrap_in d) (lines d.text) c.args.start line c.args.end c.args.row c.first_jump-first.result c.loop-line.auto.line there to so_far (sym c.is_some.ensures ∙ c.if-is_some.true)

pub loop-line-preserved : goal.loop-line-preserved
unfolding line_map
loop-line-preserved c =
    let d = c.args.store.now in
    let re = finder_pattern c.args.finder.now in
    let line = c.loop-line.line in
    let size = c.line_count.result in
    let left = min-le_left c.args.end size in
    let right = min-le_right c.args.end size in
    let there : line < line_count d = omega (arith, c.line_count.ensures, c.min-line-end.ensures, right, c.loop-line-test.true) in
    let own = c.as_slice.ensures.value in
    let found = ap (map matches_of) own ∙ c.in_ok-find_in_line.ensures.found ∙ ap (λ l. map matches_of l ++ finds_in_line_at (finder_pattern c.loop-line.finder) d line) c.new-found.ensures.items
    ∙ ap (λ p. finds_in_line_at p d line) c.loop-line.invariant.same in
    let first = c.first_jump-first.ensures ∙ ap (λ l. first_from c.args.row (jump_rows l)) found in
    record {
      same = c.find_in_line.ensures.same ∙ c.loop-line.invariant.same;
      within = omega (arith, c.min-line-end.ensures, left, c.loop-line-test.true);
      none = sym (is_none c.first_jump-first.result (sym c.is_some.ensures ∙ c.if-is_some.false))
          ∙ still_nothing re (wrap_in d) (lines d.text) c.args.start line c.args.row c.first_jump-first.result c.loop-line.auto.line there c.loop-line.invariant.none first;
    }
  where
    is_none : (o : Option ℕ) → is_some o ≡ false → o ≡ None
    is_none None e = refl
    is_none (Some n) e = absurd cc

pub returns-clause-row : goal.returns-clause-row
unfolding line_map
returns-clause-row c =
    let d = c.args.store.now in
    let re = finder_pattern c.args.finder.now in
    c.loop-line.invariant.none
    ∙ ap (λ l. first_from c.args.row (jump_rows l)) (up_to_end re (wrap_in d) (lines d.text) c.args.start c.args.end c.loop-line.line c.min-line-end.result c.line_count.result c.min-line-end.ensures c.line_count.ensures c.loop-line.auto.line c.loop-line-test.false c.loop-line.invariant.within)
