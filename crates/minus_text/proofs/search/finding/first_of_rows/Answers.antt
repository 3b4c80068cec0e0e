-- The first of the rows from the mark on, or else the first of those above it.
use Rattle.std.proofs.Common.{◌-◌, drop, take, sym, ap, ◌∙◌}
use Rattle.std.specs.List.{slice_get}
use Rattle.regex.specs.Strings.{regex_pattern}
use Rattle.minus_text.specs.Document.{rows_of}
use Rattle.minus_text.specs.Found.{found_in_rows, jump_rows}
use Rattle.minus_text.proofs.FirstFoundLaws.{where_behind, where_above}
use Rattle.minus_text.proofs.search.finding.first_of_rows.Goals as goal

pub returns-then-is_some : goal.returns-then-is_some
returns-then-is_some c =
    let rows = rows_of c.args.store.now in
    let size = c.formatted_lines_count-count.result in
    let mark = c.args.mark in
    let first = c.in_ok-behind.ensures.row ∙ ap (λ p. slice_get (jump_rows (found_in_rows p mark (take (size - mark) (drop mark rows)))) 0) c.in_ok-finder.ensures in
    where_behind (regex_pattern c.args.term.pattern.now) mark size rows c.in_ok-behind.behind c.formatted_lines_count-count.ensures.value first (sym c.is_some.ensures ∙ c.if-is_some.true)

pub returns : goal.returns
returns c =
    let rows = rows_of c.args.store.now in
    let size = c.formatted_lines_count-count.result in
    let mark = c.args.mark in
    let first = c.in_ok-behind.ensures.row ∙ ap (λ p. slice_get (jump_rows (found_in_rows p mark (take (size - mark) (drop mark rows)))) 0) c.in_ok-finder.ensures in
    let above = c.in_ok-above.ensures.row ∙ ap (λ p. slice_get (jump_rows (found_in_rows p 0 (take (mark - 0) (drop 0 rows)))) 0) (c.first_in_rows.ensures.same ∙ c.in_ok-finder.ensures) in
    where_above (regex_pattern c.args.term.pattern.now) mark size rows c.in_ok-behind.behind c.in_ok-above.above c.formatted_lines_count-count.ensures.value first (sym c.is_some.ensures ∙ c.if-is_some.false) above
