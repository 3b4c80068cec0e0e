-- One row more, until the end or the last of all.
use Rattle.std.proofs.Common.{◌++◌, ◌-◌, ◌<◌, length, option_map, map, take, drop, Some, sym, ap, subst, ◌∙◌, arith, rules}
use Rattle.std.proofs.Math.Nat.{min-le_left, min-le_right}
use Rattle.regex.specs.Strings.{regex_pattern}
use Rattle.minus_text.specs.Document.{rows_of}
use Rattle.minus_text.specs.Found.{found_in_rows, Ascend}
use Rattle.minus_text.specs.FoundRows.{matches_of}
use Rattle.minus_text.specs.FoundBy.{found_in_some}
use Rattle.minus_text.proofs.FoundRangeLaws.{one_more_from, all_of_some, nothing_from, some_ascend}
use Rattle.minus_text.proofs.search.finding.find_in_rows.Goals as goal

pub loop-i-init : goal.loop-i-init
loop-i-init c =
    let none = nothing_from (regex_pattern c.args.term.pattern.now) c.args.start (rows_of c.args.store.now) in
    record {
      same = c.in_ok-finder.ensures;
      within = omega arith;
      found = ap (map matches_of) c.new-rows.ensures.items ∙ none;
      placed = search rules;
    }

pub loop-i-preserved : goal.loop-i-preserved
loop-i-preserved c =
    let rows = rows_of c.args.store.now in
    let re = regex_pattern c.args.term.pattern.now in
    let start = c.args.start in
    let i = c.loop-i.i in
    let size = c.formatted_lines_count.result in
    let old = map matches_of c.loop-i.rows.items in
    let inv = c.loop-i.invariant in
    let o = option_map (λ r. r.now) c.row_text.result in
    let left = min-le_left c.args.end size in
    let right = min-le_right c.args.end size in
    let from = c.loop-i.auto.i in
    let more : i < length rows = omega (arith, c.formatted_lines_count.ensures.value, c.min-i-end.ensures, right, c.loop-i-test.true) in
    record {
      same = c.note_some.ensures.same ∙ inv.same;
      within = omega (arith, c.min-i-end.ensures, left, from, c.loop-i-test.true);
      found = one_more_from re start i rows old _ o from more inv.found c.row_text.ensures (c.in_ok-note_some.ensures.found ∙ ap (λ p. old ++ found_in_some p i o) inv.same);
      placed = c.in_ok-note_some.ensures.placed 0 rows i (omega arith) c.row_text.ensures inv.placed;
    }

pub returns-clause-found : goal.returns-clause-found
returns-clause-found c =
    let all = all_of_some (rows_of c.args.store.now) c.args.start c.args.end c.loop-i.i c.min-i-end.result c.formatted_lines_count.result c.min-i-end.ensures c.formatted_lines_count.ensures.value c.loop-i.auto.i c.loop-i-test.false c.loop-i.invariant.within in
    c.loop-i.invariant.found ∙ ap (found_in_rows (regex_pattern c.args.term.pattern.now) c.args.start) all

pub returns-clause-stand : goal.returns-clause-stand
returns-clause-stand c =
    let inv = c.loop-i.invariant in
    let re = regex_pattern c.args.term.pattern.now in
    let some = take (c.loop-i.i - c.args.start) (drop c.args.start (rows_of c.args.store.now)) in
    record { placed = inv.placed; ascend = subst (Ascend 0) (sym inv.found) (some_ascend (Some re) c.args.start some) }
