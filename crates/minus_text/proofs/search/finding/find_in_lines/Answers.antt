-- One line more, until the end or the last of all.
use Rattle.std.proofs.Common.{◌++◌, ◌-◌, ◌<◌, map, take, drop, sym, ap, subst, ◌∙◌, arith, rules}
use Rattle.std.proofs.Math.Nat.{min-le_left, min-le_right}
use Rattle.std.specs.Str.Lines.{lines}
use Rattle.regex.specs.Strings.{regex_pattern}
use Rattle.minus_text.specs.Document.{rows_of, line_map, line_count, wrap_in}
use Rattle.minus_text.specs.Found.{ArePlaced, Ascend}
use Rattle.minus_text.specs.FoundRows.{matches_of}
use Rattle.minus_text.specs.StoredLines.{first_of, finds_between, finds_in_line_at}
use Rattle.minus_text.proofs.FoundInLaws.{placed_append, weaker}
use Rattle.minus_text.proofs.FindsLaws.{lines_ascend}
use Rattle.minus_text.proofs.LineRangeLaws.{one_more_line, none_between, up_to_end}
use Rattle.minus_text.proofs.search.finding.find_in_lines.Goals as goal

pub loop-line-init : goal.loop-line-init
unfolding line_map
loop-line-init c = record {
  same = c.in_ok-finder.ensures;
  within = c.requires;
  found = ap (map matches_of) c.new-found.ensures.items ∙ sym (none_between (regex_pattern c.args.term.pattern.now) (wrap_in c.args.store.now) (lines c.args.store.now.text) c.args.start);
  placed = search rules;
}

pub loop-line-preserved : goal.loop-line-preserved
unfolding line_map
loop-line-preserved c =
    let d = c.args.store.now in
    let re = regex_pattern c.args.term.pattern.now in
    let line = c.loop-line.line in
    let inv = c.loop-line.invariant in
    let size = c.line_count.result in
    let right = min-le_right c.args.end size in
    let left = min-le_left c.args.end size in
    let there : line < line_count d = omega (arith, c.line_count.ensures, c.min-line-end.ensures, right, c.loop-line-test.true) in
    let old = map matches_of c.loop-line.found.items in
    let grown = c.in_ok-find_in_line.ensures.found ∙ ap (λ p. old ++ finds_in_line_at p d line) inv.same in
    let stands = subst (λ p. ArePlaced 0 (rows_of d) (finds_in_line_at p d line)) inv.same c.in_ok-find_in_line.ensures.stands in
    record {
      same = c.find_in_line.ensures.same ∙ inv.same;
      within = omega (arith, c.min-line-end.ensures, left, c.loop-line-test.true);
      found = grown ∙ ap (λ l. l ++ finds_in_line_at re d line) inv.found ∙ one_more_line re (wrap_in d) (lines d.text) c.args.start line c.loop-line.auto.line there;
      placed = subst (ArePlaced 0 (rows_of d)) (sym grown) (placed_append 0 (rows_of d) old (finds_in_line_at re d line) inv.placed stands);
    }

pub returns-clause-found : goal.returns-clause-found
unfolding line_map
returns-clause-found c =
    let d = c.args.store.now in
    c.loop-line.invariant.found
    ∙ up_to_end (regex_pattern c.args.term.pattern.now) (wrap_in d) (lines d.text) c.args.start c.args.end c.loop-line.line c.min-line-end.result c.line_count.result c.min-line-end.ensures c.line_count.ensures c.loop-line.auto.line c.loop-line-test.false c.loop-line.invariant.within

pub returns-clause-stand : goal.returns-clause-stand
returns-clause-stand c =
    let d = c.args.store.now in
    let re = regex_pattern c.args.term.pattern.now in
    let first = first_of d c.args.start in
    let up = lines_ascend re (wrap_in d) first (take (c.loop-line.line - c.args.start) (drop c.args.start (lines d.text))) in
    record {
      placed = c.loop-line.invariant.placed;
      ascend = subst (Ascend 0) (sym c.loop-line.invariant.found) (weaker 0 first (finds_between re d c.args.start c.loop-line.line) (omega arith) up);
    }
