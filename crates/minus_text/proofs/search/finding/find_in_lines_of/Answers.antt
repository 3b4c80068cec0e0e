-- The lines of these rows tell what is found in them.
use Rattle.std.proofs.Common.{◌≡◌, ◌-◌, [], map, sym, ap, subst, ◌∙◌, arith, rules}
use Rattle.std.specs.Str.Lines.{lines}
use Rattle.regex.specs.Strings.{regex_pattern}
use Rattle.std.proofs.lemmas.Result.{IfOk-weaker}
use Rattle.minus_text.specs.Document.{line_map, wrap_in}
use Rattle.minus_text.specs.Found.{found_of_row}
use Rattle.minus_text.specs.FoundRows.{matches_of}
use Rattle.minus_text.specs.LineFinds.{finds_in_lines}
use Rattle.minus_text.specs.LineMaps.{IsLineOfRow}
use Rattle.minus_text.proofs.LineRangeLaws.{no_lines, line_up_to, lines_in_order, found_of_lines}
use Rattle.minus_text.proofs.search.finding.find_in_lines_of.Goals as goal
use Rattle.minus_text.proofs.search.finding.find_in_lines_of.Goals.{in_default-via-in-Some+in_default, in_default-via-in_default}

pub returns-in_default-clause-found : goal.returns-in_default-clause-found
unfolding line_map
returns-in_default-clause-found c = λ i from to.
    let d = c.args.store.now in
    let re = regex_pattern c.args.term.pattern.now in
    let none : c.lines_to_row_map-lines.result.now ≡ [] = elim c.in_default.branch [
      | in_default-via-in-Some+in_default w ↦ w.in_default.ensures'
      | in_default-via-in_default w ↦ search rules
    ] in
    let no = no_lines (wrap_in d) (lines d.text) (sym c.lines_to_row_map-lines.ensures ∙ none) in
    ap (λ l. found_of_row i (map matches_of l)) c.new-in_default.ensures.items ∙ ap (λ ls. found_of_row i (finds_in_lines re (wrap_in d) 0 ls)) (sym no)

pub overflow_add-last : goal.overflow_add-last
unfolding line_map
overflow_add-last c =
    let d = c.args.store.now in
    let is : IsLineOfRow (line_map d) (c.args.end - 1) c.in-Some-Some.last = subst (λ m. IsLineOfRow m (c.args.end - 1) c.in-Some-Some.last) c.lines_to_row_map-lines.ensures c.in-Some-Some.ensures' in
    let up = line_up_to (wrap_in d) (lines d.text) (c.args.end - 1) c.in-Some-Some.last is in
    omega (arith, up, c.if-start-end.false, c.ranges.end.fits)

pub find_in_lines-requires : goal.find_in_lines-requires
unfolding line_map
find_in_lines-requires c =
    let d = c.args.store.now in
    let is_a : IsLineOfRow (line_map d) c.args.start c.in-Some-Some.first = subst (λ m. IsLineOfRow m c.args.start c.in-Some-Some.first) c.lines_to_row_map-lines.ensures c.in-Some-Some.ensures in
    let is_b : IsLineOfRow (line_map d) (c.args.end - 1) c.in-Some-Some.last = subst (λ m. IsLineOfRow m (c.args.end - 1) c.in-Some-Some.last) c.lines_to_row_map-lines.ensures c.in-Some-Some.ensures' in
    let order = lines_in_order (wrap_in d) (lines d.text) c.args.start (c.args.end - 1) c.in-Some-Some.first c.in-Some-Some.last (omega (arith, c.if-start-end.false)) is_a is_b in
    omega (arith, order)

pub returns-clause-found : goal.returns-clause-found
unfolding line_map
returns-clause-found c =
    let d = c.args.store.now in
    let re = regex_pattern c.args.term.pattern.now in
    let is_a : IsLineOfRow (line_map d) c.args.start c.in-Some-Some.first = subst (λ m. IsLineOfRow m c.args.start c.in-Some-Some.first) c.lines_to_row_map-lines.ensures c.in-Some-Some.ensures in
    let is_b : IsLineOfRow (line_map d) (c.args.end - 1) c.in-Some-Some.last = subst (λ m. IsLineOfRow m (c.args.end - 1) c.in-Some-Some.last) c.lines_to_row_map-lines.ensures c.in-Some-Some.ensures' in
    let order = lines_in_order (wrap_in d) (lines d.text) c.args.start (c.args.end - 1) c.in-Some-Some.first c.in-Some-Some.last (omega (arith, c.if-start-end.false)) is_a is_b in
    IfOk-weaker c.find_in_lines.result _ _ (λ f e. λ i from to.
    ap (found_of_row i) e ∙ found_of_lines re (wrap_in d) (lines d.text) c.args.start c.args.end c.in-Some-Some.first c.in-Some-Some.last (omega (arith, c.if-start-end.false)) is_a is_b order i from to) c.find_in_lines.ensures.found
