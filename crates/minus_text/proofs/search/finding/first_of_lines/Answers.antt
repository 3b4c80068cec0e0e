-- The first jump from the mark on, in its line or behind it, or else the first of all.
use Rattle.std.proofs.Common.{◌+◌, sym, ap, subst, ◌∙◌, arith}
use Rattle.std.specs.Str.Lines.{lines}
use Rattle.regex.specs.Strings.{regex_pattern}
use Rattle.minus_text.specs.Document.{line_map, wrap_in}
use Rattle.minus_text.specs.Found.{jump_rows}
use Rattle.minus_text.specs.LineFinds.{finds_in_lines}
use Rattle.minus_text.specs.LineMaps.{IsLineOfRow}
use Rattle.minus_text.specs.Matches.{match_at}
use Rattle.minus_text.specs.StoredLines.{finds_between, first_from}
use Rattle.minus_text.proofs.DocumentLaws.{length-first_rows}
use Rattle.minus_text.proofs.LineRangeLaws.{no_lines}
use Rattle.minus_text.proofs.FirstJumpLaws.{goes_behind, goes_above}
use Rattle.minus_text.proofs.search.finding.first_of_lines.Goals as goal

pub returns-in_default : goal.returns-in_default
unfolding line_map
returns-in_default c =
    let d = c.args.store.now in
    let re = regex_pattern c.args.term.pattern.now in
    let no = no_lines (wrap_in d) (lines d.text) (sym c.lines_to_row_map.ensures ∙ c.in_default.ensures) in
    rw c.requires (ap (λ ls. match_at (jump_rows (finds_in_lines re (wrap_in d) 0 ls)) c.args.mark) (sym no))

pub first_in_lines-requires : goal.first_in_lines-requires
unfolding line_map
first_in_lines-requires c =
    let d = c.args.store.now in
    let is : IsLineOfRow (line_map d) c.args.mark c.in-Some.line = subst (λ m. IsLineOfRow m c.args.mark c.in-Some.line) c.lines_to_row_map.ensures c.in-Some.ensures in
    let within = is.within in
    omega (arith, within, length-first_rows (wrap_in d) 0 (lines d.text), c.line_count-count.ensures)

pub returns-then-is_some : goal.returns-then-is_some
unfolding line_map
returns-then-is_some c =
    let d = c.args.store.now in
    let re = regex_pattern c.args.term.pattern.now in
    let is : IsLineOfRow (line_map d) c.args.mark c.in-Some.line = subst (λ m. IsLineOfRow m c.args.mark c.in-Some.line) c.lines_to_row_map.ensures c.in-Some.ensures in
    let first = c.in_ok-behind.ensures.row ∙ ap (λ p. first_from c.args.mark (jump_rows (finds_between p d c.in-Some.line c.line_count-count.result))) c.in_ok-finder.ensures in
    rw c.requires (goes_behind re (wrap_in d) (lines d.text) c.args.mark c.in-Some.line c.line_count-count.result is (omega (arith, c.line_count-count.ensures)) c.in_ok-behind.behind first (sym c.is_some.ensures ∙ c.if-is_some.true))

pub overflow_add-line : goal.overflow_add-line
unfolding line_map
overflow_add-line c =
    let d = c.args.store.now in
    let is : IsLineOfRow (line_map d) c.args.mark c.in-Some.line = subst (λ m. IsLineOfRow m c.args.mark c.in-Some.line) c.lines_to_row_map.ensures c.in-Some.ensures in
    let within = is.within in
    omega (arith, within, length-first_rows (wrap_in d) 0 (lines d.text), c.line_count-count.ensures, c.line_count-count.type_inv)

pub returns : goal.returns
unfolding line_map
returns c =
    let d = c.args.store.now in
    let re = regex_pattern c.args.term.pattern.now in
    let is : IsLineOfRow (line_map d) c.args.mark c.in-Some.line = subst (λ m. IsLineOfRow m c.args.mark c.in-Some.line) c.lines_to_row_map.ensures c.in-Some.ensures in
    let first = c.in_ok-behind.ensures.row ∙ ap (λ p. first_from c.args.mark (jump_rows (finds_between p d c.in-Some.line c.line_count-count.result))) c.in_ok-finder.ensures in
    let above = c.in_ok-above.ensures.row ∙ ap (λ p. first_from 0 (jump_rows (finds_between p d 0 (c.in-Some.line + 1)))) (c.first_in_lines.ensures.same ∙ c.in_ok-finder.ensures) in
    rw c.requires (goes_above re (wrap_in d) (lines d.text) c.args.mark c.in-Some.line c.line_count-count.result is (omega (arith, c.line_count-count.ensures)) c.in_ok-behind.behind c.in_ok-above.above first (sym c.is_some.ensures ∙ c.if-is_some.false) above)
