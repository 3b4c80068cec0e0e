use Rattle.std.proofs.Common.{◌≡◌, ℕ, ◌-◌, List, map, take, drop, true, false, sym, ap, subst, ◌∙◌, arith}
use Rattle.std.specs.Prelude.{IfOk}
use Rattle.std.specs.Str.Lines.{lines}
use Rattle.std.proofs.lemmas.List.{take_all}
use Rattle.regex.specs.Strings.{regex_pattern}
use Rattle.minus_text.specs.declared.layout.Layout.{Layout}
use Rattle.minus_text.specs.Document.{line_map, rows_of, wrap_in}
use Rattle.minus_text.specs.Found.{RowMatches, found_in_rows}
use Rattle.minus_text.specs.FoundRows.{matches_of}
use Rattle.minus_text.proofs.LineRangeLaws.{all_between}
use Rattle.minus_text.proofs.search.finding.find_all.Goals as goal

pub returns-then-layout-clause-found : goal.returns-then-layout-clause-found
unfolding line_map
returns-then-layout-clause-found c =
    let d = c.args.store.now in
    let re = regex_pattern c.args.term.pattern.now in
    let on : d.layout.match_lines ≡ true = ap (λ (l : Layout). l.match_lines) (sym c.layout.ensures) ∙ c.if-layout.true in
    let all = all_between re (wrap_in d) (lines d.text) c.line_count.result (omega (arith, c.line_count.ensures)) in
    rw on (subst (λ (fs : List RowMatches). IfOk c.find_in_lines.result (λ f. map matches_of f.items ≡ fs)) all c.find_in_lines.ensures.found)

pub returns-clause-found : goal.returns-clause-found
unfolding rows_of
returns-clause-found c =
    let d = c.args.store.now in
    let re = regex_pattern c.args.term.pattern.now in
    let off : d.layout.match_lines ≡ false = ap (λ (l : Layout). l.match_lines) (sym c.layout.ensures) ∙ c.if-layout.false in
    let count = c.formatted_lines_count.result in
    let all : take (count - 0) (drop 0 (rows_of d)) ≡ rows_of d = take_all (count - 0) (rows_of d) (omega (arith, c.formatted_lines_count.ensures.value)) in
    rw off (subst (λ (rows : List (List ℕ)). IfOk c.find_in_rows.result (λ f. map matches_of f.items ≡ found_in_rows re 0 rows)) all c.find_in_rows.ensures.found)

pub returns-clause-stand : goal.returns-clause-stand
returns-clause-stand c = c.find_in_rows.ensures.stand
