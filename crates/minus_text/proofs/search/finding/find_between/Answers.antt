use Rattle.std.proofs.Common.{◌≡◌, true, false, Some, sym, ap, ◌∙◌}
use Rattle.std.proofs.lemmas.Result.{IfOk-weaker}
use Rattle.regex.specs.Strings.{regex_pattern}
use Rattle.minus_text.specs.declared.layout.Layout.{Layout}
use Rattle.minus_text.specs.Document.{rows_of}
use Rattle.minus_text.specs.Found.{found_of_row}
use Rattle.minus_text.proofs.FoundRangeLaws.{of_some}
use Rattle.minus_text.proofs.search.finding.find_between.Goals as goal

pub returns-then-layout-clause-found : goal.returns-then-layout-clause-found
returns-then-layout-clause-found c =
    let on : c.args.store.now.layout.match_lines ≡ true = ap (λ (l : Layout). l.match_lines) (sym c.layout.ensures) ∙ c.if-layout.true in
    rw on c.find_in_lines_of.ensures.found

pub returns-clause-found : goal.returns-clause-found
unfolding rows_of
returns-clause-found c =
    let d = c.args.store.now in
    let re = regex_pattern c.args.term.pattern.now in
    let off : d.layout.match_lines ≡ false = ap (λ (l : Layout). l.match_lines) (sym c.layout.ensures) ∙ c.if-layout.false in
    rw off (IfOk-weaker c.find_in_rows.result _ _ (λ f e. λ i from to. ap (found_of_row i) e ∙ of_some (Some re) c.args.start c.args.end i (rows_of d) from to) c.find_in_rows.ensures.found)

pub returns-clause-stand : goal.returns-clause-stand
returns-clause-stand c = c.find_in_rows.ensures.stand
