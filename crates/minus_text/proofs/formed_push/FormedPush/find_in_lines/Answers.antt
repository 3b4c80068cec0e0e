-- What is formed is whole lines, each with the number of its first row.
use Rattle.std.proofs.Common.{◌≡◌, ◌++◌, map, true, sym, ap, ap₂, subst, ◌∙◌}
use Rattle.std.specs.Str.Lines.{lines}
use Rattle.minus_text.specs.Lines.{cut}
use Rattle.minus_text.specs.Document.{first_rows}
use Rattle.minus_text.specs.Fragments.{rows_in}
use Rattle.minus_text.specs.Found.{AreFoundIn}
use Rattle.minus_text.specs.FoundRows.{finder_pattern, matches_of}
use Rattle.minus_text.specs.LineFinds.{finds_in_lines}
use Rattle.minus_text.specs.LineSplits.{lines_of}
use Rattle.minus_text.specs.Pending.{Pending}
use Rattle.minus_text.proofs.LinesLaws.{lines-cut}
use Rattle.minus_text.proofs.LineRangeLaws.{found_alike, stands_alike}
use Rattle.minus_text.proofs.formed_push.FormedPush.find_in_lines.Goals as goal

pub find_in_text-requires-clause-firsts : goal.find_in_text-requires-clause-firsts
find_in_text-requires-clause-firsts c =
    let on : c.self.inside.match_lines ≡ true = ap (λ (p : Pending). p.match_lines) c.self.view_is ∙ c.requires in
    let text : lines c.as_str.result.now ≡ lines_of (cut c.as_str.result.now) = lines-cut c.as_str.result.now in
    let kept = ap (λ (p : Pending). p.kept_rows) c.self.view_is ∙ sym c.kept_rows.ensures.value in
    c.as_slice-2.ensures ∙ c.self.invariant.2 on ∙ ap₂ (λ n t. first_rows c.self.inside.wrap n (lines t)) kept (sym c.as_str.ensures.value)
    ∙ ap (first_rows c.self.inside.wrap c.kept_rows.result) text

pub returns-clause-found : goal.returns-clause-found
returns-clause-found c =
    let re = finder_pattern c.args.finder.now in
    let wrap = ap (λ (p : Pending). p.tail.wrap) c.self.view_is in
    let text = c.as_str.ensures.value ∙ ap (λ (p : Pending). p.tail.text) c.self.view_is in
    c.in_ok-find_in_text.ensures.found
    ∙ ap (λ l. map matches_of l ++ finds_in_lines re c.self.inside.wrap c.kept_rows.result (lines_of (cut c.as_str.result.now))) c.new-found.ensures.items
    ∙ found_alike re c.self.inside.wrap c.args.self.now.tail.wrap c.kept_rows.result c.args.self.now.kept_rows c.as_str.result.now c.args.self.now.tail.text wrap c.kept_rows.ensures.value text

pub returns-clause-stand : goal.returns-clause-stand
unfolding rows_in
returns-clause-stand c =
    let re = finder_pattern c.args.finder.now in
    let wrap = ap (λ (p : Pending). p.tail.wrap) c.self.view_is in
    let text = c.as_str.ensures.value ∙ ap (λ (p : Pending). p.tail.text) c.self.view_is in
    let found =
    c.in_ok-find_in_text.ensures.found
    ∙ ap (λ l. map matches_of l ++ finds_in_lines re c.self.inside.wrap c.kept_rows.result (lines_of (cut c.as_str.result.now))) c.new-found.ensures.items
    ∙ found_alike re c.self.inside.wrap c.args.self.now.tail.wrap c.kept_rows.result c.args.self.now.kept_rows c.as_str.result.now c.args.self.now.tail.text wrap c.kept_rows.ensures.value text in
    subst (AreFoundIn c.args.self.now.kept_rows (rows_in c.args.self.now.tail)) (sym found)
    (stands_alike re c.self.inside.wrap c.args.self.now.tail.wrap c.kept_rows.result c.args.self.now.kept_rows c.as_str.result.now c.args.self.now.tail.text wrap c.kept_rows.ensures.value text c.in_ok-find_in_text.ensures.stands)
