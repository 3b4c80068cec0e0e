-- With a newline at the end, and without.
use Rattle.std.proofs.Common.{◌≡◌, ◌++◌, ◌∷◌, [], length, ap, sym, ◌∙◌, lit<}
use Rattle.std.proofs.lemmas.Str.{IsCharBoundary-end}
use Rattle.std.proofs.lemmas.Str.Pattern.{strip_suffix_char}
use Rattle.minus_text.proofs.LinePlacesLaws.{end_of_finished, end_of_unfinished, boundary_of_finished}
use Rattle.minus_text.proofs.lines.last_line_end.Goals as goal

pub returns-in-Some-clause-value : goal.returns-in-Some-clause-value
returns-in-Some-clause-value c =
    let said = strip_suffix_char 10 c.args.text.now c.strip_suffix.result c.strip_suffix.ensures.cases (lit< tt) in
    let split : c.args.text.now ≡ c.in-Some.front.now ++ 10 ∷ [] = rw c.in-Some.is at said in
    ap length c.without_return.ensures ∙ sym (end_of_finished c.args.text.now c.in-Some.front.now split)

pub returns-in-Some-clause-boundary : goal.returns-in-Some-clause-boundary
returns-in-Some-clause-boundary c =
    let said = strip_suffix_char 10 c.args.text.now c.strip_suffix.result c.strip_suffix.ensures.cases (lit< tt) in
    let split : c.args.text.now ≡ c.in-Some.front.now ++ 10 ∷ [] = rw c.in-Some.is at said in
    rw c.without_return.ensures (boundary_of_finished c.args.text.now c.in-Some.front.now c.utf8.text split)

pub returns-in-None-clause-value : goal.returns-in-None-clause-value
returns-in-None-clause-value c =
    let said = strip_suffix_char 10 c.args.text.now c.strip_suffix.result c.strip_suffix.ensures.cases (lit< tt) in
    sym (end_of_unfinished c.args.text.now (rw c.in-None.is at said))

pub returns-in-None-clause-boundary : goal.returns-in-None-clause-boundary
returns-in-None-clause-boundary c = IsCharBoundary-end c.args.text.now
