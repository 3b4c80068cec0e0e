-- The bytes are put together from their end.
use Rattle.std.proofs.Common.{◌++◌, ◌∷◌, ◌+◌, List, ℕ, decimal, ap, ◌∙◌}
use Rattle.std.proofs.lemmas.Result.{IfOk-equal}
use Rattle.minus_term.specs.Written.{escape}
use Rattle.minus_term.proofs.WrittenLaws.{from_place, go_to-from_end}
use Rattle.minus_term.proofs.draw.push_go_to.Goals as goal

pub returns-clause-ok : goal.returns-clause-ok
returns-clause-ok c =
    let column = c.write_byte-end-2.ensures.written ∙ ap (λ (l : List ℕ). 59 ∷ l) (c.write_number-end.ensures.written ∙ ap (λ (l : List ℕ). decimal (c.from-column.result + 1) ++ l) c.write_byte-end.ensures.written) in
    let row = c.write_escape-start.ensures.written ∙ ap (λ (l : List ℕ). escape ++ l) (c.write_number-end-2.ensures.written ∙ ap (λ (l : List ℕ). decimal (c.from-row.result + 1) ++ l) column) in
    let is = from_place _ 48 _ c.write_escape-start.array_long ∙ row ∙ go_to-from_end _ _ _ _ c.from-column.ensures c.from-row.ensures in
    IfOk-equal c.push_bytes.result c.push_bytes.new.out.items _ _ c.push_bytes.ensures.ok (ap (λ (l : List ℕ). c.args.out.now.items ++ l) is)
