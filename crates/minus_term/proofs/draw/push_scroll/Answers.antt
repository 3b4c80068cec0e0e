-- The bytes are put together from their end.
use Rattle.std.proofs.Common.{◌++◌, List, ℕ, decimal, ap, ◌∙◌}
use Rattle.std.proofs.lemmas.Result.{IfOk-equal}
use Rattle.minus_term.specs.Written.{escape}
use Rattle.minus_term.proofs.WrittenLaws.{from_place, scroll_bytes-some}
use Rattle.minus_term.proofs.draw.push_scroll.Goals as goal

pub returns-clause-ok : goal.returns-clause-ok
returns-clause-ok c =
    let digits = c.write_number-end.ensures.written ∙ ap (λ (l : List ℕ). decimal c.from.result ++ l) c.write_byte-end.ensures.written in
    let bytes = from_place _ 48 _ c.write_escape-start.array_long ∙ c.write_escape-start.ensures.written ∙ ap (λ (l : List ℕ). escape ++ l) digits in
    let is = bytes ∙ scroll_bytes-some c.args.n _ _ c.from.ensures assumption in
    IfOk-equal c.push_bytes.result c.push_bytes.new.out.items _ _ c.push_bytes.ensures.ok (ap (λ (l : List ℕ). c.args.out.now.items ++ l) is)
