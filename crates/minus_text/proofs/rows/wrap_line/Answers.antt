-- The rows that are fitted are those of the line, and what is one row is found to be one.
use Rattle.std.proofs.Common.{◌≡◌, ◌≢◌, ◌∷◌, [], length, arith, sym, ◌∙◌}
use Rattle.std.proofs.lemmas.Bool.{eqb-true, eqb-false}
use Rattle.minus_text.specs.Rows.{line_places}
use Rattle.minus_text.proofs.RowsLaws.{fitted, line_size, line_places-are}
use Rattle.minus_text.proofs.PlainLaws.{empty_row}
use Rattle.minus_text.proofs.rows.wrap_line.Goals.{then-is_empty-via-then-is_empty, then-is_empty-via-else-is_empty+then-is_one_row}
use Rattle.minus_text.proofs.rows.wrap_line.Goals as goal

pub returns-then-is_empty-clause-places : goal.returns-then-is_empty-clause-places
returns-then-is_empty-clause-places c =
    let one = c.in_ok-push.ensures.items in
    let none = c.new-rows.ensures.items in
    let row : line_places c.args.cols c.args.line.now ≡ record { start = 0; end = length c.args.line.now } ∷ [] = elim c.then-is_empty.branch [
      | then-is_empty-via-then-is_empty w ↦ empty_row c.args.cols c.args.line.now (eqb-true (length c.args.line.now) 0 (sym c.is_empty.ensures ∙ w.if-is_empty.true))
      | then-is_empty-via-else-is_empty+then-is_one_row w ↦ w.is_one_row.ensures w.if-is_one_row.true
    ] in
    rw none at one ∙ sym row

pub returns-then-is_empty-clause-rows : goal.returns-then-is_empty-clause-rows
returns-then-is_empty-clause-rows c = rw (returns-then-is_empty-clause-places c) (line_places-are c.args.cols c.args.line.now c.utf8.line)

pub fit-requires : goal.fit-requires
fit-requires c =
    let size = line_size c.args.cols c.args.line.now c.deref.result.now c.utf8.line (c.deref.ensures.value ∙ c.in_ok-pieces.ensures) in
    omega (arith, size)

pub returns-clause-places : goal.returns-clause-places
returns-clause-places c =
    let other : length c.args.line.now ≢ 0 = eqb-false (length c.args.line.now) 0 (sym c.is_empty.ensures ∙ c.if-is_empty.false) in
    let h = c.in_ok-rows.ensures in
    fitted c.args.cols c.args.line.now c.deref.result.now c.in_ok-rows.rows.items c.utf8.line (omega arith) (c.deref.ensures.value ∙ c.in_ok-pieces.ensures) h.0 h.1 h.2

pub returns-clause-rows : goal.returns-clause-rows
returns-clause-rows c =
    let other : length c.args.line.now ≢ 0 = eqb-false (length c.args.line.now) 0 (sym c.is_empty.ensures ∙ c.if-is_empty.false) in
    let h = c.in_ok-rows.ensures in
    rw (fitted c.args.cols c.args.line.now c.deref.result.now c.in_ok-rows.rows.items c.utf8.line (omega arith) (c.deref.ensures.value ∙ c.in_ok-pieces.ensures) h.0 h.1 h.2) (line_places-are c.args.cols c.args.line.now c.utf8.line)
