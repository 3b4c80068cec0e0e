-- The first line goes on what is kept, and the others follow it.
use Rattle.std.proofs.Common.{◌≡◌, ◌+◌, length, ap, arith, ◌∙◌}
use Rattle.minus_text.proofs.LayoutLaws.{own_rows-some}
use Rattle.minus_text.proofs.PreparedLaws.{ended_is, ended_boundary, ended_prepared, strip_few}
use Rattle.minus_text.proofs.formed.form.Goals as goal

pub begin_line-requires-clause-boundary : goal.begin_line-requires-clause-boundary
begin_line-requires-clause-boundary c =
    let h = c.requires.start in
    let p = ended_is c.args.wrap c.args.text.now c.in-Some.first.now c.in-Some.more.now c.args.start h.0 h.1 c.in-Some.ensures.cut h.2 h.3 h.4 in
    rw c.without_return.ensures (ended_boundary c.args.wrap c.in-Some.first.now c.args.start h.0 p.0 h.2 p.2 p.1).0

pub begin_line-requires-clause-columns : goal.begin_line-requires-clause-columns
begin_line-requires-clause-columns c =
    let h = c.requires.start in
    let p = ended_is c.args.wrap c.args.text.now c.in-Some.first.now c.in-Some.more.now c.args.start h.0 h.1 c.in-Some.ensures.cut h.2 h.3 h.4 in
    let few = (ended_boundary c.args.wrap c.in-Some.first.now c.args.start h.0 p.0 h.2 p.2 p.1).1 in
    rw c.without_return.ensures (omega (arith, few, strip_few c.in-Some.first.now, c.in-Some.ensures.room, c.requires.bytes))

pub form_lines-requires-clause-first_row : goal.form_lines-requires-clause-first_row
form_lines-requires-clause-first_row c =
    let some = own_rows-some c.args.wrap c.without_return.result.now in
    (c.args.start.finished.rows, c.in_ok-forming.ensures.its_map, omega (arith, some, c.in_ok-forming.ensures.its_count, c.len.ensures, c.in_ok-forming.forming.rows.ok.0))

pub returns : goal.returns
returns c =
    let rows : c.len.result ≡ length c.in_ok-forming.forming.rows.items = c.len.ensures ∙ c.in_ok-forming.forming.rows.ok.0 in
    let begun = rw c.without_return.ensures at c.in_ok-forming.ensures in
    ended_prepared c.args.wrap c.args.text.now c.in-Some.first.now c.in-Some.more.now c.args.start c.in_ok-forming.forming _ c.in_ok-formed.formed c.in-Some.ensures.cut begun c.in_ok-formed.ensures
    (omega arith) (ap (λ n. (c.args.start.finished.rows + c.args.start.rows) + n) rows) (omega arith) c.max.ensures
