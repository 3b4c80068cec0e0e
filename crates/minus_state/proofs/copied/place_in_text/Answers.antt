-- A place in a row is one in the text.
use Rattle.std.proofs.Common.{◌+◌, ◌≤◌, length, rules}
use Rattle.std.specs.Str.{IsUtf8}
use Rattle.minus_state.proofs.CopiedLaws.{side_in_text}
use Rattle.minus_state.proofs.copied.place_in_text.Goals as goal

pub overflow_add-result : goal.overflow_add-result
overflow_add-result c =
    let u : IsUtf8 c.args.screen.now.document.text = rw c.orig_text-text.ensures at c.orig_text-text.utf8 in
    let there = side_in_text c.args.screen.now.document c.args.side c.args.end.absolute_row c.args.end.col c.in-Some-Some.place c.in-Some-Some.own.now c.in_row.result u c.in-Some-Some.ensures c.in-Some-Some.ensures' c.in_row.ensures in
    let within : c.in-Some-Some.place.start + c.in_row.result ≤ length c.orig_text-text.result.now = rw c.orig_text-text.ensures there.within in
    search (rules, within)

pub returns-in-Some-Some-clause-boundary : goal.returns-in-Some-Some-clause-boundary
returns-in-Some-Some-clause-boundary c =
    let u : IsUtf8 c.args.screen.now.document.text = rw c.orig_text-text.ensures at c.orig_text-text.utf8 in
    let there = side_in_text c.args.screen.now.document c.args.side c.args.end.absolute_row c.args.end.col c.in-Some-Some.place c.in-Some-Some.own.now c.in_row.result u c.in-Some-Some.ensures c.in-Some-Some.ensures' c.in_row.ensures in
    there.boundary
