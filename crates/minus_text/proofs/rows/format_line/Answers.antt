-- Each place cuts out its row.
use Rattle.std.proofs.Common.{◌<◌, ◌∙◌, [], length, string_bytes, arith}
use Rattle.std.proofs.lemmas.List.{take_all}
use Rattle.minus_text.specs.declared.rows.Span.{Span}
use Rattle.minus_text.specs.Rows.{line_rows, ArePlaces}
use Rattle.minus_text.proofs.RowsLaws.{place_at, places_count, row_formed}
use Rattle.minus_text.proofs.rows.format_line.Goals as goal

pub range-requires-clause-start_le_end : goal.range-requires-clause-start_le_end
range-requires-clause-start_le_end c =
    let d : Span = record { start = 0; end = 0 } in
    let are : ArePlaces c.args.line.now c.deref-span-items.result.now (line_rows c.args.cols c.args.line.now) = rw c.deref-span-items.ensures.value c.in_ok-spans.ensures.rows in
    let here = place_at c.args.line.now c.deref-span-items.result.now (line_rows c.args.cols c.args.line.now) c.loop-span.span-index d [] are c.loop-span-test.true in
    here.ordered

pub range-requires-clause-start_boundary : goal.range-requires-clause-start_boundary
range-requires-clause-start_boundary c = λ some.
    let d : Span = record { start = 0; end = 0 } in
    let are : ArePlaces c.args.line.now c.deref-span-items.result.now (line_rows c.args.cols c.args.line.now) = rw c.deref-span-items.ensures.value c.in_ok-spans.ensures.rows in
    let here = place_at c.args.line.now c.deref-span-items.result.now (line_rows c.args.cols c.args.line.now) c.loop-span.span-index d [] are c.loop-span-test.true in
    here.start

pub range-requires-clause-end_boundary : goal.range-requires-clause-end_boundary
range-requires-clause-end_boundary c =
    let d : Span = record { start = 0; end = 0 } in
    let are : ArePlaces c.args.line.now c.deref-span-items.result.now (line_rows c.args.cols c.args.line.now) = rw c.deref-span-items.ensures.value c.in_ok-spans.ensures.rows in
    let here = place_at c.args.line.now c.deref-span-items.result.now (line_rows c.args.cols c.args.line.now) c.loop-span.span-index d [] are c.loop-span-test.true in
    here.end

pub loop-span-preserved : goal.loop-span-preserved
loop-span-preserved c =
    let d : Span = record { start = 0; end = 0 } in
    let are : ArePlaces c.args.line.now c.deref-span-items.result.now (line_rows c.args.cols c.args.line.now) = rw c.deref-span-items.ensures.value c.in_ok-spans.ensures.rows in
    let here = place_at c.args.line.now c.deref-span-items.result.now (line_rows c.args.cols c.args.line.now) c.loop-span.span-index d [] are c.loop-span-test.true in
    let count = places_count c.args.line.now c.deref-span-items.result.now (line_rows c.args.cols c.args.line.now) are in
    let within : c.loop-span.span-index < length (line_rows c.args.cols c.args.line.now) = let l = c.loop-span-test.true in omega (arith, count, l) in
    row_formed string_bytes c.loop-span.rows.items c.push.new.self.items c.in_ok-from_str.field-0 (line_rows c.args.cols c.args.line.now) c.loop-span.span-index c.loop-span.invariant within
    (c.in_ok-from_str.ensures.ok ∙ c.range.ensures.value ∙ here.value) c.in_ok-push.ensures.items

pub returns : goal.returns
returns c =
    let are : ArePlaces c.args.line.now c.deref-span-items.result.now (line_rows c.args.cols c.args.line.now) = rw c.deref-span-items.ensures.value c.in_ok-spans.ensures.rows in
    let count = places_count c.args.line.now c.deref-span-items.result.now (line_rows c.args.cols c.args.line.now) are in
    let past = c.loop-span-test.false in
    c.loop-span.invariant ∙ take_all c.loop-span.span-index (line_rows c.args.cols c.args.line.now) (omega (arith, count, past))
