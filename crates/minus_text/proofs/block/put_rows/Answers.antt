-- One row more.
use Rattle.std.proofs.Common.{◌+◌, ◌<◌, ◌≤◌, ◌++◌, length, map, refl, sym, ap, ◌∙◌, arith, append_assoc}
use Rattle.std.specs.List.{slice_get}
use Rattle.std.proofs.lemmas.List.{take_all}
use Rattle.minus_text.specs.FoundRows.{pattern_of}
use Rattle.minus_text.specs.Fragments.{rows_in}
use Rattle.minus_text.specs.Found.{found_by}
use Rattle.minus_text.specs.Blocks.{fragment_of, block_rows, one, keys_with}
use Rattle.minus_text.proofs.BlockLaws.{rows_more, keys_more, length-block_rows}
use Rattle.minus_text.proofs.block.put_rows.Goals as goal

pub loop-i-preserved : goal.loop-i-preserved
loop-i-preserved g c =
    let term = pattern_of c.args.term in
    let b = c.args.block.now in
    let i = c.loop-i.i in
    let shown = block_rows term b in
    let rows = rows_in (fragment_of b) in
    let start = g.B.AppendableBuffer.rows c.args.buffer.now in
    let old = g.B.AppendableBuffer.rows c.loop-i.buffer in
    let inv = c.loop-i.invariant in
    let more : i < length rows = omega (arith, c.rows_len-i-end.ensures.value, c.loop-i-test.true) in
    record {
      same = c.put_row.ensures.same ∙ inv.same;
      rows = c.in_ok-put_row.ensures.rows ∙ ap (λ t. old ++ one (slice_get (block_rows t b) i)) inv.same ∙ ap (λ l. l ++ one (slice_get shown i)) inv.rows
          ∙ append_assoc start _ (one (slice_get shown i)) ∙ ap (λ l. start ++ l) (sym (rows_more shown i));
      found = keys_more term b.first_row i (b.first_row + i) rows c.loop-i.found.keys _ refl more inv.found (c.in_ok-put_row.ensures.found ∙ ap (λ t. keys_with t (b.first_row + i) (slice_get rows i) c.loop-i.found.keys) inv.same);
    }

pub returns-clause-rows : goal.returns-clause-rows
returns-clause-rows g c =
    let term = pattern_of c.args.term in
    let b = c.args.block.now in
    let past : length (block_rows term b) ≤ c.loop-i.i = omega (arith, c.rows_len-i-end.ensures.value, c.loop-i-test.false, length-block_rows term b) in
    c.loop-i.invariant.rows ∙ ap (λ l. g.B.AppendableBuffer.rows c.args.buffer.now ++ l) (take_all c.loop-i.i (block_rows term b) past)

pub returns-clause-found : goal.returns-clause-found
returns-clause-found g c =
    let term = pattern_of c.args.term in
    let b = c.args.block.now in
    let rows = rows_in (fragment_of b) in
    let past : length rows ≤ c.loop-i.i = omega (arith, c.rows_len-i-end.ensures.value, c.loop-i-test.false) in
    c.loop-i.invariant.found ∙ ap (λ l. map (λ f. f.row) (found_by term b.first_row l)) (take_all c.loop-i.i rows past)
