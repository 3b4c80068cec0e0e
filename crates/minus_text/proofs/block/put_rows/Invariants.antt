use Rattle.std.proofs.Common.{◌≡◌, ◌++◌, map, option_map, take}
use Rattle.minus_text.specs.Fragments.{rows_in}
use Rattle.minus_text.specs.FoundRows.{finder_pattern, pattern_of}
use Rattle.minus_text.specs.Found.{found_by}
use Rattle.minus_text.specs.Blocks.{fragment_of, block_rows}
use Rattle.minus_text.proofs.block.put_rows.Given as goal

abbrev pub invariant-loop-i : goal.invariant-loop-i
invariant-loop-i g l = record {
  same : option_map finder_pattern l.finder ≡ pattern_of l.term;
  rows : g.B.AppendableBuffer.rows l.buffer ≡ g.B.AppendableBuffer.rows l.fn.buffer ++ take l.i (block_rows (pattern_of l.term) l.block);
  found : l.found.keys ≡ map (λ f. f.row) (found_by (pattern_of l.term) l.block.first_row (take l.i (rows_in (fragment_of l.block))));
}
