-- The spaces so far were put.
use Rattle.std.proofs.Common.{◌≡◌, ◌++◌, string_bytes, replicate}
use Rattle.minus_view.proofs.sheet.Sheet.put_spaces.Given as goal

abbrev pub invariant-loop-left : goal.invariant-loop-left
invariant-loop-left l = record {
  styled : l.self.styled ≡ l.fn.self.styled;
  put : string_bytes l.self.text ++ replicate l.left 32 ≡ string_bytes l.fn.self.text ++ replicate l.count 32;
}

abbrev pub decreases-loop-left : goal.decreases-loop-left
decreases-loop-left l = l.left
