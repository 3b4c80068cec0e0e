use Rattle.std.proofs.Common.{◌≡◌, ◌++◌, map, take}
use Rattle.minus_text.specs.Kept.{moved}
use Rattle.minus_text.proofs.formed.push_rows.Given as goal

-- the parts so far are stored
abbrev pub invariant-loop-part : goal.invariant-loop-part
invariant-loop-part l = l.rows.items ≡ l.fn.rows.items ++ map (moved l.at) (take l.part-index l.part-items)
