-- The operations so far are written.
use Rattle.std.proofs.Common.{◌≡◌, ◌++◌, map, take}
use Rattle.minus_term.specs.Operations.{op_of}
use Rattle.minus_term.specs.Written.{written_all}
use Rattle.minus_term.proofs.draw.write_ops.Given as goal

abbrev pub invariant-loop-op : goal.invariant-loop-op
invariant-loop-op l = l.out.items ≡ l.initial.out.items ++ written_all (map op_of (take l.op-index l.ops))
