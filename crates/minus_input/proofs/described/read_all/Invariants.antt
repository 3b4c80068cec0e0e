use Rattle.std.proofs.Common.{map, take}
use Rattle.minus_input.specs.Described.{Describe}
use Rattle.minus_input.proofs.described.read_all.Given as goal

abbrev pub invariant-loop-place : goal.invariant-loop-place
invariant-loop-place g l = Describe g.D.Described.describes (take l.place (map (λ t. t.now) l.texts)) l.keys.items
