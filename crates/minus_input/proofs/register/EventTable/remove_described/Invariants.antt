use Rattle.std.proofs.Common.{map, take}
use Rattle.minus_input.specs.EventTables.{register_of}
use Rattle.minus_input.specs.RegisterCalls.{IsRemoved}
use Rattle.minus_input.proofs.register.EventTable.remove_described.Given as goal

abbrev pub invariant-loop-place : goal.invariant-loop-place
invariant-loop-place g l = IsRemoved g.D.Described.describes (take l.place (map (λ t. t.now) l.texts)) (register_of l.initial.self) (register_of l.self)
