use Rattle.std.proofs.Common.{map, take, List}
use Rattle.minus_input.specs.declared.event_form.EventWrapper.{EventWrapper}
use Rattle.minus_input.specs.Described.{Describe}
use Rattle.minus_input.proofs.described.check_all.Given as goal

abbrev pub invariant-loop-place : goal.invariant-loop-place
invariant-loop-place g l = (keys : List EventWrapper) × Describe g.D.Described.describes (take l.place (map (λ t. t.now) l.texts)) keys
