-- What is seen so far passes.
use Rattle.std.proofs.Common.{◌≡◌, take}
use Rattle.std.specs.List.{list_all}
use Rattle.minus_text.specs.Hyphens.{is_unhyphened}
use Rattle.minus_text.proofs.hyphens.is_unhyphened.Given as goal

abbrev pub invariant-loop-b : goal.invariant-loop-b
invariant-loop-b l = l.unhyphened ≡ list_all is_unhyphened (take l.b-index l.text)
