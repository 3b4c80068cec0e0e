-- What is seen so far passes.
use Rattle.std.proofs.Common.{◌≡◌, take}
use Rattle.std.specs.List.{list_all}
use Rattle.minus_text.specs.Plain.{is_unescaped}
use Rattle.minus_text.proofs.plain.are_unescaped.Given as goal

abbrev pub invariant-loop-b : goal.invariant-loop-b
invariant-loop-b l = l.unescaped ≡ list_all is_unescaped (take l.b-index l.bytes)
