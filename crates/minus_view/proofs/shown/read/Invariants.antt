-- Where the characters so far lead.
use Rattle.std.proofs.Common.{◌≡◌, Some}
use Rattle.minus_view.specs.Shown.{read}
use Rattle.minus_view.proofs.shown.read.Given as goal

abbrev pub invariant-loop-c : goal.invariant-loop-c
invariant-loop-c l = l.at ≡ read l.yielded (Some l.fn.spot)
