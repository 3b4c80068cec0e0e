-- The digits so far make the number so far.
use Rattle.std.proofs.Common.{◌≡◌, drop}
use Rattle.minus_view.specs.Paging.{line_from}
use Rattle.minus_view.proofs.arguments.option_effects.line_number.Given as goal

abbrev pub invariant-loop-digit : goal.invariant-loop-digit
invariant-loop-digit l = line_from l.line (drop l.digit-index l.digits) ≡ line_from 0 l.digits
