-- The digits so far make the number so far.
use Rattle.std.proofs.Common.{◌≡◌, drop}
use Rattle.minus_view.specs.Numbers.{number}
use Rattle.minus_view.proofs.numbers.number.Given as goal

abbrev pub invariant-loop-byte : goal.invariant-loop-byte
invariant-loop-byte l = number l.so_far (drop l.byte-index l.bytes) ≡ number 0 l.bytes
