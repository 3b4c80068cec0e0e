-- The numbers so far stand at the front, and what is behind them stays.
use Rattle.std.proofs.Common.{◌≡◌, take, drop, map}
use Rattle.minus_c.specs.Refused.{refusal_number}
use Rattle.minus_c.proofs.held.put_numbers.Given as goal

abbrev pub invariant-loop-i : goal.invariant-loop-i
invariant-loop-i l = record {
  front : take l.i l.room ≡ take l.i (map refusal_number l.refusals);
  behind : drop l.i l.room ≡ drop l.i l.initial.room;
}
