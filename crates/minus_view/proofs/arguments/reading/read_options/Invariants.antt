-- The options so far lead to what was read so far.
use Rattle.std.proofs.Common.{◌≡◌, ◌≤◌, ◌-◌, drop, length}
use Rattle.minus_view.specs.Paging.{bare_paging}
use Rattle.minus_view.specs.Reading.{bare_reading, new_reading, read_options}
use Rattle.minus_view.proofs.arguments.reading.read_options.Given as goal

abbrev pub invariant-loop-at : goal.invariant-loop-at
invariant-loop-at l = record {
  within : l.at ≤ length l.text;
  read : read_options (bare_reading l.reading) 0 (drop l.at l.text) ≡ read_options (new_reading (bare_paging l.fn.paging)) 0 l.text;
}

abbrev pub decreases-loop-at : goal.decreases-loop-at
decreases-loop-at l = length l.text - l.at
