-- The columns so far and those of the rest.
use Rattle.std.proofs.Common.{◌≡◌, ◌+◌, ◌*◌, ◌≤◌, length, chars}
use denote.Text.{Utf8}
use denote.Shadow.{shadow}
use Rattle.std.specs.List.{sum_by}
use Rattle.minus_text.specs.Units.{char_columns}
use Rattle.minus_text.proofs.units.chars_columns.Given as goal

abbrev pub invariant-loop-c : goal.invariant-loop-c
invariant-loop-c l = record {
  utf8 : shadow (Utf8 l.rest);
  sum : l.width + sum_by char_columns (chars l.rest) ≡ sum_by char_columns (chars l.text);
  room : l.width + 2 * length l.rest ≤ 2 * length l.text;
}

abbrev pub decreases-loop-c : goal.decreases-loop-c
decreases-loop-c l = length l.rest
