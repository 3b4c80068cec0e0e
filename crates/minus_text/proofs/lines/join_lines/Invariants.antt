-- The lines so far, and those that are left.
use denote.Text.{Utf8}
use denote.Shadow.{shadow}
use Rattle.std.proofs.Common.{◌≡◌, ◌++◌, length, string_bytes}
use Rattle.minus_text.specs.LinePlaces.{joined_lines}
use Rattle.minus_text.proofs.lines.join_lines.Given as goal

abbrev pub invariant-loop-line : goal.invariant-loop-line
invariant-loop-line l = record {
  so_far : string_bytes l.joined ++ joined_lines l.rest ≡ joined_lines l.text;
  utf8 : shadow (Utf8 l.rest);
}

abbrev pub decreases-loop-line : goal.decreases-loop-line
decreases-loop-line l = length l.rest
