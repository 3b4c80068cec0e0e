-- What is shown so far, and how far the text was counted.
use Rattle.std.proofs.Common.{◌≡◌, ◌+◌, ◌*◌, ◌≤◌, ◌++◌, ℕ, length, drop, chars}
use Rattle.std.specs.List.{filter}
use Rattle.minus_text.specs.Escapes.{CutsText}
use Rattle.minus_text.specs.TextUnits.{text_units, bytes_left}
use Rattle.minus_text.specs.ShownMatches.{shows_match, shown_matches}
use Rattle.minus_text.specs.Walks.{Counts}
use Rattle.minus_text.proofs.search.shown_matches.shown_matches.Given as goal

abbrev pub invariant-loop-place : goal.invariant-loop-place
invariant-loop-place l = record {
  so_far : l.shown.items ++ filter (shows_match l.window.left l.window.width (text_units (chars l.text))) (drop l.place-index l.matches) ≡ shown_matches l.window.left l.window.width l.text l.matches;
  counted : (p : ℕ) × Counts l.walk (text_units (chars l.text)) p × CutsText l.text p (drop l.place-index l.matches);
  bytes : l.walk.at + length (bytes_left l.walk.rest) ≤ length l.text;
  room : l.walk.columns + 2 * length (bytes_left l.walk.rest) ≤ 2 * length l.text;
}
