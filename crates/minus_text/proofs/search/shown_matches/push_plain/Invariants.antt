-- What is added so far, and what is still to be added.
use Rattle.std.proofs.Common.{◌≡◌, ◌++◌, ◌≤◌, drop, min}
use Rattle.minus_text.specs.ShownMatches.{marked_stretch}
use Rattle.minus_text.proofs.search.shown_matches.push_plain.Given as goal

abbrev pub invariant-loop-place : goal.invariant-loop-place
invariant-loop-place g l = record {
  so_far : g.T.PushText.bytes l.out ++ marked_stretch l.text l.at l.end (drop l.place-index l.standing)
      ≡ g.T.PushText.bytes l.fn.out ++ marked_stretch l.text (min l.fn.window.left l.end) l.end l.matches;
  order : l.at ≤ l.end;
}
