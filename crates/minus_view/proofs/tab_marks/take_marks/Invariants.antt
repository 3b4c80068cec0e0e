-- What was read is kept without its marks, and so are its tabs.
use Rattle.std.proofs.Common.{◌≡◌, ◌++◌, length, string_bytes, None}
use denote.Text.{Utf8}
use denote.Shadow.{shadow}
use Rattle.minus_view.specs.TabMarks.{tab_places, unmarked}
use Rattle.minus_view.proofs.tab_marks.take_marks.Given as goal

abbrev pub invariant-loop-front : goal.invariant-loop-front
invariant-loop-front l = record {
  utf8 : shadow (Utf8 l.rest);
  text : unmarked l.fn.text ≡ string_bytes l.plain ++ unmarked l.rest;
  tabs : tab_places 0 None l.fn.text ≡ l.tabs.items ++ tab_places (length (string_bytes l.plain)) l.begun l.rest;
}

abbrev pub decreases-loop-front : goal.decreases-loop-front
decreases-loop-front l = length l.rest
