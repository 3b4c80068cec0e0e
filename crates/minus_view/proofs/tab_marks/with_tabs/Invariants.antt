-- What is left has the tabs that are left.
use Rattle.std.proofs.Common.{◌≡◌, ◌++◌, drop, string_bytes}
use denote.Text.{Utf8}
use denote.Shadow.{shadow}
use Rattle.minus_view.specs.TabMarks.{with_tabs}
use Rattle.minus_view.proofs.tab_marks.with_tabs.Given as goal

abbrev pub invariant-loop-tab : goal.invariant-loop-tab
invariant-loop-tab l = record {
  utf8 : shadow (Utf8 l.rest);
  text : string_bytes l.out ++ with_tabs l.at l.rest (drop l.tab-index l.tabs) ≡ with_tabs l.place l.text l.tabs;
}
