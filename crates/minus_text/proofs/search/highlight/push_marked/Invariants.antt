-- What stands in the row so far, and what is still to be added.
use Rattle.std.proofs.Common.{◌≡◌, ◌++◌, [], false, drop}
use Rattle.minus_text.specs.Escapes.{CutsText}
use Rattle.minus_text.specs.Highlight.{ordered, put_in}
use Rattle.minus_text.proofs.search.highlight.push_marked.Given as goal

abbrev pub invariant-loop-place : goal.invariant-loop-place
invariant-loop-place g l =
    (g.T.PushText.bytes l.out ++ put_in l.text l.at (ordered false (drop l.place-index l.matches) []) ≡ g.T.PushText.bytes l.fn.out ++ put_in l.text 0 (ordered false l.matches []))
    × CutsText l.text l.at (drop l.place-index l.matches)
