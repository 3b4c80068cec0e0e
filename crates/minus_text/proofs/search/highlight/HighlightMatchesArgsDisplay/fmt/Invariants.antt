use Rattle.std.proofs.Common.{◌≡◌, ℕ, List, ◌++◌, map, drop}
use Rattle.std.specs.Fmt.{HasWritten, IsPlainFormatter}
use Rattle.minus_text.specs.Escapes.{insert_of}
use Rattle.minus_text.specs.Highlight.{put_in, StandIn}
use Rattle.minus_text.specs.Shown.{shown_line}
use Rattle.minus_text.proofs.search.highlight.HighlightMatchesArgsDisplay.fmt.Given as goal

abbrev pub invariant-loop-put : goal.invariant-loop-put
invariant-loop-put g l =
    StandIn l.text l.at (map insert_of (drop l.put-index l.self.puts.items))
    × (IsPlainFormatter l.fn.f → (done : List ℕ) × HasWritten g.W.Write.write_str_gives l.fn.f done l.f
    × (done ++ put_in l.text l.at (map insert_of (drop l.put-index l.self.puts.items)) ≡ shown_line l.self))
