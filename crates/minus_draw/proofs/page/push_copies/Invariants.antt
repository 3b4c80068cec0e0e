-- The copies so far.
use Rattle.std.proofs.Common.{◌≡◌, ◌++◌, map, take, string_bytes}
use Rattle.minus_state.specs.Showing.{row_text}
use Rattle.minus_draw.proofs.page.push_copies.Given as goal

abbrev pub invariant-loop-text : goal.invariant-loop-text
invariant-loop-text l = map string_bytes l.rows.items ≡ map string_bytes l.fn.rows.items ++ map row_text (take l.text-index l.texts)
