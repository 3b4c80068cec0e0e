-- The texts so far.
use Rattle.std.proofs.Common.{◌≡◌, map, take, string_bytes}
use Rattle.minus_state.specs.Showing.{row_text}
use Rattle.minus_draw.proofs.page.shown_texts.Given as goal

abbrev pub invariant-loop-row : goal.invariant-loop-row
invariant-loop-row l = map row_text l.shown.items ≡ map string_bytes (take l.row-index l.rows)
