-- The rows so far.
use Rattle.std.proofs.Common.{◌≡◌, map, take, string_bytes}
use Rattle.minus_text.specs.Rows.{line_rows}
use Rattle.minus_text.proofs.rows.format_line.Given as goal

abbrev pub invariant-loop-span : goal.invariant-loop-span
invariant-loop-span l = map string_bytes l.rows.items ≡ take l.span-index (line_rows l.cols l.line)
