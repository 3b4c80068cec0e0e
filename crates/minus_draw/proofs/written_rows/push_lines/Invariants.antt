-- What is shown of the lines so far is written.
use Rattle.std.proofs.Common.{◌≡◌, ◌++◌, map, take}
use Rattle.minus_term.specs.Written.{written_all}
use Rattle.minus_draw.specs.WrittenRows.{lines_ops}
use Rattle.minus_draw.proofs.written_rows.push_lines.Given as goal

abbrev pub invariant-loop-line : goal.invariant-loop-line
invariant-loop-line g l =
    l.bytes.items ≡ l.fn.bytes.items ++ written_all (lines_ops l.style.wrapping l.style.cols l.style.left_mark l.style.numbers l.style.line_count (map g.L.AsStr.text (take l.line-index l.lines)))
