-- It is what the rows are written by where lines are not wrapped.
use Rattle.minus_draw.proofs.written_rows.write_lines_in_horizontal_scroll.Goals as goal

pub returns-clause-ok : goal.returns-clause-ok
returns-clause-ok g c = c.write_lines.ensures.ok

pub returns-clause-err : goal.returns-clause-err
returns-clause-err g c = c.write_lines.ensures.err
