use Rattle.std.proofs.Common.{◌≡◌, ◌+◌, ◌++◌, ◌≤◌, length, max}
use denote.Text.{Utf8}
use denote.Shadow.{shadow}
use Rattle.std.specs.List.{sum_by}
use Rattle.minus_text.specs.Lines.{cut, finished_lines}
use Rattle.minus_text.specs.Document.{rows_of_lines, first_rows, longest_of}
use Rattle.minus_text.specs.Kept.{closed_stored, bytes_of}
use Rattle.minus_text.proofs.formed.form_lines.Given as goal

-- what the lines so far and those of the rest give is what all give
abbrev pub invariant-loop-first : goal.invariant-loop-first
invariant-loop-first l = record {
  utf8 : shadow (Utf8 l.rest);
  rows : l.forming.rows.items ++ closed_stored l.wrap l.place.bytes (cut l.rest).closed ≡ l.fn.forming.rows.items ++ closed_stored l.wrap l.from.bytes (cut l.text).closed;
  count : length l.forming.rows.items + length (rows_of_lines l.wrap (finished_lines l.rest)) ≡ length l.fn.forming.rows.items + length (rows_of_lines l.wrap (finished_lines l.text));
  first_row : l.forming.first_rows.items ++ first_rows l.wrap l.place.rows (finished_lines l.rest) ≡ l.fn.forming.first_rows.items ++ first_rows l.wrap l.from.rows (finished_lines l.text);
  reached : l.place.rows ≡ l.kept + length l.forming.rows.items;
  longest : max l.forming.longest (longest_of (finished_lines l.rest)) ≡ max l.fn.forming.longest (longest_of (finished_lines l.text));
  line : l.place.lines + length (cut l.rest).closed ≡ l.from.lines + length (cut l.text).closed;
  at : l.place.bytes + sum_by bytes_of (cut l.rest).closed ≡ l.from.bytes + sum_by bytes_of (cut l.text).closed;
  open_line : (cut l.rest).open_line ≡ (cut l.text).open_line;
  room : l.place.bytes + length l.rest ≡ l.from.bytes + length l.text;
  lines : l.place.lines + length l.rest ≤ l.from.lines + length l.text;
}

abbrev pub decreases-loop-first : goal.decreases-loop-first
decreases-loop-first l = length l.rest
