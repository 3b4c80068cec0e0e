-- Places in the lines of a text, and the lines joined.
use Rattle.std.specs.Prelude.{ℕ, ◌-◌, ◌==◌, List, [], ◌∷◌, ◌++◌, length, take, slice_index, if◌then◌else◌}
use Rattle.std.specs.Str.Lines.{strip_carriage_return}
use Rattle.minus_text.specs.declared.rows.Span.{Span}
use Rattle.minus_text.specs.Lines.{cut, finished_lines, unfinished_line}
use Rattle.minus_text.specs.Document.{Document, wrap_in}
use Rattle.minus_text.specs.Kept.{stored_from}

-- lines with a newline behind each, and what follows them
abbrev pub with_newlines : List (List ℕ) → List ℕ → List ℕ
with_newlines [] last = last
with_newlines (line ∷ more) last = line ++ 10 ∷ with_newlines more last

-- the lines of a text joined by newlines: the text without the carriage return at the end of each finished line
unfoldable pub joined_lines : List ℕ → List ℕ
joined_lines text = with_newlines (finished_lines text) (unfinished_line text)

-- where the last line of a text ends, in bytes: before the newline that ends it, and a carriage return before that
unfoldable pub last_line_end : List ℕ → ℕ
last_line_end text =
    if slice_index text (length text - 1) == 10 then length (strip_carriage_return (take (length text - 1) text))
    else length text

-- the place of each row in the text of a document: its place in its line, behind the lines before
unfoldable pub row_places : Document → List Span
row_places d = stored_from (wrap_in d) 0 (cut d.text)
