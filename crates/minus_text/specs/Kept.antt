-- What a Screen keeps beside its text: places in it in the stead of rows.
use Rattle.std.specs.Prelude.{◌≡◌, ℕ, ◌+◌, ◌^◌, ◌<◌, ◌≤◌, ◌==◌, List, [], ◌∷◌, ◌++◌, length, map, max, take, drop}
use Rattle.std.specs.Prelude.{if◌then◌else◌}
use Rattle.std.specs.List.{sum_by}
use Rattle.std.specs.List.Sorted.{IsStrictlyIncreasing}
use Rattle.std.specs.Str.{IsUtf8, IsCharBoundary}
use Rattle.std.specs.Str.Lines.{lines, strip_carriage_return}
use Rattle.minus_text.specs.declared.rows.Span.{Span}
use Rattle.minus_text.specs.declared.formed.Finished.{Finished}
use Rattle.minus_text.specs.declared.formed.Border.{Border}
use Rattle.minus_text.specs.declared.formed.Restart.{Restart}
use Rattle.minus_text.specs.declared.formed.Formed.{Formed}
use Rattle.minus_text.specs.declared.formed.Plan.{Plan}
use Rattle.minus_text.specs.declared.layout.Wrap.{Wrap}
use Rattle.minus_text.specs.Units.{columns}
use Rattle.minus_text.specs.Layouts.{own_rows, own_places}
use Rattle.minus_text.specs.Lines.{Cut, cut, whole, unfinished_line}
use Rattle.minus_text.specs.Document.{rows_of_lines, first_rows, open_rows, longest_of}

-- a part of a line, as a part of the text in which the line begins at a place
abbrev pub moved : ℕ → Span → Span
moved at part = record { start = at + part.start; end = at + part.end }

-- the places of the rows of a line that begins at a place
abbrev pub line_stored : Wrap → ℕ → List ℕ → List Span
line_stored wrap at text = map (moved at) (own_places wrap text)

-- the bytes of a line and its newline
abbrev pub bytes_of : List ℕ → ℕ
bytes_of line = length line + 1

-- the places of the rows of lines that a newline ends, of which the first begins at a place
abbrev pub closed_stored : Wrap → ℕ → List (List ℕ) → List Span
closed_stored wrap at [] = []
closed_stored wrap at (x ∷ xs) =
    line_stored wrap at (strip_carriage_return x) ++ closed_stored wrap (at + bytes_of x) xs

-- the places of the rows of what follows the last newline, none where nothing follows it
abbrev pub open_stored : Wrap → ℕ → List ℕ → List Span
open_stored wrap at text = if length text == 0 then [] else line_stored wrap at text

-- the places of the rows of a text whose first line begins at a place
abbrev pub stored_from : Wrap → ℕ → Cut → List Span
stored_from wrap at c = closed_stored wrap at c.closed ++ open_stored wrap (at + sum_by bytes_of c.closed) c.open_line

-- a place behind closed lines that follow another place: this many lines, rows and bytes on, and the longest line of
-- both
pub record Reaches (wrap : Wrap) (from : Finished) (closed : List (List ℕ)) (to : Finished) : Type 0 where
  pub by_lines : to.lines ≡ from.lines + length closed
  pub by_rows : to.rows ≡ from.rows + length (rows_of_lines wrap (map strip_carriage_return closed))
  pub by_bytes : to.bytes ≡ from.bytes + sum_by bytes_of closed
  pub longest_line : to.longest ≡ max from.longest (longest_of (map strip_carriage_return closed))

-- a front of an unfinished line takes this many columns, and whatever follows it takes its own beside them; it does not
-- end with a carriage return
pub record IsBorder (line : List ℕ) (border : Border) : Type 0 where
  pub within : border.bytes ≤ length line
  pub boundary : IsCharBoundary line border.bytes
  pub adds : (more : List ℕ) → IsUtf8 more → columns (take border.bytes line ++ more) ≡ border.columns + columns more
  pub keeps : (more : List ℕ)
      → strip_carriage_return (take border.bytes line ++ more) ≡ take border.bytes line ++ strip_carriage_return more

-- however an unfinished line goes on, its first rows stay, and the others are those formed from a place on; so do their
-- places, whether a newline ends the line then or not
pub record GoesOn (wrap : Wrap) (line : List ℕ) (rows at : ℕ) : Type 0 where
  pub boundary : IsCharBoundary line at
  pub few : rows ≤ length (open_rows wrap line)
  pub some_left : 0 < length line → at < length line
  pub open_go_on :
      (more : List ℕ) → IsUtf8 (line ++ more)
      → open_rows wrap (line ++ more) ≡ take rows (open_rows wrap line) ++ open_rows wrap (drop at line ++ more)
  pub ended_go_on : (more : List ℕ) → IsUtf8 (line ++ more)
      → own_rows wrap (strip_carriage_return (line ++ more))
      ≡ take rows (open_rows wrap line) ++ own_rows wrap (strip_carriage_return (drop at line ++ more))
  pub open_places : (n : ℕ) (more : List ℕ) → IsUtf8 (line ++ more)
      → open_stored wrap n (line ++ more)
      ≡ take rows (open_stored wrap n line) ++ open_stored wrap (n + at) (drop at line ++ more)
  pub ended_places : (n : ℕ) (more : List ℕ) → IsUtf8 (line ++ more)
      → line_stored wrap n (strip_carriage_return (line ++ more)) ≡ take rows (open_stored wrap n line)
      ++ line_stored wrap (n + at) (strip_carriage_return (drop at line ++ more))

-- where forming goes on in an unfinished line, in some wrapping
pub record IsRestart (wrap : Wrap) (line : List ℕ) (start : Restart) : Type 0 where
  pub text : IsUtf8 line
  pub one_line : cut line ≡ whole line
  pub goes_on : GoesOn wrap line start.rows start.bytes
  pub measured : IsBorder line start.border
  pub behind : start.bytes ≤ start.border.bytes

-- what is formed of an unfinished line and a piece that follows it: all but the rows that stay
pub record IsFormOf (wrap : Wrap) (line piece : List ℕ) (start : Restart) (f : Formed) : Type 0 where
  pub its_rows : stored_from wrap start.finished.bytes (cut (line ++ piece))
      ≡ take start.rows (open_stored wrap start.finished.bytes line) ++ f.rows.items
  pub its_count : length (rows_of_lines wrap (lines (line ++ piece))) ≡ start.rows + length f.rows.items
  pub its_map : f.first_rows ≡ first_rows wrap start.finished.rows (lines (line ++ piece))
  pub its_finish : Reaches wrap start.finished (cut (line ++ piece)).closed f.finished
  pub its_longest : f.longest ≡ longest_of (lines (line ++ piece))
  pub its_border : IsBorder (unfinished_line (line ++ piece)) f.border

-- the place before the first line
abbrev pub at_start : Finished
at_start = record { lines = 0; rows = 0; bytes = 0; longest = 0 }

-- what is kept beside a text are the places of its rows, the first row of each line, how far its finished lines go, its
-- longest line, and how far its unfinished line is measured
pub record IsFormed (text : List ℕ) (wrap : Wrap) (rows : List Span) (map : List ℕ) (finished : Finished)
    (longest_line : ℕ) (border : Border) : Type 0 where
  pub its_rows : rows ≡ stored_from wrap 0 (cut text)
  pub its_count : length rows ≡ length (rows_of_lines wrap (lines text))
  pub its_map : map ≡ first_rows wrap 0 (lines text)
  pub its_finish : Reaches wrap at_start (cut text).closed finished
  pub its_longest : longest_line ≡ longest_of (lines text)
  pub its_border : IsBorder (unfinished_line text) border

-- what a push keeps and goes on: the finished lines and the unfinished one, or nothing where all is formed again
abbrev pub kept_lines : List ℕ → Plan → List (List ℕ)
kept_lines text plan = if plan.keeps then (cut text).closed else []

-- the unfinished line that a push goes on, or nothing where all is formed again
abbrev pub line_going_on : List ℕ → Plan → List ℕ
line_going_on text plan = if plan.keeps then unfinished_line text else []

-- what a push forms behind that line: its piece, or the whole text and the piece where all is formed again
abbrev pub piece_behind : List ℕ → Plan → List ℕ → List ℕ
piece_behind text plan piece = if plan.keeps then piece else text ++ piece

-- where a push begins to form
pub record IsRestartOf (text : List ℕ) (plan : Plan) (start : Restart) : Type 0 where
  pub reaches : Reaches plan.wrap at_start (kept_lines text plan) start.finished
  pub restarts : IsRestart plan.wrap (line_going_on text plan) start

-- what is formed beside a text, whatever unfinished line its beginning goes on in
pub record IsPrepared (wrap : Wrap) (tail : List ℕ) (start : Restart) (f : Formed) : Type 0 where
  pub its_rows : f.rows.items ≡ stored_from wrap (start.finished.bytes + start.bytes) (cut tail)
  pub its_form :
      (line piece : List ℕ) → IsRestart wrap line start → IsUtf8 (line ++ piece) → tail ≡ drop start.bytes line ++ piece
      → IsFormOf wrap line piece start f

-- and it has numbers to spare
abbrev pub IsPreparedPush : Wrap → List ℕ → Restart → Formed → Type 0
IsPreparedPush wrap tail start f =
    IsPrepared wrap tail start f × (start.finished.rows + start.rows < 2 ^ 63)
    × (start.finished.bytes + start.bytes < 2 ^ 63)

-- a text goes on in some unfinished line, behind the bytes that stay
abbrev pub GoesOnInSome : Wrap → List ℕ → Restart → Type 0
GoesOnInSome wrap text start =
    (line : List ℕ) × (piece : List ℕ) × IsRestart wrap line start × IsUtf8 (line ++ piece)
    × (text ≡ drop start.bytes line ++ piece)

-- in whatever unfinished line a text goes on, the line is measured up to a border then
abbrev pub IsBorderOfEach : List ℕ → Restart → Border → Type 0
IsBorderOfEach text start border =
    (wrap : Wrap) (line piece : List ℕ) → IsRestart wrap line start → IsUtf8 (line ++ piece)
    → text ≡ drop start.bytes line ++ piece
    → IsBorder (line ++ piece) border

-- whatever is formed of a text, its first rows ascend behind those that are kept
abbrev pub AscendsBehind : Wrap → List ℕ → Restart → List ℕ → Type 0
AscendsBehind wrap text start firsts =
    (f : Formed) → IsPrepared wrap text start f
    → IsStrictlyIncreasing (take start.finished.lines firsts ++ f.first_rows)
