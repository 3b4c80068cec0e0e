-- A document: a text and the layout of its rows, and what follows from them.
use Rattle.std.specs.Prelude.{◌≡◌, ℕ, ◌+◌, ◌-◌, ◌<◌, ◌==◌, ◌&&◌, Bool, true, false, List, [], ◌∷◌, ◌++◌, length, map}
use Rattle.std.specs.Prelude.{max, Some, slice_get, if◌then◌else◌}
use Rattle.std.specs.List.{flat_map, concat}
use Rattle.std.specs.List.Sorted.{IsStrictlyIncreasing}
use Rattle.std.specs.Str.Lines.{lines}
use Rattle.minus_text.specs.declared.layout.Wrap.{Wrap}
use Rattle.minus_text.specs.declared.layout.Layout.{Layout}
use Rattle.minus_text.specs.declared.formed.Plan.{Plan}
use Rattle.minus_text.specs.declared.line_numbers.LineNumbers.{LineNumbers}
use Rattle.minus_text.specs.NumberPrefix.{is_on, prefix}
use Rattle.minus_text.specs.Layouts.{own_rows, margin, wrap_of, relaid}
use Rattle.minus_text.specs.Units.{columns}
use Rattle.minus_text.specs.Lines.{unfinished_line}

-- a text, and the layout that its rows are formed for
pub record Document : Type 0 where
  pub text : List ℕ
  pub layout : Layout

-- the texts of the rows of lines, one line after another
abbrev pub rows_of_lines : Wrap → List (List ℕ) → List (List ℕ)
rows_of_lines wrap ls = flat_map (own_rows wrap) ls

-- the number of the first row of each line, where the first line's is n
abbrev pub first_rows : Wrap → ℕ → List (List ℕ) → List ℕ
first_rows wrap n [] = []
first_rows wrap n (line ∷ more) = n ∷ first_rows wrap (n + length (own_rows wrap line)) more

-- the rows of what follows the last newline, none where nothing follows it
abbrev pub open_rows : Wrap → List ℕ → List (List ℕ)
open_rows wrap text = if length text == 0 then [] else own_rows wrap text

-- the greatest number of columns of a line, 0 with no line
abbrev pub longest_of : List (List ℕ) → ℕ
longest_of [] = 0
longest_of (line ∷ more) = max (columns line) (longest_of more)

-- how many lines a document has
abbrev pub line_count : Document → ℕ
line_count d = length (lines d.text)

-- how its lines fill rows
abbrev pub wrap_in : Document → Wrap
wrap_in d = wrap_of d.layout (line_count d)

-- the columns that its numbers take
abbrev pub margin_in : Document → ℕ
margin_in d = margin d.layout.numbers (line_count d)

-- the texts of the rows of a document, in order, each without what stands before it
unfoldable pub rows_of : Document → List (List ℕ)
rows_of d = rows_of_lines (wrap_in d) (lines d.text)

-- the stored rows of the line with a number, counted from 1, where there are this many lines: what stands before each
-- row, and the row
abbrev pub stored_line : Bool → ℕ → ℕ → List (List ℕ) → List (List ℕ)
stored_line numbers count line [] = []
stored_line numbers count line (row ∷ more) =
    (prefix numbers count line true ++ row) ∷ map (λ r. prefix numbers count line false ++ r) more

-- those of lines, of which the first has a number
abbrev pub stored_lines : Wrap → Bool → ℕ → ℕ → List (List ℕ) → List (List ℕ)
stored_lines wrap numbers count line [] = []
stored_lines wrap numbers count line (x ∷ xs) =
    stored_line numbers count line (own_rows wrap x) ++ stored_lines wrap numbers count (line + 1) xs

-- the stored rows of a document, in order
unfoldable pub stored_rows : Document → List (List ℕ)
stored_rows d = stored_lines (wrap_in d) (is_on d.layout.numbers) (line_count d) 1 (lines d.text)

-- for each line the number of rows of the lines before it
unfoldable pub line_map : Document → List ℕ
line_map d = first_rows (wrap_in d) 0 (lines d.text)

-- the greatest number of columns of a line of a document, 0 with no line
unfoldable pub longest : Document → ℕ
longest d = longest_of (lines d.text)

-- how many rows the last line has where no newline ends it, and 0 where there is no such line
unfoldable pub unfinished_rows : Document → ℕ
unfinished_rows d = length (open_rows (wrap_in d) (unfinished_line d.text))

-- the document that a push of a piece leaves, with numbers and columns of its own
abbrev pub pushed : Document → List ℕ → LineNumbers → ℕ → Document
pushed d piece numbers cols = record { text = d.text ++ piece; layout = relaid d.layout numbers cols }

-- whether a push keeps the rows of the finished lines: the columns stay, and so do those that numbers take; else all
-- rows are formed again
abbrev pub keeps_rows : Document → List ℕ → LineNumbers → ℕ → Bool
keeps_rows d piece numbers cols = (cols == d.layout.cols) && (margin_in (pushed d piece numbers cols) == margin_in d)

-- how a push forms
abbrev pub plan_of : Document → List ℕ → LineNumbers → ℕ → Plan
plan_of d piece numbers cols =
    record { keeps = keeps_rows d piece numbers cols; wrap = wrap_in (pushed d piece numbers cols) }

-- the text that a push forms: the unfinished line and the piece, or the whole text and the piece where all is formed
-- again
abbrev pub formed_text : List ℕ → List ℕ → Plan → List ℕ
formed_text text piece plan = (if plan.keeps then unfinished_line text else text) ++ piece

-- the number of the first row of that: the number of rows of the finished lines, or 0 where all is formed again
abbrev pub first_formed : Document → Plan → ℕ
first_formed d plan = if plan.keeps then length (rows_of d) - unfinished_rows d else 0

-- two documents look the same: their rows, as they are and as they are stored, the first row of each line, their number
-- of lines and their longest line
pub record LooksTheSame (d e : Document) : Type 0 where
  pub same_rows : rows_of d ≡ rows_of e
  pub same_stored : stored_rows d ≡ stored_rows e
  pub same_map : line_map d ≡ line_map e
  pub same_count : line_count d ≡ line_count e
  pub same_longest : longest d ≡ longest e

-- two calls that push one piece and then another leave what one call leaves that pushes both joined
abbrev pub PushesJoin : Type 0
PushesJoin = (d one two whole : Document) (a b : List ℕ) (numbers : LineNumbers) (cols : ℕ)
    → one ≡ pushed d a numbers cols → two ≡ pushed one b numbers cols → whole ≡ pushed d (a ++ b) numbers cols
    → LooksTheSame two whole

-- pieces that are pushed one after another, with numbers and columns for all
abbrev pub pushed_all : Document → List (List ℕ) → LineNumbers → ℕ → Document
pushed_all d [] numbers cols = d
pushed_all d (piece ∷ pieces) numbers cols = pushed_all (pushed d piece numbers cols) pieces numbers cols

-- to push some pieces one after another is to push them joined
abbrev pub PiecesPushJoined : Type 0
PiecesPushJoined = (d : Document) (pieces : List (List ℕ)) (numbers : LineNumbers) (cols : ℕ)
    → 0 < length pieces → pushed_all d pieces numbers cols ≡ pushed d (concat pieces) numbers cols

-- each line begins at a later row than the line before it
abbrev pub LineMapAscends : Type 0
LineMapAscends = (d : Document) → IsStrictlyIncreasing (line_map d)

-- this stands before the text of a row of a document, if there is one with the number
abbrev pub IsPrefixOf : Document → ℕ → List ℕ → Type 0
IsPrefixOf d i before =
    (row : List ℕ) → slice_get (rows_of d) i ≡ Some row → slice_get (stored_rows d) i ≡ Some (before ++ row)
