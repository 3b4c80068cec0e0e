-- A push before it is made.
use Rattle.std.specs.Prelude.{◌≡◌, ℕ, ◌≤◌, Bool, true, List, ◌+◌, ◌++◌, length, take, drop, Option, is_some}
use Rattle.std.specs.Str.{IsUtf8}
use Rattle.regex.specs.Patterns.{Re}
use Rattle.minus_text.specs.declared.line_numbers.LineNumbers.{LineNumbers}
use Rattle.minus_text.specs.declared.formed.Restart.{Restart}
use Rattle.minus_text.specs.declared.formed.Plan.{Plan}
use Rattle.minus_text.specs.Document.{Document, rows_of, line_map, wrap_in, plan_of, pushed, formed_text, first_formed}
use Rattle.minus_text.specs.Fragments.{Fragment, rows_in}
use Rattle.minus_text.specs.Kept.{IsRestartOf}
use Rattle.minus_text.specs.PushedPlaces.{PlacesGoOn}

-- how many rows and lines stay, the first rows of the lines that follow, where that begins, the fragment whose rows
-- follow, the numbers and columns of the push, and whether the fragment's lines are searched, and not its rows
pub record Pending : Type 0 where
  pub kept_rows : ℕ
  pub kept_lines : ℕ
  pub first_rows : List ℕ
  pub start : Restart
  pub tail : Fragment
  pub numbers : LineNumbers
  pub cols : ℕ
  pub match_lines : Bool

-- what is formed by a plan is whole lines: all that follows the finished lines, or all
pub record BeginsWithLine (d : Document) (plan : Plan) (piece : List ℕ) (p : Pending) : Type 0 where
  pub first : p.kept_rows ≡ first_formed d plan
  pub its_text : p.tail.text ≡ formed_text d.text piece plan
  pub its_wrap : p.tail.wrap ≡ plan.wrap

-- what a push of a piece would form, and how many rows stay in front of it
pub record IsPending (d : Document) (piece : List ℕ) (numbers : LineNumbers) (cols : ℕ) (p : Pending) : Type 0 where
  pub rows : rows_of (pushed d piece numbers cols) ≡ take p.kept_rows (rows_of d) ++ rows_in p.tail
  pub few : p.kept_rows ≤ length (rows_of d)
  pub map : line_map (pushed d piece numbers cols) ≡ take p.kept_lines (line_map d) ++ p.first_rows
  pub few_lines : p.kept_lines ≤ length (line_map d)
  pub places : PlacesGoOn d (pushed d piece numbers cols) piece p.kept_rows p.start p.tail
  pub its_numbers : p.numbers ≡ numbers
  pub its_cols : p.cols ≡ cols
  pub its_lines : p.match_lines ≡ true → BeginsWithLine d (plan_of d piece numbers cols) piece p

-- forming goes on at a line's start
pub record IsAtLine (start : Restart) : Type 0 where
  pub no_rows : start.rows ≡ 0
  pub no_bytes : start.bytes ≡ 0

-- what was formed begins where a push of a piece begins to form, and is formed of what follows that place, as the push
-- forms
pub record IsPreparedFor (d : Document) (piece : List ℕ) (p : Pending) : Type 0 where
  pub text : IsUtf8 d.text
  pub begins : IsRestartOf d.text (plan_of d piece p.numbers p.cols) p.start
  pub wrapping : p.tail.wrap ≡ wrap_in (pushed d piece p.numbers p.cols)
  pub follows : p.tail.text ≡ drop (p.start.finished.bytes + p.start.bytes) d.text ++ piece
  pub from_line : p.match_lines ≡ true → IsAtLine p.start

-- where a term is searched for, it is searched for in the lines of what a push forms just where it is in those of the
-- document
abbrev pub SearchesAlike : Option Re → Document → Pending → Type 0
SearchesAlike term d p = is_some term ≡ true → p.match_lines ≡ d.layout.match_lines
