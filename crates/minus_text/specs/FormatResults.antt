-- What a FormatResult tells.
use Rattle.std.specs.Prelude.{◌≡◌, ℕ, ◌==◌, Bool, true, List, length, Option, if◌then◌else◌}
use Rattle.std.specs.Str.Lines.{lines}
use Rattle.regex.specs.Patterns.{Re}
use Rattle.minus_text.specs.declared.screen.FormatResult.{FormatResult}
use Rattle.minus_text.specs.declared.formed.Plan.{Plan}
use Rattle.minus_text.specs.declared.line_numbers.LineNumbers.{LineNumbers}
use Rattle.minus_text.specs.Lines.{unfinished_line}
use Rattle.minus_text.specs.Document.{Document, first_rows, open_rows, longest_of, plan_of, formed_text, first_formed}
use Rattle.minus_text.specs.Fragments.{Fragment, rows_in}
use Rattle.minus_text.specs.Found.{RowMatches, found_from, jump_rows}
use Rattle.minus_text.specs.Finds.{found_in, whole}
use Rattle.minus_text.specs.Searched.{Searched, SearchedPush, IsFoundBy, IsFoundInPush}

-- a result reports a fragment formed: its counts of lines and rows, its unfinished rows, these rows as those that
-- match, the first row of each line where its first row has a number, its longest line, and whether nothing was
-- attached
pub record TellsWith (result : FormatResult) (matches : List ℕ) (formed : Fragment) (first_row : ℕ)
    (clean : Bool) : Type 0 where
  pub lines_told : result.lines_formatted ≡ length (lines formed.text)
  pub rows_told : result.rows_formatted ≡ length (rows_in formed)
  pub unfinished_told : result.num_unterminated ≡ length (open_rows formed.wrap (unfinished_line formed.text))
  pub matches_told : result.append_search_idx.keys ≡ matches
  pub map_told : result.lines_to_row_map ≡ first_rows formed.wrap first_row (lines formed.text)
  pub longest_told : result.max_line_length ≡ longest_of (lines formed.text)
  pub clean_told : result.clean_append ≡ clean

-- a result reports a formed fragment, and its matches are the rows in which matches of a term begin
abbrev pub Tells : FormatResult → Option Re → Bool → Fragment → ℕ → Bool → Type 0
Tells result term match_lines formed first_row clean =
    TellsWith result (jump_rows (found_in term match_lines first_row formed)) formed first_row clean

-- a result reports a document that was formed whole
abbrev pub TellsAll : FormatResult → Option Re → Document → Type 0
TellsAll result term d = Tells result term d.layout.match_lines (whole d) 0 true

-- what a push forms
abbrev pub formed_by : List ℕ → List ℕ → Plan → Fragment
formed_by text piece plan = record { text = formed_text text piece plan; wrap = plan.wrap }

-- whether a push attaches nothing to the piece: there is no unfinished line, or the whole is formed again
abbrev pub is_clean : List ℕ → Plan → Bool
is_clean text plan = if plan.keeps then length (unfinished_line text) == 0 else true

-- a result reports a push that forms by a plan
abbrev pub TellsPlan : FormatResult → Option Re → Document → List ℕ → Plan → Type 0
TellsPlan result term d piece plan =
    Tells result term d.layout.match_lines (formed_by d.text piece plan) (first_formed d plan) (is_clean d.text plan)

-- a result reports a push
abbrev pub TellsPush : FormatResult → Option Re → Document → List ℕ → LineNumbers → ℕ → Type 0
TellsPush result term d piece numbers cols = TellsPlan result term d piece (plan_of d piece numbers cols)

-- a result reports a push onto a document that was searched for a term; or of one that was prepared and searched for
-- it, too
abbrev pub TellsPushOn : FormatResult → Option Re → Searched → List ℕ → LineNumbers → ℕ → Type 0
TellsPushOn result term s piece numbers cols = IsFoundBy term s → TellsPush result term s.document piece numbers cols

-- a result reports a push that was prepared, where the document and what was formed for it were searched for a term
abbrev pub TellsPrepared : FormatResult → Option Re → Searched → List ℕ → SearchedPush → Type 0
TellsPrepared result term s piece p =
    IsFoundBy term s → IsFoundInPush term p → TellsPush result term s.document piece p.push.numbers p.push.cols

-- a result reports a push, and of the rows that it forms those in which something was found
abbrev pub TellsFound : FormatResult → List RowMatches → Document → List ℕ → LineNumbers → ℕ → Type 0
TellsFound result found d piece numbers cols =
    (let plan = plan_of d piece numbers cols in TellsWith result (jump_rows (found_from (first_formed d plan) found))
    (formed_by d.text piece plan) (first_formed d plan) (is_clean d.text plan))
