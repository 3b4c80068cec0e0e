-- A block: a text that is formed by itself, behind other lines and rows.
use Rattle.std.specs.Prelude.{◌≡◌, ℕ, ◌+◌, ◌<◌, ◌^◌, Bool, false, List, [], ◌∷◌, ◌++◌, length, map, Option, None, Some}
use Rattle.std.specs.Prelude.{slice_get, if◌then◌else◌}
use Rattle.std.specs.Str.Lines.{lines}
use Rattle.std.specs.Ordering.{nat_cmp}
use Rattle.std.specs.BTreeSet.{insert_key}
use Rattle.regex.specs.Patterns.{Re}
use Rattle.minus_text.specs.declared.layout.Layout.{Layout}
use Rattle.minus_text.specs.declared.formatted.FormattedRow.{FormattedRow}
use Rattle.minus_text.specs.declared.screen.FormatResult.{FormatResult}
use Rattle.minus_text.specs.NumberPrefix.{is_on}
use Rattle.minus_text.specs.Lines.{unfinished_line}
use Rattle.minus_text.specs.Layouts.{own_rows, wrap_of}
use Rattle.minus_text.specs.declared.layout.Wrap.{Wrap}
use Rattle.minus_text.specs.Document.{first_rows, open_rows, longest_of, stored_line}
use Rattle.minus_text.specs.Fragments.{Fragment, rows_in}
use Rattle.minus_text.specs.Pending.{Pending}
use Rattle.minus_text.specs.Found.{found_by}
use Rattle.minus_text.specs.FormatResults.{Tells}
use Rattle.minus_text.specs.Formatted.{row_matches, prefix_of}
use Rattle.minus_text.specs.Searched.{shown_for}

-- a text, the layout of its rows, how many lines stand before it, and the number of its first row
pub record Block : Type 0 where
  pub text : List ℕ
  pub layout : Layout
  pub lines_before : ℕ
  pub first_row : ℕ

-- how many lines there are with those before
abbrev pub all_lines : Block → ℕ
all_lines b = b.lines_before + length (lines b.text)

-- the fragment that is formed: its numbers take the columns that this many lines ask for
abbrev pub fragment_of : Block → Fragment
fragment_of b = record { text = b.text; wrap = wrap_of b.layout (all_lines b) }

-- the stored rows of lines under a term that is searched for in each row by itself; the first line has a number
abbrev pub stored_lines_for : Option Re → Wrap → Bool → ℕ → ℕ → List (List ℕ) → List (List ℕ)
stored_lines_for term wrap numbers count line [] = []
stored_lines_for term wrap numbers count line (x ∷ xs) =
    stored_line numbers count line (map (shown_for term) (own_rows wrap x))
    ++ stored_lines_for term wrap numbers count (line + 1) xs

-- its rows as they are stored, under a term
unfoldable pub block_rows : Option Re → Block → List (List ℕ)
block_rows term b =
    stored_lines_for term (fragment_of b).wrap (is_on b.layout.numbers) (all_lines b) (b.lines_before + 1)
    (lines b.text)

-- the numbers of those of its rows that match a term
abbrev pub matching_rows : Option Re → Block → List ℕ
matching_rows term b = map (λ f. f.row) (found_by term b.first_row (rows_in (fragment_of b)))

-- a result reports a block
abbrev pub TellsBlock : FormatResult → Option Re → Block → Bool → Type 0
TellsBlock result term b clean = Tells result term false (fragment_of b) b.first_row clean

-- what is formed of a block
pub record IsBlockFormed (p : Pending) (layout : Layout) (lines_before unfinished longest : ℕ) : Type 0 where
  pub its_wrap : p.tail.wrap ≡ wrap_of layout (lines_before + length (lines p.tail.text))
  pub its_map : p.first_rows ≡ first_rows p.tail.wrap p.kept_rows (lines p.tail.text)
  pub its_unfinished : unfinished ≡ length (open_rows p.tail.wrap (unfinished_line p.tail.text))
  pub its_longest : longest ≡ longest_of (lines p.tail.text)
  pub few_before : lines_before < 2 ^ 63

-- this stands before a row of a block
abbrev pub IsPrefixIn : Block → ℕ → List ℕ → Type 0
IsPrefixIn b i before = (row : List ℕ) → slice_get (rows_in (fragment_of b)) i ≡ Some row → (term : Option Re)
    → slice_get (block_rows term b) i ≡ Some (before ++ shown_for term row)

-- a row of a block by its number, if there is one
abbrev pub IsRowIn : Block → ℕ → Option FormattedRow → Type 0
IsRowIn b i None = slice_get (rows_in (fragment_of b)) i ≡ None
IsRowIn b i (Some r) = (slice_get (rows_in (fragment_of b)) i ≡ Some r.row.now) × IsPrefixIn b i (prefix_of r.prefix)

-- one, if there is one
abbrev pub one : {X : Type 0} → Option X → List X
one None = []
one (Some x) = x ∷ []

-- these numbers of rows, and that of one more row if it matches
abbrev pub keys_noted : Bool → ℕ → List ℕ → List ℕ
keys_noted matches n keys = if matches then insert_key nat_cmp keys n else keys

-- these numbers of rows, and that of a row if there is one and a term matches it
abbrev pub keys_with : Option Re → ℕ → Option (List ℕ) → List ℕ → List ℕ
keys_with term n None keys = keys
keys_with term n (Some row) keys = keys_noted (row_matches term row) n keys

-- what is noted of a row of a block
abbrev pub noted_in : Option Re → Block → ℕ → List ℕ → List ℕ
noted_in term b i keys = keys_with term (b.first_row + i) (slice_get (rows_in (fragment_of b)) i) keys

-- rows were added alone
abbrev pub GrowsByRows : List (List ℕ) → List (List ℕ) → Type 0
GrowsByRows old new = (more : List (List ℕ)) × (new ≡ old ++ more)
