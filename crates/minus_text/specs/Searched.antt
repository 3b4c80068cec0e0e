-- A document as a function of a term: what that finds in it, and its rows with that shown in reverse.
use Rattle.std.specs.Prelude.{◌≡◌, ℕ, ◌+◌, ◌≤◌, ◌<◌, Bool, false, List, [], ◌∷◌, ◌++◌, length, take, drop, map, Option}
use Rattle.std.specs.Prelude.{None, Some, option_map, slice_get}
use Rattle.std.specs.Str.Lines.{lines}
use Rattle.regex.specs.Patterns.{Re}
use Rattle.minus_text.specs.declared.layout.Wrap.{Wrap}
use Rattle.minus_text.specs.declared.search.found.FoundRow.{FoundRow}
use Rattle.minus_text.specs.NumberPrefix.{is_on}
use Rattle.minus_text.specs.Layouts.{own_rows}
use Rattle.minus_text.specs.Document.{Document, rows_of, wrap_in, line_count, stored_line, pushed}
use Rattle.minus_text.specs.Pending.{Pending, SearchesAlike}
use Rattle.minus_text.specs.CarriedStyles.{carried_style}
use Rattle.minus_text.specs.Highlight.{highlighted}
use Rattle.minus_text.specs.Found.{RowMatches, found_above, found_of_row, marked}
use Rattle.minus_text.specs.Finds.{found_in, finds}
use Rattle.minus_text.specs.FoundRows.{matches_of}

-- a document, and what was found in its rows
pub record Searched : Type 0 where
  pub document : Document
  pub found : List RowMatches

-- a document, and what was found in its rows as the code keeps it
abbrev pub searched_as : Document → List FoundRow → Searched
searched_as d found = record { document = d; found = map matches_of found }

-- a push, and what was found in the rows that it forms
pub record SearchedPush : Type 0 where
  pub push : Pending
  pub found : List RowMatches

-- a document with what a term finds in it, if there is one
abbrev pub searched : Option Re → Document → Searched
searched term d = record { document = d; found = finds term d }

-- the document that a push of a text would leave, for its own numbers and columns, and what would be found in that
abbrev pub searched_after : Searched → List ℕ → SearchedPush → Searched
searched_after s text p = record {
  document = pushed s.document text p.push.numbers p.push.cols;
  found = found_above p.push.kept_rows s.found ++ p.found;
}

-- what was found is what a term finds
abbrev pub IsFoundBy : Option Re → Searched → Type 0
IsFoundBy term s = s.found ≡ finds term s.document

-- what was found in a row is what a term finds in it; and so it is in the rows from one on up to another
abbrev pub IsFoundAt : Option Re → Searched → ℕ → Type 0
IsFoundAt term s i = found_of_row i s.found ≡ found_of_row i (finds term s.document)

-- what was found in the rows from one on up to but without another, counted from 0, is what a term finds in them
abbrev pub IsFoundBetween : Option Re → Searched → ℕ → ℕ → Type 0
IsFoundBetween term s start end = (i : ℕ) → start ≤ i → i < end → IsFoundAt term s i

-- what was found in the rows that a push forms is what a term finds in them
abbrev pub IsFoundInPush : Option Re → SearchedPush → Type 0
IsFoundInPush term p = p.found ≡ found_in term p.push.match_lines p.push.kept_rows p.push.tail

-- where what was found in a document and in a push is what a term finds, so is what is kept as found then
abbrev pub FindsOn : Option Re → (old : Searched) → SearchedPush → (new : Searched) → Type 0
FindsOn term old p new = IsFoundBy term old → IsFoundInPush term p → IsFoundBy term new

-- and so it is for each term that is searched for alike in the document and in the push
abbrev pub FindsOnAlike : (old : Searched) → SearchedPush → (new : Searched) → Type 0
FindsOnAlike old p new = (term : Option Re) → SearchesAlike term old.document p.push → FindsOn term old p new

-- a row by itself with the matches of a term shown in reverse, not accurately
abbrev pub shown_for : Option Re → List ℕ → List ℕ
shown_for None row = row
shown_for (Some pattern) row = highlighted pattern false row

-- what is put for a row of a document with a number: the style that is carried to it, and its text with what was found
-- in it in reverse
abbrev pub put_row : List RowMatches → Document → ℕ → List ℕ → List ℕ
put_row found d n row = carried_style d n ++ marked (found_of_row n found) row

-- what is put for rows, of which the first has a number
abbrev pub put_rows : List RowMatches → Document → ℕ → List (List ℕ) → List (List ℕ)
put_rows found d n [] = []
put_rows found d n (row ∷ rows) = put_row found d n row ∷ put_rows found d (n + 1) rows

-- these are put for the rows of lines, of which the first has a number: what stands before each row, and what is put
-- for it
abbrev pub stored_with : Wrap → Bool → ℕ → ℕ → List (List ℕ) → List (List ℕ) → List (List ℕ)
stored_with wrap numbers count line [] rows = []
stored_with wrap numbers count line (x ∷ xs) rows =
    let n = length (own_rows wrap x) in
    stored_line numbers count line (take n rows) ++ stored_with wrap numbers count (line + 1) xs (drop n rows)

-- the stored rows of a document under a term: what stands before each row, the style that is carried to it, and its
-- text with what the term finds in it in reverse
unfoldable pub stored_rows_for : Option Re → Document → List (List ℕ)
stored_rows_for term d =
    stored_with (wrap_in d) (is_on d.layout.numbers) (line_count d) 1 (lines d.text)
    (put_rows (finds term d) d 0 (rows_of d))

-- a row, if there is one, with what is found in it in reverse, the style that is carried to it before that, and this
-- before both, under whatever term the document was searched for
abbrev pub IsRowBehind : List ℕ → Searched → ℕ → Option (List ℕ) → Type 0
IsRowBehind before s i row = (term : Option Re) → IsFoundAt term s i
    → row ≡ option_map (λ text. before ++ carried_style s.document i
    ++ marked (found_of_row i (finds term s.document)) text)
    (slice_get (rows_of s.document) i)

-- such a row with nothing before it but the style that is carried to it
abbrev pub IsHighlightedRow : Searched → ℕ → Option (List ℕ) → Type 0
IsHighlightedRow s i row = (term : Option Re) → IsFoundAt term s i
    → row ≡ option_map (put_row (finds term s.document) s.document i) (slice_get (rows_of s.document) i)

-- a stored row, if there is one, under whatever term it was searched for
abbrev pub IsStoredRow : Searched → ℕ → Option (List ℕ) → Type 0
IsStoredRow s i row = (term : Option Re) → IsFoundAt term s i → row ≡ slice_get (stored_rows_for term s.document) i

-- each row is stored as its own text: there are no numbers, no styles are carried, and nothing was found
pub record IsPlainView (s : Searched) : Type 0 where
  pub unnumbered : is_on s.document.layout.numbers ≡ false
  pub unstyled : s.document.layout.carry_style ≡ false
  pub unfound : s.found ≡ []
