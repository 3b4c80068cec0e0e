-- A query that is edited: its characters, and a cursor from 1 to one more than these are.
use Rattle.std.specs.Prelude.{ℕ, ◌+◌, ◌-◌, ◌==◌, ◌&&◌, not, nat_lt, max, min, Bool, true, false, ◌≤◌, ◌≡◌}
use Rattle.std.specs.Prelude.{List, [], ◌∷◌, ◌++◌, length, take, drop, if◌then◌else◌}
use Rattle.std.specs.Str.{encode_utf8_all}
use Rattle.minus_term.specs.Refusals.{Refusal, for_memory, for_query}
use Rattle.minus_text.specs.WordStarts.{word_starts, AreWithin}
use Rattle.minus_state.specs.declared.search.keys.QueryEdit.{QueryEdit}
use Rattle.minus_state.specs.declared.search.keys.QueryEdit.TheVariants as edits
use Rattle.minus_state.specs.declared.search.query.Fed.{Fed}
use Rattle.minus_state.specs.declared.search.query.Fed.TheVariants as told

-- a query and its cursor
pub record Editor : Type 0 where
  pub query : List ℕ
  pub cursor : ℕ

-- nothing is typed yet
abbrev pub first_editor : Editor
first_editor = record { query = []; cursor = 1 }

-- a query with the cursor behind its last character
abbrev pub editor_of : List ℕ → Editor
editor_of query = record { query = query; cursor = length query + 1 }

-- a list without the element with a number, counted from 1
abbrev pub without : ℕ → List ℕ → List ℕ
without n xs = take (n - 1) xs ++ drop n xs

-- a list with one more element, put before the one with a number, counted from 1
abbrev pub with_at : ℕ → ℕ → List ℕ → List ℕ
with_at n x xs = take (n - 1) xs ++ x ∷ drop (n - 1) xs

-- the last of some places that is below another place, or this one where there is none
abbrev pub last_below : ℕ → ℕ → List ℕ → ℕ
last_below place otherwise [] = otherwise
last_below place otherwise (p ∷ ps) = last_below place (if nat_lt p place then p else otherwise) ps

-- the first of some places that is above another place, or this one where there is none
abbrev pub first_above : ℕ → ℕ → List ℕ → ℕ
first_above place otherwise [] = otherwise
first_above place otherwise (p ∷ ps) = if nat_lt place p then p else first_above place otherwise ps

-- where the words of a query start, in characters counted from 1
abbrev pub starts_of : List ℕ → List ℕ
starts_of query = word_starts (encode_utf8_all query)

-- where the cursor is after a move of it
abbrev pub moved : Editor → QueryEdit → ℕ
moved e edits.Left = max (e.cursor - 1) 1
moved e edits.Right = min (e.cursor + 1) (length e.query + 1)
moved e edits.Start = 1
moved e edits.End = length e.query + 1
moved e edits.WordLeft = last_below e.cursor 1 (starts_of e.query)
moved e edits.WordRight = first_above e.cursor (length e.query + 1) (starts_of e.query)
moved e edit = e.cursor

-- what an edit leaves: each that removes or inserts nothing moves the cursor at most
abbrev pub edited : Editor → QueryEdit → Editor
edited e edits.RemovesBefore =
    if e.cursor == 1 then e else record { query = without (e.cursor - 1) e.query; cursor = e.cursor - 1 }
edited e edits.RemovesUnder = record e { query = without e.cursor e.query }
edited e (edits.Inserts character) = record { query = with_at e.cursor character e.query; cursor = e.cursor + 1 }
edited e edit = record e { cursor = moved e edit }

-- what is reported of a query before and after an edit: it has changed where it is longer or shorter
abbrev pub told_between : Editor → Editor → Fed
told_between old new =
    if length old.query == length new.query then (if old.cursor == new.cursor then told.Unchanged else told.Moved)
    else told.Edited

-- what is reported of an edit
abbrev pub told_of : Editor → QueryEdit → Fed
told_of e edits.Cancels = told.Cancelled
told_of e edits.Confirms = told.Confirmed
told_of e edit = told_between e (edited e edit)

-- as many characters as a query may have: the cursor behind them is at 65,535
abbrev pub most : ℕ
most = 65534

-- whether a query has too many characters
abbrev pub is_too_long : List ℕ → Bool
is_too_long query = nat_lt most (length query)

-- why there is no editor of a query: it is too long; or it is not, and there was no memory
abbrev pub IsRefusedQuery : Refusal → List ℕ → Type 0
IsRefusedQuery for_memory query = is_too_long query ≡ false
IsRefusedQuery for_query query = is_too_long query ≡ true
IsRefusedQuery refusal query = ⊥

-- whether an edit inserts a character
abbrev pub inserts : QueryEdit → Bool
inserts (edits.Inserts character) = true
inserts edit = false

-- whether a query is full, and a character is typed
abbrev pub refuses : Editor → QueryEdit → Bool
refuses e edit = inserts edit && (length e.query == most)

-- whether an edit takes memory: it removes or inserts a character
abbrev pub takes_memory : QueryEdit → Bool
takes_memory edits.RemovesBefore = true
takes_memory edits.RemovesUnder = true
takes_memory edit = inserts edit

-- whether an edit moves the cursor at most
abbrev pub moves : QueryEdit → Bool
moves edits.Cancels = false
moves edits.Confirms = false
moves edit = not (takes_memory edit)

-- why an edit was not made: the query refuses it; or it does not, and the memory that the edit takes was refused
abbrev pub IsRefusedEdit : Refusal → Editor → QueryEdit → Type 0
IsRefusedEdit for_memory e edit = (takes_memory edit ≡ true) × (refuses e edit ≡ false)
IsRefusedEdit for_query e edit = refuses e edit ≡ true
IsRefusedEdit refusal e edit = ⊥

-- the cursor stands at a character or behind the last one; there are this many, and not too many; words start here
pub record IsEditor (e : Editor) (len : ℕ) (starts : List ℕ) : Type 0 where
  pub first : 1 ≤ e.cursor
  pub last : e.cursor ≤ length e.query + 1
  pub few : length e.query ≤ most
  pub len_is : len ≡ length e.query
  pub starts_are : starts ≡ starts_of e.query
  pub within : AreWithin (length e.query + 1) starts
