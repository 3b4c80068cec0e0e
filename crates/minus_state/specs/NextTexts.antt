-- The text that a command leaves, formed beside the document.
use Rattle.std.specs.Prelude.{◌≡◌, Option, Some, List, ◌++◌, string_bytes, option_map}
use Rattle.regex.specs.Patterns.{Re}
use Rattle.regex.specs.Strings.{regex_pattern}
use Rattle.minus_text.specs.Document.{Document, rows_of, pushed}
use Rattle.minus_text.specs.Found.{RowMatches, AreFoundIn, found_above}
use Rattle.minus_text.specs.Finds.{finds}
use Rattle.minus_text.specs.Pending.{IsPending, SearchesAlike}
use Rattle.minus_text.specs.Searched.{Searched, IsFoundBy, IsFoundInPush}
use Rattle.minus_state.specs.Control.{Saved}
use Rattle.minus_state.specs.Help.{text_aside, more_aside}
use Rattle.minus_state.specs.declared.change.NextText.{NextText}
use Rattle.minus_state.specs.declared.change.NextText.TheVariants.{Same, Whole, Pushed, Found, SavedWhole, SavedMore}

-- the document that there will be
abbrev pub next_document : Document → NextText → Document
next_document d Same = d
next_document d (Whole screen) = screen.value.document
next_document d (Pushed text pending) = pushed d (string_bytes text) pending.value.push.numbers pending.value.push.cols
next_document d (Found pattern findings) = d
next_document d (SavedWhole text) = d
next_document d (SavedMore text) = d

-- the term that there will be
abbrev pub next_term : Option Re → NextText → Option Re
next_term term Same = term
next_term term (Whole screen) = term
next_term term (Pushed text pending) = term
next_term term (Found pattern findings) = option_map (λ p. regex_pattern p.value) pattern
next_term term (SavedWhole text) = term
next_term term (SavedMore text) = term

-- what will be found in its rows, where this is found in those of the document
abbrev pub next_found : List RowMatches → NextText → List RowMatches
next_found found Same = found
next_found found (Whole screen) = screen.value.found
next_found found (Pushed text pending) = found_above pending.value.push.kept_rows found ++ pending.value.found
next_found found (Found pattern findings) = findings
next_found found (SavedWhole text) = found
next_found found (SavedMore text) = found

-- the document that there will be, and what will be found in its rows
abbrev pub next_searched : Searched → NextText → Searched
next_searched s next = record { document = next_document s.document next; found = next_found s.found next }

-- what is saved after the text that was formed is put in its place, while help is open
abbrev pub aside_with : NextText → Option Saved → Option Saved
aside_with (SavedWhole text) help = text_aside (string_bytes text) help
aside_with (SavedMore text) help = more_aside (string_bytes text) help
aside_with next help = help

-- what is formed beside a document is formed for it
abbrev pub Belongs : Document → NextText → Type 0
Belongs d Same = Unit {0}
Belongs d (Whole screen) = Unit {0}
Belongs d (Pushed text pending) =
    IsPending d (string_bytes text) pending.value.push.numbers pending.value.push.cols pending.value.push
Belongs d (Found pattern findings) = AreFoundIn 0 (rows_of d) findings
Belongs d (SavedWhole text) = Unit {0}
Belongs d (SavedMore text) = Unit {0}

-- a term finds what is kept as found in the rows that stay and in those that are formed
abbrev pub IsSearchedFor : Option Re → Searched → NextText → Type 0
IsSearchedFor term s Same = IsFoundBy term s
IsSearchedFor term s (Whole screen) = IsFoundBy term screen.value
IsSearchedFor term s (Pushed text pending) = IsFoundBy term s × IsFoundInPush term pending.value
IsSearchedFor term s (Found pattern findings) = findings ≡ finds term s.document
IsSearchedFor term s (SavedWhole text) = IsFoundBy term s
IsSearchedFor term s (SavedMore text) = IsFoundBy term s

-- where a term finds what is kept as found and what is formed, the next term finds what is kept then
abbrev pub FindsNext : Option Re → (old : Searched) → NextText → (new : Searched) → Type 0
FindsNext term old text new = IsSearchedFor (next_term term text) old text → IsFoundBy (next_term term text) new

-- what is formed beside a document is searched for a term as that is, in lines or in rows
abbrev pub IsSearchedAlike : Option Re → Document → NextText → Type 0
IsSearchedAlike term d Same = Unit {0}
IsSearchedAlike term d (Whole screen) = Unit {0}
IsSearchedAlike term d (Pushed text pending) = SearchesAlike term d pending.value.push
IsSearchedAlike term d (Found pattern findings) = Unit {0}
IsSearchedAlike term d (SavedWhole text) = Unit {0}
IsSearchedAlike term d (SavedMore text) = Unit {0}

-- what is formed beside a document is formed for it, and searched for a term as that is
abbrev pub IsNext : Option Re → Searched → NextText → Type 0
IsNext term s next = Belongs s.document next × (IsSearchedFor term s next × IsSearchedAlike term s.document next)
