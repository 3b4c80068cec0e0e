-- A line with the matches of a pattern shown in reverse: the stripped line, with markers and escape sequences put in at
-- places.
use Rattle.std.specs.Prelude.{◌≡◌, ℕ, Bool, true, false, List, [], ◌∷◌, ◌++◌, map, drop, take, slice_range, codes}
use Rattle.std.specs.Prelude.{is_some, if◌then◌else◌, nat_le}
use Rattle.std.specs.Prelude.{IsCharBoundary, ◌≤◌}
use Rattle.std.specs.List.{position_or_len}
use Rattle.std.specs.Coded.{le_prop}
use Rattle.regex.specs.Patterns.{Re, find_str}
use Rattle.minus_text.specs.declared.search.escapes.Insert.{Insert}
use Rattle.minus_text.specs.Escapes.{stripped, escapes, insert_of}
use Rattle.minus_text.specs.FixedPatterns.{match_places}

-- what stands at the start and at the end of each match
abbrev pub reverse_on : List ℕ
reverse_on = 27 ∷ codes "[7m"

-- what stands at the end of each match: `ESC[27m`
abbrev pub reverse_off : List ℕ
reverse_off = 27 ∷ codes "[27m"

-- how many of the escape sequences, in order of their places, stand before a place
abbrev pub count_before : ℕ → List (ℕ × List ℕ) → ℕ
count_before place es = position_or_len (λ e. nat_le place e.0) es

-- those that stand before a place, and those that stand at it or behind
abbrev pub before : ℕ → List (ℕ × List ℕ) → List (ℕ × List ℕ)
before place es = take (count_before place es) es

-- those of the escape sequences that stand at a place or behind it
abbrev pub behind : ℕ → List (ℕ × List ℕ) → List (ℕ × List ℕ)
behind place es = drop (count_before place es) es

-- escape sequences moved to a place
abbrev pub moved : ℕ → List (ℕ × List ℕ) → List (ℕ × List ℕ)
moved place es = map (λ e. (place, e.1)) es

-- The escape sequences inside a match and its last marker: those stand where they stood in the accurate form, else
-- right behind the marker.
abbrev pub closed : Bool → ℕ → List (ℕ × List ℕ) → List (ℕ × List ℕ)
closed accurate end inner = if accurate then inner ++ (end, reverse_off) ∷ [] else (end, reverse_off) ∷ moved end inner

-- a match's markers and the escape sequences up to its end
abbrev pub of_match : Bool → ℕ × ℕ → List (ℕ × List ℕ) → List (ℕ × List ℕ)
of_match accurate m es = before m.0 es ++ (m.0, reverse_on) ∷ closed accurate m.1 (before m.1 (behind m.0 es))

-- markers and escape sequences, in the order in which they are put in
abbrev pub ordered : Bool → List (ℕ × ℕ) → List (ℕ × List ℕ) → List (ℕ × List ℕ)
ordered accurate [] es = es
ordered accurate (m ∷ ms) es = of_match accurate m es ++ ordered accurate ms (behind m.1 (behind m.0 es))

-- a text from a place on, with these put in at their places
abbrev pub put_in : List ℕ → ℕ → List (ℕ × List ℕ) → List ℕ
put_in text at [] = drop at text
put_in text at (i ∷ is) = slice_range text at i.0 ++ (i.1 ++ put_in text i.0 is)

-- where the matches of a pattern in a line begin and end: those in its text without escape sequences
abbrev pub line_match_places : Re → List ℕ → List (ℕ × ℕ)
line_match_places pattern line = match_places pattern (stripped line)

-- what is put into a line without its escape sequences
abbrev pub put_into_line : Re → Bool → List ℕ → List (ℕ × List ℕ)
put_into_line pattern accurate line = ordered accurate (line_match_places pattern line) (escapes line)

-- a text without escape sequences, highlighted for a pattern, with these put in
abbrev pub highlighted_text : Re → Bool → List ℕ → List (ℕ × List ℕ) → List ℕ
highlighted_text pattern accurate text es = put_in text 0 (ordered accurate (match_places pattern text) es)

-- whether it matches
abbrev pub matches_text : Re → List ℕ → Bool
matches_text pattern text = is_some (find_str pattern text 0)

-- a line highlighted for a pattern
unfoldable pub highlighted : Re → Bool → List ℕ → List ℕ
highlighted pattern accurate line = put_in (stripped line) 0 (put_into_line pattern accurate line)

-- whether a line matches a pattern: its text without escape sequences does
unfoldable pub line_matches : Re → List ℕ → Bool
line_matches pattern line = matches_text pattern (stripped line)

-- the places lie in order in a text from a place on, each between two characters
abbrev pub StandIn : List ℕ → ℕ → List (ℕ × List ℕ) → Type 0
StandIn text at [] = IsCharBoundary text at
StandIn text at (i ∷ is) = IsCharBoundary text at × (at ≤ i.0) × StandIn text i.0 is

-- and so do these inserts
abbrev pub InsertsStand : List ℕ → List Insert → Type 0
InsertsStand text inserts = StandIn text 0 (map insert_of inserts)

pub StandIn-prop : (text : List ℕ) (at : ℕ) (is : List (ℕ × List ℕ)) → IsProp (StandIn text at is)
StandIn-prop text at [] = hlevel le_prop
StandIn-prop text at (i ∷ is) = hlevel (le_prop, StandIn-prop text i.0 is)

pub InsertsStand-prop : (text : List ℕ) (inserts : List Insert) → IsProp (InsertsStand text inserts)
InsertsStand-prop text inserts = StandIn-prop text 0 (map insert_of inserts)

-- the markers of matches, each with its place
abbrev pub markers : List (ℕ × ℕ) → List (ℕ × List ℕ)
markers [] = []
markers (m ∷ ms) = (m.0, reverse_on) ∷ (m.1, reverse_off) ∷ markers ms

-- the third list is made of the two others, each in its order
pub data AreMerged {A : Type 0} : List A → List A → List A → Type 0 where
  nothing : AreMerged [] [] []
  of_first : (x : A) (xs ys zs : List A) → AreMerged xs ys zs → AreMerged (x ∷ xs) ys (x ∷ zs)
  of_second : (y : A) (xs ys zs : List A) → AreMerged xs ys zs → AreMerged xs (y ∷ ys) (y ∷ zs)

-- What is put into a line is the markers of its matches and its escape sequences: these keep their order and their
-- texts. In the accurate form they keep their places, so that without the markers the line stands there as it was.
pub record AddsMarkersAlone (pattern : Re) (accurate : Bool) (line : List ℕ) : Type 0 where
  pub kept : List (ℕ × List ℕ)
  pub merged : AreMerged (markers (line_match_places pattern line)) kept (put_into_line pattern accurate line)
  pub same_texts : map (λ e. e.1) kept ≡ map (λ e. e.1) (escapes line)
  pub same_line : accurate ≡ true → put_in (stripped line) 0 kept ≡ line

-- a highlight adds markers alone, for each pattern and each line, in the accurate form and in the other
abbrev pub HighlightsAddMarkersAlone : Type 0
HighlightsAddMarkersAlone = (pattern : Re) (accurate : Bool) (line : List ℕ) → AddsMarkersAlone pattern accurate line

-- a line that does not match is highlighted as it stands
abbrev pub OnlyMatchesAreHighlighted : Type 0
OnlyMatchesAreHighlighted =
    (pattern : Re) (accurate : Bool) (line : List ℕ) → line_matches pattern line ≡ false
    → highlighted pattern accurate line ≡ line
