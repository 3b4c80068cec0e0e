-- What a pattern finds in lines, and the part of each match that lies in each row of its line. Places count bytes from
-- 0.
use Rattle.std.specs.Prelude.{◌≡◌, ℕ, ◌+◌, ◌-◌, ◌==◌, ◌&&◌, ◌||◌, Bool, true, nat_le, nat_lt, min, max, List, [], ◌∷◌}
use Rattle.std.specs.Prelude.{◌++◌, length, Option, None, Some, if◌then◌else◌}
use Rattle.std.specs.List.{sum_by}
use Rattle.regex.specs.Patterns.{Re}
use Rattle.minus_text.specs.declared.rows.Span.{Span}
use Rattle.minus_text.specs.declared.layout.Wrap.{Wrap}
use Rattle.minus_text.specs.Layouts.{own_rows, own_places}
use Rattle.minus_text.specs.Escapes.{escape_places}
use Rattle.minus_text.specs.Highlight.{line_match_places}
use Rattle.minus_text.specs.Found.{RowMatches, match_total}

-- how many bytes of what is outside of these places stand before a place, from another one on
abbrev pub outside_before : ℕ → List (ℕ × ℕ) → ℕ → ℕ
outside_before at [] x = x - at
outside_before at (p ∷ ps) x = (min x p.0 - at) + outside_before p.1 ps x

-- the parts of these places that lie between two others, counted from the first of the two
abbrev pub between : ℕ → ℕ → List (ℕ × ℕ) → List (ℕ × ℕ)
between start end [] = []
between start end (p ∷ ps) =
    if nat_lt p.0 end && nat_lt start p.1 then (max start p.0 - start, min end p.1 - start) ∷ between start end ps
    else between start end ps

-- a row in its line without the line's escape sequences: where it begins and ends there, and where the next row begins,
-- if one follows
pub record Stretch : Type 0 where
  pub start : ℕ
  pub end : ℕ
  pub next : Option ℕ

-- where the first of these rows begins there
abbrev pub first_start : List (ℕ × ℕ) → List Span → Option ℕ
first_start escapes [] = None
first_start escapes (s ∷ ss) = Some (outside_before 0 escapes s.start)

-- a row of a line, which these rows follow
abbrev pub stretch_in : List (ℕ × ℕ) → Span → List Span → Stretch
stretch_in escapes s rest = record {
  start = outside_before 0 escapes s.start;
  end = outside_before 0 escapes s.end;
  next = first_start escapes rest;
}

-- a place lies before another, if there is one
abbrev pub is_before : Option ℕ → ℕ → Bool
is_before None x = true
is_before (Some n) x = nat_lt x n

-- a match begins in a row, or in the spaces that the wrap leaves out behind it
abbrev pub begins_in : Stretch → ℕ × ℕ → Bool
begins_in s m = nat_le s.start m.0 && is_before s.next m.0

-- a row shows some of a match: it begins there, or it began above and goes on
abbrev pub lies_in : Stretch → ℕ × ℕ → Bool
lies_in s m = is_before s.next m.0 && (nat_le s.start m.0 || nat_lt s.start m.1)

-- what the row shows of it, counted from the row's start; nothing of it, at the row's end, where all of it is left out
abbrev pub part_in : Stretch → ℕ × ℕ → ℕ × ℕ
part_in s m = (min m.0 s.end - s.start, min m.1 s.end - s.start)

-- what the row shows of matches, of each that lies in it, counted from the row's start
abbrev pub parts_in : Stretch → List (ℕ × ℕ) → List (ℕ × ℕ)
parts_in s [] = []
parts_in s (m ∷ ms) = if lies_in s m then part_in s m ∷ parts_in s ms else parts_in s ms

-- how many matches begin in a row
abbrev pub begin_count : Stretch → List (ℕ × ℕ) → ℕ
begin_count s [] = 0
begin_count s (m ∷ ms) = if begins_in s m then begin_count s ms + 1 else begin_count s ms

-- what is shown of matches in a row, if there is some
abbrev pub if_some : RowMatches → List RowMatches
if_some r = if length r.matches == 0 then [] else r ∷ []

-- what is found in a row with a number, where these escape sequences and matches stand in its line
abbrev pub finds_in_row : ℕ → List (ℕ × ℕ) → List (ℕ × ℕ) → Span → Stretch → List RowMatches
finds_in_row n escapes matches s r =
    if_some (record {
      row = n;
      escapes = between s.start s.end escapes;
      matches = parts_in r matches;
      begins = begin_count r matches;
    })

-- what is found in the rows of a line, of which the first has a number
abbrev pub finds_in_rows : ℕ → List (ℕ × ℕ) → List (ℕ × ℕ) → List Span → List RowMatches
finds_in_rows n escapes matches [] = []
finds_in_rows n escapes matches (s ∷ ss) =
    finds_in_row n escapes matches s (stretch_in escapes s ss) ++ finds_in_rows (n + 1) escapes matches ss

-- what a pattern finds in a line whose first row has a number, and in lines
abbrev pub finds_in_line : Re → Wrap → ℕ → List ℕ → List RowMatches
finds_in_line pattern wrap n line =
    finds_in_rows n (escape_places line) (line_match_places pattern line) (own_places wrap line)

-- what a pattern finds in lines, of which the first row of the first has a number
abbrev pub finds_in_lines : Re → Wrap → ℕ → List (List ℕ) → List RowMatches
finds_in_lines pattern wrap n [] = []
finds_in_lines pattern wrap n (line ∷ more) =
    finds_in_line pattern wrap n line ++ finds_in_lines pattern wrap (n + length (own_rows wrap line)) more

-- how many matches there are does not depend on how lines fill rows
abbrev pub MatchTotalIsOfLines : Type 0
MatchTotalIsOfLines = (pattern : Re) (wrap : Wrap) (n : ℕ) (ls : List (List ℕ))
    → match_total (finds_in_lines pattern wrap n ls) ≡ sum_by (λ line. length (line_match_places pattern line)) ls
