-- Which matches of a row are shown in some columns of it, from `left` on up to but without `left + width`, and the row
-- with these alone in reverse.
use Rattle.std.specs.Prelude.{◌≡◌, ℕ, ◌+◌, ◌-◌, ◌==◌, Bool, true, false, nat_lt, min, max, List, [], ◌∷◌, ◌++◌, length}
use Rattle.std.specs.Prelude.{take, slice_range, chars, Option, None}
use Rattle.std.specs.Prelude.{Some, if◌then◌else◌}
use Rattle.std.specs.List.{filter, list_all}
use Rattle.std.specs.Str.{encode_utf8_all}
use Rattle.regex.specs.Patterns.{Re}
use Rattle.minus_text.specs.Plain.{is_printable, is_unescaped}
use Rattle.minus_text.specs.Units.{unit_columns}
use Rattle.minus_text.specs.TextUnits.{text_units}
use Rattle.minus_text.specs.Escapes.{stripped, escapes, outside, inside}
use Rattle.minus_text.specs.Highlight.{line_match_places, ordered, put_in, reverse_on, reverse_off}
use Rattle.minus_text.specs.Found.{RowMatches}
use Rattle.minus_text.specs.Crop.{cropped}

-- the columns before a place of a text: those of its units that begin before it
abbrev pub columns_before : ℕ → List (List ℕ) → ℕ
columns_before place [] = 0
columns_before place (u ∷ us) =
    if place == 0 then 0 else unit_columns u + columns_before (place - length (encode_utf8_all u)) us

-- whether some of the columns from one on up to another are shown
abbrev pub meets : ℕ → ℕ → ℕ → ℕ → Bool
meets left width start end = nat_lt (max left start) (min (left + width) end)

-- whether a match takes some of the columns of a text that are shown
abbrev pub shows_match : ℕ → ℕ → List (List ℕ) → ℕ × ℕ → Bool
shows_match left width us m = meets left width (columns_before m.0 us) (columns_before m.1 us)

-- the matches of a text that do
abbrev pub shown_matches : ℕ → ℕ → List ℕ → List (ℕ × ℕ) → List (ℕ × ℕ)
shown_matches left width text ms = filter (shows_match left width (text_units (chars text))) ms

-- a text with these matches in reverse, not accurately, and escape sequences put in
abbrev pub reversed_in : ℕ → ℕ → List ℕ → List (ℕ × ℕ) → List (ℕ × List ℕ) → List ℕ
reversed_in left width text ms es = put_in text 0 (ordered false (shown_matches left width text ms) es)

-- a row with these escape sequences, and with these matches of what is left without them in reverse
abbrev pub reversed_at : ℕ → ℕ → List ℕ → (escapes matches : List (ℕ × ℕ)) → List ℕ
reversed_at left width row escapes matches =
    reversed_in left width (outside row 0 escapes) matches (inside row 0 0 escapes)

-- a row with the matches of a term that are shown in some columns in reverse; the columns are those of the row without
-- its escape sequences, which stay
unfoldable pub highlighted_within : Re → ℕ → ℕ → List ℕ → List ℕ
highlighted_within pattern left width row =
    reversed_in left width (stripped row) (line_match_places pattern row) (escapes row)

-- a row with the matches of a term in reverse that are shown in some columns; without a term the row as it is
abbrev pub shown_within : Option Re → ℕ → ℕ → List ℕ → List ℕ
shown_within None left width row = row
shown_within (Some pattern) left width row = highlighted_within pattern left width row

-- a row with what was found in it and is shown in some columns in reverse
abbrev pub marked_within : ℕ → ℕ → Option RowMatches → List ℕ → List ℕ
marked_within left width None row = row
marked_within left width (Some r) row = reversed_at left width row r.escapes r.matches

-- what is shown of it in these columns
abbrev pub cropped_match : ℕ → ℕ → RowMatches → List ℕ → List ℕ
cropped_match left width r row = cropped left width (marked_within left width (Some r) row)

-- a text is printable ASCII up to a place and there, and has no ESC: so far each of its bytes is a column
abbrev pub IsPlainTo : ℕ → List ℕ → Type 0
IsPlainTo end text = (list_all is_printable (take (end + 1) text) ≡ true) × (list_all is_unescaped text ≡ true)

-- a text from a place on up to but without another, with what stands there of matches in reverse
abbrev pub marked_stretch : List ℕ → ℕ → ℕ → List (ℕ × ℕ) → List ℕ
marked_stretch text at end [] = slice_range text at end
marked_stretch text at end (m ∷ ms) =
    let start = max m.0 at in
    let stop = min m.1 end in
    if nat_lt start stop then slice_range text at start
    ++ (reverse_on ++ (slice_range text start stop ++ (reverse_off ++ marked_stretch text stop end ms)))
    else marked_stretch text at end ms

-- a match of a stretch of a text, as far as the stretch has it behind a place, was added to bytes: the stretch goes on
-- from the next place
abbrev pub AddsMatch : (old new text : List ℕ) → (at next end : ℕ) → ℕ × ℕ → Type 0
AddsMatch old new text at next end place =
    (ms : List (ℕ × ℕ)) → new ++ marked_stretch text next end ms ≡ old ++ marked_stretch text at end (place ∷ ms)
