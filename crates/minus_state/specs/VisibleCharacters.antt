-- The visible characters of a row: its units that are no `ESC[` sequences, the row taken
-- as one piece. They count from 0.
use Rattle.std.specs.Prelude.{◌≡◌, ℕ, ◌-◌, ◌==◌, ◌&&◌, ◌⊎◌, Bool, not, nat_lt, List, [], ◌∷◌, ◌++◌, length, take, chars}
use Rattle.std.specs.Prelude.{if◌then◌else◌}
use Rattle.std.specs.List.{concat}
use Rattle.std.specs.Str.{IsUtf8, encode_utf8_all}
use Rattle.minus_text.specs.Units.{begins_sequence}
use Rattle.minus_text.specs.TextUnits.{text_units}
use Rattle.minus_text.specs.Highlight.{reverse_on, reverse_off}

-- the units before visible character n, counted from 0; all where there is no such character
abbrev pub before_visible : ℕ → List (List ℕ) → List (List ℕ)
before_visible n [] = []
before_visible n (u ∷ us) =
    if begins_sequence u then u ∷ before_visible n us else if n == 0 then [] else u ∷ before_visible (n - 1) us

-- the units from visible character n on, counted from 0, without sequences before it;
-- none where there is no such character
abbrev pub behind_visible : ℕ → List (List ℕ) → List (List ℕ)
behind_visible n [] = []
behind_visible n (u ∷ us) =
    if begins_sequence u then behind_visible n us else if n == 0 then u ∷ us else behind_visible (n - 1) us

-- the bytes of units
abbrev pub text_of : List (List ℕ) → List ℕ
text_of us = encode_utf8_all (concat us)

-- the units of a row
abbrev pub row_units : List ℕ → List (List ℕ)
row_units row = text_units (chars row)

-- where visible character n begins in a row, in bytes; the row's end where there is no such character
unfoldable pub place_of_visible : ℕ → List ℕ → ℕ
place_of_visible n row = length (text_of (before_visible n (row_units row)))

-- where visible character n ends in a row, in bytes; the row's end where there is no such character
unfoldable pub place_after_visible : ℕ → List ℕ → ℕ
place_after_visible n row =
    length (text_of (before_visible n (row_units row) ++ take 1 (behind_visible n (row_units row))))

-- whether a row has a visible character
abbrev pub has_visible : ℕ → List ℕ → Bool
has_visible n row = not (length (behind_visible n (row_units row)) == 0)

-- a row with marks around its visible characters from the first of two numbers up to but without the other: `ESC[7m`
-- right before the first, `ESC[27m` right before the next visible character after the last, or at the row's end
unfoldable pub marked : ℕ → ℕ → List ℕ → List ℕ
marked start end row =
    if nat_lt start end && has_visible start row then
    text_of (before_visible start (row_units row)) ++ reverse_on
    ++ text_of (before_visible (end - start) (behind_visible start (row_units row))) ++ reverse_off
    ++ text_of (behind_visible (end - start) (behind_visible start (row_units row)))
    else row

-- a row with two marks in it
pub record HasMarks (row marked_row : List ℕ) : Type 0 where
  pub front : List ℕ
  pub inner : List ℕ
  pub rest : List ℕ
  pub row_is : row ≡ front ++ inner ++ rest
  pub marked_is : marked_row ≡ front ++ reverse_on ++ inner ++ reverse_off ++ rest

-- a marked row without the two marks is the row as it stood, or there is no mark
abbrev pub MarksAloneAreAdded : Type 0
MarksAloneAreAdded =
    (start end : ℕ) (row : List ℕ) → IsUtf8 row → (marked start end row ≡ row) ⊎ HasMarks row (marked start end row)
