-- What is shown of a text in some columns: from `left` on, counted from 0, up to but without `left + width`.
use Rattle.std.specs.Prelude.{◌≡◌, ℕ, ◌+◌, ◌-◌, ◌≤◌, ◌==◌, ◌&&◌, Bool, true, nat_le, min, max, List, [], ◌∷◌, ◌++◌}
use Rattle.std.specs.Prelude.{replicate, chars, if◌then◌else◌}
use Rattle.std.specs.List.{concat, sum_by}
use Rattle.std.specs.Str.{encode_utf8_all}
use Rattle.minus_text.specs.Units.{begins_sequence, unit_columns, text_columns}
use Rattle.minus_text.specs.TextUnits.{text_units}

-- the columns of the last unit that has columns, 0 with none
abbrev pub last_columns : List (List ℕ) → ℕ
last_columns [] = 0
last_columns (u ∷ us) = if last_columns us == 0 then unit_columns u else last_columns us

-- whether this many columns from one on are all shown, and how many of them are
abbrev pub is_inside : ℕ → ℕ → ℕ → ℕ → Bool
is_inside left width at columns = nat_le left at && nat_le (at + columns) (left + width)

-- how many of this many columns from one on are shown
abbrev pub columns_inside : ℕ → ℕ → ℕ → ℕ → ℕ
columns_inside left width at columns = min (at + columns) (left + width) - max left at

-- whether a character without columns is shown: if the last unit with columns before it is, which takes `last` columns
-- and ends before the column `at`, or with none before it, if nothing is cut off at the left
abbrev pub is_shown_behind : ℕ → ℕ → ℕ → ℕ → Bool
is_shown_behind left width at last = if last == 0 then left == 0 else is_inside left width (at - last) last

-- whether a unit is shown as it is: each sequence, and a unit with columns if these are all shown
abbrev pub is_shown : ℕ → ℕ → ℕ → ℕ → List ℕ → Bool
is_shown left width at last unit =
    if begins_sequence unit then true else if unit_columns unit == 0 then is_shown_behind left width at last
    else is_inside left width at (unit_columns unit)

-- what is shown of a unit: itself, or a space for each of its columns that are shown
abbrev pub shown_unit : ℕ → ℕ → ℕ → ℕ → List ℕ → List (List ℕ)
shown_unit left width at last unit =
    if is_shown left width at last unit then unit ∷ []
    else replicate (columns_inside left width at (unit_columns unit)) (32 ∷ [])

-- its text
abbrev pub shown_unit_text : ℕ → ℕ → ℕ → ℕ → List ℕ → List ℕ
shown_unit_text left width at last unit = encode_utf8_all (concat (shown_unit left width at last unit))

-- what is shown of units that follow others
abbrev pub shown_units : ℕ → ℕ → List (List ℕ) → List (List ℕ) → List (List ℕ)
shown_units left width before [] = []
shown_units left width before (u ∷ us) =
    shown_unit left width (sum_by unit_columns before) (last_columns before) u
    ++ shown_units left width (before ++ u ∷ []) us

-- what is shown of a text
unfoldable pub cropped : ℕ → ℕ → List ℕ → List ℕ
cropped left width text = encode_utf8_all (concat (shown_units left width [] (text_units (chars text))))

-- the longest front of units that takes at most this many columns
abbrev pub longest_front : ℕ → List (List ℕ) → List (List ℕ)
longest_front cols [] = []
longest_front cols (u ∷ us) = if nat_le (unit_columns u) cols then u ∷ longest_front (cols - unit_columns u) us else []

-- the units cut to such a front, and filled with spaces to this many columns
abbrev pub fitted_units : ℕ → List (List ℕ) → List (List ℕ)
fitted_units cols us = longest_front cols us ++ replicate (cols - sum_by unit_columns (longest_front cols us)) (32 ∷ [])

-- a text cut or filled so
unfoldable pub fitted : ℕ → List ℕ → List ℕ
fitted cols text = encode_utf8_all (concat (fitted_units cols (text_units (chars text))))

-- the columns of units one after another, taken as one piece
abbrev pub columns_of : List (List ℕ) → ℕ
columns_of us = text_columns (concat us)

-- what is shown of a text takes no more columns than there are
abbrev pub CroppedFits : Type 0
CroppedFits =
    (left width : ℕ) (text : List ℕ) → columns_of (shown_units left width [] (text_units (chars text))) ≤ width

-- the front of a text's units is the longest that takes at most this many columns; filled with spaces, it takes just as
-- many
pub record FittedFills (cols : ℕ) (us : List (List ℕ)) : Type 0 where
  pub front : (rest : List (List ℕ)) × (us ≡ longest_front cols us ++ rest)
  pub longest : (before after : List (List ℕ)) → us ≡ before ++ after → sum_by unit_columns before ≤ cols
      → (rest : List (List ℕ)) × (longest_front cols us ≡ before ++ rest)
  pub fills : sum_by unit_columns (fitted_units cols us) ≡ cols

-- the units of each text fitted to this many columns are its longest front that fits, and take just these columns
abbrev pub FittedTextsFill : Type 0
FittedTextsFill =
    (cols : ℕ) (text : List ℕ)
    → FittedFills cols (text_units (chars text)) × (columns_of (fitted_units cols (text_units (chars text))) ≡ cols)
