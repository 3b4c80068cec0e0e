-- What of a row stands in some columns, as places in its bytes.
use Rattle.std.specs.Prelude.{◌≡◌, ℕ, ◌+◌, ◌-◌, ◌<◌, ◌≤◌, ◌&&◌, Bool, nat_lt, Option, None, Some, List, [], ◌∷◌, ◌++◌}
use Rattle.std.specs.Prelude.{length, drop, if◌then◌else◌}
use Rattle.std.specs.List.{sum_by}
use Rattle.std.specs.Str.{IsCharBoundary}
use Rattle.minus_text.specs.Units.{unit_columns}
use Rattle.minus_text.specs.Crop.{is_inside}
use Rattle.minus_text.specs.NumberPrefix.{prefix_columns}
use Rattle.minus_state.specs.VisibleCharacters.{text_of, row_units}

-- the greatest place up to a number where a text may be cut
pub record IsLastCut (text : List ℕ) (most place : ℕ) : Type 0 where
  pub within : place ≤ most
  pub cut : IsCharBoundary text place
  pub last : (other : ℕ) → place < other → other ≤ most → ¬ (IsCharBoundary text other)

-- the bytes of a prefix: its columns, and 8 bytes of the style of a number
abbrev pub prefix_bytes : Bool → ℕ → ℕ
prefix_bytes numbers line_count = if numbers then prefix_columns numbers line_count + 8 else 0

-- whether a unit has columns and all of them are shown
abbrev pub is_seen : ℕ → ℕ → List (List ℕ) → List ℕ → Bool
is_seen left width before unit =
    nat_lt 0 (unit_columns unit) && is_inside left width (sum_by unit_columns before) (unit_columns unit)

-- two ranges one after another, if there are two
abbrev pub joined : Option (ℕ × ℕ) → Option (ℕ × ℕ) → Option (ℕ × ℕ)
joined None later = later
joined (Some first) None = Some first
joined (Some first) (Some later) = Some (first.0, later.1)

-- where such a unit begins and ends, in bytes, behind the units before it
abbrev pub seen_part : ℕ → ℕ → List (List ℕ) → List ℕ → Option (ℕ × ℕ)
seen_part left width before unit =
    if is_seen left width before unit then Some (length (text_of before), length (text_of (before ++ unit ∷ [])))
    else None

-- from where the first such unit of a text begins to where the last one ends, in bytes, if there is one
abbrev pub seen_range : ℕ → ℕ → List (List ℕ) → List (List ℕ) → Option (ℕ × ℕ)
seen_range left width before [] = None
seen_range left width before (u ∷ us) =
    joined (seen_part left width before u) (seen_range left width (before ++ u ∷ []) us)

-- the range behind a prefix, or twice the end of the line
abbrev pub range_behind : ℕ → ℕ → Option (ℕ × ℕ) → ℕ × ℕ
range_behind prefix size None = (size, size)
range_behind prefix size (Some range) = (prefix + range.0, prefix + range.1)

-- where the prefix of a line ends, and the range behind it of the units with columns that
-- lie in the columns left for them
pub record AreScrollBounds (line : List ℕ) (cols start : ℕ) (numbers : Bool) (line_count : ℕ) (prefix : ℕ)
    (range : ℕ × ℕ) : Type 0 where
  pub prefix_ends : IsLastCut line (prefix_bytes numbers line_count) prefix
  pub range_is :
      range ≡ range_behind prefix (length line)
      (seen_range start (cols - prefix_columns numbers line_count) [] (row_units (drop prefix line)))
