-- The columns that tabs lead to: how far they stand apart, how wide a tab is, and the column behind some bytes.
use Rattle.std.specs.Prelude.{ℕ, ◌≡◌, ◌+◌, ◌-◌, ◌%◌, ◌==◌, List, [], ◌∷◌, min, max, if◌then◌else◌}
use Rattle.minus_view.specs.declared.prepare.Shape.{Shape}

-- how far tabs stand apart
abbrev pub apart : Shape → ℕ
apart shape = min 65535 (max 1 shape.tabs)

-- how many spaces stand for a tab: as many as lead to the next column that `tabs` divides
abbrev pub tab_len : ℕ → ℕ → ℕ
tab_len tabs col = tabs - col % tabs

-- the column behind a byte that stands in column col; columns are counted from 0
abbrev pub next_column : ℕ → ℕ → ℕ → ℕ
next_column tabs col b = if b == 9 then col + tab_len tabs col else (if b == 10 then 0 else col + 1)

-- the column behind these bytes, the first of which stands in column col; columns are counted from 0
abbrev pub column_after : ℕ → ℕ → List ℕ → ℕ
column_after tabs col [] = col
column_after tabs col (b ∷ bytes) = column_after tabs (next_column tabs col b) bytes

-- the column behind these bytes, as far as tabs can tell
abbrev pub IsColumnAfter : ℕ → ℕ → List ℕ → ℕ → Type 0
IsColumnAfter tabs col bytes behind = behind % tabs ≡ column_after tabs col bytes % tabs
