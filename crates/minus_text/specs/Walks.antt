-- How far the units of a text were counted.
use Rattle.std.specs.Prelude.{◌≡◌, ℕ, ◌+◌, ◌-◌, ◌≤◌, List}
use Rattle.minus_text.specs.declared.search.shown_matches.Walk.{Walk}
use Rattle.minus_text.specs.TextUnits.{units_left}
use Rattle.minus_text.specs.ShownMatches.{columns_before}

-- the columns before each place from one on are those that were counted, and those of the units that are left
abbrev pub Counts : Walk → List (List ℕ) → ℕ → Type 0
Counts w us p = (q : ℕ) → p ≤ q → columns_before q us ≡ w.columns + columns_before (q - w.at) (units_left w.rest)
