-- Where the rows of a line of printable ASCII may end.
use Rattle.std.specs.Prelude.{◌≡◌, ℕ, ◌+◌, ◌-◌, ◌<◌, ◌≤◌, ◌∷◌, ◌==◌, ◌&&◌, ◌||◌, Bool, true, false, nat_le, List, map}
use Rattle.std.specs.Prelude.{drop, slice_index}
use Rattle.std.specs.List.{list_all}
use Rattle.std.specs.Char.{is_ascii_alphanumeric}
use Rattle.minus_text.specs.declared.line_cuts.RowCut.{RowCut}
use Rattle.minus_text.specs.Plain.{is_printable}
use Rattle.minus_text.specs.Kept.{moved}
use Rattle.minus_text.specs.Rows.{line_places}

-- a hyphen stands before a place, between ASCII letters or digits of a row that begins at another place
abbrev pub is_behind_joint : List ℕ → ℕ → ℕ → Bool
is_behind_joint line start place =
    nat_le (start + 2) place && ((slice_index line (place - 1) == 45)
    && (is_ascii_alphanumeric (slice_index line (place - 2)) && is_ascii_alphanumeric (slice_index line place)))

-- the row may end before a place: at a space, or behind such a hyphen
abbrev pub is_cut : List ℕ → ℕ → ℕ → Bool
is_cut line start place = (slice_index line place == 32) || is_behind_joint line start place

-- at no place behind one and up to another
abbrev pub HasNoCut : List ℕ → ℕ → ℕ → ℕ → Type 0
HasNoCut line start from to = (place : ℕ) → from < place → place ≤ to → is_cut line start place ≡ false

-- spaces stand from a place on, up to another
abbrev pub HasSpaces : List ℕ → ℕ → ℕ → Type 0
HasSpaces line from to = (place : ℕ) → from ≤ place → place < to → slice_index line place ≡ 32

-- of what stands from a place on in a line of printable ASCII, the first row ends at this cut, and the others are the
-- rows of what follows it
abbrev pub CutsRow : ℕ → List ℕ → ℕ → RowCut → Type 0
CutsRow cols line start cut = list_all is_printable line ≡ true
    → line_places cols (drop start line) ≡ record { start = 0; end = cut.end - start }
    ∷ map (moved (cut.next - start)) (line_places cols (drop cut.next line))
