-- Places where forming can begin again, and rows that stay.
use Rattle.std.specs.Prelude.{◌≡◌, ℕ, ◌+◌, ◌-◌, ◌<◌, ◌≤◌, true, false, List, ◌∷◌, ◌++◌, length, slice_index}
use Rattle.std.specs.Char.{is_ascii_alphanumeric}
use Rattle.std.specs.List.{All}
use Rattle.std.specs.Str.{IsUtf8}
use Rattle.minus_text.specs.declared.rows.Span.{Span}
use Rattle.minus_text.specs.declared.layout.Wrap.TheVariants.{At}
use Rattle.minus_text.specs.Rows.{line_places}
use Rattle.minus_text.specs.Kept.{GoesOn}

-- what stands at a place of an unfinished line needs nothing before it, however the line goes on: it is no carriage
-- return at the line's end, which goes with a newline, and no hyphen behind an ASCII letter or digit that another one
-- follows, or may follow yet
pub record StandsAlone (line : List ℕ) (at : ℕ) : Type 0 where
  pub within : at < length line
  pub no_return : slice_index line at ≡ 13 → at + 1 < length line
  pub no_joint : 0 < at → slice_index line at ≡ 45 → is_ascii_alphanumeric (slice_index line (at - 1)) ≡ true
      → (at + 1 < length line) × (is_ascii_alphanumeric (slice_index line (at + 1)) ≡ false)

-- of these rows of a line that begins at a place of its text, none that begins up to a border stands alone
abbrev pub NoneAlone : List ℕ → ℕ → ℕ → List Span → Type 0
NoneAlone line base border rows = All (λ r. r.start - base ≤ border → StandsAlone line (r.start - base) → ⊥) rows

-- the rows of a line before one that begins at such a place stay however the line goes on
abbrev pub RowsGoOn : Type 0
RowsGoOn =
    (cols : ℕ) (line : List ℕ) (before : List Span) (row : Span) (after : List Span) → IsUtf8 line
    → line_places cols line ≡ before ++ row ∷ after
    → StandsAlone line row.start → GoesOn (At cols) line (length before) row.start
