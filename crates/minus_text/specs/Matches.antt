-- Which of the matching rows a search goes to.
use Rattle.std.specs.Prelude.{ℕ, ◌+◌, ◌-◌, ◌%◌, Bool, List, length, Option, Some, None, slice_get, if◌then◌else◌, ◌==◌}
use Rattle.std.specs.Prelude.{nat_lt, nat_le}
use Rattle.std.specs.List.{position}
use Rattle.std.specs.Option.{unwrap_or}

-- a row that a jump by this many matches may count first: above the mark, or for a jump by none at it or above
abbrev pub counts_first : ℕ → ℕ → ℕ → Bool
counts_first mark jump row = if jump == 0 then nat_le mark row else nat_lt mark row

-- the place, in the ascending list of matching rows, of the first that counts, or 0 if none does
abbrev pub nearest : List ℕ → ℕ → ℕ → ℕ
nearest rows mark jump = unwrap_or (position (counts_first mark jump) rows) 0

-- the place of the match that a jump from a mark goes to: past the last match it goes on at the first
abbrev pub nth_match : List ℕ → ℕ → ℕ → Option ℕ
nth_match rows mark jump =
    let first = nearest rows mark jump in
    if length rows == 0 then None
    else Some (if jump == 0 then first else (first + (jump - 1)) % length rows)

-- the row of the match that a search from a mark goes to: the first one at the mark or behind it, or else the first one
abbrev pub match_at : List ℕ → ℕ → Option ℕ
match_at rows mark = slice_get rows (unwrap_or (nth_match rows mark 0) 0)
