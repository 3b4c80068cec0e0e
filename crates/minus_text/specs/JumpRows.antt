-- The rows that jumps go to, counted with their matches.
use Rattle.std.specs.Prelude.{ℕ, zero, suc, ◌+◌, ◌-◌, ◌^◌, ◌≤◌, ◌==◌, min, List, [], ◌∷◌, if◌then◌else◌}
use Rattle.std.specs.Ordering.{nat_cmp}
use Rattle.std.specs.BTreeSet.{insert_key}
use Rattle.minus_text.specs.declared.search.jump_rows.Jump.{Jump}
use Rattle.minus_text.specs.Found.{RowMatches}

-- matches are counted so far at most
abbrev pub counted : ℕ → ℕ
counted n = min n (2 ^ 64 - 1)

-- the rows in which matches begin, each with how many begin down to its end, behind this many others
abbrev pub jumps_behind : ℕ → List RowMatches → List Jump
jumps_behind n [] = []
jumps_behind n (r ∷ rs) =
    if r.begins == 0 then jumps_behind n rs
    else record { row = r.row; end = counted (n + r.begins) } ∷ jumps_behind (n + r.begins) rs

-- a jump behind this many matches more
abbrev pub jump_behind : ℕ → Jump → Jump
jump_behind n j = record { row = j.row; end = counted (n + j.end) }

-- how many matches begin in the first this many of these, behind this many others
abbrev pub ended_at : ℕ → List Jump → ℕ → ℕ
ended_at n js zero = n
ended_at n [] (suc i) = n
ended_at n (j ∷ js) (suc i) = ended_at j.end js i

-- numbers that rise, from one on
abbrev pub Rise : ℕ → List ℕ → Type 0
Rise first [] = Unit {0}
Rise first (n ∷ ns) = (first ≤ n) × Rise (n + 1) ns

-- numbers, and those of rows
abbrev pub numbers_with : List ℕ → List ℕ → List ℕ
numbers_with [] keys = keys
numbers_with (n ∷ ns) keys = numbers_with ns (insert_key nat_cmp keys n)
