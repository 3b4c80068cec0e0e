-- Parts of the lines of a text, joined by newlines. Lines count from 0.
use Rattle.std.specs.Prelude.{◌≡◌, ℕ, ◌+◌, ◌-◌, ◌≤◌, ◌<◌, zero, suc, List, [], ◌∷◌, ◌++◌, length, take, drop, get_or}
use Rattle.std.specs.List.{slice_range, sum_by}
use Rattle.minus_text.specs.Lines.{cut, finished_lines, unfinished_line}
use Rattle.minus_text.specs.Kept.{bytes_of}
use Rattle.minus_text.specs.LinePlaces.{joined_lines}

-- the finished lines of a text, and what follows the last newline
abbrev pub all_lines : List ℕ → List (List ℕ)
all_lines text = finished_lines text ++ unfinished_line text ∷ []

-- where a line begins in the bytes of the text: behind the lines before it, each with its newline
abbrev pub line_start : List ℕ → ℕ → ℕ
line_start text k = sum_by bytes_of (take k (cut text).closed)

-- lines up to a place in one of them: the lines before it, and what stands in it before the place
abbrev pub lines_up_to : List (List ℕ) → ℕ → ℕ → List ℕ
lines_up_to [] k to = []
lines_up_to (x ∷ xs) zero to = take to x
lines_up_to (x ∷ xs) (suc k) to = x ++ 10 ∷ lines_up_to xs k to

-- the part of lines from a place in the line j up to a place in the line k
abbrev pub part_of_lines : List (List ℕ) → ℕ → ℕ → ℕ → ℕ → List ℕ
part_of_lines ls j from k to = drop from (lines_up_to (drop j ls) (k - j) to)

-- the part of a text between two places in its lines, its lines joined, is that part of the lines
abbrev pub PartsAreOfLines : Type 0
PartsAreOfLines = (text : List ℕ) (j from k to : ℕ) → j ≤ k → k < length (all_lines text)
    → from ≤ length (get_or (all_lines text) j []) → to ≤ length (get_or (all_lines text) k [])
    → joined_lines (slice_range text (line_start text j + from) (line_start text k + to))
    ≡ part_of_lines (all_lines text) j from k to
