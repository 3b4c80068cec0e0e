-- The size of a terminal, as the launcher tells it.
use Rattle.std.specs.Prelude.{ℕ, ◌==◌, if◌then◌else◌}
use Rattle.minus_app.specs.declared.size.Size.{Size}

-- what is told as no columns is taken for 80 of them, and as no rows for 24
abbrev pub size_told : (cols rows : ℕ) → Size
size_told cols rows = record {
  rows = if rows == 0 then 24 else rows;
  cols = if cols == 0 then 80 else cols;
  resumes = 0;
}
