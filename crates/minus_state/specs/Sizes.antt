-- The sizes of a terminal.
use Rattle.std.specs.Prelude.{ℕ, ◌≤◌}

-- columns and rows, each from 1 to 65,535
pub record IsSize (cols rows : ℕ) : Type 0 where
  pub some_cols : 1 ≤ cols
  pub few_cols : cols ≤ 65535
  pub some_rows : 1 ≤ rows
  pub few_rows : rows ≤ 65535
