-- The rows that match.
use Rattle.std.specs.Prelude.{ℕ, List}
use Rattle.minus_text.specs.Found.{jump_rows}
use Rattle.minus_text.specs.Views.{viewed}
use Rattle.minus_state.specs.declared.search.matches.Matches.{Matches}

-- their numbers, in their order
abbrev pub numbers_of : Matches → List ℕ
numbers_of m = jump_rows (viewed m.view).found
