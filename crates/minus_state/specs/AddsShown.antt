-- What is added to the bytes of a drawing for the rows that are shown.
use Rattle.std.specs.Prelude.{◌≡◌, ℕ, List, ◌++◌}
use Rattle.minus_term.specs.Operations.{Op}
use Rattle.minus_term.specs.Written.{written_all}
use Rattle.minus_state.specs.declared.state.PagerState.{PagerState}
use Rattle.minus_state.specs.declared.change.Change.{Change}
use Rattle.minus_state.specs.Changes.{IsFormedFor, shown_by}

-- the bytes of the operations that these rows lead to are added, where the change is formed beside the state
abbrev pub AddsShown : PagerState → Change → (List (List ℕ) → List Op) → (before after : List ℕ) → Type 0
AddsShown s change ops before after = IsFormedFor s change → after ≡ before ++ written_all (ops (shown_by s change))
