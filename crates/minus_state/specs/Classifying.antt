-- What a classifier says.
use Rattle.std.specs.Prelude.{ℕ, List, Option}
use Rattle.minus_term.specs.declared.event.Event.{Event}
use Rattle.minus_state.specs.declared.input.InputEvent.{InputEvent}
use Rattle.minus_state.specs.declared.state.PagerState.{PagerState}

-- what a classifier may answer to an event in a state, and the texts, or none, that it may give for help
pub record Classifies (K : Type 0) : Type 1 where
  pub allows : K → Event → PagerState → Option InputEvent → Type 0
  pub helps : K → Option (List ℕ) → Type 0
