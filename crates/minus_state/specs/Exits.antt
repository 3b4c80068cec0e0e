-- The callbacks of an exit.
use Rattle.std.specs.Prelude.{ℕ, ◌+◌, ◌≤◌, vec_len, vec_capacity, List}
use Rattle.minus_state.specs.declared.exits.ExitCallbacks.{ExitCallbacks}

-- in the order in which they were added
abbrev pub exits_of : {C : Type 0} → ExitCallbacks C → List C
exits_of exits = exits.callbacks.items

-- `more` callbacks can be added without allocation
abbrev pub HasExitRoom : {C : Type 0} → ExitCallbacks C → ℕ → Type 0
HasExitRoom exits more = vec_len exits.callbacks + more ≤ vec_capacity exits.callbacks
