-- A register of bindings: a list of keys in the order in which they were bound first, no key twice, each with what is
-- bound to it; and what is done at an event to which no key is bound.
use Rattle.std.specs.Prelude.{ℕ, Bool, List, [], ◌∷◌, position, Option, None, Some, is_some, if◌then◌else◌}

-- what is bound to a key: what is done, and the text that the help table shows of it
pub record Binding (A : Type 0) : Type 0 where
  pub action : A
  pub description : List ℕ

-- the bindings, and what is done where no key is bound
pub record Register (K A : Type 0) : Type 0 where
  pub bindings : List (K × Binding A)
  pub wild : Option A

-- nothing is bound
abbrev pub nothing_bound : {K A : Type 0} → Register K A
nothing_bound = record { bindings = []; wild = None }

module _ {K B : Type 0} (same : K → K → Bool) where
  -- a new key goes last; a key that is bound keeps its first form and its place, and what is bound to it is replaced
  abbrev pub bind : List (K × B) → K → B → List (K × B)
  bind [] key bound = (key, bound) ∷ []
  bind (first ∷ more) key bound = if same key first.0 then (first.0, bound) ∷ more else first ∷ bind more key bound

  -- some keys are bound, one after another, to one thing
  abbrev pub bind_all : List (K × B) → List K → B → List (K × B)
  bind_all bindings [] bound = bindings
  bind_all bindings (key ∷ keys) bound = bind_all (bind bindings key bound) keys bound

  -- some keys are bound, one after another, each to a thing of its own
  abbrev pub bind_each : List (K × B) → List (K × B) → List (K × B)
  bind_each bindings [] = bindings
  bind_each bindings (first ∷ more) = bind_each (bind bindings first.0 first.1) more

  -- a key is removed, and the others close up; a key that is not bound is skipped
  abbrev pub unbind : List (K × B) → K → List (K × B)
  unbind [] key = []
  unbind (first ∷ more) key = if same key first.0 then more else first ∷ unbind more key

  -- some keys are removed, one after another
  abbrev pub unbind_all : List (K × B) → List K → List (K × B)
  unbind_all bindings [] = bindings
  unbind_all bindings (key ∷ keys) = unbind_all (unbind bindings key) keys

  -- what is bound to a key
  abbrev pub bound_to : List (K × B) → K → Option B
  bound_to [] key = None
  bound_to (first ∷ more) key = if same key first.0 then Some first.1 else bound_to more key

  -- the place, in a list of keys, of the first one that is bound
  abbrev pub first_bound : List (K × B) → List K → Option ℕ
  first_bound bindings keys = position (λ key. is_some (bound_to bindings key)) keys

-- what is done where this is bound to a key, or nothing is and this is done at all other events
abbrev pub action_or : {A : Type 0} → Option (Binding A) → Option A → Option A
action_or None wild = wild
action_or (Some binding) wild = Some binding.action

-- what is done at a key
abbrev pub action_at : {K A : Type 0} → (K → K → Bool) → Register K A → K → Option A
action_at same register key = action_or (bound_to same register.bindings key) register.wild
