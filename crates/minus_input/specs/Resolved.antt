-- What a register's bindings say, read through the callbacks that it keeps.
use Rattle.std.specs.Prelude.{◌≡◌, List, [], ◌∷◌, map, true, Option, None, Some, is_some, option_map, slice_get}
use Rattle.std.specs.Prelude.{string_bytes}
use Rattle.std.specs.List.{AllByRecursion}
use Rattle.minus_input.specs.declared.bound.ActionOf.{ActionOf}
use Rattle.minus_input.specs.declared.bound.ActionOf.TheVariants as action
use Rattle.minus_input.specs.declared.bound.Bound.{Bound}
use Rattle.minus_input.specs.declared.bound.Bound.TheVariants.{Default, Callback}
use Rattle.minus_input.specs.declared.bound.KeptCallback.{KeptCallback}
use Rattle.minus_input.specs.declared.default_action.DefaultAction.{DefaultAction}
use Rattle.minus_input.specs.DefaultActions.{default_description}
use Rattle.minus_input.specs.Register.{Binding}

-- a default action, bound
abbrev pub default_binding : {C : Type 0} → DefaultAction → Binding (ActionOf C)
default_binding default = record { action = action.Default default; description = default_description default }

-- a callback that is kept, bound
abbrev pub kept_binding : {C : Type 0} → KeptCallback C → Binding (ActionOf C)
kept_binding kept = record { action = action.Callback kept.callback; description = string_bytes kept.description }

-- what a key is bound to: a default action, or the callback of a number, if there is one of that number
abbrev pub binding_at : {C : Type 0} → List (KeptCallback C) → Bound → Option (Binding (ActionOf C))
binding_at kept (Default default) = Some (default_binding default)
binding_at kept (Callback number) = option_map kept_binding (slice_get kept number)

module _ {K V B : Type 0} (read : V → Option B) where
  -- each value of a list of pairs can be read
  abbrev pub EachIsRead : List (K × V) → Type 0
  EachIsRead pairs = AllByRecursion (λ pair. is_some (read pair.1) ≡ true) pairs

  -- a pair of a key and what its value is read as, before the other pairs; the pair is
  -- left out where the value cannot be read
  abbrev pub with_read : K → Option B → List (K × B) → List (K × B)
  with_read key None more = more
  with_read key (Some value) more = (key, value) ∷ more

  -- the pairs, with what their values are read as
  abbrev pub read_each : List (K × V) → List (K × B)
  read_each [] = []
  read_each (first ∷ more) = with_read first.0 (read first.1) (read_each more)

-- keys with default actions, as they stand in a register
abbrev pub default_bounds : {K : Type 0} → List (K × DefaultAction) → List (K × Bound)
default_bounds keys = map (λ key. (key.0, Default key.1)) keys
