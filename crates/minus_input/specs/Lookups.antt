-- What is bound to each key after one was bound, or removed.
use Rattle.std.specs.Prelude.{◌≡◌, Bool, List, None, Some, if◌then◌else◌}
use Rattle.std.specs.List.{IsDistinct}
use Rattle.std.specs.Map.{keys_of}
use Rattle.minus_input.specs.Register.{bind, unbind, bound_to}

-- a key that was bound has what it was bound to, and every other key what it had
abbrev pub BoundKeysAreFound : {K : Type 0} → (K → K → Bool) → Type 0 → Type 0
BoundKeysAreFound {K} same B =
    (bindings : List (K × B)) (key other : K) (bound : B) →
    bound_to same (bind same bindings key bound) other
    ≡ (if same other key then Some bound else bound_to same bindings other)

-- nothing is bound to a key that was removed, and every other key has what it had
abbrev pub RemovedKeysAreGone : {K : Type 0} → (K → K → Bool) → Type 0 → Type 0
RemovedKeysAreGone {K} same B =
    (bindings : List (K × B)) (key other : K) → IsDistinct same (keys_of bindings) →
    bound_to same (unbind same bindings key) other ≡ (if same other key then None else bound_to same bindings other)
