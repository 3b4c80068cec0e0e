-- What a sink tells: the bytes that it holds, how many of its calls it refused, how often it
-- was settled, and whether it is a terminal.
use Rattle.std.specs.Prelude.{◌≡◌, ℕ, ◌+◌, ◌-◌, ◌^◌, ◌<◌, ◌≤◌, ◌==◌, ◌++◌, Bool, true, false, if◌then◌else◌, Option}
use Rattle.std.specs.Prelude.{None, Some, Result, Ok, Err, List, length, take, min, ⊤}
use Rattle.std.specs.Io.KnownBytes.{Appends}

-- the bytes that a sink holds, the number of its calls that it refused, and how often it was settled, refused or not,
-- each where the sink tells it; and whether it is a terminal
pub record SinkSeen : Type 0 where
  pub bytes : Option (List ℕ)
  pub refusals : Option ℕ
  pub settles : Option ℕ
  pub terminal : Bool

-- nothing is told, and the sink is no terminal
abbrev pub unseen : SinkSeen
unseen = record { bytes = None; refusals = None; settles = None; terminal = false }

-- the bytes alone are told
abbrev pub tells_bytes : List ℕ → SinkSeen
tells_bytes bytes = record unseen { bytes = Some bytes }

-- a sink's count before and after one call: one more where the call was refused; a count that is not told stays so
abbrev pub CountsCall : Option ℕ → Option ℕ → Bool → Type 0
CountsCall None None refused = ⊤
CountsCall None (Some n) refused = ⊥
CountsCall (Some m) None refused = ⊤
CountsCall (Some m) (Some n) true = n ≡ m + 1
CountsCall (Some m) (Some n) false = n ≡ m

-- over some calls a count rose by `more`, where it is told before and after them; a count that is not told stays so
abbrev pub RisesBy : Option ℕ → Option ℕ → ℕ → Type 0
RisesBy None None more = ⊤
RisesBy None (Some n) more = ⊥
RisesBy (Some m) None more = ⊤
RisesBy (Some m) (Some n) more = n ≡ m + more

-- whether a write was refused: it gave an error of any kind, or took nothing
abbrev pub is_refused : {E : Type 0} → Result ℕ E → Bool
is_refused (Ok n) = n == 0
is_refused (Err e) = true

-- whether a flush was refused
abbrev pub is_fault : {A E : Type 0} → Result A E → Bool
is_fault (Ok n) = false
is_fault (Err e) = true

-- over some calls no refusal was counted
abbrev pub Stays : Option ℕ → Option ℕ → Type 0
Stays old new = CountsCall old new false

-- over some calls the count rose, where it is told before and after them
abbrev pub Rises : Option ℕ → Option ℕ → Type 0
Rises None None = ⊤
Rises None (Some n) = ⊥
Rises (Some m) None = ⊤
Rises (Some m) (Some n) = m < n

-- the bytes that the sink holds grew by a beginning of these, perhaps none or all of them
abbrev pub AppendsFront : Option (List ℕ) → Option (List ℕ) → List ℕ → Type 0
AppendsFront old new bytes = (k : ℕ) × (k ≤ length bytes) × Appends old new (take k bytes)

-- the bytes that the sink holds grew by the first of these and a beginning of the second, perhaps none or all of it
abbrev pub AppendsPart : Option (List ℕ) → Option (List ℕ) → List ℕ → List ℕ → Type 0
AppendsPart old new before part = (k : ℕ) × (k ≤ length part) × Appends old new (before ++ take k part)

-- a count of 64 bits after a call: one more where the call was refused, up to the greatest value
abbrev pub count_after : ℕ → Bool → ℕ
count_after n true = min (n + 1) (2 ^ 64 - 1)
count_after n false = n

-- a count of 64 bits, as it is told: its greatest value may be any count from there on, and is not told
abbrev pub told_count : ℕ → Option ℕ
told_count n = if n == 2 ^ 64 - 1 then None else Some n
