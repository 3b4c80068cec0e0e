-- What is written where a state is drawn manually.
use Rattle.std.specs.Prelude.{◌≡◌, ℕ, List}
use Rattle.std.specs.Io.KnownBytes.{Appends}
use Rattle.minus_term.specs.Counts.{SinkSeen}
use Rattle.minus_term.specs.Operations.{Op}
use Rattle.minus_term.specs.Writes.{SinkRefuses}
use Rattle.minus_term.specs.Written.{written_all}
use Rattle.minus_term.specs.declared.error.MinusError.{MinusError}
use Rattle.minus_term.specs.declared.error.MinusError.TheVariants.{Memory, Draw}
use Rattle.minus_state.specs.declared.state.PagerState.{PagerState}
use Rattle.minus_state.specs.States.{IsFormed}

-- bytes are written: those of these operations, where the state is formed
abbrev pub DrawsFormed : {S : Type 0} → (S → SinkSeen) → PagerState → (old : S) → List Op → (new : S) → Type 0
DrawsFormed sink state old ops new =
    (bytes : List ℕ) × (IsFormed state → bytes ≡ written_all ops) × Appends (sink old).bytes (sink new).bytes bytes

-- the write of the bytes of these operations is refused: out of memory, and the sink stays as it was; or by
-- the sink, which then has a beginning of them
abbrev pub RefusesFormed : {S : Type 0} → (S → SinkSeen) → MinusError → PagerState → (old : S) → List Op → (new : S)
    → Type 0
RefusesFormed sink Memory state old ops new = new ≡ old
RefusesFormed sink (Draw cause) state old ops new =
    (bytes : List ℕ) × (IsFormed state → bytes ≡ written_all ops) × SinkRefuses sink (Draw cause) old new bytes
RefusesFormed sink error state old ops new = ⊥
