-- Refusals of a sink that are passed on.
use Rattle.std.proofs.Common.{◌≡◌, ℕ, List, Result}
use Rattle.std.specs.Result.{IfErr, IsErr, IsErrAnd}
use Rattle.std.specs.declared.io.Error.{Error}
use Rattle.minus_term.specs.Counts.{SinkSeen, AppendsFront, Rises}
use Rattle.minus_term.specs.Operations.{Op}
use Rattle.minus_term.specs.Writes.{WriteRefuses}
use Rattle.minus_term.specs.Written.{written_all}
use Rattle.minus_term.specs.declared.error.MinusError.{MinusError}
use Rattle.minus_term.specs.declared.error.MinusError.TheVariants.{Draw}
use Rattle.minus_state.proofs.RefusalLaws.{passed_on}
use Rattle.minus_state.specs.States.{IsFormed}
use Rattle.minus_state.specs.declared.state.PagerState.{PagerState}
use Rattle.minus_draw.specs.DrawsFormed.{RefusesFormed}
use Rattle.minus_term.proofs.WritesLaws.{refused_draw, formed_refused}

-- of a write of bytes that were formed first: the error is that of the sink
pub write_refused : {S : Type 0} (seen : S → SinkSeen) (r : Result (Unit {0}) MinusError) (cause : Error) (old new : S) (bytes formed : List ℕ) → IsErr r × IsErrAnd r (λ e. e ≡ Draw cause) → AppendsFront (seen old).bytes (seen new).bytes bytes → Rises (seen old).refusals (seen new).refusals → bytes ≡ formed → IfErr r (λ e. WriteRefuses seen e old new formed)
write_refused seen r cause old new bytes formed is front rises same =
    formed_refused seen r old new bytes formed same (refused_draw seen cause r old new bytes is.1 front rises)

-- of a drawing of a state
pub formed_write_refused : {S : Type 0} (seen : S → SinkSeen) (r : Result (Unit {0}) MinusError) (cause : Error) (s : PagerState) (old new : S) (bytes : List ℕ) (ops : List Op) → IsErr r × IsErrAnd r (λ e. e ≡ Draw cause) → AppendsFront (seen old).bytes (seen new).bytes bytes → Rises (seen old).refusals (seen new).refusals → (IsFormed s → bytes ≡ written_all ops) → IfErr r (λ e. RefusesFormed seen e s old ops new)
formed_write_refused seen r cause s old new bytes ops is front rises drawn =
    passed_on r (λ e. RefusesFormed seen e s old ops new) (Draw cause) is (bytes, drawn, (front, rises))
