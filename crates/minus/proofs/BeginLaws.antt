-- A start, once what its commands register is kept.
use Rattle.std.proofs.Common.{◌≡◌, ℕ, Option, None, map, Result, Ok, Err, IfOk, IfErr, refl, ap, subst, ◌∙◌}
use Rattle.minus_term.specs.Counts.{SinkSeen}
use Rattle.minus_term.specs.Refusals.{refusal_of}
use Rattle.minus_state.specs.Control.{Control}
use Rattle.minus_state.specs.declared.state.RunMode.{RunMode}
use Rattle.minus_state.specs.States.{control_of}
use Rattle.minus.specs.declared.init.StartErrorOf.{StartErrorOf}
use Rattle.minus_commands.specs.declared.pager.PagerOf.{PagerOf}
use Rattle.minus_commands.specs.declared.parts.PartsOf.{PartsOf}
use Rattle.minus.specs.declared.session.Core.{Core}
use Rattle.minus_commands.specs.Registration.{Kept, kept_at_first}
use Rattle.minus_commands.specs.Reads.{kept_of, wanted_of}
use Rattle.minus.specs.SessionStarts.{IsStart, IsRefusedStart, IsOpened, IsUnopened}
use Rattle.minus.specs.Starts.{first_control, first_move, CanBegin, BeginsAndMoves, StartBreaksOff}
use Rattle.minus_commands.specs.WaitingRegistrations.{kept_taken, classifier_taken, condition_taken}
use Rattle.minus.proofs.StartLaws.{shown_at_start}
use Rattle.minus.proofs.StepLaws.{seen_alike}

-- the parts that a session begins with, before and after they have what commands register
pub record IsPrepared {P H E Q K : Type 0} (pager : PagerOf P H E Q K) (first ready : PartsOf P H E Q K) : Type 0 where
  pub kept_first : kept_of first ≡ kept_at_first
  pub none_first : first.condition ≡ None
  pub state : ready.state ≡ first.state
  pub kept : kept_of ready ≡ kept_taken (kept_of first) (map wanted_of pager.queue.items)
  pub classifier : ready.classifier ≡ classifier_taken first.classifier (map wanted_of pager.queue.items)
  pub condition : ready.condition ≡ condition_taken first.condition (map wanted_of pager.queue.items)

pub begun : {S P H E Q K : Type 0} (seen : S → SinkSeen) (pager : PagerOf P H E Q K) (mode : RunMode) (cols rows : ℕ) (sink : S) (first ready : PartsOf P H E Q K) (session : Core S P H E Q K) → IsPrepared pager first ready → CanBegin mode cols rows (map wanted_of pager.queue.items) → control_of first.state ≡ first_control cols rows (map wanted_of pager.queue.items) → IsOpened seen mode ready sink session
    → IsStart seen pager mode cols rows first.classifier sink session
begun {Q = Q} seen pager mode cols rows sink first ready session is can control opened =
    let waiting = map wanted_of pager.queue.items in
    let at = ap control_of is.state ∙ control in
    record {
      started = record {
        can = can.can;
        takes = can.takes;
        on_terminal = opened.on_terminal;
        begins = opened.begins ∙ seen_alike _ _ (ap (λ (k : Control). (first_move k).left) at) is.classifier (is.condition ∙ ap (λ (q : Option Q). condition_taken q waiting) is.none_first) (is.kept ∙ ap (λ (k : Kept). kept_taken k waiting) is.kept_first) refl refl refl;
        drawn = subst (λ (k : Control). BeginsAndMoves (seen sink).bytes (seen session.sink).bytes k) at opened.drawn;
      };
      stays = opened.stays;
    }

pub not_begun : {S P H E Q K : Type 0} (seen : S → SinkSeen) (pager : PagerOf P H E Q K) (mode : RunMode) (cols rows : ℕ) (sink : S) (first ready : PartsOf P H E Q K) (e : StartErrorOf S P H E Q K) → IsPrepared pager first ready → CanBegin mode cols rows (map wanted_of pager.queue.items) → control_of first.state ≡ first_control cols rows (map wanted_of pager.queue.items) → IsUnopened seen ready sink e
    → IsRefusedStart seen pager mode cols rows sink e
not_begun seen pager mode cols rows sink first ready e is can control off =
    let at = ap control_of is.state ∙ control in
    let late = shown_at_start (refusal_of e.cause) mode cols rows (map wanted_of pager.queue.items) (seen sink).terminal can off.refused in
    record {
      refused = late.0;
      returned = λ early. absurd (late.1 early);
      gone = λ written. off.gone;
      broken = subst (λ (k : Control). StartBreaksOff (refusal_of e.cause) (seen sink).bytes (seen e.sink).bytes (seen sink).refusals (seen e.sink).refusals k) at off.broken;
      rises = off.rises;
      untouched = off.untouched;
    }

-- what is left of it
pub begins : {S P H E Q K : Type 0} (seen : S → SinkSeen) (pager : PagerOf P H E Q K) (mode : RunMode) (sink : S) (first ready : PartsOf P H E Q K) (r : Result (Core S P H E Q K) (StartErrorOf S P H E Q K)) → IsPrepared pager first ready → IfOk r (λ s. IsOpened seen mode ready sink s)
    → IfOk r (λ s. (cols rows : ℕ) → CanBegin mode cols rows (map wanted_of pager.queue.items) → control_of first.state ≡ first_control cols rows (map wanted_of pager.queue.items) → IsStart seen pager mode cols rows first.classifier sink s)
begins seen pager mode sink first ready (Ok s) is opened = λ cols rows can control. begun seen pager mode cols rows sink first ready s is can control opened
begins seen pager mode sink first ready (Err e) is opened = tt

pub begins_not : {S P H E Q K : Type 0} (seen : S → SinkSeen) (pager : PagerOf P H E Q K) (mode : RunMode) (sink : S) (first ready : PartsOf P H E Q K) (r : Result (Core S P H E Q K) (StartErrorOf S P H E Q K)) → IsPrepared pager first ready → IfErr r (λ e. IsUnopened seen ready sink e)
    → IfErr r (λ e. (cols rows : ℕ) → CanBegin mode cols rows (map wanted_of pager.queue.items) → control_of first.state ≡ first_control cols rows (map wanted_of pager.queue.items) → IsRefusedStart seen pager mode cols rows sink e)
begins_not seen pager mode sink first ready (Ok s) is off = tt
begins_not seen pager mode sink first ready (Err e) is off = λ cols rows can control. not_begun seen pager mode cols rows sink first ready e is can control off

pub if_ok : {T E : Type 0} {P Q : T → Type 0} (r : Result T E) → ((x : T) → P x → Q x) → IfOk r P → IfOk r Q
if_ok (Ok x) f h = f x h
if_ok (Err e) f h = tt

pub if_err : {T E : Type 0} {P Q : E → Type 0} (r : Result T E) → ((e : E) → P e → Q e) → IfErr r P → IfErr r Q
if_err (Ok x) f h = tt
if_err (Err e) f h = f e h
