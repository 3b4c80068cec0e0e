-- The callbacks that were called, or not, told by what an input came to.
use Rattle.std.proofs.Common.{◌≡◌, ℕ, Bool, true, false, Option, None, Some, Result, Ok, Err, OnOk, List, [], ◌∷◌, refl, sym, ap, subst, ◌∙◌}
use Rattle.std.specs.Prelude.{IfOk, IfErr, OnErr, slice_get}
use Rattle.minus_term.specs.Refusals.{Refusal, at_cleanup, refusal_of}
use Rattle.minus_term.specs.declared.error.MinusError.{MinusError}
use Rattle.minus_state.specs.Control.{Control}
use Rattle.minus_state.specs.TypedPrefix.{cleared}
use Rattle.minus_commands.specs.declared.commands.InputOf.{InputOf}
use Rattle.minus.specs.declared.done.Done.{Done}
use Rattle.minus_commands.specs.declared.request.Request.{Request}
use Rattle.minus.specs.declared.session.Core.{Core}
use Rattle.minus_commands.specs.Callbacks.{Callbacks, callbacks_of, with_input, KeepsOfInput, IsDue, CallsHook, CallsExit}
use Rattle.minus.specs.SessionCallbacks.{CallsRequest, CallsWorked, CallsWhen, CallsUntaken, exit_in}
use Rattle.minus.specs.Core.{seen_of}
use Rattle.minus_commands.specs.Registration.{Exit}
use Rattle.minus_commands.specs.Reads.{Told, wanted_by}
use Rattle.minus.specs.Says.{Says}
use Rattle.minus.specs.Seen.{Seen}
use Rattle.minus_commands.specs.Table.{hook_after, is_at_end}
use Rattle.minus_draw.specs.Drawn.{Work}
use Rattle.minus.specs.Works.{Takes, worked, waited, edits}
use Rattle.minus.specs.Waiting.{IsNext, IsAtRest}

-- where all are kept as they were, none was called
pub uncalled_by : {S P H E Q K : Type 0} (refusal : Refusal) (old new : Core S P H E Q K) → callbacks_of new.parts ≡ callbacks_of old.parts → CallsUntaken refusal old new
uncalled_by (at_cleanup cause) old new h = record { ids = ap (λ (c : Callbacks _ _). c.hooks.ids) h; others = λ i entry at other. ap (λ (c : Callbacks _ _). slice_get c.hooks.callbacks i) h }
uncalled_by refusal old new h = h

pub uncalled_at : {S P H E Q K T : Type 0} (r : Result T MinusError) (old new : Core S P H E Q K) → OnErr r (callbacks_of new.parts ≡ callbacks_of old.parts) → IfErr r (λ e. CallsUntaken (refusal_of e) old new)
uncalled_at (Ok x) old new h = tt
uncalled_at (Err e) old new h = uncalled_by (refusal_of e) old new h

-- the typed prefix changes no end
pub end_cleared : (clears : Bool) (c : Control) → is_at_end (cleared clears c) ≡ is_at_end c
end_cleared true c = refl
end_cleared false c = refl

-- what a request calls that does not exit
pub called_on : {S P H E Q K X : Type 0} (r : Result Done MinusError) (request : Request P H E Q K) (old new : Core S P H E Q K) → OnOk r X → IfOk r (λ t. exit_in t ≡ None) → (X → CallsRequest None request old new) → IfOk r (λ t. CallsRequest (exit_in t) request old new)
called_on (Ok t) request old new x none calls = subst (λ (e : Option Exit). CallsRequest e request old new) (sym none) (calls x)
called_on (Err e) request old new x none calls = tt

-- an input calls what its request calls
pub called_as : {S P H E Q K : Type 0} (exit : Option Exit) (told : InputOf P H E Q K) (r : Request P H E Q K) (old new : Core S P H E Q K) → KeepsOfInput told r → IsDue told (seen_of old).control (hook_after (seen_of old).control (wanted_by r)) → CallsRequest exit r old new → CallsWorked exit told old new
called_as None told r old new keeps due h = (
  hook_after (seen_of old).control (wanted_by r),
  due,
  subst (λ (c : Callbacks _ _). CallsHook (hook_after (seen_of old).control (wanted_by r)) c (callbacks_of new.parts)) (keeps (callbacks_of old.parts)) h,
)
called_as (Some exit) told r old new keeps due h = h

-- what was called stays so while the callbacks stay
pub called_still : {S P H E Q K : Type 0} (is_searching : Bool) (exit : Option Exit) (told : InputOf P H E Q K) (old mid new : Core S P H E Q K) → callbacks_of new.parts ≡ callbacks_of mid.parts → CallsWhen is_searching exit told old mid → CallsWhen is_searching exit told old new
called_still true exit told old mid new same h = same ∙ h
called_still false None told old mid new same h = (h.0, h.1, subst (λ (c : Callbacks _ _). CallsHook h.0 (with_input (callbacks_of old.parts) told) c) (sym same) h.2)
called_still false (Some exit) told old mid new same h = subst (λ (c : Callbacks _ _). CallsExit (callbacks_of old.parts) c) (sym same) h

-- where nothing waited, nothing is to be performed after the first input
pub rests_after : {Q K : Type 0} (says : Says Q K) (s new : Seen Q K) (told : Told Q K) (work : Work) (copied : Option (List ℕ)) → Takes says s told work copied new → s.waiting ≡ [] → IsAtRest new
rests_after says s new told work copied (worked w closed asks possible free stays) none = λ shut. none
rests_after says s new told work copied (waited o w searching checked possible) none = λ shut. absurd (let both : None ≡ Some o = sym shut ∙ searching in cc)
rests_after says s new told work copied (edits o searching fed state formed is found may) none = λ shut. none

pub none_next : {Q K X : Type 0} (s : Seen Q K) (told : Told Q K) (rest : List (Told Q K)) → IsAtRest s → IsNext s told rest → X
none_next s told rest rests next = absurd (let both : told ∷ rest ≡ [] = sym next.1 ∙ rests next.0 in cc)
