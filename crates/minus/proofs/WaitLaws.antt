-- Inputs that wait, or could not.
use Rattle.std.proofs.Common.{◌≡◌, ℕ, true, List, ◌∷◌, ◌++◌, [], Option, None, Some, is_some, refl, sym, subst, inl, inr}
use Rattle.minus_term.specs.Counts.{SinkSeen, Stays}
use Rattle.minus_term.specs.Refusals.{Refusal, refusal_of, for_newline, for_size}
use Rattle.minus_term.specs.declared.error.MinusError.{MinusError}
use Rattle.minus.specs.Says.{Says}
use Rattle.minus.specs.declared.session.Core.{Core}
use Rattle.minus.specs.declared.done.Done.{Done}
use Rattle.minus.specs.Asked.{Wants}
use Rattle.minus.specs.Waiting.{checked_as}
use Rattle.minus.specs.Core.{seen_of}
use Rattle.minus_commands.specs.Reads.{Told}
use Rattle.minus_state.specs.OpenSearches.{OpenSearch}
use Rattle.minus.specs.Seen.{Seen}
use Rattle.minus.specs.SessionSteps.{ending_of, IsTakenOf, IsUntakenOf, IsKept, IsUnkept, IsNotKept}
use Rattle.minus.specs.Steps.{goes_on, Took}
use Rattle.minus.specs.RefusedSteps.{Fails, IsSinkFault}
use Rattle.minus_commands.specs.Table.{Wanted, IsFault}
use Rattle.minus_draw.specs.Drawn.{undrawn}
use Rattle.minus.specs.Works.{waited}
use Rattle.minus_draw.proofs.DrawnLaws.{undrawn_drawn}
use Rattle.minus.proofs.LoopLaws.{some_of}
use Rattle.minus.proofs.StartLaws.{Stays-refl}

-- an input that waits was taken
pub kept_take : {S P H E Q K : Type 0} (sink : S → SinkSeen) (says : Says Q K) (old new : Core S P H E Q K) (told : Told Q K) (of : Done) → is_some ((seen_of old).control.search) ≡ true → is_some (checked_as told) ≡ true → IsKept old told new of → IsTakenOf sink says old told new of
kept_take sink says old new told of searching waits h =
    let s : Seen _ _ = seen_of old in
    let (o, open_search) = some_of s.control.search searching in
    let (w, checked) = some_of (checked_as told) waits in
    let a : Option (List ℕ) = (sink old.sink).bytes in
    let next : Seen _ _ = record s { waiting = s.waiting ++ told ∷ [] } in
    let drawn : Took says (goes_on None) s told next a a = (undrawn s.control, waited o w open_search checked (h.possible w checked), undrawn_drawn a s.control) in
    let ends : Took says (ending_of of) s told next a a = subst (λ (x : Done). Took says (ending_of x) s told next a a) (sym h.goes_on) drawn in
    let left : Took says (ending_of of) s told (seen_of new) a a = subst (λ (x : Seen _ _). Took says (ending_of of) s told x a a) (sym h.seen) ends in
    record {
      took = subst (λ (x : _). Took says (ending_of of) s told (seen_of new) a (sink x).bytes) (sym h.sink) left;
      stays = subst (λ (x : _). Stays (sink old.sink).refusals (sink x).refusals) (sym h.sink) (Stays-refl (sink old.sink).refusals);
    }

-- one that could not wait was not taken, and the sink is not at fault
faulty : {Q K : Type 0} (says : Says Q K) (refusal : Refusal) (s : Seen Q K) (told : Told Q K) (a : Option (List ℕ)) (w : Wanted Q K) → Wants says s s.control.search told w → IsFault refusal w → Fails says refusal s told s a a × (IsSinkFault refusal → ⊥)
faulty says for_newline s told a w wants fault = (((w, wants, fault), (refl, refl)), λ sink. sink)
faulty says (for_size cols rows) s told a w wants fault = (((w, wants, fault), (refl, refl)), λ sink. sink)
faulty says refusal s told a w wants fault = absurd fault

unkept : {Q K : Type 0} (says : Says Q K) (refusal : Refusal) (s : Seen Q K) (told : Told Q K) (a : Option (List ℕ)) (w : Wanted Q K) → Wants says s s.control.search told w → checked_as told ≡ Some w → IsUnkept refusal told → Fails says refusal s told s a a × (IsSinkFault refusal → ⊥)
unkept says refusal s told a w wants checked (inl memory) = rw memory ((refl, refl), λ fault. fault)
unkept says refusal s told a w wants checked (inr why) = faulty says refusal s told a w wants (why w checked)

pub unkept_take : {S P H E Q K : Type 0} (sink : S → SinkSeen) (says : Says Q K) (old new : Core S P H E Q K) (told : Told Q K) (e : MinusError) → is_some ((seen_of old).control.search) ≡ true → is_some (checked_as told) ≡ true → IsNotKept old told new e → IsUntakenOf sink says old told new e
unkept_take sink says old new told e searching waits h =
    let s : Seen _ _ = seen_of old in
    let (o, open_search) = some_of s.control.search searching in
    let (w, checked) = some_of (checked_as told) waits in
    let a : Option (List ℕ) = (sink old.sink).bytes in
    let wants : Wants says s s.control.search told w = subst (λ (x : Option OpenSearch). Wants says s x told w) (sym open_search) checked in
    let (fails, no_fault) = unkept says (refusal_of e) s told a w wants checked h.why in
    let left : Fails says (refusal_of e) s told (seen_of new) a a = subst (λ (x : Seen _ _). Fails says (refusal_of e) s told x a a) (sym h.seen) fails in
    record {
      fails = subst (λ (x : _). Fails says (refusal_of e) s told (seen_of new) a (sink x).bytes) (sym h.sink) left;
      rises = λ fault. absurd (no_fault fault);
      untouched = λ well. h.sink;
    }
