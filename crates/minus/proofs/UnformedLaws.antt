-- What is left where a request was not formed: all as it was.
use Rattle.std.proofs.Common.{◌≡◌, ℕ, Bool, List, Option, None, refl, sym, subst}
use Rattle.minus_term.specs.Counts.{SinkSeen}
use Rattle.minus_term.specs.Refusals.{Refusal, refusal_of, for_memory, for_newline, for_hook_id, for_free_hook_id, for_size, for_description, for_binding, for_query, for_mode, after_failure, after_exit, at_setup, at_cleanup, at_drawing, for_pattern, of_no_call}
use Rattle.minus_term.specs.declared.error.MinusError.{MinusError}
use Rattle.minus_state.specs.Sizes.{IsSize}
use Rattle.minus.specs.declared.session.Core.{Core}
use Rattle.minus.specs.Asked.{Asks, Wants}
use Rattle.minus.specs.Core.{seen_of}
use Rattle.minus.specs.Exchanges.{CanExchange, IsUnexchanged, RefusesExchange}
use Rattle.minus_commands.specs.Outcomes.{IsUnformed}
use Rattle.minus.specs.Says.{Says}
use Rattle.minus_commands.specs.Reads.{Told}
use Rattle.minus.specs.Seen.{Seen}
use Rattle.minus.specs.RefusedSteps.{Fails, IsSinkFault}
use Rattle.minus_commands.specs.Table.{Wanted, resizes}
use Rattle.minus.specs.TakenParts.{IsUntakenAs}

-- an input asks for what could not be formed
fails_so : {Q K : Type 0} (says : Says Q K) (refusal : Refusal) (s : Seen Q K) (told : Told Q K) (w : Wanted Q K) (bytes : Option (List ℕ)) → Wants says s s.control.search told w → IsUnformed refusal w → Fails says refusal s told s bytes bytes
fails_so says for_memory s told w bytes wants h = (refl, refl)
fails_so says for_newline s told w bytes wants h = ((w, wants, h), (refl, refl))
fails_so says (for_hook_id hook id) s told w bytes wants h = absurd h
fails_so says for_free_hook_id s told w bytes wants h = absurd h
fails_so says (for_size columns rows) s told w bytes wants h = ((w, wants, h), (refl, refl))
fails_so says (for_description place cause) s told w bytes wants h = absurd h
fails_so says (for_binding place) s told w bytes wants h = absurd h
fails_so says for_query s told w bytes wants h = absurd h
fails_so says for_mode s told w bytes wants h = absurd h
fails_so says after_failure s told w bytes wants h = absurd h
fails_so says after_exit s told w bytes wants h = absurd h
fails_so says (at_setup cause) s told w bytes wants h = absurd h
fails_so says (at_cleanup cause) s told w bytes wants h = absurd h
fails_so says at_drawing s told w bytes wants h = absurd h
fails_so says for_pattern s told w bytes wants h = absurd h
fails_so says of_no_call s told w bytes wants h = absurd h

-- it is none of the sink
no_sink_fault : {Q K : Type 0} (refusal : Refusal) (w : Wanted Q K) → IsUnformed refusal w → IsSinkFault refusal → ⊥
no_sink_fault for_memory w h f = f
no_sink_fault for_newline w h f = f
no_sink_fault (for_hook_id hook id) w h f = f
no_sink_fault for_free_hook_id w h f = f
no_sink_fault (for_size columns rows) w h f = f
no_sink_fault (for_description place cause) w h f = f
no_sink_fault (for_binding place) w h f = f
no_sink_fault for_query w h f = f
no_sink_fault for_mode w h f = f
no_sink_fault after_failure w h f = f
no_sink_fault after_exit w h f = f
no_sink_fault (at_setup cause) w h f = f
no_sink_fault (at_cleanup cause) w h f = h
no_sink_fault at_drawing w h f = h
no_sink_fault for_pattern w h f = f
no_sink_fault of_no_call w h f = f

pub untaken_unformed : {S P H E Q K : Type 0} (sink : S → SinkSeen) (says : Says Q K) (core new : Core S P H E Q K) (w : Wanted Q K) (clears : Bool) (e : MinusError) → (seen_of core).control.search ≡ None → seen_of new ≡ seen_of core → new.sink ≡ core.sink → IsUnformed (refusal_of e) w → IsUntakenAs sink says core w clears new e
untaken_unformed sink says core new w clears e closed seen same h = λ told asked.
    let wants = subst (λ o. Wants says (seen_of core) o told w) (sym closed) asked.asks in
    let here = fails_so says (refusal_of e) (seen_of core) told w (sink core.sink).bytes wants h in
    let there = subst (λ s. Fails says (refusal_of e) (seen_of core) told s (sink core.sink).bytes (sink core.sink).bytes) (sym seen) here in
    record {
      fails = subst (λ x. Fails says (refusal_of e) (seen_of core) told (seen_of new) (sink core.sink).bytes (sink x).bytes) (sym same) there;
      rises = λ fault. absurd (no_sink_fault (refusal_of e) w h fault);
      untouched = λ none. same;
    }

-- a size could not be formed for
pub unexchanged_unformed : {S P H E Q K : Type 0} (refusal : Refusal) (sink : S → SinkSeen) (old : Core S P H E Q K) (given : S) (cols rows : ℕ) (new : Core S P H E Q K) → IsUnformed {Q = Q} {K = K} refusal (resizes cols rows)
    → CanExchange (seen_of old) → IsUnexchanged old given new given → RefusesExchange refusal sink old given cols rows new given
unexchanged_unformed for_memory sink old given cols rows new h can un = (can, un)
unexchanged_unformed for_newline sink old given cols rows new h can un = absurd h
unexchanged_unformed (for_hook_id hook id) sink old given cols rows new h can un = absurd h
unexchanged_unformed for_free_hook_id sink old given cols rows new h can un = absurd h
unexchanged_unformed (for_size c r) sink old given cols rows new h can un =
    let is = h.0 in
    let same_cols : c ≡ cols = cc in
    let same_rows : r ≡ rows = cc in
    (can, same_cols, same_rows, λ size. h.1 (subst (λ (x : ℕ). IsSize x r) (sym same_cols) (subst (λ (y : ℕ). IsSize cols y) (sym same_rows) size)), un)
unexchanged_unformed (for_description place cause) sink old given cols rows new h can un = absurd h
unexchanged_unformed (for_binding place) sink old given cols rows new h can un = absurd h
unexchanged_unformed for_query sink old given cols rows new h can un = absurd h
unexchanged_unformed for_mode sink old given cols rows new h can un = absurd h
unexchanged_unformed after_failure sink old given cols rows new h can un = absurd h
unexchanged_unformed after_exit sink old given cols rows new h can un = absurd h
unexchanged_unformed (at_setup cause) sink old given cols rows new h can un = absurd h
unexchanged_unformed (at_cleanup cause) sink old given cols rows new h can un = absurd h
unexchanged_unformed at_drawing sink old given cols rows new h can un = absurd h
unexchanged_unformed for_pattern sink old given cols rows new h can un = absurd h
unexchanged_unformed of_no_call sink old given cols rows new h can un = absurd h
