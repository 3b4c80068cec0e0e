-- A session that is seen as another one, over the sink of that, is what that is: after a step, after one that was
-- refused, and after a start.
use Rattle.std.proofs.Common.{◌≡◌, ℕ, map, sym, subst, ◌∙◌}
use Rattle.minus.specs.Core.{seen_of}
use Rattle.minus_commands.specs.Reads.{Told, wanted_of}
use Rattle.minus_commands.specs.declared.pager.PagerOf.{PagerOf}
use Rattle.minus.specs.Says.{Says}
use Rattle.minus.specs.Seen.{Seen}
use Rattle.minus.specs.SessionStarts.{IsStart, IsFirstStart}
use Rattle.minus.specs.SessionSteps.{IsStepOf, IsRefusedStepOf}
use Rattle.minus.specs.Starts.{IsStarted}
use Rattle.minus.specs.StaticPager.{IsFirstPaged}
use Rattle.minus.specs.Steps.{IsStep}
use Rattle.minus.specs.RefusedSteps.{Refuses}
use Rattle.minus.specs.declared.answer.Answer.{Answer}
use Rattle.minus.specs.declared.session.Core.{Core}
use Rattle.minus.specs.declared.static_pager.PagedOf.TheVariants.{Started}
use Rattle.minus_state.specs.declared.state.RunMode.{RunMode}
use Rattle.minus_term.specs.Counts.{SinkSeen, Stays, Rises}
use Rattle.minus_term.specs.Refusals.{refusal_of}
use Rattle.minus_term.specs.declared.error.MinusError.{MinusError}

module _ {S P H E Q K : Type 0} (sink : S → SinkSeen) (says : Says Q K) (old mid new : Core S P H E Q K) (told : Told Q K)
    (seen : seen_of new ≡ seen_of mid) (kept : new.sink ≡ mid.sink) where
  pub steps_on : (answer : Answer) → IsStepOf sink says old told mid answer → IsStepOf sink says old told new answer
  steps_on answer is = record {
    step = subst (λ (n : Seen Q K). IsStep says (seen_of old) told n answer (sink old.sink).bytes (sink new.sink).bytes) (sym seen)
        (subst (λ (s : S). IsStep says (seen_of old) told (seen_of mid) answer (sink old.sink).bytes (sink s).bytes) (sym kept) is.step);
    stays = subst (λ (s : S). Stays (sink old.sink).refusals (sink s).refusals) (sym kept) is.stays;
  }

  pub refuses_on : (e : MinusError) → IsRefusedStepOf sink says old told mid e → IsRefusedStepOf sink says old told new e
  refuses_on e is = record {
    refuses = subst (λ (n : Seen Q K). Refuses says (refusal_of e) (seen_of old) told n (sink old.sink).bytes (sink new.sink).bytes) (sym seen)
        (subst (λ (s : S). Refuses says (refusal_of e) (seen_of old) told (seen_of mid) (sink old.sink).bytes (sink s).bytes) (sym kept) is.refuses);
    rises = λ fault. subst (λ (s : S). Rises (sink old.sink).refusals (sink s).refusals) (sym kept) (is.rises fault);
    stays = λ none. subst (λ (s : S). Stays (sink old.sink).refusals (sink s).refusals) (sym kept) (is.stays none);
    untouched = λ none same. kept ∙ is.untouched none (sym seen ∙ same);
  }

module _ {S P H E Q K : Type 0} (sink : S → SinkSeen) (pager : PagerOf P H E Q K) (cols rows : ℕ) (from : S) (mid new : Core S P H E Q K)
    (seen : seen_of new ≡ seen_of mid) (kept : new.sink ≡ mid.sink) where
  start_on : (mode : RunMode) (keys : K) → IsStart sink pager mode cols rows keys from mid → IsStart sink pager mode cols rows keys from new
  start_on mode keys is = record {
    started = subst (λ (n : Seen Q K). IsStarted n keys (map wanted_of pager.queue.items) mode cols rows (sink from).terminal (sink from).bytes (sink new.sink).bytes) (sym seen)
        (subst (λ (s : S). IsStarted (seen_of mid) keys (map wanted_of pager.queue.items) mode cols rows (sink from).terminal (sink from).bytes (sink s).bytes) (sym kept) is.started);
    stays = subst (λ (s : S). Stays (sink from).refusals (sink s).refusals) (sym kept) is.stays;
  }

  pub starts_on : (First : K → Type 0) (mode : RunMode) → IsFirstStart First sink pager mode cols rows from mid → IsFirstStart First sink pager mode cols rows from new
  starts_on First mode is = record { classifier = is.classifier; first = is.first; start = start_on mode is.classifier is.start }

  pub pages_on : (First : K → Type 0) → IsFirstPaged First sink pager cols rows from (Started mid) → IsFirstPaged First sink pager cols rows from (Started new)
  pages_on First is = record { classifier = is.classifier; first = is.first; is = (is.is.0, start_on _ is.classifier is.is.1) }
