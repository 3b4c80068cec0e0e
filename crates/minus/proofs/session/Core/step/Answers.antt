-- What was performed so far, at each end of the step.
use Rattle.std.proofs.Common.{rules, ◌≡◌, ◌++◌, ◌∷◌, [], ℕ, List, Option, None, is_some, map, true, false, option_map, string_bytes, sym, ap, subst, ◌∙◌, arith, inl, inr, ◌⊎◌, ◌↔◌, Err}
use Rattle.std.proofs.lemmas.List.{map-append}
use Rattle.minus_term.specs.Counts.{Stays}
use Rattle.minus_term.specs.Refusals.{Refusal, refusal_of, for_memory}
use Rattle.minus_term.specs.declared.error.MinusError.TheVariants.{Failed, Ended}
use Rattle.minus_term.proofs.SinkLaws.{Stays-trans}
use Rattle.minus_state.proofs.RefusalLaws.{passed_on}
use Rattle.minus.specs.Says.{says_of}
use Rattle.minus.specs.declared.status.Status.TheVariants as status
use Rattle.std.specs.VecDeque.{deque_len}
use Rattle.minus.specs.declared.session.Core.{Core}
use Rattle.minus.specs.Core.{seen_of}
use Rattle.minus_commands.specs.Reads.{told_of}
use Rattle.minus.specs.Seen.{Seen}
use Rattle.minus.specs.SessionSteps.{IsTakenOf, IsTakenWithOf, IsRefusedStepOf}
use Rattle.minus.specs.Steps.{goes_on, has_exited, is_passed}
use Rattle.minus.specs.declared.done.Done.{Done}
use Rattle.minus_commands.specs.Registration.{Exit}
use Rattle.minus.specs.SessionCallbacks.{CallsTaken, CallsUntaken, exit_in}
use Rattle.minus.specs.Waiting.{leaving}
use Rattle.minus.proofs.CalledLaws.{called_still, rests_after, none_next}
use Rattle.minus.proofs.StartLaws.{Stays-refl}
use Rattle.minus.proofs.LoopLaws.{SoFar, begun, one_more, passed_over, step_rests, step_exits, step_exits_later, refused_at_once, took_as, fails_as, refused_so, passed_no_fault, late_rises, late_stays, has_changed, runs_on, refused_by, failed_never, ended_never, err_only, passed_whole}
use Rattle.minus.proofs.session.Core.step.Goals as goal

pub returns-in-Ended-clause-refused : goal.returns-in-Ended-clause-refused
returns-in-Ended-clause-refused g c = search rules

pub returns-in-Ended-clause-failed : goal.returns-in-Ended-clause-failed
returns-in-Ended-clause-failed g c = search rules

pub returns-in_err-first-clause-refused : goal.returns-in_err-first-clause-refused
returns-in_err-first-clause-refused g c =
    let says = says_of g.P.Condition.ConditionCall.judges g.P.Classifier.InputClassifier.says in
    let seen = g.S.OutputSink.seen in
    let e = c.in_err-first.field-0.0 in
    let h = c.in_err-first.ensures.refused in
    passed_on c.from_residual.result (λ x. IsRefusedStepOf seen says c.args.self.now (told_of c.args.input) c.take.new.self x) e c.from_residual.ensures (record {
      refuses = refused_at_once _ (refusal_of e) (seen_of c.args.self.now) (told_of c.args.input) (seen_of c.take.new.self) _ _ c.in-Running.is h.fails;
      rises = h.rises;
      stays = λ well. rw (h.untouched well) (Stays-refl (seen c.args.self.now.sink).refusals);
      untouched = λ well same. h.untouched well;
    })

pub returns-in-Exit-clause-step : goal.returns-in-Exit-clause-step
returns-in-Exit-clause-step g c =
    let says = says_of g.P.Condition.ConditionCall.judges g.P.Classifier.InputClassifier.says in
    let old : Seen _ _ = seen_of c.args.self.now in
    let new : Seen _ _ = seen_of c.take.new.self in
    let taken = subst (λ (d : Done). IsTakenOf g.S.OutputSink.seen says c.args.self.now (told_of c.args.input) c.take.new.self d) c.in-Exit.is c.in_ok-first.ensures.taken in
    let answers = c.of_step.ensures in
    record {
      step = step_exits says old new (told_of c.args.input) (c.in-Exit.strategy, c.in-Exit.code) _ _ _ c.in-Running.is taken.took (rw (ap (map refusal_of) c.new-refused.ensures.items) at answers);
      stays = taken.stays;
    }

pub loop-next-init : goal.loop-next-init
loop-next-init g c =
    let says = says_of g.P.Condition.ConditionCall.judges g.P.Classifier.InputClassifier.says in
    let old : Seen _ _ = seen_of c.args.self.now in
    let new : Seen _ _ = seen_of c.take.new.self in
    let taken = subst (λ (d : Done). IsTakenOf g.S.OutputSink.seen says c.args.self.now (told_of c.args.input) c.take.new.self d) c.in-On.is c.in_ok-first.ensures.taken in (
      taken.stays,
      subst (λ (r : List Refusal). SoFar says old (told_of c.args.input) (g.S.OutputSink.seen c.args.self.now.sink).bytes (g.S.OutputSink.seen c.take.new.self.sink).bytes new r (option_map string_bytes c.in-On.text)) (sym (ap (map refusal_of) c.new-refused.ensures.items)) (begun says old new (told_of c.args.input) _ _ _ taken.took),
      λ none. subst (λ (d : Done). CallsTaken c.args.self.now c.args.input c.take.new.self (exit_in d)) c.in-On.is c.in_ok-first.ensures.called,
      λ none. rests_after says old new (told_of c.args.input) _ _ taken.took.1 none,
    )

pub take_next-requires : goal.take_next-requires
take_next-requires g c = record {
  running = ap (λ (x : Seen _ _). x.status) c.in-Some.ensures.seen ∙ runs_on _ (seen_of c.args.self.now) (told_of c.args.input) _ _ (seen_of c.loop-next.self) _ _ c.in-Running.is c.loop-next.invariant.1;
  closed = ap (λ (x : Seen _ _). x.control.search) c.in-Some.ensures.seen ∙ c.in-Some.ensures.next.0;
}

pub returns-in-Ok-Exit-clause-step : goal.returns-in-Ok-Exit-clause-step
returns-in-Ok-Exit-clause-step g c =
    let says = says_of g.P.Condition.ConditionCall.judges g.P.Classifier.InputClassifier.says in
    let old : Seen _ _ = seen_of c.args.self.now in
    let s : Seen _ _ = seen_of c.loop-next.self in
    let m : Seen _ _ = seen_of c.next_waiting.new.self in
    let new : Seen _ _ = seen_of c.take_next.new.self in
    let x : Exit = (c.in-Ok-Exit.strategy, c.in-Ok-Exit.code) in
    let taken = subst (λ (d : Done). IsTakenWithOf g.S.OutputSink.seen says c.next_waiting.new.self (told_of c.in-Some.next) c.take_next.new.self d) c.in-Ok-Exit.field-0-is c.in-Ok-Exit.ensures.taken in
    let stays = (let h = taken.stays in rw (ap (λ x. (g.S.OutputSink.seen x).refusals) c.in-Some.ensures.sink) at h) in
    record {
      step = step_exits_later says old s new (told_of c.args.input) (told_of c.in-Some.next) m.waiting x _ (map refusal_of c.loop-next.refused.items) (option_map string_bytes c.loop-next.copied) _ _ _ c.in-Running.is c.loop-next.invariant.1 c.in-Some.ensures.next
          (took_as says (has_exited x) m (told_of c.in-Some.next) new (leaving s m.waiting) _ _ _ c.in-Some.ensures.seen (ap (λ x. (g.S.OutputSink.seen x).bytes) c.in-Some.ensures.sink) taken.took) c.of_step-in-Ok-Exit.ensures;
      stays = Stays-trans _ _ _ c.loop-next.invariant.0 stays;
    }

pub loop-next-smaller : goal.loop-next-smaller
loop-next-smaller g c =
    let fewer = c.take_next.ensures.fewer in
    let less = c.in-Some.ensures.less in
    let same = ap (λ (s : Core _ _ _ _ _ _). deque_len s.waiting) c.in_ok-pass_over-in-Err.ensures.unchanged in
    omega (arith, fewer, less, same)

pub loop-next-preserved-in-Ok-On : goal.loop-next-preserved-in-Ok-On
loop-next-preserved-in-Ok-On g c =
    let says = says_of g.P.Condition.ConditionCall.judges g.P.Classifier.InputClassifier.says in
    let old : Seen _ _ = seen_of c.args.self.now in
    let s : Seen _ _ = seen_of c.loop-next.self in
    let m : Seen _ _ = seen_of c.next_waiting.new.self in
    let new : Seen _ _ = seen_of c.take_next.new.self in
    let taken = subst (λ (d : Done). IsTakenWithOf g.S.OutputSink.seen says c.next_waiting.new.self (told_of c.in-Some.next) c.take_next.new.self d) c.in-Ok-On.field-0-is c.in-Ok-On.ensures.taken in
    let text = option_map string_bytes c.in-Ok-On.text in
    let stays = (let h = taken.stays in rw (ap (λ x. (g.S.OutputSink.seen x).refusals) c.in-Some.ensures.sink) at h) in
    let so = one_more says old (told_of c.args.input) s new (told_of c.in-Some.next) m.waiting (map refusal_of c.loop-next.refused.items) (option_map string_bytes c.loop-next.copied) text _ _ _ c.loop-next.invariant.1 c.in-Some.ensures.next
    (took_as says (goes_on text) m (told_of c.in-Some.next) new (leaving s m.waiting) _ _ _ c.in-Some.ensures.seen (ap (λ x. (g.S.OutputSink.seen x).bytes) c.in-Some.ensures.sink) taken.took) in
    (Stays-trans _ _ _ c.loop-next.invariant.0 stays, subst (λ (x : Option (List ℕ)). SoFar says old (told_of c.args.input) (g.S.OutputSink.seen c.args.self.now.sink).bytes (g.S.OutputSink.seen c.take_next.new.self.sink).bytes new (map refusal_of c.loop-next.refused.items) x) (sym c.last_of-copied.ensures) so, λ none. none_next s (told_of c.in-Some.next) m.waiting (c.loop-next.invariant.3 none) c.in-Some.ensures.next, λ none. none_next s (told_of c.in-Some.next) m.waiting (c.loop-next.invariant.3 none) c.in-Some.ensures.next)

pub returns-clause-step : goal.returns-clause-step
returns-clause-step g c =
    let says = says_of g.P.Condition.ConditionCall.judges g.P.Classifier.InputClassifier.says in
    let old : Seen _ _ = seen_of c.args.self.now in
    let m : Seen _ _ = seen_of c.next_waiting.new.self in
    let rest = c.in_default.ensures.rest in
    let refused = map refusal_of c.loop-next.refused.items in
    let copied = option_map string_bytes c.loop-next.copied in
    let sink = c.in_default.ensures.sink in
    let so : SoFar says old (told_of c.args.input) (g.S.OutputSink.seen c.args.self.now.sink).bytes (g.S.OutputSink.seen c.next_waiting.new.self.sink).bytes m refused copied =
    subst (λ (x : Option (List ℕ)). SoFar says old (told_of c.args.input) (g.S.OutputSink.seen c.args.self.now.sink).bytes x m refused copied) (sym (ap (λ x. (g.S.OutputSink.seen x).bytes) sink)) (subst (λ (x : Seen _ _). SoFar says old (told_of c.args.input) (g.S.OutputSink.seen c.args.self.now.sink).bytes (g.S.OutputSink.seen c.loop-next.self.sink).bytes x refused copied) (sym rest.0) c.loop-next.invariant.1) in
    record {
      step = step_rests says old m (told_of c.args.input) _ refused copied _ _ c.in-Running.is so rest.1 c.of_step-2.ensures;
      stays = rw sink c.loop-next.invariant.0;
    }

pub returns-in_err-pass_over-in-Err-clause-refused : goal.returns-in_err-pass_over-in-Err-clause-refused
returns-in_err-pass_over-in-Err-clause-refused g c =
    let says = says_of g.P.Condition.ConditionCall.judges g.P.Classifier.InputClassifier.says in
    let old : Seen _ _ = seen_of c.args.self.now in
    let s : Seen _ _ = seen_of c.loop-next.self in
    let m : Seen _ _ = seen_of c.next_waiting.new.self in
    let mid : Seen _ _ = seen_of c.take_next.new.self in
    let new : Seen _ _ = seen_of c.pass_over.new.self in
    let fails = c.in_err-pass_over-in-Err.ensures.fails in
    let of : Refusal = refusal_of c.in-Err.refusal in
    let out : Refusal = refusal_of c.in_err-pass_over-in-Err.field-0.0 in
    let h = c.in-Err.ensures.refused in
    let why : ((out ≡ of) × (is_passed of ≡ false)) ⊎ ((out ≡ for_memory) × (is_passed of ≡ true)) = elim c.in_err-pass_over-in-Err.ensures.cause [ inl h ↦ inl (ap refusal_of h.0, h.1) | inr h ↦ inr (ap refusal_of h.0, h.1) ] in
    let sink = c.pass_over.ensures.sink in
    let before : Stays (g.S.OutputSink.seen c.args.self.now.sink).refusals (g.S.OutputSink.seen c.next_waiting.new.self.sink).refusals = subst (λ x. Stays (g.S.OutputSink.seen c.args.self.now.sink).refusals (g.S.OutputSink.seen x).refusals) (sym c.in-Some.ensures.sink) c.loop-next.invariant.0 in
    passed_on c.from_residual-in_err-pass_over-in-Err.result (λ x. IsRefusedStepOf g.S.OutputSink.seen says c.args.self.now (told_of c.args.input) c.pass_over.new.self x) c.in_err-pass_over-in-Err.field-0.0 c.from_residual-in_err-pass_over-in-Err.ensures (record {
      refuses = refused_so says old (told_of c.args.input) s m mid new (told_of c.in-Some.next) (map refusal_of c.loop-next.refused.items) (option_map string_bytes c.loop-next.copied) _ _ _ _ _ of out c.in-Running.is c.loop-next.invariant.1 c.in-Some.ensures.next c.in-Some.ensures.seen (ap (λ x. (g.S.OutputSink.seen x).bytes) c.in-Some.ensures.sink) h.fails
          fails (ap (λ x. (g.S.OutputSink.seen x).bytes) sink) why;
      rises = λ fault. rw sink (late_rises of out _ _ _ why before h.rises fault);
      stays = λ well. rw sink (late_stays of out _ _ _ why before (λ none. ap (λ x. (g.S.OutputSink.seen x).refusals) (h.untouched none)) well);
      untouched = λ well same. has_changed old mid new c.in-Running.is fails same;
    })

pub returns-in_err-pass_over-in-Err-clause-failed : goal.returns-in_err-pass_over-in-Err-clause-failed
returns-in_err-pass_over-in-Err-clause-failed g c =
    passed_whole c.from_residual-in_err-pass_over-in-Err.result (λ r. (r ≡ Err Failed) ↔ (c.args.self.now.status ≡ status.Failed)) c.in_err-pass_over-in-Err.field-0.0 c.from_residual-in_err-pass_over-in-Err.ensures
    (err_only c.in_err-pass_over-in-Err.field-0.0 Failed c.args.self.now.status status.Failed (failed_never c.in_err-pass_over-in-Err.field-0.0 c.in-Err.refusal c.args.self.now.status c.in-Running.is (refused_by _ _ _ _ _ _ _ c.in-Err.ensures.refused.fails) c.in_err-pass_over-in-Err.ensures.cause))

pub returns-in_err-pass_over-in-Err-clause-ended : goal.returns-in_err-pass_over-in-Err-clause-ended
returns-in_err-pass_over-in-Err-clause-ended g c =
    passed_whole c.from_residual-in_err-pass_over-in-Err.result (λ r. (r ≡ Err Ended) ↔ (c.args.self.now.status ≡ status.Ended)) c.in_err-pass_over-in-Err.field-0.0 c.from_residual-in_err-pass_over-in-Err.ensures
    (err_only c.in_err-pass_over-in-Err.field-0.0 Ended c.args.self.now.status status.Ended (ended_never c.in_err-pass_over-in-Err.field-0.0 c.in-Err.refusal c.args.self.now.status c.in-Running.is (refused_by _ _ _ _ _ _ _ c.in-Err.ensures.refused.fails) c.in_err-pass_over-in-Err.ensures.cause))

pub loop-next-preserved : goal.loop-next-preserved
loop-next-preserved g c =
    let says = says_of g.P.Condition.ConditionCall.judges g.P.Classifier.InputClassifier.says in
    let old : Seen _ _ = seen_of c.args.self.now in
    let s : Seen _ _ = seen_of c.loop-next.self in
    let m : Seen _ _ = seen_of c.next_waiting.new.self in
    let mid : Seen _ _ = seen_of c.take_next.new.self in
    let same = c.in_ok-pass_over-in-Err.ensures.unchanged in
    let refused = map refusal_of c.loop-next.refused.items in
    let of : Refusal = refusal_of c.in-Err.refusal in
    let h = c.in-Err.ensures.refused in
    let fails = fails_as says of m (told_of c.in-Some.next) mid (leaving s m.waiting) _ _ _ c.in-Some.ensures.seen (ap (λ x. (g.S.OutputSink.seen x).bytes) c.in-Some.ensures.sink) h.fails in
    let so = passed_over says old (told_of c.args.input) s mid (told_of c.in-Some.next) m.waiting refused of (option_map string_bytes c.loop-next.copied) _ _ _ c.loop-next.invariant.1 c.in-Some.ensures.next fails c.in_ok-pass_over-in-Err.ensures.passed in
    let kept : map refusal_of c.pass_over.new.refused.items ≡ refused ++ of ∷ [] = ap (map refusal_of) c.in_ok-pass_over-in-Err.ensures.kept ∙ map-append refusal_of c.loop-next.refused.items (c.in-Err.refusal ∷ []) in
    let sink = h.untouched (passed_no_fault of c.in_ok-pass_over-in-Err.ensures.passed) ∙ c.in-Some.ensures.sink in
    rw (kept, same) (
      subst (λ x. Stays (g.S.OutputSink.seen c.args.self.now.sink).refusals (g.S.OutputSink.seen x).refusals) (sym sink) c.loop-next.invariant.0,
      so,
      λ none. none_next s (told_of c.in-Some.next) m.waiting (c.loop-next.invariant.3 none) c.in-Some.ensures.next,
      λ none. none_next s (told_of c.in-Some.next) m.waiting (c.loop-next.invariant.3 none) c.in-Some.ensures.next,
    )

pub returns-in-Ok-Exit-clause-called : goal.returns-in-Ok-Exit-clause-called
returns-in-Ok-Exit-clause-called g c = λ none. none_next (seen_of c.loop-next.self) (told_of c.in-Some.next) _ (c.loop-next.invariant.3 none) c.in-Some.ensures.next

pub returns-in_err-pass_over-in-Err-clause-uncalled : goal.returns-in_err-pass_over-in-Err-clause-uncalled
returns-in_err-pass_over-in-Err-clause-uncalled g c =
    passed_on c.from_residual-in_err-pass_over-in-Err.result (λ e. (seen_of c.args.self.now).waiting ≡ [] → CallsUntaken (refusal_of e) c.args.self.now c.pass_over.new.self) c.in_err-pass_over-in-Err.field-0.0 c.from_residual-in_err-pass_over-in-Err.ensures
    (λ none. none_next (seen_of c.loop-next.self) (told_of c.in-Some.next) _ (c.loop-next.invariant.3 none) c.in-Some.ensures.next)

pub returns-clause-called : goal.returns-clause-called
returns-clause-called g c = λ none.
    let old : Seen _ _ = seen_of c.args.self.now in
    let called = called_still (is_some old.control.search) None c.args.input c.args.self.now c.loop-next.self c.next_waiting.new.self c.in_default.ensures.callbacks (c.loop-next.invariant.2 none) in
    subst (λ (x : Option Exit). CallsTaken c.args.self.now c.args.input c.next_waiting.new.self x) (sym c.of_step-2.ensures.exited) called
