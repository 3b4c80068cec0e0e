-- A run, one step more.
use Rattle.std.proofs.Common.{◌≡◌, ℕ, ◌+◌, true, false, List, [], ◌∷◌, ◌++◌, length, map, reverse, Option, Some, None, refl, sym, ap, subst, ◌∙◌, arith, append_assoc, inl, inr}
use Rattle.std.specs.List.{last_or}
use Rattle.std.proofs.lemmas.List.{append-nil, reverse-append, length_push, map_push}
use Rattle.minus_term.specs.declared.error.MinusError.{MinusError}
use Rattle.minus_term.specs.Refusals.{Refusal, refusal_of}
use Rattle.minus.specs.declared.answer.Answer.{Answer}
use Rattle.minus.specs.declared.status.Status.TheVariants as status
use Rattle.minus.specs.Answers.{ends_run}
use Rattle.minus.specs.Says.{Says}
use Rattle.minus_state.specs.Control.{Control}
use Rattle.minus_commands.specs.Reads.{Told}
use Rattle.minus_draw.specs.Drawn.{passed_in, Leaves}
use Rattle.minus.specs.Seen.{Seen}
use Rattle.minus.specs.Classes.{Class, class_of, memory, unfit, over, cleanup, drawing, never}
use Rattle.minus.specs.Steps.{IsStep, Steps, none, more}
use Rattle.minus.specs.RefusedSteps.{IsUntouched, Refuses, RefusesIn}
use Rattle.minus.specs.Runs.{StopsSo, StopsAfter, IsRun}

passed_as : {Q K : Type 0} {says : Says Q K} {a b : Seen Q K} {ts : List (Told Q K)} {answers : List Answer} {x y : Option (List ℕ)} (ps qs : List Control) → ps ≡ qs → Steps says a ts ps answers b x y → Steps says a ts qs answers b x y
passed_as {Q = Q} {K = K} {says = says} {a = a} {b = b} {ts = ts} {answers = answers} {x = x} {y = y} ps qs e h = subst (λ (cs : List Control). Steps {Q = Q} {K = K} says a ts cs answers b x y) e h

-- steps, and one more
pub Steps-snoc : {Q K : Type 0} {says : Says Q K} {a b c : Seen Q K} {ts : List (Told Q K)} {cs : List Control} {answers : List Answer} {x y z : Option (List ℕ)} (t : Told Q K) (answer : Answer) → Steps says a ts cs answers b x y → (s : IsStep says b t c answer y z) → Steps says a (ts ++ t ∷ []) (cs ++ passed_in s.works) (answers ++ answer ∷ []) c x z
Steps-snoc t answer none s = passed_as (passed_in s.works ++ []) (passed_in s.works) (append-nil (passed_in s.works)) (more s none)
Steps-snoc t answer (more {cs = cs} r rs) s = passed_as (passed_in r.works ++ (cs ++ passed_in s.works)) ((passed_in r.works ++ cs) ++ passed_in s.works) (sym (append_assoc (passed_in r.works) cs (passed_in s.works))) (more r (Steps-snoc t answer rs s))

-- what is left, read from its end
pub popped : {A : Type 0} (all done left rest : List A) (x : A) → all ≡ done ++ reverse left → left ≡ rest ++ x ∷ [] → all ≡ (done ++ x ∷ []) ++ reverse rest
popped all done left rest x e f = rw (f, reverse-append) at e ∙ sym (append_assoc done (x ∷ []) (reverse rest))

pub refused_last : {A : Type 0} (all done left rest : List A) (x : A) → all ≡ done ++ reverse left → left ≡ rest ++ x ∷ [] → all ≡ done ++ (x ∷ [] ++ reverse rest)
refused_last all done left rest x e f = rw (f, reverse-append) at e

pub worked_off : {A : Type 0} (all done left rest : List A) → all ≡ done ++ reverse left → left ≡ rest ++ [] → all ≡ done ++ ([] ++ reverse rest)
worked_off all done left rest e f = rw (f, append-nil) at e

-- ---- the answers of a run

-- none of the answers ends a run
abbrev pub GoOn : List Answer → Type 0
GoOn [] = Unit {0}
GoOn (answer ∷ answers) = (ends_run answer ≡ false) × GoOn answers

go_on_more : (answers : List Answer) (answer : Answer) → GoOn answers → ends_run answer ≡ false → GoOn (answers ++ answer ∷ [])
go_on_more [] answer h on = (on, tt)
go_on_more (first ∷ answers) answer h on = (h.0, go_on_more answers answer h.1 on)

-- where none ends the run, it stops at a refusal or the end of the inputs
stops_on : {A : Type 0} (answers : List Answer) (stopped : Option MinusError) (rest : List A) → GoOn answers → StopsSo false stopped rest → StopsAfter answers stopped rest
stops_on [] stopped rest h so = so
stops_on (answer ∷ []) stopped rest h so = rw h.0 so
stops_on (answer ∷ next ∷ answers) stopped rest h so = (h.0, stops_on (next ∷ answers) stopped rest h.1 so)

-- where the last one does, it stops there
stops_last : {A : Type 0} (answers : List Answer) (last : Answer) (rest : List A) → GoOn answers → ends_run last ≡ true → StopsAfter (answers ++ last ∷ []) None rest
stops_last [] last rest h ends = rw ends refl
stops_last (answer ∷ []) last rest h ends = (h.0, rw ends refl)
stops_last (answer ∷ next ∷ answers) last rest h ends = (h.0, stops_last (next ∷ answers) last rest h.1 ends)

last_or-push : {A : Type 0} (o : Option A) (xs : List A) (x : A) → Some x ≡ last_or o (xs ++ x ∷ [])
last_or-push o [] x = refl
last_or-push o (y ∷ ys) x = last_or-push (Some y) ys x

-- ---- what the page is after a refusal

stays_running : {Q K : Type 0} (reached new : Seen Q K) → new ≡ reached → new.status ≡ status.Running → reached.status ≡ status.Running
stays_running reached new e r = ap (λ (x : Seen _ _). x.status) (sym e) ∙ r

-- a session that failed does not run
not_failed : {Q K X : Type 0} (last new : Seen Q K) → new ≡ record last { status = status.Failed } → new.status ≡ status.Running → X
not_failed last new e r = absurd (let both : status.Failed ≡ status.Running = sym (ap (λ (x : Seen _ _). x.status) e) ∙ r in cc)

untouched : {Q K : Type 0} (a b : Option (List ℕ)) (reached new : Seen Q K) (passed : List Control) → IsUntouched reached new a b → (reached.status ≡ status.Running → Leaves a passed reached.control) → new.status ≡ status.Running → Leaves b passed new.control
untouched a b reached new passed h k r = let (stays, same) = h in let on = stays_running reached new stays r in rw (same, stays) (k on)

-- what a refused step leaves of the page
left_in : {Q K : Type 0} (class : Class) (says : Says Q K) (refusal : Refusal) (a b : Option (List ℕ)) (reached new : Seen Q K) (told : Told Q K) (passed : List Control) → RefusesIn class says refusal reached told new a b → (reached.status ≡ status.Running → Leaves a passed reached.control) → new.status ≡ status.Running → Leaves b passed new.control
left_in memory says refusal a b reached new told passed h k r = elim h.1 [ inl same ↦ untouched a b reached new passed same k r | inr late ↦ not_failed (record late.last { waiting = late.rest }) new late.failed r ]
left_in unfit says refusal a b reached new told passed h k r = untouched a b reached new passed h.2 k r
left_in (over stands) says refusal a b reached new told passed h k r = untouched a b reached new passed h.1 k r
left_in (cleanup cause) says refusal a b reached new told passed h k r = let both : status.Failed ≡ status.Running = sym (ap (λ (x : Seen _ _). x.status) h.1.failed) ∙ r in cc
left_in drawing says refusal a b reached new told passed h k r = let both : status.Failed ≡ status.Running = sym (ap (λ (x : Seen _ _). x.status) h.1.failed) ∙ r in cc
left_in never says refusal a b reached new told passed h k r = absurd h

leaves_refused : {Q K : Type 0} (says : Says Q K) (refusal : Refusal) (a b : Option (List ℕ)) (reached new : Seen Q K) (told : Told Q K) (passed : List Control) → Refuses says refusal reached told new a b → (reached.status ≡ status.Running → Leaves a passed reached.control) → new.status ≡ status.Running → Leaves b passed new.control
leaves_refused says refusal a b reached new told passed h k r = left_in (class_of refusal) says refusal a b reached new told passed h k r

-- ---- a run so far

pub record RunSoFar {A Q K : Type 0} (says : Says Q K) (told : A → Told Q K) (old now : Seen Q K) (inputs left : List A) (done : ℕ) (last : Option Answer) (old_bytes bytes : Option (List ℕ)) : Type 0 where
  pub taken : List A
  pub passed : List Control
  pub answers : List Answer
  pub all : inputs ≡ taken ++ reverse left
  pub count : done ≡ length taken
  pub steps : Steps says old (map told taken) passed answers now old_bytes bytes
  pub answer : last ≡ last_or None answers
  pub on : GoOn answers
  pub leaves : (before : List Control) → Leaves old_bytes before old.control → now.status ≡ status.Running → Leaves bytes (before ++ passed) now.control

pub not_yet : {A Q K : Type 0} (says : Says Q K) (told : A → Told Q K) (old : Seen Q K) (left : List A) (bytes : Option (List ℕ)) → RunSoFar says told old old (reverse left) left 0 None bytes bytes
not_yet says told old left bytes = record { taken = []; passed = []; answers = []; all = refl; count = refl; steps = none; answer = refl; on = tt; leaves = λ before h r. rw (append-nil before) h }

leaves_one : {A Q K : Type 0} (says : Says Q K) (told : A → Told Q K) (old now new : Seen Q K) (inputs left : List A) (x : A) (done : ℕ) (last : Option Answer) (answer : Answer) (first a b : Option (List ℕ)) → (h : RunSoFar says told old now inputs left done last first a) → (s : IsStep says now (told x) new answer a b) → (before : List Control) → Leaves first before old.control → new.status ≡ status.Running
    → Leaves b (before ++ (h.passed ++ passed_in s.works)) new.control
leaves_one says told old now new inputs left x done last answer first a b h s before k running = rw (← append_assoc before h.passed (passed_in s.works)) (s.leaves (before ++ h.passed) (h.leaves before k s.running) running)

-- one more step, after which the run goes on
pub one_step : {A Q K : Type 0} (says : Says Q K) (told : A → Told Q K) (old now new : Seen Q K) (inputs left rest : List A) (x : A) (done : ℕ) (last : Option Answer) (answer : Answer) (first a b : Option (List ℕ)) → RunSoFar says told old now inputs left done last first a → left ≡ rest ++ x ∷ [] → IsStep says now (told x) new answer a b → ends_run answer ≡ false
    → RunSoFar says told old new inputs rest (done + 1) (Some answer) first b
one_step says told old now new inputs left rest x done last answer first a b h e s on = record {
  taken = h.taken ++ x ∷ [];
  passed = h.passed ++ passed_in s.works;
  answers = h.answers ++ answer ∷ [];
  all = popped inputs h.taken left rest x h.all e;
  count = omega (arith, h.count, length_push h.taken x);
  steps = rw (map_push told h.taken x) (Steps-snoc (told x) answer h.steps s);
  answer = last_or-push None h.answers answer;
  on = go_on_more h.answers answer h.on on;
  leaves = λ before k running. leaves_one says told old now new inputs left x done last answer first a b h s before k running;
}

is_empty : {A : Type 0} (xs : List A) → length xs ≡ 0 → xs ≡ []
is_empty [] e = refl
is_empty (x ∷ xs) e = absurd (omega arith)

-- a run that came to the end of its inputs
pub run_over : {A Q K : Type 0} (says : Says Q K) (told : A → Told Q K) (old now : Seen Q K) (inputs left rest : List A) (done : ℕ) (last : Option Answer) (first a : Option (List ℕ)) → RunSoFar says told old now inputs left done last first a → left ≡ rest ++ [] → length rest ≡ 0 → IsRun says told old now inputs done last None (reverse rest) first a
run_over says told old now inputs left rest done last first a h e empty = record {
  taken = h.taken;
  refused = [];
  passed = h.passed;
  answers = h.answers;
  reached = now;
  bytes = a;
  all = worked_off inputs h.taken left rest h.all e;
  count = h.count;
  steps = h.steps;
  stop = (refl, refl);
  stops = stops_on h.answers None (reverse rest) h.on (λ well. ap reverse (is_empty rest empty));
  answer = h.answer;
  leaves = h.leaves;
}

-- a run that a step ended
pub run_ended : {A Q K : Type 0} (says : Says Q K) (told : A → Told Q K) (old now new : Seen Q K) (inputs left rest : List A) (x : A) (done : ℕ) (last : Option Answer) (answer : Answer) (first a b : Option (List ℕ)) → RunSoFar says told old now inputs left done last first a → left ≡ rest ++ x ∷ [] → IsStep says now (told x) new answer a b → ends_run answer ≡ true
    → IsRun says told old new inputs (done + 1) (Some answer) None (reverse rest) first b
run_ended says told old now new inputs left rest x done last answer first a b h e s ends = record {
  taken = h.taken ++ x ∷ [];
  refused = [];
  passed = h.passed ++ passed_in s.works;
  answers = h.answers ++ answer ∷ [];
  reached = new;
  bytes = b;
  all = popped inputs h.taken left rest x h.all e;
  count = omega (arith, h.count, length_push h.taken x);
  steps = rw (map_push told h.taken x) (Steps-snoc (told x) answer h.steps s);
  stop = (refl, refl);
  stops = stops_last h.answers answer (reverse rest) h.on ends;
  answer = last_or-push None h.answers answer;
  leaves = λ before k running. leaves_one says told old now new inputs left x done last answer first a b h s before k running;
}

-- a run that a refusal stopped
pub run_stopped : {A Q K : Type 0} (says : Says Q K) (told : A → Told Q K) (old now new : Seen Q K) (inputs left rest : List A) (x : A) (done : ℕ) (last : Option Answer) (e : MinusError) (first a b : Option (List ℕ)) → RunSoFar says told old now inputs left done last first a → left ≡ rest ++ x ∷ []
    → Refuses says (refusal_of e) now (told x) new a b → IsRun says told old new inputs done last (Some e) (reverse rest) first b
run_stopped says told old now new inputs left rest x done last e first a b h f r = record {
  taken = h.taken;
  refused = x ∷ [];
  passed = h.passed;
  answers = h.answers;
  reached = now;
  bytes = a;
  all = refused_last inputs h.taken left rest x h.all f;
  count = h.count;
  steps = h.steps;
  stop = r;
  stops = stops_on h.answers (Some e) (reverse rest) h.on (λ well. let both : Some e ≡ None = well in cc);
  answer = h.answer;
  leaves = λ before k running. leaves_refused says (refusal_of e) a b now new (told x) (before ++ h.passed) r (h.leaves before k) running;
}
