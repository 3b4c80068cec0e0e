-- What a run comes to.
use Rattle.std.proofs.Common.{◌≡◌, ℕ, ◌+◌, ◌<◌, Bool, true, false, nat_lt, eqb, ◌||◌, List, [], ◌∷◌, ◌++◌, length, map, option_map, Option, Some, None, inl, inr, refl, sym, ap, subst, ◌∙◌, arith, append_assoc}
use Rattle.std.specs.Prelude.{is_some}
use Rattle.std.specs.Io.KnownBytes.{Appends}
use Rattle.std.proofs.lemmas.Bool.{eqb-true, eqb-false, or_parts}
use Rattle.std.proofs.lemmas.List.{length-append, length-map, map-append, nil_from_length}
use Rattle.minus_term.specs.declared.error.MinusError.{MinusError}
use Rattle.minus_term.specs.declared.error.MinusError.TheVariants.{Memory, NewlineInPrompt, HookIdTaken, NoFreeHookId, BadSize, BadDescription, Bound, QueryFull, BadMode, Failed, Ended, Setup, Cleanup, Draw, HandleEvent, Cursor, FmtWriteError, Conversion, SearchExpError}
use Rattle.minus_term.specs.Refusals.{Refusal, for_memory, for_size, for_mode, at_setup, at_cleanup, at_drawing, for_pattern, refusal_of}
use Rattle.minus_state.specs.Control.{Control}
use Rattle.minus_state.specs.declared.search.condition.NeverShows.{NeverShows}
use Rattle.minus_script.specs.declared.keys.DefaultKeys.{DefaultKeys}
use Rattle.minus.specs.declared.answer.Answer.{Answer}
use Rattle.minus_state.specs.declared.state.RunMode.TheVariants.{Dynamic, Uninitialized}
use Rattle.minus.specs.declared.status.Status.{Status}
use Rattle.minus.specs.declared.status.Status.TheVariants as status
use Rattle.minus.specs.Answers.{IsAnswer, ends_run}
use Rattle.minus.specs.Asked.{Wants}
use Rattle.std.specs.List.{last_or}
use Rattle.minus_script.specs.Keys.{script_says}
use Rattle.minus_commands.specs.Reads.{Told}
use Rattle.minus_draw.specs.Drawn.{passed_in}
use Rattle.minus.specs.Starts.{IsStarted, IsStartRefused, IsSetupRefused}
use Rattle.minus.specs.Seen.{Seen}
use Rattle.minus.specs.Runs.{IsRun, Stops, StopsSo, StopsAfter}
use Rattle.minus.specs.Steps.{Steps, none, more, status_after, cleanup_after}
use Rattle.minus.specs.RefusedSteps.{Refuses}
use Rattle.minus_commands.specs.Registration.{Exit}
use Rattle.minus_commands.specs.Table.{Wanted}
use Rattle.minus_script.specs.declared.arguments.Mode.{Mode}
use Rattle.minus_script.specs.declared.arguments.Mode.TheVariants.{Page, Bytes}
use Rattle.minus_script.specs.declared.fault.ScriptFault.{ScriptFault}
use Rattle.minus_script.specs.declared.fault.ScriptFault.TheVariants.{Io, Line, Refused}
use Rattle.minus_state.specs.Sizes.{IsSize}
use Rattle.minus_script.specs.Runs.{IsTaken, IsPerformed, IsWhole, IsRunOn, IsStoppedBy, exit_code, printed_after, IsShown, IsRefusal, IsOutputFault, IsRunFault}
use Rattle.minus_script.specs.WriteFaults.{IsWriteFault}
use Rattle.minus_script.specs.declared.fault.Stream.{Stream}
use Rattle.minus_script.specs.ShowFaults.{IsShowFault, IsUncleaned, IsCleanupFault}

-- a start from no text over a sink that holds nothing
pub started : (keys : DefaultKeys) (seen : Seen NeverShows DefaultKeys) (waiting : List (Wanted NeverShows DefaultKeys)) (cols rows : ℕ) (terminal : Bool) (a b : Option (List ℕ)) → waiting ≡ [] → terminal ≡ true → a ≡ Some [] → IsStarted seen keys waiting Dynamic cols rows terminal a b → IsStarted seen keys [] Dynamic cols rows true (Some []) b
started keys seen waiting cols rows terminal a b e f g h =
    subst (λ (x : Option (List ℕ)). IsStarted seen keys [] Dynamic cols rows true x b) g (subst (λ (x : Bool). IsStarted seen keys [] Dynamic cols rows x a b) f (subst (λ (x : List (Wanted NeverShows DefaultKeys)). IsStarted seen keys x Dynamic cols rows terminal a b) e h))

-- nothing was taken yet
pub worked_none : (old : Seen NeverShows DefaultKeys) (told : List (Told NeverShows DefaultKeys)) (a : Option (List ℕ)) → IsPerformed old old told [] told a a
worked_none old told a = record { taken = []; passed = []; steps = none; all = refl }

-- ---- steps after steps

steps_as : {a b : Seen NeverShows DefaultKeys} {ts : List (Told NeverShows DefaultKeys)} {answers : List Answer} {x y : Option (List ℕ)} (ps qs : List Control) → ps ≡ qs → Steps script_says a ts ps answers b x y → Steps script_says a ts qs answers b x y
steps_as {a = a} {b = b} {ts = ts} {answers = answers} {x = x} {y = y} ps qs e h = subst (λ (cs : List Control). Steps script_says a ts cs answers b x y) e h

steps_on : {a b c : Seen NeverShows DefaultKeys} {ts us : List (Told NeverShows DefaultKeys)} {cs : List Control} {answers more_answers : List Answer} {x y z : Option (List ℕ)} (ds : List Control) → Steps script_says a ts cs answers b x y → Steps script_says b us ds more_answers c y z → Steps script_says a (ts ++ us) (cs ++ ds) (answers ++ more_answers) c x z
steps_on ds none s = s
steps_on ds (more {cs = cs} r rs) s = steps_as (passed_in r.works ++ (cs ++ ds)) ((passed_in r.works ++ cs) ++ ds) (sym (append_assoc (passed_in r.works) cs ds)) (more r (steps_on ds rs s))

-- each step has one answer
steps_count : {a b : Seen NeverShows DefaultKeys} {ts : List (Told NeverShows DefaultKeys)} {cs : List Control} {answers : List Answer} {x y : Option (List ℕ)} → Steps script_says a ts cs answers b x y → length answers ≡ length ts
steps_count none = refl
steps_count (more r rs) = omega (arith, steps_count rs)

-- a step that does not exit leaves the session running
running_by : (exit : Option Exit) (text : Option (List ℕ)) (refused : List Refusal) (answer : Answer) (now : Status) → IsAnswer exit text refused answer → is_some (exit_code (Some answer)) ≡ false → now ≡ status_after exit → now ≡ status.Running
running_by None text refused answer now is goes stands = stands
running_by (Some exit) text refused answer now is goes stands = absurd (let both : true ≡ false = subst (λ (x : Option Exit). is_some (option_map (λ (y : Exit). y.1) x) ≡ false) is.exited goes in cc)

-- steps of which the last does not exit leave it running
runs_by : {old new : Seen NeverShows DefaultKeys} {ts : List (Told NeverShows DefaultKeys)} {cs : List Control} {answers : List Answer} {a b : Option (List ℕ)} → Steps script_says old ts cs answers new a b → old.status ≡ status.Running → is_some (exit_code (last_or None answers)) ≡ false → new.status ≡ status.Running
runs_by none runs goes = runs
runs_by (more {b = new} {answer = answer} s none) runs goes = running_by s.exit s.copied s.refused answer new.status s.answers goes s.stands
runs_by (more s (more t rest)) runs goes = runs_by (more t rest) t.running goes

-- what was taken, and more steps
worked_more : (old mid new : Seen NeverShows DefaultKeys) (all : List (Told NeverShows DefaultKeys)) (answers : List Answer) (left ts rest : List (Told NeverShows DefaultKeys)) (cs : List Control) (more_answers : List Answer) (a b c : Option (List ℕ)) →
    IsPerformed old mid all answers left a b → Steps script_says mid ts cs more_answers new b c → left ≡ ts ++ rest → IsPerformed old new all (answers ++ more_answers) rest a c
worked_more old mid new all answers left ts rest cs more_answers a b c h s e = record {
  taken = h.taken ++ ts;
  passed = h.passed ++ cs;
  steps = steps_on cs h.steps s;
  all = h.all ∙ ap (λ (l : List (Told NeverShows DefaultKeys)). h.taken ++ l) e ∙ sym (append_assoc h.taken ts rest);
}

-- ---- a run after what was performed

-- whether inputs are left, by their count
pub some_left : {A : Type 0} (left : List A) (count : ℕ) → count ≡ length left → false ≡ eqb count 0 → 0 < length left
some_left left count is h = omega (arith, is, eqb-false count 0 (sym h))

pub none_left : {A : Type 0} (left : List A) (count : ℕ) → count ≡ length left → true ≡ eqb count 0 → left ≡ []
none_left left count is h = nil_from_length left (sym is ∙ eqb-true count 0 (sym h))

-- a run, by what it stopped with
pub run_as : {A : Type 0} {told : A → Told NeverShows DefaultKeys} {old new : Seen NeverShows DefaultKeys} {inputs rest : List A} {done : ℕ} {last : Option Answer} {a b : Option (List ℕ)} (s t : Option MinusError) → s ≡ t → IsRun script_says told old new inputs done last s rest a b → IsRun script_says told old new inputs done last t rest a b
run_as {told = told} {old = old} {new = new} {inputs = inputs} {rest = rest} {done = done} {last = last} {a = a} {b = b} s t e h = subst (λ (x : Option MinusError). IsRun script_says told old new inputs done last x rest a b) e h

-- a run that was not stopped refused none of its inputs
stopped_not : {A : Type 0} (told : A → Told NeverShows DefaultKeys) (refused : List A) (reached new : Seen NeverShows DefaultKeys) (a b : Option (List ℕ)) → Stops script_says told None refused reached new a b → (refused ≡ []) × (new ≡ reached) × (b ≡ a)
stopped_not told [] reached new a b h = (refl, h.0, h.1)
stopped_not told (x ∷ refused) reached new a b h = absurd h

-- one that was stopped refused one
stopped_at : {A : Type 0} (told : A → Told NeverShows DefaultKeys) (e : MinusError) (refused : List A) (reached new : Seen NeverShows DefaultKeys) (a b : Option (List ℕ)) → Stops script_says told (Some e) refused reached new a b → (x : A) × (refused ≡ x ∷ []) × Refuses script_says (refusal_of e) reached (told x) new a b
stopped_at told e [] reached new a b h = absurd h
stopped_at told e (x ∷ []) reached new a b h = (x, refl, h)
stopped_at told e (x ∷ y ∷ refused) reached new a b h = absurd h

-- the step before a refusal does not exit
not_ending : {A : Type 0} (ends : Bool) (e : MinusError) (rest : List A) → StopsSo ends (Some e) rest → ends ≡ false
not_ending true e rest h = absurd (let both : Some e ≡ None = h in cc)
not_ending false e rest h = refl

exits_not : (exit : Option Exit) → is_some exit ≡ false → is_some (option_map (λ (x : Exit). x.1) exit) ≡ false
exits_not None h = h
exits_not (Some exit) h = h

goes_on : (answer : Answer) → ends_run answer ≡ false → is_some (exit_code (Some answer)) ≡ false
goes_on answer h =
    let (either, items) = or_parts (is_some answer.exited || is_some answer.copied) (nat_lt 0 (length answer.refused.items)) h in
    let (exit, copy) = or_parts (is_some answer.exited) (is_some answer.copied) either in
    exits_not answer.exited exit

before_refusal : {A : Type 0} (answers : List Answer) (e : MinusError) (rest : List A) → StopsAfter answers (Some e) rest → is_some (exit_code (last_or None answers)) ≡ false
before_refusal [] e rest h = refl
before_refusal (answer ∷ []) e rest h = goes_on answer (not_ending (ends_run answer) e rest h)
before_refusal (answer ∷ next ∷ answers) e rest h = before_refusal (next ∷ answers) e rest h.1

-- where a run ended that was not stopped
ran_steps : {A : Type 0} {told : A → Told NeverShows DefaultKeys} {mid new : Seen NeverShows DefaultKeys} {inputs rest : List A} {done : ℕ} {last : Option Answer} {b c : Option (List ℕ)} → (h : IsRun script_says told mid new inputs done last None rest b c) → Steps script_says mid (map told h.taken) h.passed h.answers new b c
ran_steps {told = told} {mid = mid} {new = new} {b = b} {c = c} h =
    let (none_refused, stays, same) = stopped_not told h.refused h.reached new h.bytes c h.stop in
    subst (λ (x : Seen NeverShows DefaultKeys). Steps script_says mid (map told h.taken) h.passed h.answers x b c) (sym stays) (subst (λ (y : Option (List ℕ)). Steps script_says mid (map told h.taken) h.passed h.answers h.reached b y) (sym same) h.steps)

-- what it left of what it was told
left_by : {A : Type 0} (told : A → Told NeverShows DefaultKeys) (inputs taken refused these rest : List A) → inputs ≡ taken ++ (refused ++ rest) → refused ≡ these → map told inputs ≡ map told taken ++ map told (these ++ rest)
left_by told inputs taken refused these rest e f = ap (map told) (e ∙ ap (λ l. taken ++ (l ++ rest)) f) ∙ map-append told taken (these ++ rest)

-- what was performed, and a run
pub ran_on : {A : Type 0} {told : A → Told NeverShows DefaultKeys} {mid new : Seen NeverShows DefaultKeys} {inputs rest : List A} {done : ℕ} {last : Option Answer} {b c : Option (List ℕ)} (old : Seen NeverShows DefaultKeys) (all : List (Told NeverShows DefaultKeys)) (answers : List Answer) (a : Option (List ℕ)) → IsPerformed old mid all answers (map told inputs) a b →
    (h : IsRun script_says told mid new inputs done last None rest b c) → IsPerformed old new all (answers ++ h.answers) (map told rest) a c
ran_on {told = told} {mid = mid} {new = new} {inputs = inputs} {rest = rest} {b = b} {c = c} old all answers a worked h =
    let (none_refused, stays, same) = stopped_not told h.refused h.reached new h.bytes c h.stop in
    worked_more old mid new all answers (map told inputs) (map told h.taken) (map told rest) h.passed h.answers a b c worked (ran_steps h) (left_by told inputs h.taken h.refused [] rest h.all none_refused)

-- how many inputs there are
lengths : {A : Type 0} (inputs taken refused rest : List A) → inputs ≡ taken ++ (refused ++ rest) → length inputs ≡ length taken + (length refused + length rest)
lengths inputs taken refused rest e = omega (arith, ap length e ∙ length-append taken (refused ++ rest), length-append refused rest)

-- a run of some inputs that was not stopped took one at least
first_taken : {A : Type 0} (answers : List Answer) (inputs taken refused rest : List A) → length answers ≡ length taken → refused ≡ [] → inputs ≡ taken ++ (refused ++ rest) → StopsAfter answers None rest → 0 < length inputs → 0 < length answers
first_taken [] inputs taken refused rest count none_refused all stops some = absurd (omega (arith, count, lengths inputs taken refused rest all, ap length none_refused, ap length (stops refl), some))
first_taken (answer ∷ answers) inputs taken refused rest count none_refused all stops some = omega arith

ran_count : {A : Type 0} {told : A → Told NeverShows DefaultKeys} {mid new : Seen NeverShows DefaultKeys} {inputs rest : List A} {done : ℕ} {last : Option Answer} {b c : Option (List ℕ)} → (h : IsRun script_says told mid new inputs done last None rest b c) → length h.answers ≡ length h.taken
ran_count {told = told} h = steps_count h.steps ∙ length-map h.taken told

ran_some : {A : Type 0} {told : A → Told NeverShows DefaultKeys} {mid new : Seen NeverShows DefaultKeys} {inputs rest : List A} {done : ℕ} {last : Option Answer} {b c : Option (List ℕ)} → 0 < length inputs → (h : IsRun script_says told mid new inputs done last None rest b c) → 0 < length h.answers
ran_some {told = told} {new = new} {inputs = inputs} {rest = rest} {c = c} some h =
    let (none_refused, stays, same) = stopped_not told h.refused h.reached new h.bytes c h.stop in
    first_taken h.answers inputs h.taken h.refused rest (ran_count h) none_refused h.all h.stops some

-- so fewer are left
pub ran_less : {A : Type 0} {told : A → Told NeverShows DefaultKeys} {mid new : Seen NeverShows DefaultKeys} {inputs rest : List A} {done : ℕ} {last : Option Answer} {b c : Option (List ℕ)} → 0 < length inputs → IsRun script_says told mid new inputs done last None rest b c → length rest < length inputs
ran_less {inputs = inputs} {rest = rest} some h = omega (arith, ran_some some h, ran_count h, lengths inputs h.taken h.refused rest h.all)

-- and its last answer is the last of all
last_at : {A : Type 0} (o : Option A) (xs : List A) (y : A) (ys : List A) → last_or o (xs ++ y ∷ ys) ≡ last_or (Some y) ys
last_at o [] y ys = refl
last_at o (x ∷ xs) y ys = last_at (Some x) xs y ys

last_behind : {A : Type 0} (xs ys : List A) → 0 < length ys → last_or None ys ≡ last_or None (xs ++ ys)
last_behind xs [] some = absurd (omega (arith, some))
last_behind xs (y ∷ ys) some = sym (last_at None xs y ys)

pub ran_last : {A : Type 0} {told : A → Told NeverShows DefaultKeys} {mid new : Seen NeverShows DefaultKeys} {inputs rest : List A} {done : ℕ} {last : Option Answer} {b c : Option (List ℕ)} (answers : List Answer) → 0 < length inputs → (h : IsRun script_says told mid new inputs done last None rest b c) → last ≡ last_or None (answers ++ h.answers)
ran_last answers some h = h.answer ∙ last_behind answers h.answers (ran_some some h)

-- without an exit the session runs after it
pub ran_running : {A : Type 0} {told : A → Told NeverShows DefaultKeys} {mid new : Seen NeverShows DefaultKeys} {inputs rest : List A} {done : ℕ} {last : Option Answer} {b c : Option (List ℕ)} → mid.status ≡ status.Running → is_some (exit_code last) ≡ false → IsRun script_says told mid new inputs done last None rest b c → new.status ≡ status.Running
ran_running runs goes h = runs_by (ran_steps h) runs (subst (λ (o : Option Answer). is_some (exit_code o) ≡ false) h.answer goes)

-- after an exit all was taken up to it
pub whole_by_exit : (answers : List Answer) (last : Option Answer) (rest : List (Told NeverShows DefaultKeys)) → last ≡ last_or None answers → is_some (exit_code last) ≡ true → IsWhole answers rest
whole_by_exit answers last rest is exits = inr (subst (λ (o : Option Answer). is_some (exit_code o) ≡ true) is exits)

-- what was performed, and a run that was stopped
pub ran_into : {A : Type 0} {told : A → Told NeverShows DefaultKeys} {mid new : Seen NeverShows DefaultKeys} {inputs rest : List A} {done : ℕ} {last : Option Answer} {b c : Option (List ℕ)} (e : MinusError) (old : Seen NeverShows DefaultKeys) (all : List (Told NeverShows DefaultKeys)) (answers : List Answer) (a : Option (List ℕ)) → IsPerformed old mid all answers (map told inputs) a b → mid.status ≡ status.Running →
    IsRun script_says told mid new inputs done last (Some e) rest b c → IsStoppedBy (refusal_of e) old new all a c
ran_into {told = told} {mid = mid} {new = new} {inputs = inputs} {rest = rest} {b = b} {c = c} e old all answers a worked runs h =
    let (x, one, refuses) = stopped_at told e h.refused h.reached new h.bytes c h.stop in
    record {
      answers = answers ++ h.answers;
      reached = h.reached;
      refused = told x;
      rest = map told rest;
      bytes = h.bytes;
      worked = worked_more old mid h.reached all answers (map told inputs) (map told h.taken) (told x ∷ map told rest) h.passed h.answers a b h.bytes worked h.steps (left_by told inputs h.taken h.refused (x ∷ []) rest h.all one);
      runs = runs_by h.steps runs (before_refusal h.answers e rest h.stops);
      refuses = refuses;
    }

-- what a session came to over a start
taken_over : (keys : DefaultKeys) (cols rows : ℕ) (first reached : Seen NeverShows DefaultKeys) (told : List (Told NeverShows DefaultKeys)) (answers : List Answer) (rest : List (Told NeverShows DefaultKeys)) (a b : Option (List ℕ)) → IsStarted first keys [] Dynamic cols rows true (Some []) a → IsPerformed first reached told answers rest a b → IsTaken cols rows told answers reached b rest
taken_over keys cols rows first reached told answers rest a b s h = record { keys = keys; first = first; begun = a; started = s; worked = h }

-- the page is shown
pub page_shown : (keys : DefaultKeys) (cols rows : ℕ) (first new : Seen NeverShows DefaultKeys) (told : List (Told NeverShows DefaultKeys)) (last : Option Answer) (a b : Option (List ℕ)) (mode : Mode) (output : List ℕ) → IsStarted first keys [] Dynamic cols rows true (Some []) a → IsRunOn first new told last a b →
    mode ≡ Page → output ≡ printed_after (exit_code last) new.control → IsShown mode cols rows told output
page_shown keys cols rows first new told last a b mode output s h is e = rw is (record {
  answers = h.answers;
  reached = new;
  bytes = b;
  rest = h.rest;
  taken = taken_over keys cols rows first new told h.answers h.rest a b s h.worked;
  whole = h.whole;
  prints = e ∙ ap (λ (x : Option Answer). printed_after (exit_code x) new.control) h.answer;
})

-- all bytes are shown
pub bytes_shown : (keys : DefaultKeys) (cols rows : ℕ) (first new : Seen NeverShows DefaultKeys) (told : List (Told NeverShows DefaultKeys)) (last : Option Answer) (a b : Option (List ℕ)) (mode : Mode) (output : List ℕ) → IsStarted first keys [] Dynamic cols rows true (Some []) a → IsRunOn first new told last a b →
    mode ≡ Bytes → Appends b (Some output) (cleanup_after new.status) → IsShown mode cols rows told output
bytes_shown keys cols rows first new told last a b mode output s h is e = rw is (record {
  answers = h.answers;
  reached = new;
  bytes = b;
  rest = h.rest;
  taken = taken_over keys cols rows first new told h.answers h.rest a b s h.worked;
  whole = h.whole;
  prints = e;
})

-- a step that is refused while the session runs
step_refused : (e : MinusError) (cols rows : ℕ) (told rest : List (Told NeverShows DefaultKeys)) (t : Told NeverShows DefaultKeys) (answers : List Answer) (reached new : Seen NeverShows DefaultKeys) (a b : Option (List ℕ)) → IsTaken cols rows told answers reached a (t ∷ rest) → reached.status ≡ status.Running → Refuses script_says (refusal_of e) reached t new a b → IsRefusal (refusal_of e) cols rows told
step_refused Memory cols rows told rest t answers reached new a b taken runs h = tt
step_refused NewlineInPrompt cols rows told rest t answers reached new a b taken runs h =
    let (wanted, asked, bad) = h.1 in
    record { answers = answers; reached = reached; bytes = a; refused = t; rest = rest; wanted = wanted; taken = taken; asked = asked; bad = bad }
step_refused (BadSize c r) cols rows told rest t answers reached new a b taken runs h =
    let (wanted, asked, fault) = h.1 in
    inr (record { answers = answers; reached = reached; bytes = a; refused = t; rest = rest; taken = taken; asked = subst (λ (w : Wanted NeverShows DefaultKeys). Wants script_says reached reached.control.search t w) fault.0 asked; bad = fault.1 })
step_refused BadMode cols rows told rest t answers reached new a b taken runs h = absurd h.1.2
step_refused Failed cols rows told rest t answers reached new a b taken runs h = absurd (let both : status.Running ≡ status.Failed = sym runs ∙ h.0 in cc)
step_refused Ended cols rows told rest t answers reached new a b taken runs h = absurd (let both : status.Running ≡ status.Ended = sym runs ∙ h.0 in cc)
step_refused (Setup cause) cols rows told rest t answers reached new a b taken runs h = absurd h
step_refused (Cleanup cause) cols rows told rest t answers reached new a b taken runs h = taken.started.can.size
step_refused (Draw cause) cols rows told rest t answers reached new a b taken runs h = taken.started.can.size
step_refused (HandleEvent cause) cols rows told rest t answers reached new a b taken runs h = absurd h
step_refused (Cursor cause) cols rows told rest t answers reached new a b taken runs h = absurd h
step_refused (FmtWriteError cause) cols rows told rest t answers reached new a b taken runs h = absurd h
step_refused (HookIdTaken hook id) cols rows told rest t answers reached new a b taken runs h = record { answers = answers; reached = reached; bytes = a; refused = t; rest = rest; taken = taken; unfit = h.1 }
step_refused NoFreeHookId cols rows told rest t answers reached new a b taken runs h = record { answers = answers; reached = reached; bytes = a; refused = t; rest = rest; taken = taken; unfit = h.1 }
step_refused (BadDescription place cause) cols rows told rest t answers reached new a b taken runs h = absurd h.1.2
step_refused (Bound place) cols rows told rest t answers reached new a b taken runs h = absurd h.1.2
step_refused QueryFull cols rows told rest t answers reached new a b taken runs h = record { answers = answers; reached = reached; bytes = a; refused = t; rest = rest; taken = taken; full = h.1 }
step_refused Conversion cols rows told rest t answers reached new a b taken runs h = absurd h
step_refused (SearchExpError cause) cols rows told rest t answers reached new a b taken runs h = absurd h.1.2

-- a refusal stopped the run
pub run_refused : (keys : DefaultKeys) (cols rows : ℕ) (first new : Seen NeverShows DefaultKeys) (told : List (Told NeverShows DefaultKeys)) (a b : Option (List ℕ)) (e : MinusError) (fault : ScriptFault) → IsStarted first keys [] Dynamic cols rows true (Some []) a → IsStoppedBy (refusal_of e) first new told a b →
    fault ≡ Refused e → IsShowFault cols rows told fault
run_refused keys cols rows first new told a b e fault s h f =
    rw f (step_refused e cols rows told h.rest h.refused h.answers h.reached new h.bytes b (taken_over keys cols rows first h.reached told h.answers (h.refused ∷ h.rest) a h.bytes s h.worked) h.runs h.refuses)

-- a start is refused of a pager in which nothing waits
none_refused : (refusal : Refusal) (cols rows : ℕ) (terminal : Bool) (told : List (Told NeverShows DefaultKeys)) → terminal ≡ true → IsStartRefused {Q = NeverShows} {K = DefaultKeys} refusal Dynamic cols rows [] terminal → IsRefusal refusal cols rows told
none_refused for_memory cols rows terminal told t h = tt
none_refused (for_size c r) cols rows terminal told t h = elim h [ inl size ↦ inl (size.1, size.2, size.3) | inr fault ↦ absurd fault.1 ]
none_refused for_mode cols rows terminal told t h = elim h [ inl mode ↦ absurd (let both : Dynamic ≡ Uninitialized = mode in cc) | inr fault ↦ absurd fault.1 ]
none_refused (at_setup cause) cols rows terminal told t h = (subst (λ (x : Bool). IsSetupRefused cause x) t h.1, h.0.can.size)
none_refused at_drawing cols rows terminal told t h = h.0.can.size
none_refused for_pattern cols rows terminal told t h = h.can.size
none_refused refusal cols rows terminal told t h = elim h [ inl cannot ↦ absurd cannot | inr fault ↦ absurd fault.1 ]

pub start_refused : (refusal : Refusal) (cols rows : ℕ) (terminal : Bool) (told : List (Told NeverShows DefaultKeys)) (waiting : List (Wanted NeverShows DefaultKeys)) → waiting ≡ [] → terminal ≡ true → IsStartRefused refusal Dynamic cols rows waiting terminal → IsRefusal refusal cols rows told
start_refused refusal cols rows terminal told waiting e t h = none_refused refusal cols rows terminal told t (subst (λ (ws : List (Wanted NeverShows DefaultKeys)). IsStartRefused refusal Dynamic cols rows ws terminal) e h)

-- memory ran out, or the sink of a pager that was started refused the cleanup at its end
pub memory_fault : (cols rows : ℕ) (told : List (Told NeverShows DefaultKeys)) (fault : ScriptFault) → fault ≡ Refused Memory → IsShowFault cols rows told fault
memory_fault cols rows told fault e = rw e tt

uncleaned : (refusal : Refusal) (cols rows : ℕ) (told : List (Told NeverShows DefaultKeys)) → IsSize cols rows → IsUncleaned refusal → IsRefusal refusal cols rows told
uncleaned (at_cleanup cause) cols rows told size h = size
uncleaned refusal cols rows told size h = absurd h

pub cleanup_fault : (cols rows : ℕ) (told : List (Told NeverShows DefaultKeys)) (fault : ScriptFault) → IsSize cols rows → IsCleanupFault fault → IsShowFault cols rows told fault
cleanup_fault cols rows told (Io stream cause) size e = absurd e
cleanup_fault cols rows told (Line number) size e = absurd e
cleanup_fault cols rows told (Refused cause) size e = uncleaned (refusal_of cause) cols rows told size e

-- a writer that fails
pub output_fault : (mode : Mode) (cols rows : ℕ) (a b c d : Option (List ℕ)) (fault : ScriptFault) → IsWriteFault fault → IsOutputFault mode cols rows a b c d → IsRunFault mode cols rows a b c d fault
output_fault mode cols rows a b c d (Io stream cause) is h = subst (λ (s : Stream). IsRunFault mode cols rows a b c d (Io s cause)) (sym is) h
output_fault mode cols rows a b c d (Line number) is h = absurd is
output_fault mode cols rows a b c d (Refused cause) is h = absurd is
