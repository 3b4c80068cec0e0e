-- A step, from the inputs that it takes.
use Rattle.std.proofs.Common.{append_assoc, ◌≡◌, ℕ, ◌+◌, ◌≤◌, take, true, false, List, [], ◌∷◌, ◌++◌, length, Option, None, Some, is_some, refl, sym, ap, subst, ◌∙◌, arith, inl, inr, ◌⊎◌, ◌↔◌, Result, Ok, Err}
use Rattle.std.specs.Io.KnownBytes.{Appends}
use Rattle.std.proofs.KnownBytes.{Appends-trans}
use Rattle.std.proofs.Math.Seq.{take-append-add}
use Rattle.std.proofs.lemmas.List.{append-nil, length-append}
use Rattle.std.proofs.lemmas.Result.{err_from_is_err_and}
use Rattle.std.specs.Result.{IsErr, IsErrAnd}
use Rattle.minus_term.specs.Counts.{AppendsFront, Stays, Rises}
use Rattle.minus_term.specs.Operations.{Op}
use Rattle.minus_term.specs.Refusals.{Refusal, for_memory, for_query, at_cleanup, at_drawing, refusal_of}
use Rattle.minus_term.specs.declared.error.MinusError.{MinusError}
use Rattle.minus_term.specs.declared.error.MinusError.TheVariants.{Memory, Failed, Ended}
use Rattle.minus_term.specs.Written.{written_all}
use Rattle.minus_term.proofs.WrittenLaws.{written_all-append}
use Rattle.minus.specs.Says.{Says}
use Rattle.minus_state.specs.Control.{Control}
use Rattle.minus_state.specs.ShownPrompt.{prompt_row}
use Rattle.minus.specs.declared.answer.Answer.{Answer}
use Rattle.minus.specs.declared.status.Status.{Status}
use Rattle.minus.specs.declared.status.Status.TheVariants as status
use Rattle.minus.specs.Answers.{IsAnswer}
use Rattle.minus.specs.Asked.{taken}
use Rattle.minus_draw.specs.Drawn.{IsDrawing, Drawn, BrokenOff, Work, passed_in}
use Rattle.minus_commands.specs.Reads.{Told}
use Rattle.minus.specs.Seen.{Seen}
use Rattle.minus.specs.Classes.{Class, class_of, is_unfit, memory, unfit, over, cleanup, drawing}
use Rattle.minus.specs.Steps.{Ending, goes_on, has_exited, Took, TookWith, IsStep, is_passed}
use Rattle.minus.specs.RefusedSteps.{Fails, FailsIn, FailsWith, FailsWithIn, IsUntouched, IsUnfitFor, Refuses, RefusesIn, IsSinkFault}
use Rattle.minus_commands.specs.Registration.{Exit}
use Rattle.minus.specs.Works.{IsUnfit, Worked, first, more, passed, at_once, later, last_copied}
use Rattle.minus.specs.Waiting.{IsNext, IsAtRest, leaving}
use Rattle.minus_draw.proofs.DrawnLaws.{nothing_drawn}
use Rattle.minus_draw.proofs.JoinLaws.{some_join, quiet_parts, quiet_reached, quiet_from}
use Rattle.minus_draw.proofs.LeavesLaws.{tail_there, leaves_more}
use Rattle.minus.proofs.StartLaws.{Stays-rises}
use Rattle.minus.proofs.WorksLaws.{some_works, last_passed, works_reach, status_kept, rows_kept}

-- the works so far, and what they were drawn by
abbrev pub SoFar : {Q K : Type 0} → Says Q K → Seen Q K → Told Q K → Option (List ℕ) → Option (List ℕ) → Seen Q K → List Refusal → Option (List ℕ) → Type 0
SoFar says old told a b s refused copied = (works : List Work) × Worked says old told works refused copied s × Drawn a b old.control works s.control

-- the text that was copied last, of three
last_of_three : (a b c : Option (List ℕ)) → last_copied (last_copied a b) c ≡ last_copied a (last_copied b c)
last_of_three a b None = refl
last_of_three a b (Some text) = refl

-- those that were performed with one that waited, after those before it
worked_on : {Q K : Type 0} (says : Says Q K) (old : Seen Q K) (told : Told Q K) (s : Seen Q K) (next : Told Q K) (rest : List (Told Q K)) (works : List Work) (refused : List Refusal) (copied : Option (List ℕ)) (new : Seen Q K) (vs : List Work) (others : List Refusal) (text : Option (List ℕ)) → Worked says old told works refused copied s → IsNext s next rest → Worked says (leaving s rest) next vs others text new
    → Worked says old told (works ++ vs) (refused ++ others) (last_copied copied text) new
worked_on says old told s next rest works refused copied new vs others text h n (first t) = subst (λ (r : List Refusal). Worked says old told (works ++ vs) r (last_copied copied text) new) (sym (append-nil refused)) (more h n t)
worked_on says old told s next rest works refused copied new vs others text h n (more {works = us} {copied = before} {s = m} {work = work} {text = last} k n2 t) =
    let all = more (worked_on says old told s next rest works refused copied m us others before h n k) n2 t in
    subst (λ (c : Option (List ℕ)). Worked says old told (works ++ vs) (refused ++ others) c new) (last_of_three copied before last) (subst (λ (ws : List Work). Worked says old told ws (refused ++ others) (last_copied (last_copied copied before) last) new) (append_assoc works us (work ∷ [])) all)
worked_on says old told s next rest works refused copied new vs others text h n (passed {refused = some} {s = m} refusal k n2 u) =
    let all = passed refusal (worked_on says old told s next rest works refused copied m vs some text h n k) n2 u in
    subst (λ (r : List Refusal). Worked says old told (works ++ vs) r (last_copied copied text) new) (append_assoc refused some (refusal ∷ [])) all

-- the drawing of some works, and of some more after them
drawing_more : {Q K : Type 0} (says : Says Q K) (old : Seen Q K) (told : Told Q K) (s new : Seen Q K) (next : Told Q K) (rest : List (Told Q K)) (works vs : List Work) (refused : List Refusal) (copied text : Option (List ℕ)) (xs ys : List Op) → Worked says old told works refused copied s → Worked says (leaving s rest) next vs [] text new
    → IsDrawing xs old.control works s.control → IsDrawing ys s.control vs new.control → IsDrawing (xs ++ ys) old.control (works ++ vs) new.control
drawing_more {Q = Q} {K = K} says old told s new next rest works vs refused copied text xs ys h t d e = joined works vs h t d e
  where
    joined : (us vs : List Work) → Worked says old told us refused copied s → Worked says (leaving s rest) next vs [] text new → IsDrawing xs old.control us s.control → IsDrawing ys s.control vs new.control → IsDrawing (xs ++ ys) old.control (us ++ vs) new.control
    joined [] vs k l f g = absurd (let some : 1 ≤ length {A = Work} [] = some_works says old told s [] refused copied k in omega (arith, some))
    joined (u ∷ us) [] k l f g = absurd (let some : 1 ≤ length {A = Work} [] = some_works says (leaving s rest) next new [] [] text l in omega (arith, some))
    joined (u ∷ us) (v ∷ vs) k l f g =
        some_join old.control s.control new.control u v us vs xs ys (λ part. rows_kept says (leaving s rest) next new (v ∷ vs) [] text l part) (works_reach says old told s (u ∷ us) refused copied k)
        (tail_there old.control (passed_in (u ∷ us)) s.control (last_passed says old told s (u ∷ us) refused copied k)) f g

-- ---- the loop

-- the first input
pub begun : {Q K : Type 0} (says : Says Q K) (old new : Seen Q K) (told : Told Q K) (text a b : Option (List ℕ)) → Took says (goes_on text) old told new a b → SoFar says old told a b new [] text
begun says old new told text a b t = (t.0 ∷ [], first t.1, t.2)

-- one more of those that wait, and it may be some behind it
pub one_more : {Q K : Type 0} (says : Says Q K) (old : Seen Q K) (told : Told Q K) (s new : Seen Q K) (next : Told Q K) (rest : List (Told Q K)) (refused : List Refusal) (copied text a b c : Option (List ℕ)) → SoFar says old told a b s refused copied → IsNext s next rest → TookWith says (goes_on text) (leaving s rest) next new b c
    → SoFar says old told a c new refused (last_copied copied text)
one_more says old told s new next rest refused copied text a b c (works, h, d) n (vs, t, e) = (
  works ++ vs,
  subst (λ (r : List Refusal). Worked says old told (works ++ vs) r (last_copied copied text) new) (append-nil refused) (worked_on says old told s next rest works refused copied new vs [] text h n t),
  (
    d.0 ++ e.0,
    subst (λ (x : List ℕ). Appends a c x) (sym (written_all-append d.0 e.0)) (Appends-trans a b c (written_all d.0) (written_all e.0) d.1 e.1),
    drawing_more says old told s new next rest works vs refused copied text d.0 e.0 h t d.2 e.2,
  ),
)

-- what was drawn before an untouched session
drawn_to : {Q K : Type 0} (a b c : Option (List ℕ)) (old : Control) (works : List Work) (s new : Seen Q K) (rest : List (Told Q K)) → IsUntouched (leaving s rest) new b c → Drawn a b old works s.control → Drawn a c old works new.control
drawn_to a b c old works s new rest k d = subst (λ (x : Option (List ℕ)). Drawn a x old works new.control) (sym k.1) (subst (λ (x : Control). Drawn a b old works x) (sym (ap (λ (x : Seen _ _). x.control) k.0)) d)

-- what is skipped could not be done, and has changed nothing: with no search prompt open no key is typed to a query
pub unfit_closed : {Q K : Type 0} (says : Says Q K) (refusal : Refusal) (s : Seen Q K) (told : Told Q K) → s.control.search ≡ None → IsUnfitFor says s told refusal → IsUnfit says s told refusal
unfit_closed says for_query s told closed f = absurd (let both : None ≡ Some f.search = sym closed ∙ f.opened in cc)
unfit_closed says refusal s told closed f = f

passed_unfit : {Q K : Type 0} (class : Class) (says : Says Q K) (refusal : Refusal) (s : Seen Q K) (told : Told Q K) (new : Seen Q K) (a b : Option (List ℕ)) → FailsWithIn class says refusal s told new a b → is_unfit class ≡ true → IsUnfitFor says s told refusal × IsUntouched s new a b
passed_unfit unfit says refusal s told new a b f p = f
passed_unfit class says refusal s told new a b f p = absurd (cc)

-- one that is skipped
pub passed_over : {Q K : Type 0} (says : Says Q K) (old : Seen Q K) (told : Told Q K) (s new : Seen Q K) (next : Told Q K) (rest : List (Told Q K)) (refused : List Refusal) (refusal : Refusal) (copied a b c : Option (List ℕ)) → SoFar says old told a b s refused copied → IsNext s next rest → FailsWith says refusal (leaving s rest) next new b c
    → is_passed refusal ≡ true → SoFar says old told a c new (refused ++ refusal ∷ []) copied
passed_over says old told s new next rest refused refusal copied a b c (works, h, d) n f p =
    let (cannot, same) = passed_unfit (class_of refusal) says refusal (leaving s rest) next new b c f p in
    let fault = unfit_closed says refusal (leaving s rest) next n.0 cannot in
    (works, subst (λ (x : Seen _ _). Worked says old told works (refused ++ refusal ∷ []) copied x) (sym same.0) (passed refusal h n fault), drawn_to a b c old.control works s new rest same d)

-- ---- how a step ends

not_running : {X : Type 0} (x : Status) → x ≡ status.Ended → x ≡ status.Running → X
not_running x ended running = absurd (let both : status.Ended ≡ status.Running = sym ended ∙ running in cc)

-- at rest
pub step_rests : {Q K : Type 0} (says : Says Q K) (old s : Seen Q K) (told : Told Q K) (answer : Answer) (refused : List Refusal) (copied a b : Option (List ℕ)) → old.status ≡ status.Running → SoFar says old told a b s refused copied → IsAtRest s → IsAnswer None copied refused answer → IsStep says old told s answer a b
step_rests says old s told answer refused copied a b running (works, h, d) rests answers = record {
  works = works;
  refused = refused;
  copied = copied;
  exit = None;
  last = s;
  running = running;
  ends = (h, rests, refl);
  stands = status_kept says old told s works refused copied h ∙ running;
  answers = answers;
  writes = d;
  leaves = λ before k on. leaves_more a b old.control s.control works before (λ part. rows_kept says old told s works refused copied h part) (tail_there old.control (passed_in works) s.control (last_passed says old told s works refused copied h)) d k;
}

-- with an exit
pub step_exits : {Q K : Type 0} (says : Says Q K) (old new : Seen Q K) (told : Told Q K) (exit : Exit) (answer : Answer) (a b : Option (List ℕ)) → old.status ≡ status.Running → Took says (has_exited exit) old told new a b → IsAnswer (Some exit) None [] answer → IsStep says old told new answer a b
step_exits says old new told exit answer a b running (x, is, h) answers = record {
  works = [];
  refused = [];
  copied = None;
  exit = Some exit;
  last = old;
  running = running;
  ends = (told, x, at_once, is);
  stands = ap (λ (s : Seen _ _). s.status) is;
  answers = answers;
  writes = (a, nothing_drawn a old.control, h);
  leaves = λ before k on. not_running new.status (ap (λ (s : Seen _ _). s.status) is) on;
}

-- with an exit among those that wait
pub step_exits_later : {Q K : Type 0} (says : Says Q K) (old s new : Seen Q K) (told next : Told Q K) (rest : List (Told Q K)) (exit : Exit) (answer : Answer) (refused : List Refusal) (copied a b c : Option (List ℕ)) → old.status ≡ status.Running → SoFar says old told a b s refused copied → IsNext s next rest → Took says (has_exited exit) (leaving s rest) next new b c
    → IsAnswer (Some exit) copied refused answer → IsStep says old told new answer a c
step_exits_later says old s new told next rest exit answer refused copied a b c running (works, h, d) n (x, is, e) answers = record {
  works = works;
  refused = refused;
  copied = copied;
  exit = Some exit;
  last = leaving s rest;
  running = running;
  ends = (next, x, later h n, is);
  stands = ap (λ (s : Seen _ _). s.status) is;
  answers = answers;
  writes = (b, d, e);
  leaves = λ before k on. not_running new.status (ap (λ (s : Seen _ _). s.status) is) on;
}

-- ---- how a step is refused

-- a session that fails, after another one or again
fails_after : {Q K : Type 0} (last mid new : Seen Q K) → mid ≡ last → new ≡ record mid { status = status.Failed } → new ≡ record last { status = status.Failed }
fails_after last mid new e f = f ∙ ap (λ (x : Seen _ _). let r : Seen _ _ = record x { status = status.Failed } in r) e

fails_again : {Q K : Type 0} (last mid new : Seen Q K) → mid ≡ record last { status = status.Failed } → new ≡ record mid { status = status.Failed } → new ≡ record last { status = status.Failed }
fails_again last mid new e f = fails_after (record last { status = status.Failed }) mid new e f

pub front_join : (a b c : Option (List ℕ)) (xs ys : List ℕ) → Appends a b xs → AppendsFront b c ys → AppendsFront a c (xs ++ ys)
front_join a b c xs ys h (k, l, e) = (length xs + k, (let n = length-append xs ys in omega (arith, n, l)), subst (λ (z : List ℕ). Appends a c z) (sym (take-append-add xs ys k)) (Appends-trans a b c xs (take k ys) h e))

-- one drawing after others broken off
broken_more : {Q K : Type 0} (says : Says Q K) (old : Seen Q K) (told : Told Q K) (s new : Seen Q K) (next : Told Q K) (rest : List (Told Q K)) (refused : List Refusal) (copied text a b c : Option (List ℕ)) (works vs : List Work) → Worked says old told works refused copied s → Drawn a b old.control works s.control → Worked says (leaving s rest) next vs [] text new
    → BrokenOff b c s.control vs new.control → BrokenOff a c old.control (works ++ vs) new.control
broken_more says old told s new next rest refused copied text a b c works vs h d t (ops, front, draws, some) = (
  d.0 ++ ops,
  subst (λ (x : List ℕ). AppendsFront a c x) (sym (written_all-append d.0 ops)) (front_join a b c (written_all d.0) (written_all ops) d.1 front),
  drawing_more says old told s new next rest works vs refused copied text d.0 ops h t d.2 draws,
  λ q. (
      let parts = quiet_parts old.control works vs q in
      let same : prompt_row s.control ≡ prompt_row old.control = ap prompt_row (works_reach says old told s works refused copied h) ∙ quiet_reached old.control old.control works refl parts.0 in
      some (quiet_from old.control s.control vs same parts.1)
      ),
)

-- by the input that it is told
refused_at_once_in : {Q K : Type 0} (class : Class) (says : Says Q K) (refusal : Refusal) (old : Seen Q K) (told : Told Q K) (new : Seen Q K) (a b : Option (List ℕ)) → old.status ≡ status.Running → FailsIn class says refusal old told new a b → RefusesIn class says refusal old told new a b
refused_at_once_in memory says refusal old told new a b running h = (running, inl h)
refused_at_once_in unfit says refusal old told new a b running h = (running, h.0, h.1)
refused_at_once_in (cleanup cause) says refusal old told new a b running (exit, x, broken, fails) = (running, record { works = []; refused = []; copied = None; last = old; next = told; exit = exit; drawn = a; comes = at_once; exits = x; draws = nothing_drawn a old.control; broken = broken; failed = fails })
refused_at_once_in drawing says refusal old told new a b running (work, text, last, t, broken, fails) = (running, record { works = work ∷ []; refused = []; copied = text; last = last; worked = first t; broken = broken; failed = fails })
refused_at_once_in class says refusal old told new a b running h = absurd h

pub refused_at_once : {Q K : Type 0} (says : Says Q K) (refusal : Refusal) (old : Seen Q K) (told : Told Q K) (new : Seen Q K) (a b : Option (List ℕ)) → old.status ≡ status.Running → Fails says refusal old told new a b → Refuses says refusal old told new a b
refused_at_once says refusal old told new a b running h = refused_at_once_in (class_of refusal) says refusal old told new a b running h

-- by one of those that wait, so that the session fails
refused_later : {Q K : Type 0} (class : Class) (says : Says Q K) (refusal : Refusal) (old : Seen Q K) (told : Told Q K) (s mid new : Seen Q K) (next : Told Q K) (rest : List (Told Q K)) (refused : List Refusal) (copied a b c : Option (List ℕ)) → old.status ≡ status.Running → SoFar says old told a b s refused copied → IsNext s next rest → FailsWithIn class says refusal (leaving s rest) next mid b c
    → is_unfit class ≡ false → new ≡ record mid { status = status.Failed } → RefusesIn class says refusal old told new a c
refused_later memory says refusal old told s mid new next rest refused copied a b c running (works, h, d) n f p is = (
  running,
  inr (record {
    works = works;
    refused = refused;
    copied = copied;
    last = s;
    next = next;
    rest = rest;
    worked = h;
    waits = n;
    drawn = subst (λ (x : Option (List ℕ)). Drawn a x old.control works s.control) (sym f.1) d;
    failed = fails_after (leaving s rest) mid new f.0 is;
  }),
)
refused_later (cleanup cause) says refusal old told s mid new next rest refused copied a b c running (works, h, d) n (exit, x, broken, fails) p is = (
  running,
  record { works = works; refused = refused; copied = copied; last = leaving s rest; next = next; exit = exit; drawn = b; comes = later h n; exits = x; draws = d; broken = broken; failed = fails_again (taken (leaving s rest) next x.wanted) mid new fails is },
)
refused_later drawing says refusal old told s mid new next rest refused copied a b c running (works, h, d) n (vs, text, last, t, broken, fails) p is = (
  running,
  record {
    works = works ++ vs;
    refused = refused ++ [];
    copied = last_copied copied text;
    last = last;
    worked = worked_on says old told s next rest works refused copied last vs [] text h n t;
    broken = broken_more says old told s last next rest refused copied text a b c works vs h d t broken;
    failed = fails_again last mid new fails is;
  },
)
refused_later unfit says refusal old told s mid new next rest refused copied a b c running so n f p is = absurd (cc)
refused_later class says refusal old told s mid new next rest refused copied a b c running so n f p is = absurd f

-- there may be no memory to keep the refusal of one that is skipped: as where it was wanted at that one
late_memory : {Q K : Type 0} (says : Says Q K) (refusal : Refusal) (old : Seen Q K) (told : Told Q K) (s mid new : Seen Q K) (next : Told Q K) (rest : List (Told Q K)) (refused : List Refusal) (copied a b c : Option (List ℕ)) → old.status ≡ status.Running → SoFar says old told a b s refused copied → IsNext s next rest → FailsWith says refusal (leaving s rest) next mid b c
    → is_passed refusal ≡ true → new ≡ record mid { status = status.Failed } → Refuses says for_memory old told new a c
late_memory says refusal old told s mid new next rest refused copied a b c running so n f p is = refused_later memory says for_memory old told s mid new next rest refused copied a b c running so n (passed_unfit (class_of refusal) says refusal (leaving s rest) next mid b c f p).1 refl is

-- ---- what a call ensures of a session that an equal one stands for

pub took_as : {Q K : Type 0} (says : Says Q K) (ending : Ending) (m : Seen Q K) (told : Told Q K) (new s : Seen Q K) (b c d : Option (List ℕ)) → m ≡ s → b ≡ d → TookWith says ending m told new b c → TookWith says ending s told new d c
took_as says ending m told new s b c d e f h = subst (λ (x : Seen _ _). TookWith says ending x told new d c) e (subst (λ (x : Option (List ℕ)). TookWith says ending m told new x c) f h)

pub fails_as : {Q K : Type 0} (says : Says Q K) (refusal : Refusal) (m : Seen Q K) (told : Told Q K) (new s : Seen Q K) (b c d : Option (List ℕ)) → m ≡ s → b ≡ d → FailsWith says refusal m told new b c → FailsWith says refusal s told new d c
fails_as says refusal m told new s b c d x f h = subst (λ (y : Seen _ _). FailsWith says refusal y told new d c) x (subst (λ (y : Option (List ℕ)). FailsWith says refusal m told new y c) f h)

-- one of those that wait was refused, and the session failed: by that refusal, or by memory for keeping it
pub refused_so : {Q K : Type 0} (says : Says Q K) (old : Seen Q K) (told : Told Q K) (s m mid new : Seen Q K) (next : Told Q K) (refused : List Refusal) (copied a b d c e : Option (List ℕ)) (of out : Refusal) → old.status ≡ status.Running → SoFar says old told a b s refused copied → IsNext s next m.waiting → m ≡ leaving s m.waiting → d ≡ b → FailsWith says of m next mid d c
    → new ≡ record mid { status = status.Failed } → e ≡ c → ((out ≡ of) × (is_passed of ≡ false)) ⊎ ((out ≡ for_memory) × (is_passed of ≡ true)) → Refuses says out old told new a e
refused_so says old told s m mid new next refused copied a b d c e of out running so n seen same f is bytes why =
    let fails : FailsWith says of (leaving s m.waiting) next mid b c = fails_as says of m next mid (leaving s m.waiting) d c b seen same f in
    subst (λ (x : Option (List ℕ)). Refuses says out old told new a x) (sym bytes) (elim why [
      | inl h ↦ subst (λ (x : Refusal). Refuses says x old told new a c) (sym h.0) (refused_later (class_of of) says of old told s mid new next m.waiting refused copied a b c running so n fails h.1 is)
      | inr h ↦ subst (λ (x : Refusal). Refuses says x old told new a c) (sym h.0) (late_memory says of old told s mid new next m.waiting refused copied a b c running so n fails h.1 is)
    ])

-- what is skipped is no fault of the sink
pub passed_no_fault : (refusal : Refusal) → is_passed refusal ≡ true → IsSinkFault refusal → ⊥
passed_no_fault (at_cleanup cause) p x = absurd (cc)
passed_no_fault at_drawing p x = absurd (cc)
passed_no_fault refusal p x = x

-- the sink refused where that is said of a step that was refused late, and nothing where it is not
pub late_rises : (of out : Refusal) (x y z : Option ℕ) → ((out ≡ of) × (is_passed of ≡ false)) ⊎ ((out ≡ for_memory) × (is_passed of ≡ true)) → Stays x y → (IsSinkFault of → Rises y z) → IsSinkFault out → Rises x z
late_rises of out x y z (inl h) stays rises fault = Stays-rises x y z stays (rises (subst IsSinkFault h.0 fault))
late_rises of out x y z (inr h) stays rises fault = absurd (subst IsSinkFault h.0 fault)

pub late_stays : (of out : Refusal) (x y z : Option ℕ) → ((out ≡ of) × (is_passed of ≡ false)) ⊎ ((out ≡ for_memory) × (is_passed of ≡ true)) → Stays x y → ((IsSinkFault of → ⊥) → z ≡ y) → (IsSinkFault out → ⊥) → Stays x z
late_stays of out x y z (inl h) stays same well = subst (λ (n : Option ℕ). Stays x n) (sym (same (λ fault. well (subst IsSinkFault (sym h.0) fault)))) stays
late_stays of out x y z (inr h) stays same well = subst (λ (n : Option ℕ). Stays x n) (sym (same (passed_no_fault of h.1))) stays

-- a step that was refused late has changed the session, which ran
pub has_changed : {Q K X : Type 0} (old mid new : Seen Q K) → old.status ≡ status.Running → new ≡ record mid { status = status.Failed } → new ≡ old → X
has_changed old mid new running failed same = absurd (let both : status.Failed ≡ status.Running = sym (ap (λ (x : Seen _ _). x.status) failed) ∙ ap (λ (x : Seen _ _). x.status) same ∙ running in cc)

-- no input is refused for what came before the step
abbrev pub IsOfStepIn : Class → Type 0
IsOfStepIn (over stands) = ⊥
IsOfStepIn class = Unit {0}

abbrev pub IsOfStep : Refusal → Type 0
IsOfStep refusal = IsOfStepIn (class_of refusal)

refused_in : {Q K : Type 0} (class : Class) (says : Says Q K) (refusal : Refusal) (s : Seen Q K) (told : Told Q K) (new : Seen Q K) (a b : Option (List ℕ)) → FailsWithIn class says refusal s told new a b → IsOfStepIn class
refused_in (over stands) says refusal s told new a b f = f
refused_in class says refusal s told new a b f = tt

pub refused_by : {Q K : Type 0} (says : Says Q K) (refusal : Refusal) (s : Seen Q K) (told : Told Q K) (new : Seen Q K) (a b : Option (List ℕ)) → FailsWith says refusal s told new a b → IsOfStep refusal
refused_by says refusal s told new a b f = refused_in (class_of refusal) says refusal s told new a b f

-- so the step is refused for neither
pub failed_never : (e of : MinusError) (now : Status) → now ≡ status.Running → IsOfStep (refusal_of of) → ((e ≡ of) × (is_passed (refusal_of of) ≡ false)) ⊎ ((e ≡ Memory) × (is_passed (refusal_of of) ≡ true)) → (e ≡ Failed) ↔ (now ≡ status.Failed)
failed_never e of now running so why = (
  λ is. elim why [
    | inl h ↦ absurd (subst (λ (x : MinusError). IsOfStep (refusal_of x)) (sym h.0 ∙ is) so)
    | inr h ↦ absurd (let both : Memory ≡ Failed = sym h.0 ∙ is in cc)
  ],
  λ failed. absurd (let both : status.Running ≡ status.Failed = sym running ∙ failed in cc),
)

pub ended_never : (e of : MinusError) (now : Status) → now ≡ status.Running → IsOfStep (refusal_of of) → ((e ≡ of) × (is_passed (refusal_of of) ≡ false)) ⊎ ((e ≡ Memory) × (is_passed (refusal_of of) ≡ true)) → (e ≡ Ended) ↔ (now ≡ status.Ended)
ended_never e of now running so why = (
  λ is. elim why [
    | inl h ↦ absurd (subst (λ (x : MinusError). IsOfStep (refusal_of x)) (sym h.0 ∙ is) so)
    | inr h ↦ absurd (let both : Memory ≡ Ended = sym h.0 ∙ is in cc)
  ],
  λ ended. absurd (let both : status.Running ≡ status.Ended = sym running ∙ ended in cc),
)

error_in : {A : Type 0} → MinusError → Result A MinusError → MinusError
error_in e (Ok a) = e
error_in e (Err f) = f

pub err_only : {A : Type 0} (e x : MinusError) (now s : Status) → (e ≡ x) ↔ (now ≡ s) → (◌≡◌ {A = Result A MinusError} (Err e) (Err x)) ↔ (now ≡ s)
unfolding error_in
err_only {A = A} e x now s h = (λ is. h.0 (ap (error_in {A = A} e) is), λ on. ap (λ (f : MinusError). let r : Result A MinusError = Err f in r) (h.1 on))

-- what holds of a refusal holds where it is passed on
pub passed_whole : {T E : Type 0} (r : Result T E) (P : Result T E → Type 0) (cause : E) → IsErr r × IsErrAnd r (λ e. e ≡ cause) → P (Err cause) → P r
passed_whole r P cause is met =
    let ended = err_from_is_err_and r is.1 in
    subst P (sym ended.1) (subst (λ e. P (Err e)) (sym ended.2) met)

-- what is performed leaves a session running that ran
pub runs_on : {Q K : Type 0} (says : Says Q K) (old : Seen Q K) (told : Told Q K) (a b : Option (List ℕ)) (s : Seen Q K) (refused : List Refusal) (copied : Option (List ℕ)) → old.status ≡ status.Running → SoFar says old told a b s refused copied → s.status ≡ status.Running
runs_on says old told a b s refused copied running (works, h, d) = status_kept says old told s works refused copied h ∙ running

pub some_of : {X : Type 0} (x : Option X) → is_some x ≡ true → (y : X) × (x ≡ Some y)
some_of None e = absurd (cc)
some_of (Some y) e = (y, refl)

pub none_of : {X : Type 0} (x : Option X) → is_some x ≡ false → x ≡ None
none_of None e = refl
none_of (Some y) e = absurd (cc)
