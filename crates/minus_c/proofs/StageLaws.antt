-- What is so of a stage, and what follows from it.
use Rattle.std.proofs.Common.{◌≡◌, ◌∙◌, ℕ, Bool, true, false, not, None, Some, refl, sym, subst, Result, Ok, Err, inl, inr}
use Rattle.std.specs.Prelude.{OnOk, IfOk, IfErr, IsTrue, ◌↔◌}
use Rattle.minus.specs.Starts.{IsEarly}
use Rattle.minus_state.specs.declared.state.PagerState.{PagerState}
use Rattle.minus_state.specs.declared.state.RunMode.{RunMode}
use Rattle.minus_state.specs.declared.state.RunMode.TheVariants.{Uninitialized, Static, Dynamic}
use Rattle.minus_term.specs.Refusals.{refusal_of}
use Rattle.minus_term.specs.declared.error.MinusError.{MinusError}
use Rattle.minus_term.specs.declared.error.MinusError.TheVariants.{Memory}
use Rattle.minus_c.proofs.SessionLaws.{starts_on, pages_on}
use Rattle.minus_c.specs.Pieces.{InState}
use Rattle.minus_c.specs.Sessions.{StartsAs, PagesAs, RefusedStart, PagedText}
use Rattle.minus_c.specs.Stages.{IsSame, IsAsBefore, Runs, Starts, Shows, Pages, Waits, Refuses, Leaves, left_with}
use Rattle.minus_c.specs.Stages.{is_running_mode, start_fault, RefusesBegin, RefusesCommand, FinishesUnclean, FindsNoRoom}
use Rattle.minus_c.specs.declared.session.Session.{Session}
use Rattle.minus_c.specs.declared.session.Unstarted.{Unstarted}
use Rattle.minus_c.specs.declared.stage.Stage.{Stage}
use Rattle.minus_c.specs.declared.stage.Stage.TheVariants.{Waiting, Running, Written, Over}

pub runs_so : (A B : Session → Type 0) → ((s : Session) → A s → B s) → (stage : Stage) → Runs A stage → Runs B stage
runs_so A B on (Running s) is = on s is
runs_so A B on (Waiting pager) is = absurd is
runs_so A B on (Written sink) is = absurd is
runs_so A B on Over is = absurd is

pub in_state : (A : PagerState → Type 0) (state : PagerState) → A state → (stage : Stage) → InState (λ s. s ≡ state) stage → InState A stage
in_state A state is (Running s) e = subst A (sym e) is
in_state A state is (Waiting pager) e = absurd e
in_state A state is (Written sink) e = absurd e
in_state A state is Over e = absurd e

pub on_ok : {T E : Type 0} (A B : Type 0) → (A → B) → (r : Result T E) → OnOk r A → OnOk r B
on_ok A B on (Ok v) is = on is
on_ok A B on (Err e) is = is

pub if_err : {T E : Type 0} (A B : E → Type 0) → ((e : E) → A e → B e) → (r : Result T E) → IfErr r A → IfErr r B
if_err A B on (Ok v) is = is
if_err A B on (Err e) is = on e is

pub waits_is : (stage : Stage) → Waits stage → ((pager : Unstarted) → stage ≡ Waiting pager → ⊥) → ⊥
waits_is (Waiting pager) waiting not = not pager refl
waits_is (Running s) waiting not = absurd waiting
waits_is (Written sink) waiting not = absurd waiting
waits_is Over waiting not = absurd waiting

pub of_ok : {T E : Type 0} (A : T → Type 0) (v : T) (r : Result T E) → r ≡ Ok v → IfOk r A → A v
of_ok A v r is all = subst (λ (x : Result _ _). IfOk x A) is all

pub starts_so : (A : Session → Type 0) (so : Unstarted → Session → Type 0) (waits : Unstarted) → ((s : Session) → A s → so waits s) → (old new : Stage) → old ≡ Waiting waits
    → {T E : Type 0} (r : Result T E) → OnOk r (Runs A new) → OnOk r (Starts so old new)
starts_so A so waits on old new is r x =
    subst (λ (s : Stage). OnOk r (Starts so s new)) (sym is) (on_ok (Runs A new) (Runs (so waits) new) (runs_so A (so waits) on new) r x)

shows_so : (A B : PagedText → Type 0) → ((p : PagedText) → A p → B p) → (stage : Stage) → Shows A stage → Shows B stage
shows_so A B on (Running s) is = on _ is
shows_so A B on (Waiting waits) is = absurd is
shows_so A B on (Written sink) is = on _ is
shows_so A B on Over is = absurd is

pub pages_so : (A : PagedText → Type 0) (so : Unstarted → PagedText → Type 0) (waits : Unstarted) → ((p : PagedText) → A p → so waits p) → (old new : Stage) → old ≡ Waiting waits
    → {T E : Type 0} (r : Result T E) → OnOk r (Shows A new) → OnOk r (Pages so old new)
pages_so A so waits on old new is r x =
    subst (λ (s : Stage). OnOk r (Pages so s new)) (sym is) (on_ok (Shows A new) (Shows (so waits) new) (shows_so A (so waits) on new) r x)

-- a start that was refused leaves what it says
pub leaves : {T : Type 0} (so : RefusedStart → Type 0) (refused : RefusedStart) (r : Result T MinusError) (new : Stage) → r ≡ Err refused.cause → new ≡ left_with refused.pager refused.sink → so refused
    → IfErr r (λ e. Leaves so e new)
leaves {T} so refused r new cause left is =
    subst (λ (x : Result T MinusError). IfErr x (λ e. Leaves so e new)) (sym cause) (record { refused = refused; is = is; cause = refl; left = left })

pub refuses_so : {T : Type 0} (A : RefusedStart → Type 0) (so : Unstarted → RefusedStart → Type 0) (waits : Unstarted) → ((refused : RefusedStart) → A refused → so waits refused) → (old new : Stage)
    → old ≡ Waiting waits → (r : Result T MinusError) → IfErr r (λ e. Leaves A e new) → IfErr r (λ e. IsEarly (refusal_of e) → new ≡ Waiting waits) → IfErr r (λ e. RefusesBegin so e old new)
refuses_so A so waits on old new is (Ok v) x early = x
refuses_so A so waits on old new is (Err e) x early = subst (λ (s : Stage). RefusesBegin so e s new) (sym is)
    (early, inr (record { refused = x.refused; is = on x.refused x.is; cause = x.cause; left = x.left }))

pub no_bindings : (so : Unstarted → RefusedStart → Type 0) (waits : Unstarted) (old : Stage) → old ≡ Waiting waits → RefusesBegin so Memory old (Waiting waits)
no_bindings so waits old is = subst (λ (s : Stage). RefusesBegin so Memory s (Waiting waits)) (sym is) ((λ early. refl), inl (refl, refl))

not_begun : (so : Unstarted → RefusedStart → Type 0) (old : Stage) → ((waits : Unstarted) → old ≡ Waiting waits → ⊥) → RefusesBegin so (start_fault old) old old
not_begun so (Waiting waits) not = absurd (not waits refl)
not_begun so (Running s) not = (refl, record { seen = refl; sink = refl })
not_begun so (Written sink) not = (refl, refl)
not_begun so Over not = (refl, refl)

pub unbegun : {T : Type 0} (so : Unstarted → RefusedStart → Type 0) (old new : Stage) (r : Result T MinusError) → ((waits : Unstarted) → old ≡ Waiting waits → ⊥) → new ≡ old → r ≡ Err (start_fault old)
    → IfErr r (λ e. RefusesBegin so e old new)
unbegun {T} so old new r not same refused = subst (λ (x : Result T MinusError). IfErr x (λ e. RefusesBegin so e old new)) (sym refused)
    (subst (λ (s : Stage). RefusesBegin so (start_fault old) old s) (sym same) (not_begun so old not))

-- a mode tells whether a session runs
pub running : (mode : RunMode) (none : Bool) → (IsTrue none ↔ (mode ≡ Uninitialized)) → not none ≡ is_running_mode mode
running Uninitialized true is = refl
running Uninitialized false is = absurd (cc (is.1 refl))
running Static true is = absurd (cc (is.0 refl))
running Static false is = refl
running Dynamic true is = absurd (cc (is.0 refl))
running Dynamic false is = refl

-- what is so of a stage is so as long as nothing changes, if it is so of each session that is the same
pub still : (A : Stage → Type 0) → ((m n : Session) → IsSame m n → A (Running m) → A (Running n)) → (mid new : Stage) → IsAsBefore mid new → A mid → A new
still A on (Running m) (Running n) same is = on m n same is
still A on (Running m) (Waiting n) same is = absurd same
still A on (Running m) (Written n) same is = absurd same
still A on (Running m) Over same is = absurd same
still A on (Waiting m) new same is = subst A (sym same) is
still A on (Written m) new same is = subst A (sym same) is
still A on Over new same is = subst A (sym same) is

same_on : (old m n : Session) → IsSame m n → IsSame old m → IsSame old n
same_on old m n same is = record { seen = same.seen ∙ is.seen; sink = same.sink ∙ is.sink }

pub starts_still : (mode : RunMode) (cols rows : ℕ) (old : Stage) (m n : Session) → IsSame m n → Starts (StartsAs mode cols rows) old (Running m) → Starts (StartsAs mode cols rows) old (Running n)
starts_still mode cols rows (Waiting w) m n same is =
    record { sink = is.sink; fresh = is.fresh; is = starts_on _ w.pager cols rows is.sink m.core n.core same.seen same.sink _ mode is.is }
starts_still mode cols rows (Running w) m n same is = absurd is
starts_still mode cols rows (Written w) m n same is = absurd is
starts_still mode cols rows Over m n same is = absurd is

pub pages_still : (is_tty : Bool) (cols rows : ℕ) (old : Stage) (m n : Session) → IsSame m n → Pages (PagesAs is_tty cols rows) old (Running m) → Pages (PagesAs is_tty cols rows) old (Running n)
pages_still is_tty cols rows (Waiting w) m n same is =
    record { sink = is.sink; fresh = is.fresh; is = pages_on _ w.pager cols rows is.sink m.core n.core same.seen same.sink _ is.is }
pages_still is_tty cols rows (Running w) m n same is = absurd is
pages_still is_tty cols rows (Written w) m n same is = absurd is
pages_still is_tty cols rows Over m n same is = absurd is

not_left : (m : Session) (refused : RefusedStart) → Running m ≡ left_with refused.pager refused.sink → ⊥
not_left m refused left = elim refused.pager as (λ o. Running m ≡ left_with o refused.sink → ⊥) [ Some p ↦ λ h. cc | None ↦ λ h. cc ] left

pub unbegun_still : (so : Unstarted → RefusedStart → Type 0) (e : MinusError) (old : Stage) (m n : Session) → IsSame m n → RefusesBegin so e old (Running m) → RefusesBegin so e old (Running n)
unbegun_still so e (Waiting w) m n same (early, inl is) = absurd (cc (is.1))
unbegun_still so e (Waiting w) m n same (early, inr is) = absurd (not_left m is.refused is.left)
unbegun_still so e (Running w) m n same is = (is.0, same_on w m n same is.1)
unbegun_still so e (Written w) m n same is = absurd (cc (is.1))
unbegun_still so e Over m n same is = absurd (cc (is.1))

pub unfinished_still : (e : MinusError) (old : Stage) (m n : Session) → IsSame m n → FinishesUnclean e old (Running m) → FinishesUnclean e old (Running n)
unfinished_still e (Waiting w) m n same is = absurd is
unfinished_still e (Running w) m n same is = absurd is
unfinished_still e (Written w) m n same is = absurd is
unfinished_still e Over m n same is = absurd is

pub no_room_still : (e : MinusError) (old : Stage) (m n : Session) → IsSame m n → Refuses (FindsNoRoom e) e old (Running m) → Refuses (FindsNoRoom e) e old (Running n)
no_room_still e (Waiting w) m n same is = absurd (cc (is.1))
no_room_still e (Running w) m n same is = (is.0, same_on w m n same is.1)
no_room_still e (Written w) m n same is = absurd (cc (is.1))
no_room_still e Over m n same is = absurd (cc (is.1))

-- a command to a pager that does not wait is refused as its session refuses it
pub command_refused : (so : MinusError → Session → Session → Type 0) (e : MinusError) (old new : Stage) → (Waits old → ⊥) → Refuses (so e) e old new → RefusesCommand so e old new
command_refused so e (Waiting w) new not is = absurd (not tt)
command_refused so e (Running s) new not is = is
command_refused so e (Written w) new not is = is
command_refused so e Over new not is = is
