-- The session behind a pager: what it is over, and its steps, its start, its paged text and its end.
use Rattle.std.specs.Global.{Vec}
use Rattle.std.specs.Io.KnownBytes.{Appends}
use Rattle.std.specs.Prelude.{◌≡◌, [], ⊤, ℕ, Bool, true, Some}
use Rattle.minus.specs.Core.{seen_of}
use Rattle.minus.specs.Says.{Says, says_of}
use Rattle.minus.specs.SessionStarts.{IsFirstStart, IsRefusedStart}
use Rattle.minus.specs.SessionSteps.{IsStepOf, IsRefusedStepOf}
use Rattle.minus.specs.StaticPager.{IsFirstPaged, IsUnpaged}
use Rattle.minus.specs.Steps.{cleanup_after}
use Rattle.minus.specs.declared.answer.Answer.{Answer}
use Rattle.minus.specs.declared.init.StartErrorOf.{StartErrorOf}
use Rattle.minus.specs.declared.session.Core.{Core}
use Rattle.minus.specs.declared.static_pager.PagedOf.{PagedOf}
use Rattle.minus.specs.declared.status.Status.TheVariants as status
use Rattle.minus_commands.specs.Queued.{waiting_of}
use Rattle.minus_commands.specs.Pager.{WaitsBehind}
use Rattle.minus_commands.specs.Reads.{Told}
use Rattle.minus_commands.specs.Registration.{a_condition}
use Rattle.minus_commands.specs.Table.{Wanted, hands_over}
use Rattle.minus_commands.specs.declared.pager.PagerOf.{PagerOf}
use Rattle.minus_input.specs.Classifiers.{register_says}
use Rattle.minus_input.specs.DefaultBindings.{default_register}
use Rattle.minus_input.specs.EventTables.{register_of}
use Rattle.minus_state.specs.declared.input.InputEvent.TheVariants.{Ignore}
use Rattle.minus_state.specs.declared.state.RunMode.{RunMode}
use Rattle.minus_term.specs.Counts.{SinkSeen, Stays, Rises, told_count}
use Rattle.minus_term.specs.Terminal.{CleanupBreaksOff}
use Rattle.minus_term.specs.declared.error.CleanupError.{CleanupError}
use Rattle.minus_term.specs.declared.error.MinusError.{MinusError}
use Rattle.minus_term.specs.declared.error.MinusError.TheVariants.{Cleanup}
use Rattle.minus_term.specs.declared.with_tty.WithTty.{WithTty}
use Rattle.minus_c.specs.declared.session.AsTold.{AsTold}
use Rattle.minus_c.specs.declared.session.Session.{Session}
use Rattle.minus_c.specs.declared.session.Unstarted.{Unstarted}

-- where a session writes: bytes that the caller takes
abbrev pub ByteSink : Type 0
ByteSink = WithTty (Vec ℕ)

-- a type over the kinds of what a session keeps
abbrev pub over_kinds : {S P H E Q K : Type 0} → ((S P H E Q K : Type 0) → Type 0) → (Session → Core S P H E Q K)
    → Type 0
over_kinds {S} {P} {H} {E} {Q} {K} so core = so S P H E Q K

-- the bindings of a session
abbrev pub Keys : Type 0
Keys = over_kinds (λ S P H E Q K. K) (λ session. session.core)

-- a pager that waits for its start
abbrev pub OwnPager : Type 0
OwnPager = over_kinds (λ S P H E Q K. PagerOf P H E Q K) (λ session. session.core)

-- a start that was refused
abbrev pub RefusedStart : Type 0
RefusedStart = over_kinds (λ S P H E Q K. StartErrorOf S P H E Q K) (λ session. session.core)

-- the result of a text that is paged where it does not fit
abbrev pub PagedText : Type 0
PagedText = over_kinds (λ S P H E Q K. PagedOf S P H E Q K) (λ session. session.core)

-- what a sink of bytes tells: all that it holds, how often it refused and was flushed, and whether it is a terminal
abbrev pub sink_seen : ByteSink → SinkSeen
sink_seen sink = record {
  bytes = Some sink.inner.items;
  refusals = told_count sink.refusals;
  settles = told_count sink.settles;
  terminal = sink.tty;
}

-- a sink that has nothing yet
pub record IsFresh (is_tty : Bool) (sink : ByteSink) : Type 0 where
  pub empty : sink.inner.items ≡ []
  pub tty : sink.tty ≡ is_tty

-- it is so over a sink that had nothing yet
pub record IsOverFresh (is_tty : Bool) (so : ByteSink → Type 0) : Type 0 where
  pub sink : ByteSink
  pub fresh : IsFresh is_tty sink
  pub is : so sink

-- what may be answered to a session: its condition may say anything, and an action that is bound asks for nothing
abbrev pub own_says : Says AsTold Keys
own_says = says_of (λ condition opts answer. ⊤) (register_says (λ action event state answer. answer ≡ Ignore))

-- these are the default bindings
abbrev pub AreDefault : Keys → Type 0
AreDefault keys = register_of keys ≡ default_register

-- a command waits behind what waited in a pager
abbrev pub Queues : Wanted AsTold Keys → (old new : Unstarted) → Type 0
Queues wanted old new = WaitsBehind (waiting_of old.pager) (waiting_of new.pager) wanted

-- a condition of the caller's is set
abbrev pub sets_condition : AsTold → Wanted AsTold Keys
sets_condition condition = hands_over (a_condition condition)

-- a session makes such a step
abbrev pub Steps : Told AsTold Keys → Answer → (old new : Session) → Type 0
Steps told answer old new = IsStepOf sink_seen own_says old.core told new.core answer

-- a session refuses such a step so
abbrev pub RefusesStep : Told AsTold Keys → MinusError → (old new : Session) → Type 0
RefusesStep told e old new = IsRefusedStepOf sink_seen own_says old.core told new.core e

-- a pager starts as such a session, on a terminal that had nothing yet, with the default bindings at first
abbrev pub StartsAs : RunMode → (cols rows : ℕ) → Unstarted → Session → Type 0
StartsAs mode cols rows waits session =
    IsOverFresh true (λ sink. IsFirstStart AreDefault sink_seen waits.pager mode cols rows sink session.core)

-- its start is refused there, and so
abbrev pub RefusesStart : RunMode → (cols rows : ℕ) → Unstarted → RefusedStart → Type 0
RefusesStart mode cols rows waits refused =
    IsOverFresh true (λ sink. IsRefusedStart sink_seen waits.pager mode cols rows sink refused)

-- the text of a pager is written where it fits or goes to no terminal, on a sink that had nothing yet, and paged else
abbrev pub PagesAs : (is_tty : Bool) → (cols rows : ℕ) → Unstarted → PagedText → Type 0
PagesAs is_tty cols rows waits paged =
    IsOverFresh is_tty (λ sink. IsFirstPaged AreDefault sink_seen waits.pager cols rows sink paged)

-- that is refused, and so
abbrev pub RefusesPaging : (is_tty : Bool) → (cols rows : ℕ) → Unstarted → RefusedStart → Type 0
RefusesPaging is_tty cols rows waits refused =
    IsOverFresh is_tty (λ sink. IsUnpaged sink_seen waits.pager cols rows sink refused)

-- a session ends: its sink comes out with what was left to clean up, and refused nothing; after an exit it is as it was
pub record Ends (session : Session) (sink : ByteSink) : Type 0 where
  pub cleaned : Appends (sink_seen session.core.sink).bytes (sink_seen sink).bytes
      (cleanup_after (seen_of session.core).status)
  pub stays : Stays (sink_seen session.core.sink).refusals (sink_seen sink).refusals
  pub exited : (seen_of session.core).status ≡ status.Ended → sink ≡ session.core.sink

-- its sink refused what was left to clean up, of which it took a beginning; it had not exited
pub record EndsUnclean (e : MinusError) (session : Session) (sink : ByteSink) : Type 0 where
  pub cause : CleanupError
  pub is : e ≡ Cleanup cause
  pub begun : CleanupBreaksOff cause (sink_seen session.core.sink).bytes (sink_seen sink).bytes
  pub rises : Rises (sink_seen session.core.sink).refusals (sink_seen sink).refusals
  pub running : (seen_of session.core).status ≡ status.Ended → ⊥
