-- What a call leaves of a pager.
use Rattle.std.specs.Prelude.{◌≡◌, ◌⊎◌, ℕ, List, [], Bool, true, false, Option, None, Some, if◌then◌else◌}
use Rattle.minus_commands.specs.Queued.{waiting_of}
use Rattle.minus.specs.Core.{seen_of}
use Rattle.minus.specs.Starts.{IsEarly}
use Rattle.minus.specs.Steps.{mode_told}
use Rattle.minus.specs.declared.static_pager.PagedOf.TheVariants as paged
use Rattle.minus_state.specs.declared.state.RunMode.{RunMode}
use Rattle.minus_state.specs.declared.state.RunMode.TheVariants.{Uninitialized, Static, Dynamic}
use Rattle.minus_term.specs.Refusals.{refusal_of}
use Rattle.minus_term.specs.declared.error.MinusError.{MinusError}
use Rattle.minus_term.specs.declared.error.MinusError.TheVariants.{Memory, BadMode, Ended}
use Rattle.minus_c.specs.Sessions.{ByteSink, OwnPager, RefusedStart, PagedText, Ends, EndsUnclean}
use Rattle.minus_c.specs.declared.session.Session.{Session}
use Rattle.minus_c.specs.declared.session.Unstarted.{Unstarted}
use Rattle.minus_c.specs.declared.stage.Stage.{Stage}
use Rattle.minus_c.specs.declared.stage.Stage.TheVariants.{Waiting, Running, Written, Over}

-- a sink whose bytes were taken: nothing else of it has changed
pub record IsEmptied (old new : ByteSink) : Type 0 where
  pub empty : new.inner.items ≡ []
  pub tty : new.tty ≡ old.tty
  pub refusals : new.refusals ≡ old.refusals

-- the bytes that wait to be taken
abbrev pub unread : Stage → List ℕ
unread (Waiting pager) = []
unread (Running session) = session.core.sink.inner.items
unread (Written sink) = sink.inner.items
unread Over = []

-- a session is seen as before, and its sink is as it was
pub record IsSame (old new : Session) : Type 0 where
  pub seen : seen_of new.core ≡ seen_of old.core
  pub sink : new.core.sink ≡ old.core.sink

-- nothing of a pager has changed
abbrev pub IsAsBefore : Stage → Stage → Type 0
IsAsBefore (Running old) (Running new) = IsSame old new
IsAsBefore (Running old) new = ⊥
IsAsBefore old new = new ≡ old

-- the bytes of a session were taken: it is seen as before
pub record IsTakenFrom (old new : Session) : Type 0 where
  pub seen : seen_of new.core ≡ seen_of old.core
  pub sink : IsEmptied old.core.sink new.core.sink

-- the bytes of a pager were taken: nothing else of it has changed
abbrev pub IsTaken : Stage → Stage → Type 0
IsTaken (Waiting old) new = new ≡ Waiting old
IsTaken (Running old) (Running new) = IsTakenFrom old new
IsTaken (Written old) (Written new) = IsEmptied old new
IsTaken Over new = new ≡ Over
IsTaken old new = ⊥

-- the session ran and runs on, and before and after it are so
abbrev pub Between : (Session → Session → Type 0) → Stage → Stage → Type 0
Between so (Running old) (Running new) = so old new
Between so old new = ⊥

-- a session refuses so; where none was started, nothing has changed
abbrev pub Refuses : (Session → Session → Type 0) → MinusError → Stage → Stage → Type 0
Refuses so e (Waiting old) new = (e ≡ BadMode) × (new ≡ Waiting old)
Refuses so e (Running old) (Running new) = so old new
Refuses so e (Running old) new = ⊥
Refuses so e (Written old) new = (e ≡ Ended) × (new ≡ Written old)
Refuses so e Over new = (e ≡ Ended) × (new ≡ Over)

-- there is no memory for more text: nothing of a session has changed
abbrev pub FindsNoRoom : MinusError → Session → Session → Type 0
FindsNoRoom e old new = (e ≡ Memory) × IsSame old new

-- there is no memory for what a call keeps: nothing has changed
abbrev pub FindsNoMemory : MinusError → Stage → Stage → Type 0
FindsNoMemory e old new = (e ≡ Memory) × IsAsBefore old new

-- a session runs that is so
abbrev pub Runs : (Session → Type 0) → Stage → Type 0
Runs so (Running session) = so session
Runs so other = ⊥

-- a pager that waited runs as such a session
abbrev pub Starts : (Unstarted → Session → Type 0) → Stage → Stage → Type 0
Starts so (Waiting old) new = Runs (so old) new
Starts so old new = ⊥

-- a text was written, or a session pages it, and so
abbrev pub Shows : (PagedText → Type 0) → Stage → Type 0
Shows so (Written sink) = so (paged.Written sink)
Shows so (Running session) = so (paged.Started session.core)
Shows so other = ⊥

-- the text of a pager that waited was written or is paged so
abbrev pub Pages : (Unstarted → PagedText → Type 0) → Stage → Stage → Type 0
Pages so (Waiting old) new = Shows (so old) new
Pages so old new = ⊥

-- a pager is over, and its text was written, or what its session wrote last is left
abbrev pub is_written : Stage → Bool
is_written (Written sink) = true
is_written other = false

-- what is left of a start that was refused: the pager waits on where it came back, and else its sink is left
abbrev pub left_with : Option OwnPager → ByteSink → Stage
left_with (Some pager) sink = Waiting (record { pager = pager })
left_with None sink = Written sink

-- a start was refused so, for this cause, and left this
pub record Leaves (so : RefusedStart → Type 0) (e : MinusError) (new : Stage) : Type 0 where
  pub refused : RefusedStart
  pub is : so refused
  pub cause : e ≡ refused.cause
  pub left : new ≡ left_with refused.pager refused.sink

-- a mode in which a session runs
abbrev pub is_running_mode : RunMode → Bool
is_running_mode Static = true
is_running_mode Dynamic = true
is_running_mode Uninitialized = false

-- whether a session runs
abbrev pub runs : Stage → Bool
runs (Running session) = is_running_mode (mode_told (seen_of session.core))
runs other = false

-- why a pager that does not wait is not started: it runs, or is over
abbrev pub start_fault : Stage → MinusError
start_fault stage = if runs stage then BadMode else Ended

-- a start is refused: of a pager that waits, out of memory for the bindings, or so, and it waits on where that was
-- early; any other is as it was
abbrev pub RefusesBegin : (Unstarted → RefusedStart → Type 0) → MinusError → Stage → Stage → Type 0
RefusesBegin so e (Waiting old) new =
    (IsEarly (refusal_of e) → new ≡ Waiting old)
    × (((e ≡ Memory) × (new ≡ Waiting old)) ⊎ Leaves (so old) e new)
RefusesBegin so e old new = (e ≡ start_fault old) × IsAsBefore old new

-- a pager is over: nothing is left of one that waited, and of one that ran its sink; what was written stays
abbrev pub Finishes : Stage → Stage → Type 0
Finishes (Waiting pager) new = new ≡ Over
Finishes (Running session) (Written sink) = Ends session sink
Finishes (Running session) new = ⊥
Finishes (Written sink) new = new ≡ Written sink
Finishes Over new = new ≡ Over

-- a pager that ran is over, and its sink refused the cleanup
abbrev pub FinishesUnclean : MinusError → Stage → Stage → Type 0
FinishesUnclean e (Running session) (Written sink) = EndsUnclean e session sink
FinishesUnclean e old new = ⊥

-- a command is refused: where a pager waits, what waits stays; else its session refuses so
abbrev pub RefusesCommand : (MinusError → Session → Session → Type 0) → MinusError → Stage → Stage → Type 0
RefusesCommand so e (Waiting old) (Waiting new) = waiting_of new.pager ≡ waiting_of old.pager
RefusesCommand so e (Waiting old) new = ⊥
RefusesCommand so e old new = Refuses (so e) e old new

-- a pager waits for its start
abbrev pub Waits : Stage → Type 0
Waits (Waiting pager) = Unit {0}
Waits other = ⊥

-- a pager waits on, and so
abbrev pub Keeps : (Unstarted → Unstarted → Type 0) → Stage → Stage → Type 0
Keeps so (Waiting old) (Waiting new) = so old new
Keeps so old new = ⊥
