-- Steps that end well.
use Rattle.std.specs.Prelude.{◌≡◌, ℕ, List, [], ◌∷◌, ◌++◌, Bool, Option, None, Some}
use Rattle.std.specs.Io.KnownBytes.{Appends}
use Rattle.minus_term.specs.Refusals.{Refusal}
use Rattle.minus_term.specs.Terminal.{cleanup_bytes}
use Rattle.minus_state.specs.declared.state.RunMode.{RunMode}
use Rattle.minus_state.specs.declared.state.RunMode.TheVariants as run_mode
use Rattle.minus.specs.Says.{Says}
use Rattle.minus_state.specs.Control.{Control}
use Rattle.minus.specs.declared.answer.Answer.{Answer}
use Rattle.minus.specs.declared.status.Status.{Status}
use Rattle.minus.specs.declared.status.Status.TheVariants as status
use Rattle.minus.specs.Answers.{IsAnswer}
use Rattle.minus.specs.Asked.{taken}
use Rattle.minus.specs.Classes.{class_of, is_unfit}
use Rattle.minus_draw.specs.Drawn.{Drawn, Leaves, Work, passed_in}
use Rattle.minus_commands.specs.Reads.{Told}
use Rattle.minus.specs.Seen.{Seen}
use Rattle.minus_commands.specs.Registration.{Exit}
use Rattle.minus.specs.Works.{Takes, Exits, Worked, Comes}
use Rattle.minus.specs.Waiting.{IsAtRest}

-- how a session stands after a step: it goes on, but for an exit
abbrev pub status_after : Option Exit → Status
status_after None = status.Running
status_after (Some exit) = status.Ended

-- how the works of a step end, by the exit if there is one: at rest, or with an input
-- that exits, after which nothing waits
abbrev pub Ends : {Q K : Type 0} → Says Q K → Option Exit → Seen Q K → Told Q K → List Work → List Refusal
    → Option (List ℕ) → Seen Q K → Seen Q K → Type 0
Ends says None old told works refused copied last new =
    Worked says old told works refused copied last × IsAtRest last × (new ≡ last)
Ends says (Some exit) old told works refused copied last new =
    (next : Told _ _) × (exits : Exits says last next exit) × Comes says old told works refused copied last next
    × (new ≡ record (taken last next exits.wanted) { waiting = []; status = status.Ended })

-- what is written: one list of operations that draws the works, and at an exit what cleans the terminal up after it
abbrev pub Writes : Option Exit → Control → List Work → Control → Option (List ℕ) → Option (List ℕ) → Type 0
Writes None old works last old_bytes new_bytes = Drawn old_bytes new_bytes old works last
Writes (Some exit) old works last old_bytes new_bytes =
    (drawn : Option (List ℕ)) × Drawn old_bytes drawn old works last × Appends drawn new_bytes cleanup_bytes

-- a step that ends well: the works that were done, the refusals of what was skipped, the text that was copied last, the
-- exit, and the session before that; its answer and what it writes; and that the page which the sink's bytes left is
-- left by them still, as long as the session runs
pub record IsStep {Q K : Type 0} (says : Says Q K) (old : Seen Q K) (told : Told Q K) (new : Seen Q K) (answer : Answer)
    (old_bytes new_bytes : Option (List ℕ)) : Type 0 where
  pub works : List Work
  pub refused : List Refusal
  pub copied : Option (List ℕ)
  pub exit : Option Exit
  pub last : Seen Q K
  pub running : old.status ≡ status.Running
  pub ends : Ends says exit old told works refused copied last new
  pub stands : new.status ≡ status_after exit
  pub answers : IsAnswer exit copied refused answer
  pub writes : Writes exit old.control works last.control old_bytes new_bytes
  pub leaves :
      (before : List Control) → Leaves old_bytes before old.control → new.status ≡ status.Running
      → Leaves new_bytes (before ++ passed_in works) new.control

-- steps that end well, one after another, with the controls that they pass, their answers and what they write
pub data Steps {Q K : Type 0} (says : Says Q K) : Seen Q K → List (Told Q K) → List Control → List Answer → Seen Q K
    → Option (List ℕ) → Option (List ℕ) → Type 0 where
  none : {a : Seen Q K} {x : Option (List ℕ)} → Steps says a [] [] [] a x x
  more : {a b c : Seen Q K} {t : Told Q K} {ts : List (Told Q K)} {cs : List Control} {answer : Answer}
      {answers : List Answer} {x y z : Option (List ℕ)}
      → (s : IsStep says a t b answer x y) → Steps says b ts cs answers c y z
      → Steps says a (t ∷ ts) (passed_in s.works ++ cs) (answer ∷ answers) c x z

-- whether an input that waited is skipped for this refusal, while the step goes on: what it asks for cannot be done
abbrev pub is_passed : Refusal → Bool
is_passed refusal = is_unfit (class_of refusal)

-- how an input ends that was taken: the session goes on, with the text that it copied, if
-- it copied one; or it has exited so
pub data Ending : Type 0 where
  goes_on : Option (List ℕ) → Ending
  has_exited : Exit → Ending

-- one input was taken: its work was drawn; or it exits
abbrev pub Took : {Q K : Type 0} → Says Q K → Ending → Seen Q K → Told Q K → Seen Q K → Option (List ℕ)
    → Option (List ℕ) → Type 0
Took says (goes_on copied) old told new old_bytes new_bytes =
    (work : Work) × Takes says old told work copied new × Drawn old_bytes new_bytes old.control (work ∷ []) new.control
Took says (has_exited exit) old told new old_bytes new_bytes =
    (exits : Exits says old told exit)
    × (new ≡ record (taken old told exits.wanted) { waiting = []; status = status.Ended })
    × Appends old_bytes new_bytes cleanup_bytes

-- an input that waited was taken, and with it, it may be, some of those behind it: their works were drawn; or it exits
abbrev pub TookWith : {Q K : Type 0} → Says Q K → Ending → Seen Q K → Told Q K → Seen Q K → Option (List ℕ)
    → Option (List ℕ) → Type 0
TookWith says (goes_on copied) old told new old_bytes new_bytes =
    (works : List Work) × Worked says old told works [] copied new
    × Drawn old_bytes new_bytes old.control works new.control
TookWith says (has_exited exit) old told new old_bytes new_bytes =
    Took says (has_exited exit) old told new old_bytes new_bytes

-- what is still to be cleaned up: nothing after an exit
abbrev pub cleanup_after : Status → List ℕ
cleanup_after status.Running = cleanup_bytes
cleanup_after status.Ended = []
cleanup_after status.Failed = cleanup_bytes

-- the mode of a session by its status: that of its start while it runs, and then `Uninitialized`
abbrev pub mode_when : Status → RunMode → RunMode
mode_when status.Running mode = mode
mode_when status.Ended mode = run_mode.Uninitialized
mode_when status.Failed mode = run_mode.Uninitialized

-- the mode that a session tells: that of its start as long as it runs
abbrev pub mode_told : {Q K : Type 0} → Seen Q K → RunMode
mode_told seen = mode_when seen.status seen.mode
