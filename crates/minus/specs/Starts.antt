-- The start of a session.
use Rattle.std.specs.Prelude.{◌≡◌, ℕ, List, [], ◌∷◌, Bool, true, false, Option, None, Some, if◌then◌else◌, ◌⊎◌}
use Rattle.std.specs.Io.KnownBytes.{Appends}
use Rattle.minus_term.specs.Refusals.{Refusal, for_memory, for_size, for_mode, for_pattern, at_setup, at_drawing}
use Rattle.minus_term.specs.declared.error.SetupError.{SetupError}
use Rattle.minus_term.specs.declared.error.SetupError.TheVariants.{InvalidTerminal}
use Rattle.minus_term.specs.Operations.{Op}
use Rattle.minus_term.specs.Written.{written_all}
use Rattle.minus_term.specs.Counts.{SinkSeen, AppendsFront, Stays, Rises}
use Rattle.minus_term.specs.Terminal.{setup_bytes, cleanup_bytes, SetupBreaksOff}
use Rattle.minus_state.specs.declared.state.RunMode.{RunMode}
use Rattle.minus_state.specs.declared.state.RunMode.TheVariants.{Uninitialized}
use Rattle.minus.specs.declared.status.Status.TheVariants as status
use Rattle.minus_state.specs.Sizes.{IsSize}
use Rattle.minus_state.specs.States.{at_start}
use Rattle.minus_state.specs.Control.{Control}
use Rattle.minus_state.specs.ClampedMark.{top}
use Rattle.minus_state.specs.declared.hooks.HookId.{HookId}
use Rattle.minus_commands.specs.Outcomes.{MemoryOr}
use Rattle.minus_draw.specs.Drawings.{ops_of_step}
use Rattle.minus_draw.specs.Drawn.{Begins, Drawn, BrokenOff, Leaves, IsPageDrawing, Work}
use Rattle.minus.specs.Seen.{Seen}
use Rattle.minus_commands.specs.Registration.{kept_at_first, ids_after, IsFreeFor}
use Rattle.minus_commands.specs.Table.{Wanted, moves_mark, handed, IsPossible, work_of, IsFaultBeside}
use Rattle.minus_commands.specs.Unmoved.{unmoved}
use Rattle.minus_commands.specs.WaitingRegistrations.{CanTakeAll, classifier_taken, condition_taken, kept_taken}

-- the control after the commands that wait are read in, in their order, each without its move, its drawing and its hook
abbrev pub taken_all : {Q K : Type 0} → Control → List (Wanted Q K) → Control
taken_all c [] = c
taken_all c (w ∷ ws) = taken_all (unmoved c w) ws

-- the first control: that of the commands that waited
abbrev pub first_control : {Q K : Type 0} → ℕ → ℕ → List (Wanted Q K) → Control
first_control cols rows waiting = taken_all (at_start cols rows) waiting

-- the refusal is that of the first of the commands that cannot be read in
abbrev pub IsFirstFault : {Q K : Type 0} → Refusal → List HookId → List (Wanted Q K) → Type 0
IsFirstFault refusal ids [] = ⊥
IsFirstFault refusal ids (w ∷ ws) =
    IsFaultBeside ids refusal w
    ⊎ (IsPossible w × IsFreeFor ids (handed w) × IsFirstFault refusal (ids_after ids (handed w)) ws)

-- why a command is not read in beside these ids: out of memory, or for a fault
abbrev pub IsUnchecked : {Q K : Type 0} → Refusal → List HookId → Wanted Q K → Type 0
IsUnchecked for_memory ids w = Unit {0}
IsUnchecked refusal ids w = IsFaultBeside ids refusal w

-- why the commands that wait are not read in: out of memory, or for the first fault,
-- which is a newline, a size, or an id of a hook
abbrev pub IsUntaken : {Q K : Type 0} → Refusal → List HookId → List (Wanted Q K) → Type 0
IsUntaken refusal ids waiting = MemoryOr (λ (r : Refusal). IsFirstFault r ids waiting) refusal

-- the mark once the first page is drawn: the last page's where the text is followed
abbrev pub first_mark : Control → ℕ
first_mark c = if c.settings.follow then top c else c.mark

-- the mark moves there as in a scroll, but no hook is called
abbrev pub first_move : Control → Work
first_move c = record (work_of {Q = Unit {0}} {K = Unit {0}} false c (moves_mark (first_mark c))) { hook = None }

-- the operations that draw this
abbrev pub move_ops : Control → List Op
move_ops c = ops_of_step (first_move c).drawing c (first_move c).left

-- the page that a start draws first, and what is drawn over it
abbrev pub BeginsAndMoves : Option (List ℕ) → Option (List ℕ) → Control → Type 0
BeginsAndMoves old_bytes new_bytes first =
    (page : Option (List ℕ)) × Begins old_bytes page first
    × Drawn page new_bytes first (first_move first ∷ []) (first_move first).left

-- a start leaves its page on a sink that told its bytes
abbrev pub StartLeavesItsPage : Type 0
StartLeavesItsPage =
    (bytes : List ℕ) (new_bytes : Option (List ℕ)) (first : Control) → BeginsAndMoves (Some bytes) new_bytes first
    → (let left : Control = (first_move first).left in Leaves new_bytes (first ∷ left ∷ []) left)

-- a start is asked for as it can be: in a mode in which a session runs, and for a size of a terminal
pub record CanStart (mode : RunMode) (cols rows : ℕ) : Type 0 where
  pub runs : mode ≡ Uninitialized → ⊥
  pub size : IsSize cols rows

-- when it cannot: for its mode first, then for its size
abbrev pub CannotStart : Refusal → RunMode → ℕ → ℕ → Type 0
CannotStart for_mode mode cols rows = mode ≡ Uninitialized
CannotStart (for_size c r) mode cols rows =
    (mode ≡ Uninitialized → ⊥) × (c ≡ cols) × (r ≡ rows) × (IsSize cols rows → ⊥)
CannotStart refusal mode cols rows = ⊥

-- or out of memory for the default bindings
abbrev pub IsUnregistered : Refusal → RunMode → ℕ → ℕ → Type 0
IsUnregistered for_memory mode cols rows = CanStart mode cols rows
IsUnregistered refusal mode cols rows = CannotStart refusal mode cols rows

-- a start is asked for as it can be, and the commands that wait can be read in
pub record CanBegin {Q K : Type 0} (mode : RunMode) (cols rows : ℕ) (waiting : List (Wanted Q K)) : Type 0 where
  pub can : CanStart mode cols rows
  pub takes : CanTakeAll [] waiting

-- when what a start needs is not formed: for its mode first, then for its size; once these are those of a start, out of
-- memory, or for the first command that cannot be read in, and then since a fixed pattern was not built
abbrev pub IsFormRefused : {Q K : Type 0} → Refusal → RunMode → ℕ → ℕ → List (Wanted Q K) → Type 0
IsFormRefused for_pattern mode cols rows waiting = CanBegin mode cols rows waiting
IsFormRefused refusal mode cols rows waiting =
    CannotStart refusal mode cols rows ⊎ (CanStart mode cols rows × IsUntaken refusal [] waiting)

-- a start that ends well: on a terminal, where the session runs and has drawn its first page
pub record IsStarted {Q K : Type 0} (seen : Seen Q K) (classifier : K) (waiting : List (Wanted Q K)) (mode : RunMode)
    (cols rows : ℕ) (terminal : Bool) (old_bytes new_bytes : Option (List ℕ)) : Type 0 where
  pub can : CanStart mode cols rows
  pub takes : CanTakeAll [] waiting
  pub on_terminal : terminal ≡ true
  pub begins : seen ≡ record {
    control = (first_move (first_control cols rows waiting)).left;
    classifier = classifier_taken classifier waiting;
    condition = condition_taken None waiting;
    kept = kept_taken kept_at_first waiting;
    mode = mode;
    waiting = [];
    status = status.Running;
  }
  pub drawn : BeginsAndMoves old_bytes new_bytes (first_control cols rows waiting)

-- when a setup is refused: with the one error where the sink is no terminal
abbrev pub IsSetupRefused : SetupError → Bool → Type 0
IsSetupRefused InvalidTerminal terminal = terminal ≡ false
IsSetupRefused e terminal = terminal ≡ true

-- when what is drawn at the start is refused
abbrev pub IsShowRefused : Refusal → Bool → Type 0
IsShowRefused (at_setup cause) terminal = IsSetupRefused cause terminal
IsShowRefused at_drawing terminal = terminal ≡ true
IsShowRefused refusal terminal = ⊥

-- the terminal was cleaned up, or the sink refused that too, after a beginning of it
abbrev pub CleansUp : Option (List ℕ) → Option (List ℕ) → Option ℕ → Option ℕ → Type 0
CleansUp old_bytes new_bytes old_count new_count =
    (Appends old_bytes new_bytes cleanup_bytes × Stays old_count new_count)
    ⊎ (AppendsFront old_bytes new_bytes cleanup_bytes × Rises old_count new_count)

-- the sink grew by a beginning of these bytes, refused the rest of them, and was cleaned up as far as it took that
pub record DrawsOff (old_bytes new_bytes : Option (List ℕ)) (old_count new_count : Option ℕ)
    (drawing : List ℕ) : Type 0 where
  pub drawn : Option (List ℕ)
  pub count : Option ℕ
  pub begun : AppendsFront old_bytes drawn drawing
  pub refused : Rises old_count count
  pub cleanup : CleansUp drawn new_bytes count new_count

-- the sink grew by the bytes that set a terminal up and a beginning of these, refused the rest of
-- them, and was cleaned up as far as it took that
pub record DrawingBreaksOff (old_bytes new_bytes : Option (List ℕ)) (old_count new_count : Option ℕ)
    (drawing : List ℕ) : Type 0 where
  pub set_up : Option (List ℕ)
  pub drawn : Option (List ℕ)
  pub count : Option ℕ
  pub setup : Appends old_bytes set_up setup_bytes
  pub begun : AppendsFront set_up drawn drawing
  pub refused : Rises old_count count
  pub cleanup : CleansUp drawn new_bytes count new_count

-- what is left on a sink where the setup, or the drawing behind it, was refused
abbrev pub ShowBreaksOff : Refusal → Option (List ℕ) → Option (List ℕ) → Option ℕ → Option ℕ → List ℕ → Type 0
ShowBreaksOff (at_setup cause) old_bytes new_bytes old_count new_count drawing =
    SetupBreaksOff cause old_bytes new_bytes
ShowBreaksOff at_drawing old_bytes new_bytes old_count new_count drawing =
    DrawingBreaksOff old_bytes new_bytes old_count new_count drawing
ShowBreaksOff refusal old_bytes new_bytes old_count new_count drawing = ⊥

-- what is left on a sink where the setup, or the drawing behind it, was refused, by what
-- the sink tells before and after
abbrev pub ShowBreaks : Refusal → (old new : SinkSeen) → List ℕ → Type 0
ShowBreaks refusal old new drawing = ShowBreaksOff refusal old.bytes new.bytes old.refusals new.refusals drawing

-- when a start is refused: for its mode first, then for its size, then for the first command that cannot be read in,
-- then since a fixed pattern was not built, then by the sink
abbrev pub IsStartRefused : {Q K : Type 0} → Refusal → RunMode → ℕ → ℕ → List (Wanted Q K) → Bool → Type 0
IsStartRefused (at_setup cause) mode cols rows waiting terminal =
    CanBegin mode cols rows waiting × IsSetupRefused cause terminal
IsStartRefused at_drawing mode cols rows waiting terminal = CanBegin mode cols rows waiting × (terminal ≡ true)
IsStartRefused refusal mode cols rows waiting terminal = IsFormRefused refusal mode cols rows waiting

-- the start was refused before anything was written
abbrev pub IsEarly : Refusal → Type 0
IsEarly (at_setup cause) = ⊥
IsEarly at_drawing = ⊥
IsEarly refusal = Unit {0}

-- the sink took the first page, and a beginning of what is drawn over it, refused the rest of
-- that, and was cleaned up as far as it took that
pub record MoveBreaksOff (old_bytes new_bytes : Option (List ℕ)) (old_count new_count : Option ℕ)
    (first : Control) : Type 0 where
  pub page : Option (List ℕ)
  pub drawn : Option (List ℕ)
  pub count : Option ℕ
  pub begins : Begins old_bytes page first
  pub begun : BrokenOff page drawn first (first_move first ∷ []) (first_move first).left
  pub refused : Rises old_count count
  pub cleanup : CleansUp drawn new_bytes count new_count

-- what a refused start wrote: nothing; a beginning of what sets the terminal up; or all of that and a beginning of what
-- is drawn, and then what cleans the terminal up, as far as the sink took it
abbrev pub StartBreaksOff : Refusal → Option (List ℕ) → Option (List ℕ) → Option ℕ → Option ℕ → Control → Type 0
StartBreaksOff (at_setup cause) old_bytes new_bytes old_count new_count first = SetupBreaksOff cause old_bytes new_bytes
StartBreaksOff at_drawing old_bytes new_bytes old_count new_count first =
    ((ops : List Op) × DrawingBreaksOff old_bytes new_bytes old_count new_count (written_all ops)
    × IsPageDrawing ops first)
    ⊎ MoveBreaksOff old_bytes new_bytes old_count new_count first
StartBreaksOff refusal old_bytes new_bytes old_count new_count first = new_bytes ≡ old_bytes

-- a setup was refused since the sink refused a write or a flush, or took nothing
abbrev pub IsSetupFault : SetupError → Type 0
IsSetupFault InvalidTerminal = ⊥
IsSetupFault e = Unit {0}

-- a start was refused since the sink refused a write or a flush, or took nothing
abbrev pub IsStartFault : Refusal → Type 0
IsStartFault (at_setup cause) = IsSetupFault cause
IsStartFault at_drawing = Unit {0}
IsStartFault refusal = ⊥
