-- Inputs that are performed.
use Rattle.std.specs.Prelude.{◌≡◌, ℕ, List, [], ◌∷◌, ◌++◌, Option, None, Some, Bool, true, false, ◌≤◌, is_some}
use Rattle.std.specs.Prelude.{string_bytes}
use Rattle.regex.specs.Patterns.{Re}
use Rattle.minus_term.specs.Refusals.{Refusal, for_hook_id, for_free_hook_id}
use Rattle.minus_term.specs.declared.event.Event.{Event}
use Rattle.minus.specs.Says.{Says}
use Rattle.minus_state.specs.declared.state.PagerState.{PagerState}
use Rattle.minus_state.specs.PromptKeys.{keyed, MayFind}
use Rattle.minus_state.specs.QueryEditor.{refuses}
use Rattle.minus_state.specs.QueryKeys.{edit_of}
use Rattle.minus_state.specs.States.{control_of, IsFormed}
use Rattle.minus.specs.Asked.{Asks, Wants, clears_prefix, taken}
use Rattle.minus.specs.Waiting.{checked_as, IsNext, leaving, IsReady}
use Rattle.minus_commands.specs.Reads.{Told, an_event}
use Rattle.minus_state.specs.OpenSearches.{OpenSearch}
use Rattle.minus.specs.Seen.{Seen}
use Rattle.minus_commands.specs.Registration.{Exit, kept_after, classifier_after, condition_after, IsFreeFor}
use Rattle.minus_commands.specs.Table.{Wanted, exits, effect_of, handed, control_after}
use Rattle.minus_commands.specs.Table.{IsPossible, IsFault, work_of, IsFaultBeside, end_hook, is_at_end}
use Rattle.minus_draw.specs.Drawn.{Work, key_work, undrawn, IsDrawing}
use Rattle.std.specs.Option.{option_map, unwrap_or}
use Rattle.minus_state.specs.Changes.{IsChange}
use Rattle.minus_commands.specs.declared.outcome.Outcome.{Outcome}
use Rattle.minus_draw.specs.Drawings.{ops_of_step, IsDrawable, drawing_by}

-- what a session is seen as after a request
abbrev pub after : {Q K : Type 0} → Bool → Seen Q K → Wanted Q K → Seen Q K
after clears seen w = record seen {
  control = control_after clears seen.control w;
  classifier = classifier_after seen.classifier (handed w);
  condition = condition_after seen.condition (handed w);
  kept = kept_after seen.kept (handed w);
}

-- an input that does not exit is taken: its work, the text that it copies, if it copies one, and what it leaves. With
-- no search prompt open it is performed; with one open a command or a new size waits, and any other event is a key of
-- that prompt: what is found for the query is free but for its pattern and for what the condition that is kept may
-- answer, which is asked in a formed state with the control
pub data Takes {Q K : Type 0} (says : Says Q K) (s : Seen Q K) : Told Q K → Work → Option (List ℕ) → Seen Q K
    → Type 0 where
  worked : {told : Told Q K} (w : Wanted Q K) → s.control.search ≡ None → Asks says s told w → IsPossible w
      → IsFreeFor s.kept.ids (handed w)
      → (effect_of s.control w).is_exit ≡ false
      → Takes says s told (work_of (clears_prefix told w) s.control w) (effect_of s.control w).copies
      (after (clears_prefix told w) s w)
  waited : {told : Told Q K} (o : OpenSearch) (w : Wanted Q K) → s.control.search ≡ Some o → checked_as told ≡ Some w
      → IsPossible w
      → Takes says s told (undrawn s.control) None (record s { waiting = s.waiting ++ told ∷ [] })
  edits :
      {event : Event} (o : OpenSearch) → s.control.search ≡ Some o → checked_as {Q = Q} {K = K} (an_event event) ≡ None
      → (state : PagerState) → IsFormed state
      → control_of state ≡ s.control → (found : Option Re) → MayFind says.condition s.condition state o event found
      → Takes says s (an_event event) (key_work s.control o (edit_of event) found) None
      (record s { control = keyed s.control o (edit_of event) found })

-- an input that exits, as the session keeps it: no search prompt is open
pub record Exits {Q K : Type 0} (says : Says Q K) (s : Seen Q K) (told : Told Q K) (exit : Exit) : Type 0 where
  pub wanted : Wanted Q K
  pub closed : s.control.search ≡ None
  pub asked : Asks says s told wanted
  pub exits : (effect_of s.control wanted).is_exit ≡ true
  pub by : exit ≡ s.kept.exit

-- why it cannot be done: for a newline or a size; and, once it is performed, for an id of a hook
abbrev pub IsFaultIn : {Q K : Type 0} → Seen Q K → Refusal → Wanted Q K → Type 0
IsFaultIn s (for_hook_id hook id) w = (s.control.search ≡ None) × IsFaultBeside s.kept.ids (for_hook_id hook id) w
IsFaultIn s for_free_hook_id w = (s.control.search ≡ None) × IsFaultBeside s.kept.ids for_free_hook_id w
IsFaultIn s refusal w = IsFault refusal w

-- an input that cannot be done, or could not be done if it waited
abbrev pub IsUnfit : {Q K : Type 0} → Says Q K → Seen Q K → Told Q K → Refusal → Type 0
IsUnfit says s told refusal =
    (wanted : Wanted _ _) × Wants says s s.control.search told wanted × IsFaultIn s refusal wanted

-- a key that types a character to the query of the open search prompt, which has as many as it may have
pub record IsOverfull {Q K : Type 0} (s : Seen Q K) (told : Told Q K) : Type 0 where
  pub search : OpenSearch
  pub event : Event
  pub opened : s.control.search ≡ Some search
  pub key : told ≡ an_event event
  pub full : refuses search.prompt.editor (edit_of event) ≡ true

-- the text that was copied last
abbrev pub last_copied : Option (List ℕ) → Option (List ℕ) → Option (List ℕ)
last_copied before None = before
last_copied before (Some text) = Some text

-- the inputs that a step takes, which do not exit: the one that it is told, and after it some of those that wait, in
-- their order; their works, the refusals of those that were skipped, the text that was copied last, and what they leave
pub data Worked {Q K : Type 0} (says : Says Q K) (old : Seen Q K) (told : Told Q K) : List Work → List Refusal
    → Option (List ℕ) → Seen Q K → Type 0 where
  first : {work : Work} {copied : Option (List ℕ)} {new : Seen Q K} → Takes says old told work copied new
      → Worked says old told (work ∷ []) [] copied new
  more : {works : List Work} {refused : List Refusal} {copied : Option (List ℕ)} {s new : Seen Q K} {next : Told Q K}
      {rest : List (Told Q K)} {work : Work}
      {text : Option (List ℕ)} → Worked says old told works refused copied s → IsNext s next rest
      → Takes says (leaving s rest) next work text new
      → Worked says old told (works ++ work ∷ []) refused (last_copied copied text) new
  passed : {works : List Work} {refused : List Refusal} {copied : Option (List ℕ)} {s : Seen Q K} {next : Told Q K}
      {rest : List (Told Q K)} (refusal : Refusal)
      → Worked says old told works refused copied s → IsNext s next rest → IsUnfit says (leaving s rest) next refusal
      → Worked says old told works (refused ++ refusal ∷ []) copied (leaving s rest)

-- the input that comes next in a step, after those that it has taken: the one that it is
-- told, or after it the next of those that wait
pub data Comes {Q K : Type 0} (says : Says Q K) (old : Seen Q K) (told : Told Q K) : List Work → List Refusal
    → Option (List ℕ) → Seen Q K → Told Q K → Type 0 where
  at_once : Comes says old told [] [] None old told
  later : {works : List Work} {refused : List Refusal} {copied : Option (List ℕ)} {s : Seen Q K} {next : Told Q K}
      {rest : List (Told Q K)}
      → Worked says old told works refused copied s → IsNext s next rest
      → Comes says old told works refused copied (leaving s rest) next

-- with no search prompt open, and while nothing waits, an input is performed alone
abbrev pub AloneWithNoPrompt : {Q K : Type 0} → Says Q K → Type 0
AloneWithNoPrompt {Q = Q} {K = K} says =
    (old s : Seen Q K) (told : Told Q K) (works : List Work) (refused : List Refusal) (copied : Option (List ℕ))
    → IsReady old
    → Worked says old told works refused copied s
    → (work : Work) × (works ≡ work ∷ []) × (refused ≡ []) × Takes says old told work copied s

-- an input is taken by a change: the control that this leads to is that of its work, drawn as that says
pub record IsTakenBy {Q K : Type 0} (says : Says Q K) (old : Seen Q K) (told : Told Q K) (outcome : Outcome)
    (work : Work) : Type 0 where
  pub takes : Takes says old told work (option_map string_bytes outcome.copied) (record old { control = work.left })
  pub leads : IsChange old.control outcome.change work.left
  pub drawing : drawing_by outcome.change.redraw old.control outcome.change.mark ≡ work.drawing
  pub drawable : IsDrawable work.drawing old.control work.left
  pub hook : end_hook (is_some outcome.moves_to) (is_at_end work.left) ≡ work.hook
  pub draws : 1 ≤ work.left.rows
      → IsDrawing (ops_of_step work.drawing old.control work.left) old.control (work ∷ []) work.left

-- an exit, and the typed prefix as the input that was taken leaves it: another one, or the one before
pub record ExitsWith {Q K : Type 0} (seen : Seen Q K) (told : Told Q K) (w : Wanted Q K)
    (prefix : Option (List ℕ)) : Type 0 where
  pub exits : (effect_of seen.control w).is_exit ≡ true
  pub typed : unwrap_or prefix seen.control.settings.prefix ≡ (taken seen told w).control.settings.prefix
