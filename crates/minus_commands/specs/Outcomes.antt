-- The result of a request.
use Rattle.std.specs.Prelude.{◌≡◌, ℕ, ◌&&◌, not, length, Bool, Option, Some, None, string_bytes, if◌then◌else◌}
use Rattle.std.specs.Option.{option_map}
use Rattle.minus_term.specs.Top.{top_of}
use Rattle.minus_term.specs.Refusals.{Refusal, for_memory}
use Rattle.minus_text.specs.Document.{rows_of}
use Rattle.minus_state.specs.declared.change.Change.{Change}
use Rattle.minus_state.specs.Changes.{IsChange, Leads}
use Rattle.minus_state.specs.Control.{Control}
use Rattle.minus_state.specs.ClampedMark.{IsClamped}
use Rattle.minus_state.specs.Help.{help_open}
use Rattle.minus_state.specs.NextTexts.{next_document}
use Rattle.minus_state.specs.States.{control_of, IsFormed}
use Rattle.minus_state.specs.declared.state.PagerState.{PagerState}
use Rattle.minus_commands.specs.declared.outcome.Outcome.{Outcome}
use Rattle.minus_commands.specs.Table.{Wanted, effect_of, control_after, IsPossible, IsFault}

-- the result of a request by the table, after which the typed prefix goes, or stays
pub record IsOutcome {Q K : Type 0} (clears : Bool) (old : Control) (w : Wanted Q K) (outcome : Outcome) : Type 0 where
  pub possible : IsPossible w
  pub leads : IsChange old outcome.change (control_after clears old w)
  pub redraw : outcome.change.redraw ≡ (effect_of old w).redraw
  pub moves_to : outcome.moves_to ≡ (effect_of old w).moves_to
  pub copied : option_map string_bytes outcome.copied ≡ (effect_of old w).copies
  pub exits : outcome.exits ≡ (effect_of old w).is_exit

-- the result of a request before its move, the clamp, and before the typed prefix goes: what the table gives of a state
-- whose rows are formed
pub record IsFormedFor {Q K : Type 0} (s : PagerState) (w : Wanted Q K) (outcome : Outcome) : Type 0 where
  pub possible : IsPossible w
  pub leads : Leads s outcome.change (effect_of (control_of s) w).changed
  pub redraw : IsFormed s → outcome.change.redraw ≡ (effect_of (control_of s) w).redraw
  pub moves_to : IsFormed s → outcome.moves_to ≡ (effect_of (control_of s) w).moves_to
  pub row_only : outcome.row_only ≡ (effect_of (control_of s) w).row_only
  pub copied : IsFormed s → option_map string_bytes outcome.copied ≡ (effect_of (control_of s) w).copies
  pub exits : outcome.exits ≡ (effect_of (control_of s) w).is_exit

-- where an append that was formed for a state moves the mark to: the last page, where the page
-- goes on with it; nowhere while help is open
abbrev pub followed_by : PagerState → Change → Option ℕ
followed_by s change =
    if not (help_open (control_of s)) && s.follow
    then Some (top_of (length (rows_of (next_document s.screen.document change.text))) change.rows) else None

-- the change leads to a control whose mark the clamp leaves
abbrev pub LeadsClamped : Control → Change → Type 0
LeadsClamped old change = (new : Control) × IsChange old change new × IsClamped new

-- out of memory, or for this
abbrev pub MemoryOr : (Refusal → Type 0) → Refusal → Type 0
MemoryOr Why for_memory = Unit {0}
MemoryOr Why refusal = Why refusal

-- why a request was not formed: out of memory, or for what cannot be done
abbrev pub IsUnformed : {Q K : Type 0} → Refusal → Wanted Q K → Type 0
IsUnformed refusal w = MemoryOr (λ (r : Refusal). IsFault r w) refusal
