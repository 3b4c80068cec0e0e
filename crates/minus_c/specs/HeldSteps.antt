-- What the calls of a pager tell, and what they leave.
use Rattle.std.specs.Prelude.{◌≡◌, ◌⊎◌, ℕ, nat_lt, List, [], length, is_some, Bool, true, false, Option, None, Some}
use Rattle.std.specs.Prelude.{option_map, string_bytes}
use Rattle.minus_commands.specs.Reads.{a_command}
use Rattle.minus_commands.specs.Registration.{Exit}
use Rattle.minus.specs.declared.answer.Answer.{Answer}
use Rattle.minus_state.specs.declared.state.ExitStrategy.TheVariants.{ProcessQuit, PagerQuit}
use Rattle.minus_term.specs.declared.error.MinusError.{MinusError}
use Rattle.minus_c.specs.Refused.{refusal_number}
use Rattle.minus_c.specs.Sessions.{RefusesStep, sets_condition}
use Rattle.minus_c.specs.Stages.{unread, Between, RefusesCommand, FindsNoMemory}
use Rattle.minus_c.specs.declared.held.Held.{Held}
use Rattle.minus_c.specs.declared.session.AsTold.{AsTold}
use Rattle.minus_c.specs.declared.session.Session.{Session}
use Rattle.minus_c.specs.declared.stage.Stage.{Stage}
use Rattle.minus_c.specs.declared.told.Told.{Told}

-- whether the process is to end after an exit, and with which code
abbrev pub quits : Option Exit → Bool
quits None = false
quits (Some (ProcessQuit, code)) = true
quits (Some (PagerQuit, code)) = false

-- the code of an exit, 0 where there is none
abbrev pub code_of : Option Exit → ℕ
code_of None = 0
code_of (Some (strategy, code)) = code

-- what is reported of a step with this answer, while `written` bytes wait to be read
abbrev pub told_by : Answer → ℕ → Told
told_by answer written = record {
  refusal = 0;
  exited = is_some answer.exited;
  quits = quits answer.exited;
  code = code_of answer.exited;
  copied = is_some answer.copied;
  refused = nat_lt 0 (length answer.refused.items);
  written = written;
}

-- what is reported of a call that was refused with this number, while `written` bytes wait to be read
abbrev pub refusing : ℕ → ℕ → Told
refusing refusal written =
    record {
      refusal = refusal;
      exited = false;
      quits = false;
      code = 0;
      copied = false;
      refused = false;
      written = written;
    }

-- the session made such a step, whose answer is told, and kept
pub record IsStepTold (so : Answer → Session → Session → Type 0) (old new : Held) (told : Told) : Type 0 where
  pub answer : Answer
  pub kept : new.answer ≡ Some answer
  pub tells : told ≡ told_by answer (length (unread new.stage))
  pub step : Between (so answer) old.stage new.stage

-- a call was refused so: the number of the refusal is told, and the answer of the step before it is kept
pub record IsRefusalTold (so : MinusError → Stage → Stage → Type 0) (old new : Held) (told : Told) : Type 0 where
  pub refusal : MinusError
  pub kept : new.answer ≡ old.answer
  pub tells : told ≡ refusing (refusal_number refusal) (length (unread new.stage))
  pub refuses : so refusal old.stage new.stage

-- a condition of the caller's was refused: as a command that sets it, or since there was no memory for it
abbrev pub IsConditionRefused : (old new : Held) → Told → Type 0
IsConditionRefused old new told =
    ((c : AsTold) × IsRefusalTold (RefusesCommand (RefusesStep (a_command (sets_condition c)))) old new told)
    ⊎ IsRefusalTold FindsNoMemory old new told

-- a call that is no step went through so: it is told whether the pager is over, and the answer of the step before it is
-- kept
pub record IsDoneTold (so : Stage → Stage → Type 0) (over : Bool) (old new : Held) (told : Told) : Type 0 where
  pub kept : new.answer ≡ old.answer
  pub tells : told ≡ record (refusing 0 (length (unread new.stage))) { exited = over }
  pub done : so old.stage new.stage

-- the text that was copied in the last step, if one was and was not taken
abbrev pub copied_in : Option Answer → Option (List ℕ)
copied_in None = None
copied_in (Some answer) = option_map string_bytes answer.copied

-- the refusals of the inputs that were refused in the last step
abbrev pub refused_in : Option Answer → List MinusError
refused_in None = []
refused_in (Some answer) = answer.refused.items
