-- What steps answer.
use Rattle.std.specs.Prelude.{◌≡◌, ℕ, nat_lt, List, map, length, is_some, ◌||◌, Bool, Option, string_bytes}
use Rattle.std.specs.Option.{option_map}
use Rattle.minus_term.specs.Refusals.{Refusal, refusal_of}
use Rattle.minus.specs.declared.answer.Answer.{Answer}
use Rattle.minus_commands.specs.Registration.{Exit}

-- an exit is answered, the text that was copied, and the refusals of the items that were skipped
pub record IsAnswer (exit : Option Exit) (text : Option (List ℕ)) (refused : List Refusal)
    (answer : Answer) : Type 0 where
  pub exited : answer.exited ≡ exit
  pub copied : option_map string_bytes answer.copied ≡ text
  pub refusals : map refusal_of answer.refused.items ≡ refused

-- whether a run stops after the step: it has exited, copied a text, or refused items
abbrev pub ends_run : Answer → Bool
ends_run answer = is_some answer.exited || is_some answer.copied || nat_lt 0 (length answer.refused.items)
