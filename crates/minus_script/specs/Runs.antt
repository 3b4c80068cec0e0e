-- A run of a script.
use Rattle.std.specs.Prelude.{◌≡◌, ℕ, List, [], ◌∷◌, ◌++◌, true, is_some, Option, Some, None, Ok, Err, codes, decimal}
use Rattle.std.specs.Prelude.{◌⊎◌}
use Rattle.std.specs.List.{last_or}
use Rattle.std.specs.Option.{option_and_then, option_map}
use Rattle.std.specs.Io.KnownBytes.{Appends, Consumes, IsAtEnd}
use Rattle.minus_term.specs.Counts.{AppendsFront, SinkSeen}
use Rattle.minus_term.specs.Refusals.{Refusal, for_memory, for_newline, for_hook_id, for_free_hook_id, for_size}
use Rattle.minus_term.specs.Refusals.{for_query, for_pattern, at_setup, at_cleanup, at_drawing, refusal_of}
use Rattle.minus_term.specs.declared.error.MinusError.{MinusError}
use Rattle.minus_term.specs.declared.error.MinusError.TheVariants.{Memory}
use Rattle.minus.specs.Core.{seen_of}
use Rattle.minus.specs.declared.session.Core.{Core}
use Rattle.minus_state.specs.declared.search.condition.NeverShows.{NeverShows}
use Rattle.minus_script.specs.declared.keys.DefaultKeys.{DefaultKeys}
use Rattle.minus.specs.declared.answer.Answer.{Answer}
use Rattle.minus_state.specs.declared.state.RunMode.TheVariants.{Dynamic}
use Rattle.minus_script.specs.Keys.{script_says}
use Rattle.minus_state.specs.Control.{Control}
use Rattle.minus_state.specs.Page.{page}
use Rattle.minus_commands.specs.Reads.{Told}
use Rattle.minus_state.specs.Sizes.{IsSize}
use Rattle.minus.specs.Starts.{IsStarted, IsSetupRefused}
use Rattle.minus.specs.Seen.{Seen}
use Rattle.minus.specs.Asked.{Wants}
use Rattle.minus.specs.declared.status.Status.TheVariants as status
use Rattle.minus.specs.Steps.{Steps, cleanup_after}
use Rattle.minus.specs.RefusedSteps.{Refuses}
use Rattle.minus.specs.Works.{IsOverfull, IsUnfit}
use Rattle.minus_commands.specs.Table.{Wanted, resizes, HasNewline}
use Rattle.minus_script.specs.Script.{script_lines, script_told}
use Rattle.minus_script.specs.Printed.{printed_all}
use Rattle.minus_script.specs.Reading.{ConsumesSome}
use Rattle.minus_script.specs.declared.arguments.Mode.{Mode}
use Rattle.minus_script.specs.declared.arguments.Mode.TheVariants.{Page, Bytes}
use Rattle.minus_script.specs.declared.fault.Stream.TheVariants.{Input, Output}
use Rattle.minus_script.specs.declared.fault.ScriptFault.{ScriptFault}
use Rattle.minus_script.specs.declared.fault.ScriptFault.TheVariants.{Io, Line, Refused}

-- a session took what it was told in order, with these answers, up to a rest
pub record IsPerformed (old new : Seen NeverShows DefaultKeys) (told : List (Told NeverShows DefaultKeys))
    (answers : List Answer)
    (rest : List (Told NeverShows DefaultKeys)) (old_bytes new_bytes : Option (List ℕ)) : Type 0 where
  pub taken : List (Told NeverShows DefaultKeys)
  pub passed : List Control
  pub steps : Steps script_says old taken passed answers new old_bytes new_bytes
  pub all : told ≡ taken ++ rest

-- a pager was started with the default keys and without a text over a sink that held nothing, and took what it was told
-- in order, with these answers, up to a rest
pub record IsTaken (cols rows : ℕ) (told : List (Told NeverShows DefaultKeys)) (answers : List Answer)
    (reached : Seen NeverShows DefaultKeys)
    (bytes : Option (List ℕ)) (rest : List (Told NeverShows DefaultKeys)) : Type 0 where
  pub keys : DefaultKeys
  pub first : Seen NeverShows DefaultKeys
  pub begun : Option (List ℕ)
  pub started : IsStarted first keys [] Dynamic cols rows true (Some []) begun
  pub worked : IsPerformed first reached told answers rest begun bytes

-- what is printed after an exit: the code that the program would end with
abbrev pub printed_exit : ℕ → List ℕ
printed_exit code = codes "exit " ++ decimal code ++ codes "\n"

-- the code of an exit that the last step answered
abbrev pub exit_code : Option Answer → Option ℕ
exit_code last = option_and_then (λ (a : Answer). option_map (λ x. x.1) a.exited) last

-- all was taken, or all up to an exit
abbrev pub IsWhole : List Answer → List (Told NeverShows DefaultKeys) → Type 0
IsWhole answers rest = (rest ≡ []) ⊎ (is_some (exit_code (last_or None answers)) ≡ true)

-- a session performed all that it was told, or all up to an exit, with this last answer
pub record IsRunOn (old new : Seen NeverShows DefaultKeys) (told : List (Told NeverShows DefaultKeys))
    (last : Option Answer) (old_bytes new_bytes : Option (List ℕ)) : Type 0 where
  pub answers : List Answer
  pub rest : List (Told NeverShows DefaultKeys)
  pub worked : IsPerformed old new told answers rest old_bytes new_bytes
  pub answer : last ≡ last_or None answers
  pub whole : IsWhole answers rest

-- a session that ran refused one of those that it was told, after those before it
pub record IsStoppedBy (refusal : Refusal) (old new : Seen NeverShows DefaultKeys)
    (told : List (Told NeverShows DefaultKeys)) (old_bytes new_bytes : Option (List ℕ)) : Type 0 where
  pub answers : List Answer
  pub reached : Seen NeverShows DefaultKeys
  pub refused : Told NeverShows DefaultKeys
  pub rest : List (Told NeverShows DefaultKeys)
  pub bytes : Option (List ℕ)
  pub worked : IsPerformed old reached told answers (refused ∷ rest) old_bytes bytes
  pub runs : reached.status ≡ status.Running
  pub refuses : Refuses script_says refusal reached refused new bytes new_bytes

-- what is printed of the page after that step
abbrev pub printed_after : Option ℕ → Control → List ℕ
printed_after None control = printed_all (page control).texts
printed_after (Some code) control = printed_exit code

-- what the modes print: the page, or all bytes of the sink, with those that clean the terminal up
abbrev pub Prints : Mode → List Answer → Seen NeverShows DefaultKeys → Option (List ℕ) → List ℕ → Type 0
Prints Page answers reached bytes output = output ≡ printed_after (exit_code (last_or None answers)) reached.control
Prints Bytes answers reached bytes output = Appends bytes (Some output) (cleanup_after reached.status)

-- the pager took all that it was told, or all up to an exit, and what it came to was printed
pub record IsShown (mode : Mode) (cols rows : ℕ) (told : List (Told NeverShows DefaultKeys))
    (output : List ℕ) : Type 0 where
  pub answers : List Answer
  pub reached : Seen NeverShows DefaultKeys
  pub bytes : Option (List ℕ)
  pub rest : List (Told NeverShows DefaultKeys)
  pub taken : IsTaken cols rows told answers reached bytes rest
  pub whole : IsWhole answers rest
  pub prints : Prints mode answers reached bytes output

-- a script was read to its end, each of its lines is well formed, and this is what they lead to
pub record IsScriptShown (mode : Mode) (cols rows : ℕ) (old_input new_input : Option (List ℕ))
    (printed : List ℕ) : Type 0 where
  pub script : List ℕ
  pub told : List (Told NeverShows DefaultKeys)
  pub read : Consumes old_input new_input script
  pub end : IsAtEnd new_input
  pub lines : script_told (script_lines script) ≡ Ok told
  pub shown : IsShown mode cols rows told printed

-- what the script leads to was printed
abbrev pub IsScriptRun : Mode → ℕ → ℕ → Option (List ℕ) → Option (List ℕ) → Option (List ℕ) → Option (List ℕ) → Type 0
IsScriptRun mode cols rows old_input new_input old_output new_output =
    (printed : List ℕ) × IsScriptShown mode cols rows old_input new_input printed
    × Appends old_output new_output printed

-- after a part of what it was told, the pager was asked for this size, which is none of a terminal
pub record IsSizeAsked (columns lines cols rows : ℕ) (told : List (Told NeverShows DefaultKeys)) : Type 0 where
  pub answers : List Answer
  pub reached : Seen NeverShows DefaultKeys
  pub bytes : Option (List ℕ)
  pub refused : Told NeverShows DefaultKeys
  pub rest : List (Told NeverShows DefaultKeys)
  pub taken : IsTaken cols rows told answers reached bytes (refused ∷ rest)
  pub asked : Wants script_says reached reached.control.search refused (resizes columns lines)
  pub bad : IsSize columns lines → ⊥

-- after a part of what it was told, the pager was asked for a prompt or a message with a newline
pub record IsPromptAsked (cols rows : ℕ) (told : List (Told NeverShows DefaultKeys)) : Type 0 where
  pub answers : List Answer
  pub reached : Seen NeverShows DefaultKeys
  pub bytes : Option (List ℕ)
  pub refused : Told NeverShows DefaultKeys
  pub rest : List (Told NeverShows DefaultKeys)
  pub wanted : Wanted NeverShows DefaultKeys
  pub taken : IsTaken cols rows told answers reached bytes (refused ∷ rest)
  pub asked : Wants script_says reached reached.control.search refused wanted
  pub bad : HasNewline wanted

-- after a part of what it was told, the pager was told a key that types a character to a
-- query which has as many as it may have
pub record IsQueryFilled (cols rows : ℕ) (told : List (Told NeverShows DefaultKeys)) : Type 0 where
  pub answers : List Answer
  pub reached : Seen NeverShows DefaultKeys
  pub bytes : Option (List ℕ)
  pub refused : Told NeverShows DefaultKeys
  pub rest : List (Told NeverShows DefaultKeys)
  pub taken : IsTaken cols rows told answers reached bytes (refused ∷ rest)
  pub full : IsOverfull reached refused

-- after a part of what it was told, the pager was asked to keep a callback of a hook under an id that it
-- cannot give; no word of a script asks for that
pub record IsCallbackAsked (refusal : Refusal) (cols rows : ℕ)
    (told : List (Told NeverShows DefaultKeys)) : Type 0 where
  pub answers : List Answer
  pub reached : Seen NeverShows DefaultKeys
  pub bytes : Option (List ℕ)
  pub refused : Told NeverShows DefaultKeys
  pub rest : List (Told NeverShows DefaultKeys)
  pub taken : IsTaken cols rows told answers reached bytes (refused ∷ rest)
  pub unfit : IsUnfit script_says reached refused refusal

-- why a pager that is told all of this refuses: this is the size of the start, or one that was asked for later, and
-- none of a terminal; a prompt or a message has a newline; an id of a hook cannot be given; a query is full; or memory
-- ran out. Once the size is one of a terminal, a fixed pattern may not be built, and the pager's sink, a terminal in
-- memory, may want memory at a setup, a drawing or a cleanup
abbrev pub IsRefusal : Refusal → ℕ → ℕ → List (Told NeverShows DefaultKeys) → Type 0
IsRefusal (for_size columns lines) cols rows told =
    ((columns ≡ cols) × (lines ≡ rows) × (IsSize cols rows → ⊥)) ⊎ IsSizeAsked columns lines cols rows told
IsRefusal for_newline cols rows told = IsPromptAsked cols rows told
IsRefusal (for_hook_id hook id) cols rows told = IsCallbackAsked (for_hook_id hook id) cols rows told
IsRefusal for_free_hook_id cols rows told = IsCallbackAsked for_free_hook_id cols rows told
IsRefusal for_query cols rows told = IsQueryFilled cols rows told
IsRefusal for_pattern cols rows told = IsSize cols rows
IsRefusal (at_setup cause) cols rows told = IsSetupRefused cause true × IsSize cols rows
IsRefusal at_drawing cols rows told = IsSize cols rows
IsRefusal (at_cleanup cause) cols rows told = IsSize cols rows
IsRefusal for_memory cols rows told = Unit {0}
IsRefusal refusal cols rows told = ⊥

-- a script was read to its end
abbrev pub IsRead : Option (List ℕ) → Option (List ℕ) → List ℕ → Type 0
IsRead old_input new_input script = Consumes old_input new_input script × IsAtEnd new_input

-- what a fault of the output leaves: a beginning of what was to be printed
abbrev pub IsOutputFault : Mode → ℕ → ℕ → Option (List ℕ) → Option (List ℕ) → Option (List ℕ) → Option (List ℕ) → Type 0
IsOutputFault mode cols rows old_input new_input old_output new_output =
    (printed : List ℕ) × IsScriptShown mode cols rows old_input new_input printed
    × AppendsFront old_output new_output printed

-- why a script is refused, before anything is printed: input failed, its first faulty line, or a refusal; or,
-- while it is printed: output failed
abbrev pub IsRunFault : Mode → ℕ → ℕ → Option (List ℕ) → Option (List ℕ) → Option (List ℕ) → Option (List ℕ)
    → ScriptFault → Type 0
IsRunFault mode cols rows old_input new_input old_output new_output (Io Input cause) = ConsumesSome old_input new_input
IsRunFault mode cols rows old_input new_input old_output new_output (Io Output cause) =
    IsOutputFault mode cols rows old_input new_input old_output new_output
IsRunFault mode cols rows old_input new_input old_output new_output (Line number) =
    (script : List ℕ) × IsRead old_input new_input script × (script_told (script_lines script) ≡ Err number)
IsRunFault mode cols rows old_input new_input old_output new_output (Refused cause) =
    (cause ≡ Memory)
    ⊎ ((script : List ℕ) × (told : List (Told NeverShows DefaultKeys)) × IsRead old_input new_input script
    × (script_told (script_lines script) ≡ Ok told) × IsRefusal (refusal_of cause) cols rows told)

-- a fault that came before anything was printed
abbrev pub IsBeforePrinting : ScriptFault → Type 0
IsBeforePrinting (Io Output cause) = ⊥
IsBeforePrinting fault = Unit {0}

-- a session over a sink performed what it was told, or all up to an exit
abbrev pub RunsOn : {S P H E : Type 0} → (S → SinkSeen) → (old new : Core S P H E NeverShows DefaultKeys)
    → List (Told NeverShows DefaultKeys) → Option Answer → Type 0
RunsOn sink old new told last =
    IsRunOn (seen_of old) (seen_of new) told last (sink old.sink).bytes (sink new.sink).bytes

-- a session over a sink refused one of the inputs that it was told, for this error
abbrev pub IsStopped : {S P H E : Type 0} → (S → SinkSeen) → (old new : Core S P H E NeverShows DefaultKeys)
    → List (Told NeverShows DefaultKeys) → MinusError → Type 0
IsStopped sink old new told e =
    IsStoppedBy (refusal_of e) (seen_of old) (seen_of new) told (sink old.sink).bytes (sink new.sink).bytes
