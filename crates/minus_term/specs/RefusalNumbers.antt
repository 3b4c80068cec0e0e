-- The number of each refusal.
use Rattle.std.specs.Prelude.{ℕ}
use Rattle.minus_term.specs.declared.error.MinusError.{MinusError}
use Rattle.minus_term.specs.declared.error.MinusError.TheVariants.{Memory, NewlineInPrompt, HookIdTaken, NoFreeHookId}
use Rattle.minus_term.specs.declared.error.MinusError.TheVariants.{BadSize, BadDescription, Bound, QueryFull, BadMode}
use Rattle.minus_term.specs.declared.error.MinusError.TheVariants.{Failed, Ended, Setup, Cleanup, Draw, HandleEvent}
use Rattle.minus_term.specs.declared.error.MinusError.TheVariants.{Cursor, FmtWriteError, Conversion, SearchExpError}

-- the number by which a refusal is named; 0 where it has none
abbrev pub number_of : MinusError → ℕ
number_of Memory = 1
number_of NewlineInPrompt = 2
number_of (HookIdTaken hook id) = 3
number_of NoFreeHookId = 4
number_of (BadSize columns rows) = 5
number_of (BadDescription place cause) = 6
number_of (Bound place) = 7
number_of QueryFull = 8
number_of BadMode = 9
number_of Failed = 10
number_of Ended = 11
number_of (Setup cause) = 12
number_of (Cleanup cause) = 13
number_of (Draw cause) = 14
number_of (SearchExpError cause) = 15
number_of (FmtWriteError cause) = 16
number_of (HandleEvent cause) = 0
number_of (Cursor cause) = 0
number_of Conversion = 0
