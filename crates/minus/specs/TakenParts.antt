-- An input that was taken or not, told by what was made of it.
use Rattle.std.specs.Prelude.{ℕ, List, Option, Bool, string_bytes}
use Rattle.minus_term.specs.Counts.{SinkSeen}
use Rattle.minus_term.specs.declared.error.MinusError.{MinusError}
use Rattle.minus.specs.Asked.{Asks}
use Rattle.minus.specs.Core.{seen_of}
use Rattle.minus_commands.specs.Registration.{Handing}
use Rattle.minus.specs.Joined.{MayGoWith}
use Rattle.minus.specs.Works.{IsTakenBy, ExitsWith}
use Rattle.minus_commands.specs.Reads.{Told}
use Rattle.minus.specs.Says.{Says}
use Rattle.minus.specs.SessionSteps.{IsAsked, IsTakenOf, IsUntakenOf, IsTakenWithOf, IsUntakenWithOf}
use Rattle.minus_commands.specs.Table.{Wanted, hands_over}
use Rattle.minus_draw.specs.Drawn.{Work}
use Rattle.minus.specs.declared.joined.JoinedAppends.{JoinedAppends}
use Rattle.minus_commands.specs.declared.outcome.Outcome.{Outcome}
use Rattle.minus.specs.declared.session.Core.{Core}
use Rattle.minus.specs.declared.done.Done.{Done}

module _ {S P H E Q K : Type 0} (sink : S → SinkSeen) (says : Says Q K) (old : Core S P H E Q K) where
  -- the result of an input was drawn and put in its place: the input was taken
  abbrev pub IsOutcomeTaken : (outcome : Outcome) (new : Core S P H E Q K) → Done → Type 0
  IsOutcomeTaken outcome new of =
      (told : Told Q K) (work : Work) → IsTakenBy says (seen_of old) told outcome work
      → IsTakenOf sink says old told new of

  -- the result of an input was not drawn and put in its place: the input was not taken
  abbrev pub IsOutcomeUntaken : (outcome : Outcome) (new : Core S P H E Q K) → MinusError → Type 0
  IsOutcomeUntaken outcome new e =
      (told : Told Q K) (work : Work) → IsTakenBy says (seen_of old) told outcome work
      → IsUntakenOf sink says old told new e

  -- what is registered was kept: the input that asks for it was taken
  abbrev pub IsHandingTaken : (handing : Handing Q K) (new : Core S P H E Q K) → Done → Type 0
  IsHandingTaken handing new of =
      (told : Told Q K) → Asks says (seen_of old) told (hands_over handing) → IsTakenOf sink says old told new of

  -- what was to be registered was not kept: the input that asks for it was not taken
  abbrev pub IsHandingUntaken : (handing : Handing Q K) (new : Core S P H E Q K) → MinusError → Type 0
  IsHandingUntaken handing new e =
      (told : Told Q K) → Asks says (seen_of old) told (hands_over handing) → IsUntakenOf sink says old told new e

  -- the session has exited, with the typed prefix as it is then: the input that asks for an exit was taken
  abbrev pub IsExitTaken : (prefix : Option (List ℕ)) (new : Core S P H E Q K) → Done → Type 0
  IsExitTaken prefix new of =
      (told : Told Q K) (w : Wanted Q K) → Asks says (seen_of old) told w → ExitsWith (seen_of old) told w prefix
      → IsTakenOf sink says old told new of

  -- the session has not exited: the input that asks for an exit was not taken
  abbrev pub IsExitUntaken : (prefix : Option (List ℕ)) (new : Core S P H E Q K) → MinusError → Type 0
  IsExitUntaken prefix new e =
      (told : Told Q K) (w : Wanted Q K) → Asks says (seen_of old) told w → ExitsWith (seen_of old) told w prefix
      → IsUntakenOf sink says old told new e

  -- a request was performed, and the typed prefix has gone, or stays: the input that asks for it was taken
  abbrev pub IsTakenAs : (w : Wanted Q K) (clears : Bool) (new : Core S P H E Q K) → Done → Type 0
  IsTakenAs w clears new of = (told : Told Q K) → IsAsked says old told w clears → IsTakenOf sink says old told new of

  -- a request was not performed: the input that asks for it was not taken
  abbrev pub IsUntakenAs : (w : Wanted Q K) (clears : Bool) (new : Core S P H E Q K) → MinusError → Type 0
  IsUntakenAs w clears new e = (told : Told Q K) → IsAsked says old told w clears → IsUntakenOf sink says old told new e

  -- the appends that were joined behind one that waited were performed with it: that input was taken
  abbrev pub AreJoinedTaken : JoinedAppends → (new : Core S P H E Q K) → Done → Type 0
  AreJoinedTaken joined new of =
      (told : Told Q K)
      → MayGoWith (seen_of old).control told (seen_of old).waiting (string_bytes joined.text) joined.count
      → IsTakenWithOf sink says old told new of

  -- the appends that were joined behind one that waited were not performed with it: that input was not taken
  abbrev pub AreJoinedUntaken : JoinedAppends → (new : Core S P H E Q K) → MinusError → Type 0
  AreJoinedUntaken joined new e =
      (told : Told Q K)
      → MayGoWith (seen_of old).control told (seen_of old).waiting (string_bytes joined.text) joined.count
      → IsUntakenWithOf sink says old told new e
