-- What a register answers to events.
use Rattle.std.specs.Prelude.{◌≡◌, Option, None, Some}
use Rattle.minus_term.specs.declared.event.Event.{Event}
use Rattle.minus_state.specs.declared.input.InputEvent.{InputEvent}
use Rattle.minus_state.specs.declared.state.PagerState.{PagerState}
use Rattle.minus_input.specs.declared.bound.ActionOf.{ActionOf}
use Rattle.minus_input.specs.declared.bound.ActionOf.TheVariants.{Default, Callback}
use Rattle.minus_input.specs.DefaultAnswers.{default_answer}

-- what a callback may answer to an event in a state
abbrev pub Answering : Type 0 → Type 1
Answering C = C → Event → PagerState → InputEvent → Type 0

-- what an action answers: a default one its answer, a callback one that it may give
abbrev pub IsActionAnswer : {C : Type 0} → Answering C → ActionOf C → Event → PagerState → InputEvent → Type 0
IsActionAnswer Answers (Default action) event state answer = answer ≡ default_answer action event state
IsActionAnswer Answers (Callback callback) event state answer = Answers callback event state answer

-- what is answered where this is done at an event; where nothing is done, nothing is answered
abbrev pub IsAnswerOf : {C : Type 0} → Answering C → Option (ActionOf C) → Event → PagerState → Option InputEvent
    → Type 0
IsAnswerOf Answers None event state answer = answer ≡ None
IsAnswerOf Answers (Some action) event state None = ⊥
IsAnswerOf Answers (Some action) event state (Some answer) = IsActionAnswer Answers action event state answer
