-- What registers, and what a session keeps to decide about events, may answer.
use Rattle.std.specs.Prelude.{◌≡◌}
use Rattle.minus_state.specs.Classifying.{Classifies}
use Rattle.minus_input.specs.declared.register.EventTable.{EventTable}
use Rattle.minus_input.specs.declared.event_form.EventWrapper.TheVariants.{ExactMatchEvent}
use Rattle.minus_input.specs.EventForm.{same_event}
use Rattle.minus_input.specs.EventTables.{register_of}
use Rattle.minus_input.specs.Register.{action_at}
use Rattle.minus_input.specs.RegisterAnswers.{Answering, IsAnswerOf}
use Rattle.minus_input.specs.RegisterHelp.{help_text}

-- a register answers an event by the action of its key, or by the one for all other
-- events, and gives the table of its keys for help
abbrev pub register_says : {S C H : Type 0} {builder hasher : _} → Answering C
    → Classifies (EventTable S C H builder hasher)
register_says Answers = record {
  allows = λ table event state answer.
      IsAnswerOf Answers (action_at same_event (register_of table) (ExactMatchEvent event)) event state answer;
  helps = λ table text. text ≡ help_text (register_of table);
}
