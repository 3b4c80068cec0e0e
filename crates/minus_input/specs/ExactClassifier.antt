-- The classifier that goes by exact codes and modifiers.
use Rattle.std.specs.Prelude.{◌≡◌, None}
use Rattle.minus_state.specs.Classifying.{Classifies}
use Rattle.minus_input.specs.declared.exact_keys.DefaultInputClassifier.{DefaultInputClassifier}
use Rattle.minus_input.specs.ExactKeys.{exact_answer}

-- each event has one answer in each state, and help has no text
abbrev pub exact_says : Classifies DefaultInputClassifier
exact_says = record {
  allows = λ classifier event state answer. answer ≡ exact_answer event state;
  helps = λ classifier text. text ≡ None;
}
