-- What a session's condition and classifier say.
use Rattle.minus_state.specs.Classifying.{Classifies}
use Rattle.minus_state.specs.Conditions.{Judges}

-- what the condition of an incremental search and the classifier may answer
pub record Says (Q K : Type 0) : Type 1 where
  pub condition : Judges Q
  pub events : Classifies K

-- what the condition, judged so, and the classifier, which classifies so, may answer
abbrev pub says_of : {Q K : Type 0} → Judges Q → Classifies K → Says Q K
says_of judges events = record { condition = judges; events = events }
