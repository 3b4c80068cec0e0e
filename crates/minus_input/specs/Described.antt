-- What the texts of a list describe, as keys of a register.
use Rattle.std.specs.Prelude.{ℕ, ◌≡◌, ⊤, List, [], ◌∷◌, take, slice_get, Some}
use Rattle.minus_term.specs.declared.error.DescriptionError.{DescriptionError}
use Rattle.minus_term.specs.declared.event.Event.TheVariants.{Key, Mouse}
use Rattle.minus_term.specs.declared.event.KeyEvent.{KeyEvent}
use Rattle.minus_term.specs.declared.event.MouseEvent.{MouseEvent}
use Rattle.minus_input.specs.declared.event_form.EventWrapper.{EventWrapper}
use Rattle.minus_input.specs.declared.event_form.EventWrapper.TheVariants.{ExactMatchEvent}
use Rattle.minus_input.specs.Description.{DescribesKey, DescribesMouse}

-- the key of a register is that of the key event that a text describes
abbrev pub IsKey : List ℕ → EventWrapper → Type 0
IsKey text key = (event : KeyEvent) × DescribesKey text event × (key ≡ ExactMatchEvent (Key event))

-- the key of a register is that of the mouse event that a text describes
abbrev pub IsMouse : List ℕ → EventWrapper → Type 0
IsMouse text key = (event : MouseEvent) × DescribesMouse text event × (key ≡ ExactMatchEvent (Mouse event))

-- the type of a statement that a text describes a key of a register
abbrev pub Describing : Type 1
Describing = List ℕ → EventWrapper → Type 0

-- the type of a statement that a text describes nothing, for an error
abbrev pub Faulting : Type 1
Faulting = List ℕ → DescriptionError → Type 0

-- the texts of a list describe these keys, one by one
abbrev pub Describe : {K : Type 0} → (List ℕ → K → Type 0) → List (List ℕ) → List K → Type 0
Describe Describes [] [] = ⊤
Describe Describes [] (key ∷ keys) = ⊥
Describe Describes (text ∷ texts) [] = ⊥
Describe Describes (text ∷ texts) (key ∷ keys) = Describes text key × Describe Describes texts keys

-- the text at this place of a list is the first one that describes nothing, and why
pub record IsFirstFault {K : Type 0} (Describes : List ℕ → K → Type 0) (Fault : Faulting)
    (texts : List (List ℕ)) (place : ℕ) (error : DescriptionError) : Type 0 where
  pub before : List K
  pub described : Describe Describes (take place texts) before
  pub text : List ℕ
  pub stands : slice_get texts place ≡ Some text
  pub fault : Fault text error

-- no text both describes a key and has a fault
abbrev pub NeverBoth : Describing → Faulting → Type 0
NeverBoth Describes Fault =
    (text : List ℕ) (key : EventWrapper) (error : DescriptionError) → Describes text key → Fault text error → ⊥
