-- The classifier that a session has at first.
use Rattle.std.specs.Prelude.{◌≡◌}
use Rattle.minus_input.specs.declared.classifier.Classifier.{Classifier}
use Rattle.minus_input.specs.declared.classifier.Classifier.TheVariants.{Register}
use Rattle.minus_input.specs.DefaultBindings.{default_register}
use Rattle.minus_input.specs.EventTables.{register_of}

-- it is a register of the default bindings, whose keys are hashed by the fixed seed
abbrev pub IsDefault : {C I : Type 0} {D : I → Type 0} → Classifier C I D → Type 0
IsDefault (Register register) = register_of register ≡ default_register
IsDefault other = ⊥
