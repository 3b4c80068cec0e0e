-- Case by case.
use Rattle.std.proofs.Common.{refl, ◌≡◌}
use Rattle.minus_text.specs.declared.line_numbers.LineNumbers.{LineNumbers}
use Rattle.minus_text.specs.declared.line_numbers.LineNumbers.TheVariants.{AlwaysOn, Enabled, Disabled, AlwaysOff}
use Rattle.minus_text.specs.NumberPrefix.{toggled}
use Rattle.minus_text.proofs.line_numbers.numbers_toggle_twice.Goals as goal

twice : (numbers : LineNumbers) → toggled (toggled numbers) ≡ numbers
twice AlwaysOn = refl
twice Enabled = refl
twice Disabled = refl
twice AlwaysOff = refl

pub returns : goal.returns
returns c = record { twice = twice; on_stays = refl; off_stays = refl }
