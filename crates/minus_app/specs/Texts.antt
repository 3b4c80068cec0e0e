-- What a ready text has left to give, where that is known.
use Rattle.std.specs.Prelude.{List, ℕ, [], Option, None, Some, string_bytes}
use Rattle.std.specs.Option.{option_map, unwrap_or}
use Rattle.minus_app.specs.declared.text.Text.{Text}
use Rattle.minus_app.specs.declared.text.Origin.{Origin}
use Rattle.minus_app.specs.declared.text.Origin.TheVariants.{Fixed, File, Standard}

-- what an origin has left to give, if that is known: of a text that is given whole, all of it until it is given out
abbrev pub left_at : Origin → Option (List ℕ)
left_at (Fixed text) = Some (unwrap_or (option_map string_bytes text) [])
left_at (File file) = None
left_at (Standard input) = None

-- what a ready text has left to give, if that is known: of a text that is given whole, all of it until it is given out
abbrev pub left_in : Text → Option (List ℕ)
left_in text = left_at text.origin
