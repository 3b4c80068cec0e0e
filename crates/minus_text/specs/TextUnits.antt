-- The units of a text taken as one piece, a body and the spaces after it.
use Rattle.std.specs.Prelude.{ℕ, ◌-◌, List, [], ◌∷◌, ◌++◌, length, replicate, chars}
use Rattle.minus_text.specs.Units.{units, body_of}
use Rattle.minus_text.specs.declared.units.Units.{Units}

-- the units of the body, and each of the spaces. A text is here the list of its characters
unfoldable pub text_units : List ℕ → List (List ℕ)
text_units cs = units (body_of cs) ++ replicate (length cs - length (body_of cs)) (32 ∷ [])

-- the units that are left, and their bytes
unfoldable pub units_left : Units → List (List ℕ)
units_left u = units (chars u.body.now) ++ replicate u.spaces (32 ∷ [])

-- the bytes of the units that are left
unfoldable pub bytes_left : Units → List ℕ
bytes_left u = u.body.now ++ replicate u.spaces 32
