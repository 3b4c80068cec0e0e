-- Laws of what is held.
use Rattle.std.proofs.Common.{◌≤◌, Option, Some, None, length, arith}
use Rattle.std.proofs.lemmas.Str.{length-encode, len_utf8_bounds}
use Rattle.minus_view.specs.declared.look.Glyph.{Glyph}
use Rattle.minus_view.specs.Prepared.{glyph_bytes}

-- a character has at most four bytes
pub length-glyph : (glyph : Option Glyph) → length (glyph_bytes glyph) ≤ 4
length-glyph (Some glyph) = omega (arith, length-encode glyph.c, (len_utf8_bounds glyph.c).1)
length-glyph None = omega arith
