-- Laws of the character that some bytes spell.
use Rattle.std.proofs.Common.{ℕ, ◌≡◌, List, [], ◌∷◌, Bool, true, false, Option, None, refl, ap, ◌∙◌, length, arith, if◌then◌else◌}
use Rattle.std.specs.Str.{IsUtf8, is_utf8, chars}
use Rattle.std.proofs.lemmas.Str.{is_utf8-from_IsUtf8, IsUtf8-from_is_utf8}
use Rattle.minus_view.specs.Meaning.{one_of, character}
use Rattle.minus_view.specs.Meaning.{one_of, character}

-- a text of these characters
pub spells : (bs cs : List ℕ) → IsUtf8 bs → chars bs ≡ cs → character bs ≡ one_of cs
spells bs cs u e = ap (λ b. if b then one_of (chars bs) else None) (is_utf8-from_IsUtf8 bs u) ∙ ap one_of e

pub false_then : (b : Bool) (o : Option ℕ) → ¬ (b ≡ true) → (if b then o else None) ≡ None
false_then true o h = absurd (h refl)
false_then false o h = refl

-- bytes that are no text
pub spells_nothing : (bs : List ℕ) → ¬ (IsUtf8 bs) → character bs ≡ None
spells_nothing bs h = false_then (is_utf8 bs) (one_of (chars bs)) (λ e. h (IsUtf8-from_is_utf8 bs e))

pub nil_from_length : (bs : List ℕ) → length bs ≡ 0 → bs ≡ []
nil_from_length [] h = refl
nil_from_length (b ∷ bs) h = absurd (omega (arith, h))
