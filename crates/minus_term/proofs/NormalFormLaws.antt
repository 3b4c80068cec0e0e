-- Letters and their capitals.
use Rattle.std.proofs.Common.{◌≡◌, ℕ, true, false, refl, arith, ◌∙◌, ap, bit_and, bit_or, eqb, Bool, inl, inr}
use Rattle.std.specs.Char.{is_ascii_lowercase, is_ascii_uppercase, to_ascii_uppercase}
use Rattle.std.specs.Cmp.{IsEquivalence}
use Rattle.std.specs.Int.Bits.{or_add_and}
use Rattle.std.proofs.lemmas.Nat.{and_or_self}
use Rattle.std.proofs.lemmas.Bool.{cases_Bool}
use Rattle.std.proofs.lemmas.Str.Ascii.{uppercase-uppercase}
use Rattle.std.proofs.lemmas.Bool.Decides.{nat_tests}
use Rattle.minus_term.specs.declared.event.KeyCode.TheVariants.{Char}
use Rattle.minus_term.specs.declared.event.KeyEvent.{KeyEvent}
use Rattle.minus_term.specs.declared.event.equality.NormalKey.{NormalKey}
use Rattle.minus_term.specs.NormalForm.{normal_form, with_code, shift}

-- what is reflexive holds of equals
pub from_equal : {K : Type 0} {E : K → K → Bool} → IsEquivalence E → (x y : K) → x ≡ y → E x y ≡ true
from_equal laws x y e = rw (← e) (laws.refl x)

small_is_no_capital : (letter : ℕ) → is_ascii_lowercase letter ≡ true → is_ascii_uppercase letter ≡ false
small_is_no_capital letter h = grind (arith, nat_tests)

raised_is_capital : (letter : ℕ) → is_ascii_lowercase letter ≡ true → is_ascii_uppercase (to_ascii_uppercase letter) ≡ true
raised_is_capital letter h = grind (arith, nat_tests)

or_again : (m a : ℕ) → bit_or (bit_or a m) m ≡ bit_or a m
or_again m a = omega (arith, or_add_and (bit_or a m) m, and_or_self m a)

-- the form that a letter and its capital share
abbrev pub shared_form : KeyEvent → ℕ → ℕ → NormalKey
shared_form key capital modifiers = record { code = Char capital; modifiers = record { 0 = bit_or modifiers shift }; kind = key.kind; state = key.state }

-- the normal form of a small letter with SHIFT
pub small_with_shift : (key : KeyEvent) (letter modifiers : ℕ) → is_ascii_lowercase letter ≡ true →
    normal_form (with_code key (Char letter) (bit_or modifiers shift)) ≡ shared_form key (to_ascii_uppercase letter) modifiers
small_with_shift key letter modifiers h = rw (small_is_no_capital letter h, and_or_self 1 modifiers) refl

capital_form : (key : KeyEvent) (capital modifiers : ℕ) → is_ascii_uppercase capital ≡ true → to_ascii_uppercase capital ≡ capital →
    normal_form (with_code key (Char capital) modifiers) ≡ shared_form key capital modifiers
capital_form key capital modifiers is raised = elim (cases_Bool (eqb (bit_and modifiers 1) 1)) [
  | inl t ↦ rw (is, t, raised) refl
  | inr f ↦ rw (is, f) refl
]

-- the normal form of its capital
pub capital : (key : KeyEvent) (letter modifiers : ℕ) → is_ascii_lowercase letter ≡ true →
    normal_form (with_code key (Char (to_ascii_uppercase letter)) modifiers) ≡ shared_form key (to_ascii_uppercase letter) modifiers
capital key letter modifiers h = capital_form key (to_ascii_uppercase letter) modifiers (raised_is_capital letter h) (uppercase-uppercase letter)

-- and with SHIFT
pub capital_with_shift : (key : KeyEvent) (letter modifiers : ℕ) → is_ascii_lowercase letter ≡ true →
    normal_form (with_code key (Char (to_ascii_uppercase letter)) (bit_or modifiers shift)) ≡ shared_form key (to_ascii_uppercase letter) modifiers
capital_with_shift key letter modifiers h =
    let again : shared_form key (to_ascii_uppercase letter) (bit_or modifiers shift) ≡ shared_form key (to_ascii_uppercase letter) modifiers
    = ap (λ m. let r : NormalKey = record { code = Char (to_ascii_uppercase letter); modifiers = record { 0 = m }; kind = key.kind; state = key.state } in r) (or_again 1 modifiers) in
    capital key letter (bit_or modifiers shift) h ∙ again
