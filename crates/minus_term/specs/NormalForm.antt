-- The normal form of a key: what keys are compared and hashed by.
use Rattle.std.specs.Prelude.{ℕ, List, ◌≡◌, ◌==◌, Bool, true, if◌then◌else◌}
use Rattle.std.specs.Int.RustNames.{bit_and, bit_or}
use Rattle.std.specs.Char.{is_ascii_lowercase, is_ascii_uppercase, to_ascii_uppercase}
use Rattle.minus_term.specs.declared.event.KeyCode.{KeyCode}
use Rattle.minus_term.specs.declared.event.KeyCode.TheVariants.{Char}
use Rattle.minus_term.specs.declared.event.KeyEvent.{KeyEvent}
use Rattle.minus_term.specs.declared.event.equality.NormalKey.{NormalKey}

-- the bit of SHIFT
abbrev pub shift : ℕ
shift = 1

-- the code: SHIFT makes an ASCII letter its capital
abbrev pub normal_code : KeyCode → ℕ → KeyCode
normal_code (Char c) modifiers = if bit_and modifiers shift == shift then Char (to_ascii_uppercase c) else Char c
normal_code other modifiers = other

-- the modifiers: an ASCII capital gets SHIFT
abbrev pub normal_modifiers : KeyCode → ℕ → ℕ
normal_modifiers (Char c) modifiers = if is_ascii_uppercase c then bit_or modifiers shift else modifiers
normal_modifiers other modifiers = modifiers

-- the normal form; kind and state stay
abbrev pub normal_form : KeyEvent → NormalKey
normal_form key = record {
  code = normal_code key.code key.modifiers.0;
  modifiers = record { 0 = normal_modifiers key.code key.modifiers.0 };
  kind = key.kind;
  state = key.state;
}

-- a key with another code and other modifiers
abbrev pub with_code : KeyEvent → KeyCode → ℕ → KeyEvent
with_code key code modifiers =
    record { code = code; modifiers = record { 0 = modifiers }; kind = key.kind; state = key.state }

-- what compares keys finds those of one normal form equal
abbrev pub KeysOfOneNormalFormAreEqual : (KeyEvent → KeyEvent → Bool) → Type 0
KeysOfOneNormalFormAreEqual equal = (a b : KeyEvent) → normal_form a ≡ normal_form b → equal a b ≡ true

-- keys that are found equal give a hasher the same writes
abbrev pub EqualKeysHashEqually : (KeyEvent → KeyEvent → Bool) → (KeyEvent → List (List ℕ)) → Type 0
EqualKeysHashEqually equal writes = (a b : KeyEvent) → equal a b ≡ true → writes a ≡ writes b

-- a small ASCII letter with SHIFT is found equal to its capital, with SHIFT or without
abbrev pub LettersWithShiftAreCapitals : (KeyEvent → KeyEvent → Bool) → Type 0
LettersWithShiftAreCapitals equal =
    (key : KeyEvent) (letter modifiers : ℕ) → is_ascii_lowercase letter ≡ true →
    (equal (with_code key (Char letter) (bit_or modifiers shift))
    (with_code key (Char (to_ascii_uppercase letter)) (bit_or modifiers shift)) ≡ true)
    × (equal (with_code key (Char letter) (bit_or modifiers shift))
    (with_code key (Char (to_ascii_uppercase letter)) modifiers) ≡ true)
