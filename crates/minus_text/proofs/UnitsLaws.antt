-- Laws on units and their columns.
use Rattle.std.proofs.Common.{◌≡◌, ◌≢◌, ℕ, eqb, ◌+◌, ◌*◌, ◌≤◌, ◌<◌, false, unwrap_or, suc, List, [], ◌∷◌, take, drop, zero-add, arith, refl, sym, ap, ◌∙◌, inl, inr}
use Rattle.std.specs.Char.{len_utf8}
use Rattle.std.proofs.lemmas.Bool.{cases_Bool, cases_lt, ne_eqb}
use Rattle.std.proofs.lemmas.Bool.Decides.{nat_tests}
use Rattle.std.proofs.lemmas.Str.{len_utf8_ascii}
use Rattle.unicode_width.specs.Width.{char_width}
use Rattle.unicode_width.proofs.Rules.{width_or_zero-le}
use Rattle.std.specs.List.{concat, position_or_len}
use Rattle.std.proofs.lemmas.List.{take-append-drop}
use Rattle.minus_text.specs.Units.{char_columns, units, unit_len, begins_sequence, is_final}
use Rattle.minus_text.specs.Cuts.{cuts}
use Rattle.minus_text.specs.MeasuredPieces.{SplitsUnit}
use Rattle.minus_text.proofs.CutsLaws.{IsCutRule, cuts_first, cuts_join}

ascii_width : (c : ℕ) → c < 128 → unwrap_or (char_width false c) 0 ≤ 2
unfolding char_width
ascii_width c l = grind (arith, nat_tests)

long : (c : ℕ) → 128 ≤ c → 2 ≤ len_utf8 c
long c g = grind (arith, nat_tests)

-- a character takes two columns a byte at most
pub char_columns-le : (c : ℕ) → char_columns c ≤ 2 * len_utf8 c
unfolding char_columns
char_columns-le c =
    elim (cases_lt c 128) [
      | inl l ↦
          let one : len_utf8 c ≡ 1 = len_utf8_ascii c l in
          let few : unwrap_or (char_width false c) 0 ≤ 2 = ascii_width c l in
          omega arith
      | inr g ↦
          let two : 2 ≤ len_utf8 c = long c g in
          let few : unwrap_or (char_width false c) 0 ≤ 3 = width_or_zero-le false c in
          omega arith
    ]

-- every unit has a character at least
pub unit_rule : IsCutRule unit_len
unit_rule c cs = elim (cases_Bool (begins_sequence (c ∷ cs))) [
  | inl e ↦ rw e (omega arith)
  | inr e ↦ rw e (omega arith)
]

-- a sequence is a unit without columns
pub unit_sequence : (cs inside rest : List ℕ) → cs ≡ 27 ∷ 91 ∷ inside → rest ≡ drop (position_or_len is_final inside + 1) inside → SplitsUnit cs 0 rest
unit_sequence cs inside rest e f =
    let n : ℕ = position_or_len is_final inside + 1 in
    let two : 2 + n ≡ suc (suc n) = omega arith in
    let whole : List ℕ = 27 ∷ 91 ∷ inside in
    let len : unit_len whole ≡ suc (suc n) = two in
    let front : List ℕ = 27 ∷ 91 ∷ take n inside in
    let cut : cuts unit_len whole ≡ front ∷ cuts unit_len rest = cuts_first unit_len unit_rule whole front rest (omega arith) (rw len refl) (rw len f) in
    rw e (record {
      unit = front;
      some = omega arith;
      joins = rw f (ap (λ xs. 27 ∷ 91 ∷ xs) (sym (take-append-drop n inside)));
      first = cut;
      columns = refl;
    })

-- no sequence begins with another character than ESC
pub no_escape : (cs rest : List ℕ) (c : ℕ) → cs ≡ c ∷ rest → c ≢ 27 → begins_sequence cs ≡ false
no_escape cs [] c e n = ap begins_sequence e
no_escape cs (d ∷ rest) c e n = let f : eqb c 27 ≡ false = ne_eqb c 27 n in rw e (rw f refl)

-- any other character is a unit
pub unit_character : (cs rest : List ℕ) (c width : ℕ) → cs ≡ c ∷ rest → begins_sequence cs ≡ false → width ≡ char_columns c → SplitsUnit cs width rest
unit_character cs rest c width e alone w =
    let plain : begins_sequence (c ∷ rest) ≡ false = rw e at alone in
    let len : unit_len (c ∷ rest) ≡ 1 = rw plain refl in
    let cut : cuts unit_len (c ∷ rest) ≡ (c ∷ []) ∷ cuts unit_len rest = cuts_first unit_len unit_rule (c ∷ rest) (c ∷ []) rest (omega arith) (rw len refl) (rw len refl) in
    rw e (record {
      unit = c ∷ [];
      some = omega arith;
      joins = refl;
      first = cut;
      columns = w ∙ sym (zero-add (char_columns c));
    })

-- the units of a text, one after another, are the text
pub units_join : (cs : List ℕ) → concat (units cs) ≡ cs
units_join cs = cuts_join unit_len unit_rule cs
