-- A text takes no more columns than bytes.
use Rattle.std.proofs.Common.{◌≡◌, ℕ, ◌+◌, ◌≤◌, ◌<◌, false, unwrap_or, eqb, List, [], ◌∷◌, length, chars, encode_utf8, arith, ap, inl, inr, ◌&&◌}
use Rattle.std.specs.Char.{len_utf8}
use Rattle.std.specs.List.{sum_by, concat}
use Rattle.std.specs.Str.{encode_utf8_all, IsUtf8}
use Rattle.std.proofs.lemmas.Bool.{cases_Bool, cases_lt}
use Rattle.std.proofs.lemmas.Bool.Decides.{nat_tests}
use Rattle.std.proofs.lemmas.List.{length-append}
use Rattle.std.proofs.lemmas.List.Sums.{sum_by-cons}
use Rattle.std.proofs.lemmas.Str.{len_utf8_ascii, length-encode, encodes-append, encodes-chars, length-le-encodes}
use Rattle.unicode_width.specs.Width.{char_width, alone, single, of_kind}
use Rattle.unicode_width.specs.Kind.{kind}
use Rattle.unicode_width.specs.declared.kind.Kind.{Kind}
use Rattle.unicode_width.specs.declared.kind.Kind.TheVariants as kinds
use Rattle.unicode_width.proofs.Rules.{width_or_zero-le}
use Rattle.minus_text.specs.Units.{char_columns, begins_sequence, units, unit_columns, body_of, text_columns, columns}
use Rattle.minus_text.proofs.UnitsLaws.{units_join}

single_few : (c : ℕ) → c < 2048 → (single false c).0 ≤ 2
single_few c l = grind (arith, nat_tests)

kind_few : (c : ℕ) (k : Kind) → c < 2048 → (of_kind false c k).0 ≤ 2
kind_few c kinds.Zero l = omega arith
kind_few c kinds.Narrow l = omega arith
kind_few c kinds.Wide l = omega arith
kind_few c kinds.Ambiguous l = omega arith
kind_few c kinds.Alef l = omega arith
kind_few c kinds.KhmerLetter l = omega arith
kind_few c kinds.TifinaghConsonant l = omega arith
kind_few c kinds.LisuTone l = omega arith
kind_few c kinds.RegionalIndicator l = omega arith
kind_few c kinds.EmojiModifier l = omega arith
kind_few c kinds.Emoji l = omega arith
kind_few c kinds.Single l = single_few c l

ascii_few : (c : ℕ) → c < 128 → unwrap_or (char_width false c) 0 ≤ 1
unfolding char_width
ascii_few c l = grind (arith, nat_tests)

short_few : (c : ℕ) → c < 2048 → unwrap_or (char_width false c) 0 ≤ 2
unfolding char_width alone
short_few c l = grind (arith, nat_tests, kind_few c (kind c) l)

two_bytes : (c : ℕ) → 128 ≤ c → 2 ≤ len_utf8 c
two_bytes c g = grind (arith, nat_tests)

three_bytes : (c : ℕ) → 2048 ≤ c → 3 ≤ len_utf8 c
three_bytes c g = grind (arith, nat_tests)

-- a character takes a column a byte at most
pub char_few : (c : ℕ) → char_columns c ≤ len_utf8 c
unfolding char_columns
char_few c = elim (cases_lt c 128) [
  | inl l ↦ omega (arith, len_utf8_ascii c l, ascii_few c l)
  | inr g ↦ elim (cases_lt c 2048) [
    | inl m ↦ omega (arith, two_bytes c g, short_few c m)
    | inr h ↦
        let few : unwrap_or (char_width false c) 0 ≤ 3 = width_or_zero-le false c in
        omega (arith, three_bytes c h)
  ]
]

chars_few : (cs : List ℕ) → sum_by char_columns cs ≤ length (encode_utf8_all cs)
chars_few [] = omega arith
chars_few (c ∷ cs) = omega (arith, sum_by-cons char_columns c cs, char_few c, length-encode c, chars_few cs, length-append (encode_utf8 c) (encode_utf8_all cs))

unit_few : (u : List ℕ) → unit_columns u ≤ length (encode_utf8_all u)
unit_few u = elim (cases_Bool (begins_sequence u)) [
  | inl t ↦ rw t (omega arith)
  | inr f ↦ rw f (chars_few u)
]

units_few : (us : List (List ℕ)) → sum_by unit_columns us ≤ length (encode_utf8_all (concat us))
units_few [] = omega arith
units_few (u ∷ us) = omega (arith, sum_by-cons unit_columns u us, unit_few u, units_few us, ap length (encodes-append u (concat us)), length-append (encode_utf8_all u) (encode_utf8_all (concat us)))

body_few : (cs : List ℕ) → (length (encode_utf8_all (body_of cs)) + length cs ≤ length (encode_utf8_all cs) + length (body_of cs)) × (length (body_of cs) ≤ length cs)
body_few [] = (omega arith, omega arith)
body_few (c ∷ cs) = elim (cases_Bool (eqb c 32 && eqb (length (body_of cs)) 0)) [
  | inl t ↦ rw t (omega (arith, length-le-encodes (c ∷ cs)), omega arith)
  | inr f ↦
      let ih = body_few cs in
      rw f (omega (arith, ih.0, length-append (encode_utf8 c) (encode_utf8_all cs), length-append (encode_utf8 c) (encode_utf8_all (body_of cs))), omega (arith, ih.1))
]

-- a text takes no more columns than bytes
pub columns_few : (text : List ℕ) → IsUtf8 text → columns text ≤ length text
unfolding columns text_columns
columns_few text u =
    let cs : List ℕ = chars text in
    let body = body_few cs in
    let joined : concat (units (body_of cs)) ≡ body_of cs = units_join (body_of cs) in
    omega (arith, body.0, body.1, units_few (units (body_of cs)), ap (λ xs. length (encode_utf8_all xs)) joined, ap length (encodes-chars text u))
