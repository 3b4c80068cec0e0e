-- The number of a text.
use Rattle.std.proofs.Common.{◌≡◌, ℕ, ◌<◌, ◌^◌, List, length, Result, Ok, Err, Option, Some, None, true, ltb, refl, sym, ◌∙◌, ap, ◌&&◌}
use Rattle.std.specs.Prelude.{⊤}
use Rattle.std.specs.Result.{result_ok}
use Rattle.std.specs.Option.{ok_or}
use Rattle.std.specs.Str.{all_ascii_digits}
use Rattle.std.specs.Str.Parse.{ParsesUnsigned, IsNumeral, without_leading_plus, digits_value}
use Rattle.std.proofs.lemmas.Str.Parse.{IsNumeralModel, numerals_by_value, tells_all_ascii_digits}
use Rattle.std.proofs.lemmas.Bool.{lt-ltb, ltb-true, cond-true, cond-false, and_from, and_parts, false_from_ne_true}
use Rattle.std.proofs.lemmas.Option.{cond_some, none-some}
use Rattle.minus_input.specs.Number.{is_numeral, fitting_value, usize_of, UsizeIsParsed}

decimals : IsNumeralModel (λ ds. all_ascii_digits ds ≡ true) (digits_value 10)
decimals = numerals_by_value _ tells_all_ascii_digits

-- a numeral that fits has its value
fits : (ds : List ℕ) → IsNumeral 10 ds → digits_value 10 ds < 2 ^ 64 → fitting_value ds ≡ Some (digits_value 10 ds)
fits ds is small =
    cond-true (is_numeral ds && ltb (digits_value 10 ds) (2 ^ 64)) (Some (digits_value 10 ds)) None
    (and_from (is_numeral ds) (ltb (digits_value 10 ds) (2 ^ 64))
    (and_from (ltb 0 (length ds)) (all_ascii_digits ds) (lt-ltb 0 (length ds) is.0) (decimals.from ds is.1))
    (lt-ltb (digits_value 10 ds) (2 ^ 64) small))

-- and nothing else has one
unfit : (ds : List ℕ) → (IsNumeral 10 ds × (digits_value 10 ds < 2 ^ 64) → ⊥) → fitting_value ds ≡ None
unfit ds never =
    cond-false (is_numeral ds && ltb (digits_value 10 ds) (2 ^ 64)) (Some (digits_value 10 ds)) None
    (false_from_ne_true (is_numeral ds && ltb (digits_value 10 ds) (2 ^ 64))
    (λ t.
    let both = and_parts (is_numeral ds) (ltb (digits_value 10 ds) (2 ^ 64)) t in
    let digits = and_parts (ltb 0 (length ds)) (all_ascii_digits ds) both.0 in
    never ((ltb-true 0 (length ds) digits.0, decimals.to ds digits.1), ltb-true (digits_value 10 ds) (2 ^ 64) both.1)))

-- what parse reads is the number of the text
pub read_number : {E : Type 0} (text : List ℕ) (r : Result ℕ E) → ParsesUnsigned 64 10 text r → result_ok r ≡ usize_of text
read_number text (Ok n) h = ap Some h.1 ∙ sym (fits (without_leading_plus text) h.0.0 h.0.1)
read_number text (Err e) h = sym (unfit (without_leading_plus text) h)

parses_value : (text : List ℕ) (v : Option ℕ) → v ≡ usize_of text → ParsesUnsigned 64 10 text (ok_or {T = ℕ} {E = ⊤} v (tt {0}))
parses_value text (Some n) h =
    let ds = without_leading_plus text in
    let has = cond_some (is_numeral ds && ltb (digits_value 10 ds) (2 ^ 64)) (digits_value 10 ds) n (sym h) in
    let both = and_parts (is_numeral ds) (ltb (digits_value 10 ds) (2 ^ 64)) has.0 in
    let digits = and_parts (ltb 0 (length ds)) (all_ascii_digits ds) both.0 in
    (((ltb-true 0 (length ds) digits.0, decimals.to ds digits.1), ltb-true (digits_value 10 ds) (2 ^ 64) both.1), sym has.1)
parses_value text None h = λ is. none-some (digits_value 10 (without_leading_plus text)) (h ∙ fits (without_leading_plus text) is.0 is.1)

pub usize_parses : UsizeIsParsed
usize_parses text = parses_value text (usize_of text) refl
