-- How many digits a number has, a digit at a time.
use Rattle.std.proofs.Common.{◌≡◌, ℕ, zero, suc, ◌+◌, ◌*◌, ◌<◌, ◌≤◌, ◌/◌, ◌^◌, length, arith, ap, ◌∙◌}
use native.Mathlib.Nat.{pow-zero, pow-suc}
use Rattle.std.specs.Fmt.{decimal}
use Rattle.std.proofs.lemmas.Fmt.{decimal-digits_of, decimal_digit}
use Rattle.std.proofs.lemmas.Int.Digits.{length-digits_of_step}
use Rattle.std.specs.Int.Digits.{digits_of}
use Rattle.std.proofs.lemmas.List.{length-map}

-- the last digit is one more than those of the number without it
pub length-decimal_step : (n : ℕ) → 10 ≤ n → n < 2 ^ 64 → length (decimal n) ≡ length (decimal (n / 10)) + 1
length-decimal_step n big fits =
    let some : 0 < n / 10 = omega arith in
    let small : n / 10 < 2 ^ 64 = omega arith in
    let all : length (decimal n) ≡ length (digits_of 10 n) = ap length (decimal-digits_of n (omega arith) fits) ∙ length-map (digits_of 10 n) (λ d. 48 + d) in
    let front : length (decimal (n / 10)) ≡ length (digits_of 10 (n / 10)) = ap length (decimal-digits_of (n / 10) some small) ∙ length-map (digits_of 10 (n / 10)) (λ d. 48 + d) in
    let step = length-digits_of_step 10 n (omega arith) (omega arith) in
    omega arith

pub length-decimal_digit : (n : ℕ) → n < 10 → length (decimal n) ≡ 1
length-decimal_digit n small = ap length (decimal_digit n small)

-- a number from a power of ten on and below the next has one digit more than the power
pub length-decimal_power : (k n : ℕ) → 10 ^ k ≤ n → n < 10 * 10 ^ k → n < 2 ^ 64 → length (decimal n) ≡ k + 1
length-decimal_power zero n low high fits = length-decimal_digit n (omega (arith, pow-zero 10))
length-decimal_power (suc k) n low high fits =
    let power : 10 ^ suc k ≡ 10 ^ k * 10 = pow-suc 10 k in
    let some : 1 ≤ 10 ^ k = pow-some k in
    let ih = length-decimal_power k (n / 10) (omega arith) (omega arith) (omega arith) in
    omega (arith, length-decimal_step n (omega arith) fits, ih)
  where
    pow-some : (j : ℕ) → 1 ≤ 10 ^ j
    pow-some zero = omega (arith, pow-zero 10)
    pow-some (suc j) = omega (arith, pow-suc 10 j, pow-some j)
