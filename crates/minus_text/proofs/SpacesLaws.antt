-- Laws on texts of spaces.
use Rattle.std.proofs.Common.{◌≡◌, ℕ, zero, suc, arith, ◌+◌, ◌-◌, ◌≤◌, List, ◌++◌, length, replicate, take, ap, ◌∙◌, append_assoc}
use Rattle.std.specs.Str.{IsAscii, IsCharBoundary}
use Rattle.std.proofs.lemmas.Str.{IsCharBoundary-from_ascii}
use Rattle.std.proofs.lemmas.Str.Ascii.{IsAscii-nil, IsAscii-cons}
use Rattle.std.proofs.lemmas.List.{length-replicate, take-replicate, replicate-append-replicate}

spaces_ascii : (n : ℕ) → IsAscii (replicate n 32)
spaces_ascii zero = IsAscii-nil
spaces_ascii (suc n) = IsAscii-cons 32 (replicate n 32) (omega arith) (spaces_ascii n)

-- where a text of spaces may be cut
pub spaces_cut : (k n : ℕ) → n ≤ k → IsCharBoundary (replicate k 32) n
spaces_cut k n h =
    let spaces : List ℕ = replicate k 32 in
    let count : length spaces ≡ k = length-replicate k 32 in
    IsCharBoundary-from_ascii spaces n (spaces_ascii k) (omega (arith, h, count))

spaces_joined : (j n k : ℕ) (piece : List ℕ) → n ≤ k → piece ≡ take n (replicate k 32) → replicate j 32 ++ piece ≡ replicate (j + n) 32
spaces_joined j n k piece h e = ap (λ bs. replicate j 32 ++ bs) (e ∙ take-replicate n k 32 h) ∙ replicate-append-replicate j n 32

spaces_added : (old a b piece : List ℕ) (j n k : ℕ) → n ≤ k → a ≡ old ++ replicate j 32 → piece ≡ take n (replicate k 32) → b ≡ a ++ piece → b ≡ old ++ replicate (j + n) 32
spaces_added old a b piece j n k h e g f = f ∙ ap (λ bs. bs ++ piece) e ∙ append_assoc old (replicate j 32) piece ∙ ap (λ bs. old ++ bs) (spaces_joined j n k piece h g)

-- one more piece of spaces
pub spaces_more : (old a b piece : List ℕ) (count left k n : ℕ) → left ≤ count → n ≤ left → n ≤ k → a ≡ old ++ replicate (count - left) 32 → piece ≡ take n (replicate k 32) → b ≡ a ++ piece
    → b ≡ old ++ replicate (count - (left - n)) 32
spaces_more old a b piece count left k n l m h e g f =
    let sum : count - left + n ≡ count - (left - n) = omega (arith, l, m) in
    rw (← sum) (spaces_added old a b piece (count - left) n k h e g f)
