-- Laws on lists that are cut again and again.
use Rattle.std.proofs.Common.{◌≡◌, ℕ, zero, suc, ◌≤◌, ◌<◌, List, [], ◌∷◌, ◌++◌, length, take, drop, arith, refl, ap, ◌∙◌}
use Rattle.std.specs.List.{concat}
use Rattle.std.proofs.lemmas.List.{length-drop, take-append-drop}
use Rattle.minus_text.specs.Cuts.{cuts, cuts_up_to}

-- each list that is not empty has a first part that is not
abbrev pub IsCutRule : {X : Type 0} → (List X → ℕ) → Type 0
IsCutRule {X} rule = (x : X) (xs : List X) → 0 < rule (x ∷ xs)

-- more steps than elements change nothing
enough : {X : Type 0} (rule : List X → ℕ) → IsCutRule rule → (m n : ℕ) (xs : List X) → length xs ≤ m → length xs ≤ n → cuts_up_to m rule xs ≡ cuts_up_to n rule xs
enough rule h zero zero xs a b = refl
enough rule h zero (suc n) [] a b = refl
enough rule h zero (suc n) (x ∷ xs) a b = absurd (omega arith)
enough rule h (suc m) zero [] a b = refl
enough rule h (suc m) zero (x ∷ xs) a b = absurd (omega arith)
enough rule h (suc m) (suc n) [] a b = refl
enough rule h (suc m) (suc n) (x ∷ xs) a b =
    let some : 0 < rule (x ∷ xs) = h x xs in
    let less = length-drop (rule (x ∷ xs)) (x ∷ xs) in
    ap (λ ys. take (rule (x ∷ xs)) (x ∷ xs) ∷ ys) (enough rule h m n (drop (rule (x ∷ xs)) (x ∷ xs)) (omega arith) (omega arith))

pub cuts-nil : {X : Type 0} (rule : List X → ℕ) → cuts rule [] ≡ []
unfolding cuts
cuts-nil rule = refl

-- the first part, and then those of what follows it
pub cuts-cons : {X : Type 0} (rule : List X → ℕ) → IsCutRule rule → (x : X) (xs : List X) → cuts rule (x ∷ xs) ≡ take (rule (x ∷ xs)) (x ∷ xs) ∷ cuts rule (drop (rule (x ∷ xs)) (x ∷ xs))
unfolding cuts
cuts-cons rule h x xs =
    let some : 0 < rule (x ∷ xs) = h x xs in
    let less = length-drop (rule (x ∷ xs)) (x ∷ xs) in
    ap (λ ys. take (rule (x ∷ xs)) (x ∷ xs) ∷ ys) (enough rule h (length xs) (length (drop (rule (x ∷ xs)) (x ∷ xs))) (drop (rule (x ∷ xs)) (x ∷ xs)) (omega arith) (omega arith))

-- a part and what follows it
pub cuts_first : {X : Type 0} (rule : List X → ℕ) → IsCutRule rule → (xs front rest : List X) → 0 < length xs → front ≡ take (rule xs) xs → rest ≡ drop (rule xs) xs → cuts rule xs ≡ front ∷ cuts rule rest
cuts_first rule h [] front rest some e f = absurd (omega arith)
cuts_first rule h (x ∷ xs) front rest some e f = rw (e, f) (cuts-cons rule h x xs)

joined_up_to : (rule : List ℕ → ℕ) → IsCutRule rule → (n : ℕ) (xs : List ℕ) → length xs ≤ n → concat (cuts_up_to n rule xs) ≡ xs
joined_up_to rule h zero [] l = refl
joined_up_to rule h zero (x ∷ xs) l = absurd (omega arith)
joined_up_to rule h (suc n) [] l = refl
joined_up_to rule h (suc n) (x ∷ xs) l =
    let some : 0 < rule (x ∷ xs) = h x xs in
    let less = length-drop (rule (x ∷ xs)) (x ∷ xs) in
    ap (λ ys. take (rule (x ∷ xs)) (x ∷ xs) ++ ys) (joined_up_to rule h n (drop (rule (x ∷ xs)) (x ∷ xs)) (omega arith)) ∙ take-append-drop (rule (x ∷ xs)) (x ∷ xs)

-- the parts, one after another, are the list
pub cuts_join : (rule : List ℕ → ℕ) → IsCutRule rule → (xs : List ℕ) → concat (cuts rule xs) ≡ xs
unfolding cuts
cuts_join rule h xs = joined_up_to rule h (length xs) xs (omega arith)
