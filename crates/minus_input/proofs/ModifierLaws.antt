-- The letters of modifiers: two are one, or share no bit.
use Rattle.std.proofs.Common.{◌≡◌, ◌⊎◌, ℕ, List, [], ◌∷◌, Some, eqb, bit_and, refl, sym, arith, ◌∙◌, ap, inl, inr, get_or}
use Rattle.std.proofs.lemmas.Bool.{cases_Bool, eqb-true}
use Rattle.std.proofs.lemmas.Option.{none-some, same_Some}
use Rattle.minus_input.specs.Names.{modifier_letter}

-- the letters of the modifiers, and their bits
pub letter_cases : (segment : List ℕ) (bit : ℕ) → modifier_letter segment ≡ Some bit →
    ((segment ≡ 109 ∷ []) × (bit ≡ 4)) ⊎ (((segment ≡ 99 ∷ []) × (bit ≡ 2)) ⊎ ((segment ≡ 115 ∷ []) × (bit ≡ 1)))
letter_cases [] bit h = absurd (none-some bit h)
letter_cases (a ∷ b ∷ more) bit h = absurd (none-some bit h)
letter_cases (a ∷ []) bit h = elim (cases_Bool (eqb a 109)) [
  | inl t ↦ inl (ap (λ c. c ∷ []) (eqb-true a 109 t), sym (same_Some 4 bit (rw t at h)))
  | inr f ↦
      let h2 = rw f at h in
      elim (cases_Bool (eqb a 99)) [
        | inl t ↦ inr (inl (ap (λ c. c ∷ []) (eqb-true a 99 t), sym (same_Some 2 bit (rw t at h2))))
        | inr f2 ↦
            let h3 = rw f2 at h2 in
            elim (cases_Bool (eqb a 115)) [
              | inl t ↦ inr (inr (ap (λ c. c ∷ []) (eqb-true a 115 t), sym (same_Some 1 bit (rw t at h3))))
              | inr f3 ↦ absurd (none-some bit (rw f3 at h3))
            ]
      ]
]

-- two modifiers are one, or share no bit and no letter
pub letters_apart : (s t : List ℕ) (a b : ℕ) → modifier_letter s ≡ Some a → modifier_letter t ≡ Some b →
    ((s ≡ t) × (a ≡ b)) ⊎ ((bit_and a b ≡ 0) × (s ≡ t → ⊥))
letters_apart s t a b h k = elim (letter_cases s a h) [
  | inl p ↦ elim (letter_cases t b k) [
    | inl q ↦ inl (p.0 ∙ sym q.0, p.1 ∙ sym q.1)
    | inr (inl q) ↦ inr (rw (p.1, q.1) refl, λ e. first_differs 109 99 (λ n. omega (arith, n)) (sym p.0 ∙ e ∙ q.0))
    | inr (inr q) ↦ inr (rw (p.1, q.1) refl, λ e. first_differs 109 115 (λ n. omega (arith, n)) (sym p.0 ∙ e ∙ q.0))
  ]
  | inr (inl p) ↦ elim (letter_cases t b k) [
    | inl q ↦ inr (rw (p.1, q.1) refl, λ e. first_differs 99 109 (λ n. omega (arith, n)) (sym p.0 ∙ e ∙ q.0))
    | inr (inl q) ↦ inl (p.0 ∙ sym q.0, p.1 ∙ sym q.1)
    | inr (inr q) ↦ inr (rw (p.1, q.1) refl, λ e. first_differs 99 115 (λ n. omega (arith, n)) (sym p.0 ∙ e ∙ q.0))
  ]
  | inr (inr p) ↦ elim (letter_cases t b k) [
    | inl q ↦ inr (rw (p.1, q.1) refl, λ e. first_differs 115 109 (λ n. omega (arith, n)) (sym p.0 ∙ e ∙ q.0))
    | inr (inl q) ↦ inr (rw (p.1, q.1) refl, λ e. first_differs 115 99 (λ n. omega (arith, n)) (sym p.0 ∙ e ∙ q.0))
    | inr (inr q) ↦ inl (p.0 ∙ sym q.0, p.1 ∙ sym q.1)
  ]
]
  where
    first_differs : (a b : ℕ) → (a ≡ b → ⊥) → a ∷ [] ≡ b ∷ [] → ⊥
    first_differs a b n e = n (ap (λ l. get_or l 0 0) e)
