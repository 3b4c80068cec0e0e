-- Laws on the columns of a text.
use Rattle.std.proofs.Common.{◌≡◌, ℕ, zero, suc, ◌+◌, ◌<◌, eqb, List, [], ◌∷◌, ◌++◌, length, replicate, get_or, chars, arith, refl, sym, ap, ◌∙◌, append_assoc, inl, inr, ◌≢◌}
use Rattle.std.specs.Str.{IsUtf8, encode_utf8_all}
use Rattle.std.specs.List.{sum_by}
use Rattle.std.proofs.lemmas.Bool.{cases_Bool, eqb-true}
use Rattle.std.proofs.lemmas.List.{length-append, length-replicate, nil_from_length}
use Rattle.std.proofs.lemmas.List.Sums.{sum_by-cons}
use Rattle.std.proofs.lemmas.Str.{chars-append, encodes-append, encodes-chars, chars-IsAscii}
use Rattle.minus_text.specs.Units.{body_of, units, unit_columns}
use Rattle.minus_text.specs.MeasuredPieces.{SplitsUnit}
use Rattle.minus_text.proofs.WordsLaws.{spaces_encode}

body_spaces : (n : ℕ) → body_of (replicate n 32) ≡ []
body_spaces zero = refl
body_spaces (suc n) = rw (body_spaces n) refl

-- spaces at the end are no part of the body
pub body_before : (cs : List ℕ) (n : ℕ) → body_of (cs ++ replicate n 32) ≡ body_of cs
body_before [] n = body_spaces n
body_before (c ∷ cs) n = rw (body_before cs n) refl

-- a text that ends with no space is its body
pub body_whole : (cs : List ℕ) → ((xs : List ℕ) → cs ≡ xs ++ 32 ∷ [] → ⊥) → body_of cs ≡ cs
body_whole [] h = refl
body_whole (c ∷ cs) h =
    let ih : body_of cs ≡ cs = body_whole cs (λ xs e. h (c ∷ xs) (ap (λ ys. c ∷ ys) e)) in
    elim (cases_Bool (eqb c 32)) [
      | inl e ↦ elim (cases_Bool (eqb (length cs) 0)) [
        | inl z ↦ absurd (h [] (let here : c ≡ 32 = eqb-true c 32 e in let nil : cs ≡ [] = nil_from_length cs (eqb-true (length cs) 0 z) in cc))
        | inr z ↦ rw (ih, e, z) refl
      ]
      | inr e ↦ rw (ih, e) refl
    ]

-- the body so far, and the spaces that are gone
pub record BodySoFar (text body : List ℕ) : Type 0 where
  pub spaces : ℕ
  pub text_is : text ≡ body ++ replicate spaces 32

-- one more space is gone
pub less_space : (text body front : List ℕ) → BodySoFar text body → body ≡ front ++ 32 ∷ [] → BodySoFar text front
less_space text body front h e =
    record { spaces = suc h.spaces; text_is = h.text_is ∙ ap (λ xs. xs ++ replicate h.spaces 32) e ∙ append_assoc front (32 ∷ []) (replicate h.spaces 32) }

-- the characters of the text are those of the body and the spaces
body_chars : (text body : List ℕ) → IsUtf8 body → (h : BodySoFar text body) → chars text ≡ chars body ++ replicate h.spaces 32
body_chars text body u h = ap chars h.text_is ∙ chars-append body (replicate h.spaces 32) u ∙ ap (λ xs. chars body ++ xs) (chars_spaces h.spaces)
  where
    chars_spaces : (n : ℕ) → chars (replicate n 32) ≡ replicate n 32
    chars_spaces n = chars-IsAscii (replicate n 32) (all_small n)
      where
        all_small : (n i : ℕ) → get_or (replicate n 32) i 0 < 128
        all_small zero i = omega arith
        all_small (suc n) zero = omega arith
        all_small (suc n) (suc i) = all_small n i

pub body_found : (text body : List ℕ) → IsUtf8 body → BodySoFar text body → ((front : List ℕ) → body ≢ front ++ 32 ∷ []) → chars body ≡ body_of (chars text)
body_found text body u h none =
    let no_space : (xs : List ℕ) → chars body ≡ xs ++ 32 ∷ [] → ⊥ =
    λ xs e. none (encode_utf8_all xs) (sym (encodes-chars body u) ∙ ap encode_utf8_all e ∙ encodes-append xs (32 ∷ []) ∙ ap (λ ys. encode_utf8_all xs ++ ys) (spaces_encode 1)) in
    sym (ap body_of (body_chars text body u h) ∙ body_before (chars body) h.spaces ∙ body_whole (chars body) no_space)

pub spaces_count : (text body : List ℕ) → IsUtf8 body → BodySoFar text body → length text + length (chars body) ≡ length (chars text) + length body
spaces_count text body u h =
    omega (arith, ap length (body_chars text body u h), ap length h.text_is, length-append (chars body) (replicate h.spaces 32), length-append body (replicate h.spaces 32), length-replicate {A = ℕ} h.spaces 32)

-- one more unit
pub columns_more : (width more : ℕ) (rest after all : List ℕ) → (h : SplitsUnit rest more after) → width + sum_by unit_columns (units rest) ≡ sum_by unit_columns (units all) → (width + more) + sum_by unit_columns (units after) ≡ sum_by unit_columns (units all)
columns_more width more rest after all h inv =
    let split = ap (sum_by unit_columns) h.first in
    omega (arith, split, sum_by-cons unit_columns h.unit (units after), h.columns, inv)
