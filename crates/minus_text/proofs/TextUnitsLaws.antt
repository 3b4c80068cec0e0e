-- Laws on the units of a text taken as one piece.
use Rattle.std.proofs.Common.{◌≡◌, ℕ, zero, suc, ◌+◌, ◌-◌, ◌<◌, ◌≤◌, ◌&&◌, eqb, List, [], ◌∷◌, ◌++◌, length, replicate, chars, arith, refl, sym, ap, ◌∙◌, append_assoc, inl, inr}
use Rattle.std.specs.List.{concat, sum_by}
use Rattle.std.specs.Str.{IsUtf8, encode_utf8_all}
use Rattle.std.proofs.lemmas.Bool.{cases_Bool, and_parts, eqb-true}
use Rattle.std.proofs.lemmas.List.{append-nil, append_cancel_right, length-append, length-replicate, nil_from_length}
use Rattle.std.proofs.lemmas.List.Sums.{sum_by-cons}
use Rattle.std.proofs.lemmas.Str.{chars-append, chars-nil, chars-IsAscii, encodes-append, encodes-chars}
use Rattle.std.proofs.lemmas.Str.Ascii.{IsAscii-nil, IsAscii-cons}
use Rattle.minus_text.specs.Units.{units, unit_len, unit_columns, body_of}
use Rattle.minus_text.specs.TextUnits.{text_units}
use Rattle.minus_text.specs.MeasuredPieces.{SplitsUnit}
use Rattle.minus_text.proofs.CutsLaws.{cuts-nil, cuts-cons}
use Rattle.minus_text.proofs.FrontsLaws.{concat-append}
use Rattle.minus_text.proofs.PlainLaws.{printable_column}
use Rattle.minus_text.proofs.UnitsLaws.{units_join, unit_rule}
use Rattle.minus_text.proofs.WordsLaws.{spaces_encode}

-- a text is its body and the spaces that end it
pub body_and_spaces : (cs : List ℕ) → cs ≡ body_of cs ++ replicate (length cs - length (body_of cs)) 32
body_and_spaces [] = refl
body_and_spaces (c ∷ cs) =
    let ih = body_and_spaces cs in
    elim (cases_Bool (eqb c 32 && eqb (length (body_of cs)) 0)) [
      | inl t ↦
          let both = and_parts (eqb c 32) (eqb (length (body_of cs)) 0) t in
          let space : c ≡ 32 = eqb-true c 32 both.0 in
          let none : body_of cs ≡ [] = nil_from_length (body_of cs) (eqb-true (length (body_of cs)) 0 both.1) in
          let all : cs ≡ replicate (length cs) 32 = all_spaces cs none ih in
          let count : suc (length cs) - 0 ≡ suc (length cs) = omega arith in rw t (rw (count, space) (ap (λ xs. 32 ∷ xs) all))
      | inr f ↦ rw f (ap (λ xs. c ∷ xs) (more cs ih))
    ]
  where
    all_spaces : (cs : List ℕ) → body_of cs ≡ [] → cs ≡ body_of cs ++ replicate (length cs - length (body_of cs)) 32 → cs ≡ replicate (length cs) 32
    all_spaces cs none ih = let all : length cs - 0 ≡ length cs = omega arith in ih ∙ ap (λ xs. xs ++ replicate (length cs - length xs) 32) none ∙ ap (λ n. replicate n 32) all

    more : (cs : List ℕ) → cs ≡ body_of cs ++ replicate (length cs - length (body_of cs)) 32 → cs ≡ body_of cs ++ replicate (suc (length cs) - suc (length (body_of cs))) 32
    more cs ih = let e : suc (length cs) - suc (length (body_of cs)) ≡ length cs - length (body_of cs) = omega arith in rw e ih

pub concat_spaces : (n : ℕ) → concat (replicate n (32 ∷ [])) ≡ replicate n 32
concat_spaces zero = refl
concat_spaces (suc n) = ap (λ xs. 32 ∷ xs) (concat_spaces n)

-- the units of a text, one after another, are the text
pub text_units_join : (cs : List ℕ) → concat (text_units cs) ≡ cs
unfolding text_units
text_units_join cs =
    let n : ℕ = length cs - length (body_of cs) in
    concat-append (units (body_of cs)) (replicate n (32 ∷ [])) ∙ ap (λ xs. xs ++ concat (replicate n (32 ∷ []))) (units_join (body_of cs)) ∙ ap (λ xs. body_of cs ++ xs) (concat_spaces n) ∙ sym (body_and_spaces cs)

pub space_columns : unit_columns (32 ∷ []) ≡ 1
space_columns = ap (λ n. 0 + n) (printable_column 32 refl)

pub spaces_columns : (n : ℕ) → sum_by unit_columns (replicate n (32 ∷ [])) ≡ n
spaces_columns zero = refl
spaces_columns (suc n) = omega (arith, sum_by-cons unit_columns (32 ∷ []) (replicate n (32 ∷ [])), space_columns, spaces_columns n)

-- what stands before the rest of a text is its first unit
pub front_is_unit : (text front rest unit : List ℕ) → IsUtf8 front → text ≡ front ++ rest → chars text ≡ unit ++ chars rest → chars front ≡ unit
front_is_unit text front rest unit u e h = append_cancel_right (chars front) unit (chars rest) (sym (ap chars e ∙ chars-append front rest u) ∙ h)

-- a text is measured as its body and the spaces behind
pub text_from_body : (text body : List ℕ) (n : ℕ) → IsUtf8 text → IsUtf8 body → chars body ≡ body_of (chars text) → length text + length (chars body) ≡ length (chars text) + length body → length body ≤ length text → n ≡ length text - length body
    → (units (chars body) ++ replicate n (32 ∷ []) ≡ text_units (chars text)) × (body ++ replicate n 32 ≡ text)
unfolding text_units
text_from_body text body n u v h spaces room e =
    let cs : List ℕ = chars text in
    let m : ℕ = length cs - length (body_of cs) in
    let same = ap length h in
    let count : n ≡ m = omega (arith, e, spaces, room, same) in
    let bytes : encode_utf8_all (body_of cs) ≡ body = ap encode_utf8_all (sym h) ∙ encodes-chars body v in
    let all : text ≡ body ++ replicate m 32 =
    sym (encodes-chars text u) ∙ ap encode_utf8_all (body_and_spaces cs) ∙ encodes-append (body_of cs) (replicate m 32) ∙ ap (λ xs. xs ++ encode_utf8_all (replicate m 32)) bytes ∙ ap (λ xs. body ++ xs) (spaces_encode m) in
    (ap (λ xs. units xs ++ replicate n (32 ∷ [])) h ∙ ap (λ k. units (body_of cs) ++ replicate k (32 ∷ [])) count, ap (λ k. body ++ replicate k 32) count ∙ sym all)

pub space_chars : chars (32 ∷ []) ≡ 32 ∷ []
space_chars = chars-IsAscii (32 ∷ []) (IsAscii-cons 32 [] (omega arith) IsAscii-nil)

pub length_left : (body : List ℕ) (n : ℕ) → length (body ++ replicate n 32) ≡ length body + n
length_left body n = omega (arith, length-append body (replicate n 32), length-replicate {A = ℕ} n 32)

-- the first unit of a body, and what is left behind it
pub record LeftFirst (body rest front : List ℕ) (n columns : ℕ) : Type 0 where
  pub first : units (chars body) ++ replicate n (32 ∷ []) ≡ chars front ∷ (units (chars rest) ++ replicate n (32 ∷ []))
  pub columns_are : columns ≡ unit_columns (chars front)
  pub bytes : body ++ replicate n 32 ≡ front ++ (rest ++ replicate n 32)
  pub size : length body ≡ length front + length rest

pub left_first : (body rest front : List ℕ) (n columns : ℕ) → IsUtf8 front → body ≡ front ++ rest → SplitsUnit (chars body) columns (chars rest) → LeftFirst body rest front n columns
left_first body rest front n columns u e h =
    let unit : chars front ≡ h.unit = front_is_unit body front rest h.unit u e h.joins in
    record {
      first = ap (λ us. us ++ replicate n (32 ∷ [])) h.first ∙ ap (λ v. v ∷ (units (chars rest) ++ replicate n (32 ∷ []))) (sym unit);
      columns_are = h.columns ∙ ap unit_columns (sym unit);
      bytes = ap (λ bs. bs ++ replicate n 32) e ∙ append_assoc front rest (replicate n 32);
      size = ap length e ∙ length-append front rest;
    }

pub none_of : (body : List ℕ) → length body ≡ 0 → units (chars body) ≡ []
none_of body z = let none : body ≡ [] = nil_from_length body z in rw none (rw chars-nil (cuts-nil unit_len))

-- with no body, a space is the first unit
pub left_space : (body : List ℕ) (n : ℕ) → length body ≡ 0 → 0 < n → (units (chars body) ++ replicate n (32 ∷ []) ≡ chars (32 ∷ []) ∷ (units (chars body) ++ replicate (n - 1) (32 ∷ []))) × (body ++ replicate n 32 ≡ 32 ∷ (body ++ replicate (n - 1) 32))
left_space body zero z l = absurd (omega arith)
left_space body (suc n) z l =
    let none : body ≡ [] = nil_from_length body z in
    let less : suc n - 1 ≡ n = omega arith in
    (rw less (ap (λ us. us ++ replicate (suc n) (32 ∷ [])) (none_of body z) ∙ ap (λ u. u ∷ replicate n (32 ∷ [])) (sym space_chars) ∙ ap (λ us. chars (32 ∷ []) ∷ (us ++ replicate n (32 ∷ []))) (sym (none_of body z))), rw (less, none) refl)

pub left_none : (body : List ℕ) (n : ℕ) → length body ≡ 0 → n ≡ 0 → units (chars body) ++ replicate n (32 ∷ []) ≡ []
left_none body n z e = rw e (append-nil (units (chars body)) ∙ none_of body z)

-- a body that is not empty has a unit
pub some_left : (body : List ℕ) (n : ℕ) → IsUtf8 body → 0 < length body → 0 < length (units (chars body) ++ replicate n (32 ∷ []))
some_left body n u l = some_units (chars body) (replicate n (32 ∷ [])) (λ e. let none : body ≡ [] = sym (encodes-chars body u) ∙ ap encode_utf8_all e in let z = ap length none in omega arith)
  where
    some_units : (cs : List ℕ) (us : List (List ℕ)) → (cs ≡ [] → ⊥) → 0 < length (units cs ++ us)
    some_units [] us h = absurd (h refl)
    some_units (c ∷ cs) us h = let first = ap (λ vs. length (vs ++ us)) (cuts-cons unit_len unit_rule c cs) in omega (arith, first)
