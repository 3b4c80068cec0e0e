-- Laws on fronts that are found unit by unit.
use Rattle.std.proofs.Common.{◌≡◌, ℕ, ◌+◌, ◌≤◌, ◌<◌, Bool, true, false, cond, nat_le, leb, ltb, List, [], ◌∷◌, ◌++◌, length, arith, refl, sym, ap, ◌∙◌, append_assoc, inl, inr}
use mir.Val.{bool_byte}
use Rattle.std.specs.List.{concat, sum_by, count_by}
use Rattle.std.proofs.lemmas.Bool.{cases_Bool, le-leb, or_left, or_right}
use Rattle.std.proofs.lemmas.List.{append-nil, length_push}
use Rattle.std.proofs.lemmas.List.Sums.{sum_by-append}
use Rattle.minus_text.specs.Units.{units, unit_columns}
use Rattle.minus_text.specs.Fronts.{is_wide, fits_front}
use Rattle.minus_text.specs.MeasuredPieces.{SplitsUnit, SplitsFront}

pub concat-append : (xs ys : List (List ℕ)) → concat (xs ++ ys) ≡ concat xs ++ concat ys
concat-append [] ys = refl
concat-append (x ∷ xs) ys = ap (λ zs. x ++ zs) (concat-append xs ys) ∙ sym (append_assoc x (concat xs) (concat ys))

-- the units so far fit, and these are their columns and how many have columns; bytes are counted too
pub record SoFar (cols : ℕ) (all rest : List ℕ) (width wide size left : ℕ) : Type 0 where
  pub seen : List (List ℕ)
  pub joins : all ≡ concat seen ++ rest
  pub first : units all ≡ seen ++ units rest
  pub columns : width ≡ sum_by unit_columns seen
  pub wides : wide ≡ count_by is_wide seen
  pub fitting : fits_front cols seen ≡ true
  pub begun : left < size → 0 < length seen
  pub less : 0 < length seen → left < size

-- a `bool` as a number
pub as_number : (b : Bool) → bool_byte b ≡ cond b 1 0
as_number true = refl
as_number false = refl

-- how many more have columns
pub wide_one : (u : List ℕ) (more count wide : ℕ) → more ≡ unit_columns u → count ≡ wide + cond (ltb 0 more) 1 0 → count ≡ wide + cond (is_wide u) 1 0
wide_one u more count wide e f = rw (← e) f

-- one more unit fits
pub one_more : (cols : ℕ) (all rest after : List ℕ) (width wide more count size left left' : ℕ) → SoFar cols all rest width wide size left → (h : SplitsUnit rest more after)
    → count ≡ wide + cond (ltb 0 more) 1 0 → left' < left → left ≤ size → fits_front cols (h.unit ∷ []) ≡ true → ((width + more ≤ cols → ⊥) → count ≤ 1) → SoFar cols all after (width + more) count size left'
one_more cols all rest after width wide more count size left left' s h e less within single fits =
    let us : List (List ℕ) = s.seen ++ h.unit ∷ [] in
    let sum : width + more ≡ sum_by unit_columns us = omega (arith, s.columns, h.columns, sum_by-append unit_columns s.seen (h.unit ∷ [])) in
    let number : count ≡ count_by is_wide us = omega (arith, s.wides, wide_one h.unit more count wide h.columns e, sum_by-append (λ u. cond (is_wide u) 1 0) s.seen (h.unit ∷ [])) in
    record {
      seen = us;
      joins = s.joins ∙ ap (λ xs. concat s.seen ++ xs) h.joins ∙ sym (append_assoc (concat s.seen) h.unit after) ∙ ap (λ xs. xs ++ after) (sym (concat-append s.seen (h.unit ∷ []) ∙ ap (λ xs. concat s.seen ++ xs) (append-nil h.unit)));
      first = s.first ∙ ap (λ xs. s.seen ++ xs) h.first ∙ sym (append_assoc s.seen (h.unit ∷ []) (units after));
      columns = sum;
      wides = number;
      fitting = elim (cases_Bool (leb (width + more) cols)) [
        | inl y ↦ or_left (nat_le (sum_by unit_columns us) cols) (nat_le (count_by is_wide us) 1) (rw sum at y)
        | inr n ↦
            let over : width + more ≤ cols → ⊥ = λ l. let t : leb (width + more) cols ≡ true = le-leb (width + more) cols l in let both : true ≡ false = sym t ∙ n in cc in
            let few : count ≤ 1 = fits over in
            or_right (nat_le (sum_by unit_columns us) cols) (nat_le (count_by is_wide us) 1) (le-leb (count_by is_wide us) 1 (omega arith))
      ];
      begun = λ l. omega (arith, length_push s.seen h.unit);
      less = λ l. omega arith;
    }

-- all units are in the front
pub whole_front : (cols : ℕ) (all rest : List ℕ) (width wide size left : ℕ) → SoFar cols all rest width wide size left → rest ≡ [] → units rest ≡ [] → left < size → SplitsFront cols all width rest
whole_front cols all rest width wide size left s e f l =
    record { front = s.seen; joins = s.joins; first = s.first; run = rw f (record { some = s.begun l; fitting = s.fitting; full = tt }); columns = s.columns }
