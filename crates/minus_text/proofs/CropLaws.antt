-- Laws on texts cut to some columns.
use Rattle.std.proofs.Common.{◌≡◌, ℕ, zero, suc, ◌+◌, ◌-◌, ◌<◌, ◌≤◌, ◌==◌, Bool, true, false, eqb, leb, nat_le, max, List, [], ◌∷◌, ◌++◌, replicate, chars, if◌then◌else◌, arith, refl, sym, ap, ◌∙◌, append_assoc, inl, inr}
use Rattle.std.specs.List.{concat, sum_by}
use Rattle.std.specs.Str.{IsUtf8, encode_utf8_all}
use Rattle.std.proofs.lemmas.Bool.{cases_Bool, cond-false, and_parts, leb-true, le-leb, lt-leb, eqb-true, ne_eqb}
use Rattle.std.proofs.lemmas.List.{append-nil}
use Rattle.std.proofs.lemmas.List.Sums.{sum_by-append, sum_by-cons}
use Rattle.std.proofs.lemmas.Str.{encodes-append, encodes-chars}
use Rattle.minus_text.specs.Units.{begins_sequence, unit_columns}
use Rattle.minus_text.specs.Crop.{last_columns, is_inside, columns_inside, is_shown_behind, is_shown, shown_unit, shown_units, cropped, longest_front, fitted_units, fitted, FittedFills}
use Rattle.minus_text.specs.TextUnits.{text_units}
use Rattle.minus_text.proofs.FrontsLaws.{concat-append}
use Rattle.minus_text.proofs.TextUnitsLaws.{spaces_columns, concat_spaces}
use Rattle.minus_text.proofs.WordsLaws.{spaces_encode}

-- ---- what is shown, unit by unit

pub last_columns-push : (us : List (List ℕ)) (u : List ℕ) → last_columns (us ++ u ∷ []) ≡ (if unit_columns u == 0 then last_columns us else unit_columns u)
last_columns-push [] u = last_one (unit_columns u)
  where
    last_one : (c : ℕ) → c ≡ (if c == 0 then 0 else c)
    last_one zero = refl
    last_one (suc c) = let z : eqb (suc c) 0 ≡ false = ne_eqb (suc c) 0 (λ z. omega (arith, z)) in sym (cond-false (eqb (suc c) 0) 0 (suc c) z)
last_columns-push (v ∷ us) u = last_step (last_columns (us ++ u ∷ [])) (last_columns us) (unit_columns v) (unit_columns u) (last_columns-push us u)
  where
    last_step : (x l v c : ℕ) → x ≡ (if c == 0 then l else c) → (if x == 0 then v else x) ≡ (if c == 0 then (if l == 0 then v else l) else c)
    last_step x l v zero e = rw e refl
    last_step x l v (suc c) e =
        let z : eqb (suc c) 0 ≡ false = ne_eqb (suc c) 0 (λ z. omega (arith, z)) in
        let is : x ≡ suc c = e ∙ cond-false (eqb (suc c) 0) l (suc c) z in
        rw (is, z) refl

-- the columns so far, those of the last unit that has some, and what is shown so far and still to be shown
pub record CropSoFar (left width : ℕ) (rest : List (List ℕ)) (at last : ℕ) (out whole : List ℕ) : Type 0 where
  pub before : List (List ℕ)
  pub at_is : at ≡ sum_by unit_columns before
  pub last_is : last ≡ last_columns before
  pub shown : out ++ encode_utf8_all (concat (shown_units left width before rest)) ≡ whole

-- texts of units, one after another
joined : (us vs : List (List ℕ)) → encode_utf8_all (concat (us ++ vs)) ≡ encode_utf8_all (concat us) ++ encode_utf8_all (concat vs)
joined us vs = ap encode_utf8_all (concat-append us vs) ∙ encodes-append (concat us) (concat vs)

-- the bytes of spaces
pub spaces_bytes : (n : ℕ) → encode_utf8_all (concat (replicate n (32 ∷ []))) ≡ replicate n 32
spaces_bytes n = ap encode_utf8_all (concat_spaces n) ∙ spaces_encode n

-- nothing is shown yet
none_shown : (left width : ℕ) (us : List (List ℕ)) (row : List ℕ) → CropSoFar left width us 0 0 row (row ++ encode_utf8_all (concat (shown_units left width [] us)))
none_shown left width us row = record { before = []; at_is = refl; last_is = refl; shown = refl }

pub crop_begun : (left width : ℕ) (text row : List ℕ) (us : List (List ℕ)) → us ≡ text_units (chars text) → CropSoFar left width us 0 0 row (row ++ cropped left width text)
unfolding cropped
crop_begun left width text row us e = rw e (none_shown left width (text_units (chars text)) row)

-- a unit that is shown as it is, and one that is not
pub shown_whole : (left width at last : ℕ) (text : List ℕ) → IsUtf8 text → is_shown left width at last (chars text) ≡ true → encode_utf8_all (concat (shown_unit left width at last (chars text))) ≡ text
shown_whole left width at last text u h = rw h (ap encode_utf8_all (append-nil (chars text)) ∙ encodes-chars text u)

pub shown_spaces : (left width at last : ℕ) (unit : List ℕ) → is_shown left width at last unit ≡ false → encode_utf8_all (concat (shown_unit left width at last unit)) ≡ replicate (columns_inside left width at (unit_columns unit)) 32
shown_spaces left width at last unit h = rw h (spaces_bytes (columns_inside left width at (unit_columns unit)))

-- one more unit
pub crop_more : (left width : ℕ) (rest more : List (List ℕ)) (unit : List ℕ) (at last columns at' last' : ℕ) (out out' whole : List ℕ) → CropSoFar left width rest at last out whole → rest ≡ unit ∷ more
    → columns ≡ unit_columns unit → at' ≡ at + columns → last' ≡ (if columns == 0 then last else columns) → out' ≡ out ++ encode_utf8_all (concat (shown_unit left width at last unit)) → CropSoFar left width more at' last' out' whole
crop_more left width rest more unit at last columns at' last' out out' whole s e c a l o =
    let next : List (List ℕ) = shown_units left width (s.before ++ unit ∷ []) more in
    let now : List (List ℕ) = shown_unit left width at last unit in
    let here : now ≡ shown_unit left width (sum_by unit_columns s.before) (last_columns s.before) unit = rw (s.at_is, s.last_is) refl in
    let all : out ++ encode_utf8_all (concat (now ++ next)) ≡ whole = rw here (rw e at s.shown) in
    record {
      before = s.before ++ unit ∷ [];
      at_is = omega (arith, a, c, s.at_is, sum_by-append unit_columns s.before (unit ∷ []));
      last_is = l ∙ rw (c, s.last_is) (sym (last_columns-push s.before unit));
      shown = ap (λ bs. bs ++ encode_utf8_all (concat next)) o ∙ append_assoc out (encode_utf8_all (concat now)) (encode_utf8_all (concat next)) ∙ ap (λ bs. out ++ bs) (sym (joined now next)) ∙ all;
    }

-- no unit is left
pub crop_done : (left width : ℕ) (rest : List (List ℕ)) (at last : ℕ) (out whole : List ℕ) → CropSoFar left width rest at last out whole → rest ≡ [] → out ≡ whole
crop_done left width rest at last out whole s e = sym (append-nil out) ∙ (rw e at s.shown)

-- ---- what is shown fits

inside_all : (left width at columns : ℕ) → is_inside left width at columns ≡ true → columns_inside left width at columns ≡ columns
inside_all left width at columns h =
    let both = and_parts (nat_le left at) (nat_le (at + columns) (left + width)) h in
    omega (arith, leb-true left at both.0, leb-true (at + columns) (left + width) both.1)

shown_inside : (sequence : Bool) (left width at last columns : ℕ) → (sequence ≡ true → columns ≡ 0) → (if sequence then true else if columns == 0 then is_shown_behind left width at last else is_inside left width at columns) ≡ true
    → columns_inside left width at columns ≡ columns
shown_inside true left width at last columns z h = let none = z refl in omega (arith, none)
shown_inside false left width at last columns z h = elim (cases_Bool (eqb columns 0)) [
  | inl e ↦ let none = eqb-true columns 0 e in omega (arith, none)
  | inr e ↦ inside_all left width at columns (rw e at h)
]

sequence_columns : (u : List ℕ) → begins_sequence u ≡ true → unit_columns u ≡ 0
sequence_columns u h = rw h refl

unit_shown : (left width at last : ℕ) (u : List ℕ) → sum_by unit_columns (shown_unit left width at last u) ≡ columns_inside left width at (unit_columns u)
unit_shown left width at last u = elim (cases_Bool (is_shown left width at last u)) [
  | inl t ↦ rw t (let all = shown_inside (begins_sequence u) left width at last (unit_columns u) (sequence_columns u) t in omega (arith, all, sum_by-cons unit_columns u []))
  | inr f ↦ rw f (spaces_columns (columns_inside left width at (unit_columns u)))
]

pub shown_fit : (left width : ℕ) (before us : List (List ℕ)) → sum_by unit_columns (shown_units left width before us) ≤ left + width - max left (sum_by unit_columns before)
shown_fit left width before [] = omega arith
shown_fit left width before (u ∷ us) =
    let at : ℕ = sum_by unit_columns before in
    let now : List (List ℕ) = shown_unit left width at (last_columns before) u in
    let next : List (List ℕ) = shown_units left width (before ++ u ∷ []) us in
    omega (arith, sum_by-append unit_columns now next, unit_shown left width at (last_columns before) u, shown_fit left width (before ++ u ∷ []) us, sum_by-append unit_columns before (u ∷ []), sum_by-cons unit_columns u [])

-- ---- fronts that fit

front_fits : (cols : ℕ) (us : List (List ℕ)) → sum_by unit_columns (longest_front cols us) ≤ cols
front_fits cols [] = omega arith
front_fits cols (u ∷ us) = elim (cases_Bool (leb (unit_columns u) cols)) [
  | inl t ↦ rw t (let fits = leb-true (unit_columns u) cols t in omega (arith, fits, front_fits (cols - unit_columns u) us, sum_by-cons unit_columns u (longest_front (cols - unit_columns u) us)))
  | inr f ↦ rw f (omega arith)
]

is_front : (cols : ℕ) (us : List (List ℕ)) → (rest : List (List ℕ)) × (us ≡ longest_front cols us ++ rest)
is_front cols [] = ([], refl)
is_front cols (u ∷ us) = elim (cases_Bool (leb (unit_columns u) cols)) [
  | inl t ↦ let more = is_front (cols - unit_columns u) us in rw t (more.0, ap (λ vs. u ∷ vs) more.1)
  | inr f ↦ rw f (u ∷ us, refl)
]

front_longest : (cols : ℕ) (before after : List (List ℕ)) → sum_by unit_columns before ≤ cols → longest_front cols (before ++ after) ≡ before ++ longest_front (cols - sum_by unit_columns before) after
front_longest cols [] after h = let e : cols - 0 ≡ cols = omega arith in rw e refl
front_longest cols (u ∷ before) after h =
    let sum = sum_by-cons unit_columns u before in
    let fits : leb (unit_columns u) cols ≡ true = le-leb (unit_columns u) cols (omega (arith, sum)) in
    let left : cols - unit_columns u - sum_by unit_columns before ≡ cols - sum_by unit_columns (u ∷ before) = omega (arith, sum) in
    rw fits (ap (λ vs. u ∷ vs) (front_longest (cols - unit_columns u) before after (omega (arith, sum)) ∙ ap (λ n. before ++ longest_front n after) left))

pub fitted_fills : (cols : ℕ) (us : List (List ℕ)) → FittedFills cols us
fitted_fills cols us = record {
  front = is_front cols us;
  longest = λ before after e h. (longest_front (cols - sum_by unit_columns before) after, ap (longest_front cols) e ∙ front_longest cols before after h);
  fills =
      let n : ℕ = cols - sum_by unit_columns (longest_front cols us) in
      omega (arith, sum_by-append unit_columns (longest_front cols us) (replicate n (32 ∷ [])), spaces_columns n, front_fits cols us);
}

-- a unit that fits, and one that does not
fitted_in : (cols : ℕ) (u : List ℕ) (us : List (List ℕ)) → unit_columns u ≤ cols → fitted_units cols (u ∷ us) ≡ u ∷ fitted_units (cols - unit_columns u) us
fitted_in cols u us h =
    let fits : leb (unit_columns u) cols ≡ true = le-leb (unit_columns u) cols h in
    let front : List (List ℕ) = longest_front (cols - unit_columns u) us in
    let left : cols - sum_by unit_columns (u ∷ front) ≡ cols - unit_columns u - sum_by unit_columns front = omega (arith, sum_by-cons unit_columns u front) in
    rw fits (ap (λ n. u ∷ (front ++ replicate n (32 ∷ []))) left)

fitted_out : (cols : ℕ) (u : List ℕ) (us : List (List ℕ)) → cols < unit_columns u → fitted_units cols (u ∷ us) ≡ replicate cols (32 ∷ [])
fitted_out cols u us h =
    let over : leb (unit_columns u) cols ≡ false = lt-leb (unit_columns u) cols h in
    let left : cols - 0 ≡ cols = omega arith in
    rw over (ap (λ n. replicate n (32 ∷ [])) left)

pub fitted_begun : (cols : ℕ) (text row : List ℕ) (us : List (List ℕ)) → us ≡ text_units (chars text) → row ++ encode_utf8_all (concat (fitted_units cols us)) ≡ row ++ fitted cols text
unfolding fitted
fitted_begun cols text row us e = ap (λ vs. row ++ encode_utf8_all (concat (fitted_units cols vs))) e

-- one more unit fits
pub fitted_more : (cols columns : ℕ) (rest more : List (List ℕ)) (unit out out' whole : List ℕ) → out ++ encode_utf8_all (concat (fitted_units cols rest)) ≡ whole → rest ≡ unit ∷ more
    → columns ≡ unit_columns unit → columns ≤ cols → out' ≡ out ++ encode_utf8_all unit → out' ++ encode_utf8_all (concat (fitted_units (cols - columns) more)) ≡ whole
fitted_more cols columns rest more unit out out' whole s e c h o =
    let left : cols - columns ≡ cols - unit_columns unit = omega (arith, c) in
    let next : List (List ℕ) = fitted_units (cols - unit_columns unit) more in
    let here : fitted_units cols rest ≡ unit ∷ next = ap (fitted_units cols) e ∙ fitted_in cols unit more (omega (arith, c, h)) in
    ap (λ n. out' ++ encode_utf8_all (concat (fitted_units n more))) left
    ∙ ap (λ bs. bs ++ encode_utf8_all (concat next)) o ∙ append_assoc out (encode_utf8_all unit) (encode_utf8_all (concat next))
    ∙ ap (λ bs. out ++ bs) (sym (encodes-append unit (concat next)) ∙ ap (λ us. encode_utf8_all (concat us)) (sym here)) ∙ s

-- the next unit does not fit, or there is none
pub fitted_full : (cols columns : ℕ) (rest more : List (List ℕ)) (unit out out' whole : List ℕ) → out ++ encode_utf8_all (concat (fitted_units cols rest)) ≡ whole → rest ≡ unit ∷ more
    → columns ≡ unit_columns unit → cols < columns → out' ≡ out ++ replicate cols 32 → out' ≡ whole
fitted_full cols columns rest more unit out out' whole s e c h o =
    let here : fitted_units cols rest ≡ replicate cols (32 ∷ []) = ap (fitted_units cols) e ∙ fitted_out cols unit more (omega (arith, c, h)) in
    o ∙ ap (λ bs. out ++ bs) (sym (spaces_bytes cols) ∙ ap (λ us. encode_utf8_all (concat us)) (sym here)) ∙ s

pub fitted_done : (cols : ℕ) (rest : List (List ℕ)) (out out' whole : List ℕ) → out ++ encode_utf8_all (concat (fitted_units cols rest)) ≡ whole → rest ≡ [] → out' ≡ out ++ replicate cols 32 → out' ≡ whole
fitted_done cols rest out out' whole s e o =
    let left : cols - 0 ≡ cols = omega arith in
    let here : fitted_units cols rest ≡ replicate cols (32 ∷ []) = ap (fitted_units cols) e ∙ ap (λ n. replicate n (32 ∷ [])) left in
    o ∙ ap (λ bs. out ++ bs) (sym (spaces_bytes cols) ∙ ap (λ us. encode_utf8_all (concat us)) (sym here)) ∙ s
