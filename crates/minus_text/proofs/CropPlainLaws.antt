-- Laws on what is shown of characters of which each is a unit: a part of them, where they are of printable ASCII.
use Rattle.std.proofs.Common.{◌≡◌, ℕ, zero, suc, ◌+◌, ◌-◌, ◌<◌, ◌≤◌, ◌==◌, true, false, not, eqb, nat_le, max, List, [], ◌∷◌, ◌++◌, length, take, drop, replicate, chars, if◌then◌else◌, arith, refl, sym, ap, ◌∙◌, append_assoc, inl, inr}
use Rattle.std.specs.List.{concat, sum_by, list_all}
use Rattle.std.specs.Str.{IsAscii, IsUtf8, IsCharBoundary, encode_utf8_all}
use Rattle.std.proofs.lemmas.Bool.{cases_Bool, cases_lt, and_parts, and_from, and_left, and_right, le-leb, lt-leb, ne_eqb}
use Rattle.std.proofs.lemmas.Bool.Decides.{nat_tests}
use Rattle.std.proofs.lemmas.List.{append-nil, map-append}
use Rattle.std.proofs.lemmas.List.Folds.{list_all-append}
use Rattle.std.proofs.lemmas.List.Sums.{sum_by-append, sum_by-cons}
use Rattle.std.proofs.lemmas.Str.{chars-append, chars-IsAscii, encodes-IsAscii, encodes-append, IsUtf8-from_ascii, IsCharBoundary-from_take}
use Rattle.minus_text.specs.Plain.{is_printable, is_unescaped}
use Rattle.minus_text.specs.Units.{char_columns, begins_sequence, units, unit_len, unit_columns, body_of}
use Rattle.minus_text.specs.TextUnits.{text_units}
use Rattle.minus_text.specs.Singles.{singles}
use Rattle.minus_text.specs.Crop.{last_columns, is_inside, columns_inside, is_shown_behind, is_shown, shown_unit, shown_units}
use Rattle.minus_text.proofs.CutsLaws.{cuts-nil, cuts_first}
use Rattle.minus_text.proofs.FrontsLaws.{concat-append}
use Rattle.minus_text.proofs.UnitsLaws.{unit_rule}
use Rattle.minus_text.proofs.PlainLaws.{printable_column, printable_ascii}
use Rattle.minus_text.proofs.TextUnitsLaws.{body_and_spaces}
use Rattle.minus_text.proofs.RowTextsLaws.{all_take, all_drop}
use Rattle.minus_text.proofs.CropLaws.{CropSoFar, last_columns-push}

-- ---- characters without ESC are units

other_than : (c : ℕ) → is_unescaped c ≡ true → eqb c 27 ≡ false
other_than c h = elim (cases_Bool (eqb c 27)) [
  | inl t ↦ let no : not true ≡ true = rw t at h in absurd cc
  | inr f ↦ f
]

no_sequence : (c : ℕ) (cs : List ℕ) → eqb c 27 ≡ false → begins_sequence (c ∷ cs) ≡ false
no_sequence c [] e = refl
no_sequence c (d ∷ cs) e = rw e refl

-- the units of characters without ESC, whatever follows them
pub units_front : (cs ds : List ℕ) → list_all is_unescaped cs ≡ true → units (cs ++ ds) ≡ singles cs ++ units ds
units_front [] ds h = refl
units_front (c ∷ cs) ds h =
    let both = and_parts (is_unescaped c) (list_all is_unescaped cs) h in
    let rest : List ℕ = cs ++ ds in
    let plain : begins_sequence (c ∷ rest) ≡ false = no_sequence c rest (other_than c both.0) in
    let len : unit_len (c ∷ rest) ≡ 1 = rw plain refl in
    let cut : units (c ∷ rest) ≡ (c ∷ []) ∷ units rest = cuts_first unit_len unit_rule (c ∷ rest) (c ∷ []) rest (omega arith) (rw len refl) (rw len refl) in
    cut ∙ ap (λ us. (c ∷ []) ∷ us) (units_front cs ds both.1)

pub units_single : (cs : List ℕ) → list_all is_unescaped cs ≡ true → units cs ≡ singles cs
units_single cs h = ap units (sym (append-nil cs)) ∙ units_front cs [] h ∙ ap (λ us. singles cs ++ us) (cuts-nil unit_len) ∙ append-nil (singles cs)

singles_spaces : (n : ℕ) → singles (replicate n 32) ≡ replicate n (32 ∷ [])
singles_spaces zero = refl
singles_spaces (suc n) = ap (λ us. (32 ∷ []) ∷ us) (singles_spaces n)

pub text_units_single : (cs : List ℕ) → list_all is_unescaped cs ≡ true → text_units cs ≡ singles cs
unfolding text_units
text_units_single cs h =
    let n : ℕ = length cs - length (body_of cs) in
    let split : cs ≡ body_of cs ++ replicate n 32 = body_and_spaces cs in
    let both = and_parts (list_all is_unescaped (body_of cs)) (list_all is_unescaped (replicate n 32)) (sym (list_all-append is_unescaped (body_of cs) (replicate n 32)) ∙ ap (list_all is_unescaped) (sym split) ∙ h) in
    ap (λ us. us ++ replicate n (32 ∷ [])) (units_single (body_of cs) both.0)
    ∙ ap (λ us. singles (body_of cs) ++ us) (sym (singles_spaces n))
    ∙ sym (map-append (λ (c : ℕ). c ∷ []) (body_of cs) (replicate n 32))
    ∙ ap singles (sym split)

-- ---- what is shown of units one after another

pub shown_append : (left width : ℕ) (before us vs : List (List ℕ)) → shown_units left width before (us ++ vs) ≡ shown_units left width before us ++ shown_units left width (before ++ us) vs
shown_append left width before [] vs = ap (λ bs. shown_units left width bs vs) (sym (append-nil before))
shown_append left width before (u ∷ us) vs =
    let now : List (List ℕ) = shown_unit left width (sum_by unit_columns before) (last_columns before) u in
    let next : List (List ℕ) = before ++ u ∷ [] in
    ap (λ ws. now ++ ws) (shown_append left width next us vs ∙ ap (λ bs. shown_units left width next us ++ shown_units left width bs vs) (append_assoc before (u ∷ []) us))
    ∙ sym (append_assoc now (shown_units left width next us) (shown_units left width (before ++ u ∷ us) vs))

-- ---- printable characters: those in the columns that are shown

pub single_columns : (c : ℕ) → is_printable c ≡ true → unit_columns (c ∷ []) ≡ 1
single_columns c h = omega (arith, sum_by-cons char_columns c [], printable_column c h)

-- a character of one column is shown as it is, or not at all
inside_one : (left width at : ℕ) → left ≤ at → at < left + width → is_inside left width at 1 ≡ true
inside_one left width at l h = and_from (nat_le left at) (nat_le (at + 1) (left + width)) (le-leb left at l) (le-leb (at + 1) (left + width) (omega (arith, h)))

before_one : (left width at : ℕ) → at < left → is_inside left width at 1 ≡ false
before_one left width at h = and_left (nat_le left at) (nat_le (at + 1) (left + width)) (lt-leb left at h)

behind_one : (left width at : ℕ) → left + width ≤ at → is_inside left width at 1 ≡ false
behind_one left width at h = and_right (nat_le left at) (nat_le (at + 1) (left + width)) (lt-leb (at + 1) (left + width) (omega (arith, h)))

shown_one : (left width at last c : ℕ) → is_printable c ≡ true → left ≤ at → at < left + width → shown_unit left width at last (c ∷ []) ≡ (c ∷ []) ∷ []
shown_one left width at last c h l m =
    let one = single_columns c h in
    let here = inside_one left width at l m in
    rw (one, here) refl

not_shown : (left width at last c : ℕ) → is_printable c ≡ true → is_inside left width at 1 ≡ false → columns_inside left width at 1 ≡ 0 → shown_unit left width at last (c ∷ []) ≡ []
not_shown left width at last c h f z =
    let one = single_columns c h in
    rw (one, f, z) refl

take_none : {A : Type 0} (n : ℕ) → take {A = A} n [] ≡ []
take_none zero = refl
take_none (suc n) = refl

drop_none : {A : Type 0} (n : ℕ) → drop {A = A} n [] ≡ []
drop_none zero = refl
drop_none (suc n) = refl

-- the columns that are shown of characters from a column on
abbrev part : ℕ → ℕ → ℕ → List ℕ → List ℕ
part left width at cs = take (left + width - max left at) (drop (left - at) cs)

part_before : (left width at c : ℕ) (cs : List ℕ) → at < left → part left width (at + 1) cs ≡ part left width at (c ∷ cs)
part_before left width at c cs h =
    let n : left + width - max left (at + 1) ≡ left + width - max left at = omega (arith, h) in
    let d : left - at ≡ suc (left - (at + 1)) = omega (arith, h) in
    rw (n, d) refl

part_inside : (left width at c : ℕ) (cs : List ℕ) → left ≤ at → at < left + width → c ∷ part left width (at + 1) cs ≡ part left width at (c ∷ cs)
part_inside left width at c cs l m =
    let n : left + width - max left at ≡ suc (left + width - max left (at + 1)) = omega (arith, l, m) in
    let d : left - at ≡ 0 = omega (arith, l) in
    let e : left - (at + 1) ≡ 0 = omega (arith, l) in
    rw (n, d, e) refl

part_behind : (left width at c : ℕ) (cs : List ℕ) → left + width ≤ at → part left width (at + 1) cs ≡ part left width at (c ∷ cs)
part_behind left width at c cs h =
    let n : left + width - max left at ≡ 0 = omega (arith, h) in
    let m : left + width - max left (at + 1) ≡ 0 = omega (arith, h) in
    rw (n, m) refl

pub shown_printable : (left width at : ℕ) (before : List (List ℕ)) (cs : List ℕ) → at ≡ sum_by unit_columns before → list_all is_printable cs ≡ true → concat (shown_units left width before (singles cs)) ≡ take (left + width - max left at) (drop (left - at) cs)
shown_printable left width at before [] e h = sym (ap (λ xs. take (left + width - max left at) xs) (drop_none (left - at)) ∙ take_none (left + width - max left at))
shown_printable left width at before (c ∷ cs) e h =
    let both = and_parts (is_printable c) (list_all is_printable cs) h in
    let next : List (List ℕ) = before ++ (c ∷ []) ∷ [] in
    let sum : at + 1 ≡ sum_by unit_columns next = omega (arith, e, sum_by-append unit_columns before ((c ∷ []) ∷ []), sum_by-cons unit_columns (c ∷ []) [], single_columns c both.0) in
    let ih = shown_printable left width (at + 1) next cs sum both.1 in
    let now : List (List ℕ) = shown_unit left width (sum_by unit_columns before) (last_columns before) (c ∷ []) in
    let same : now ≡ shown_unit left width at (last_columns before) (c ∷ []) = ap (λ n. shown_unit left width n (last_columns before) (c ∷ [])) (sym e) in
    let rest : List (List ℕ) = shown_units left width next (singles cs) in
    elim (cases_lt at left) [
      | inl l ↦
          let none : now ≡ [] = same ∙ not_shown left width at (last_columns before) c both.0 (before_one left width at l) (omega (arith, l)) in
          ap (λ us. concat (us ++ rest)) none ∙ ih ∙ part_before left width at c cs l
      | inr g ↦ elim (cases_lt at (left + width)) [
        | inl m ↦
            let one : now ≡ (c ∷ []) ∷ [] = same ∙ shown_one left width at (last_columns before) c both.0 g m in
            ap (λ us. concat (us ++ rest)) one ∙ ap (λ xs. c ∷ xs) ih ∙ part_inside left width at c cs g m
        | inr k ↦
            let none : now ≡ [] = same ∙ not_shown left width at (last_columns before) c both.0 (behind_one left width at k) (omega (arith, k)) in
            ap (λ us. concat (us ++ rest)) none ∙ ih ∙ part_behind left width at c cs k
      ]
    ]

-- ---- characters behind those that are shown: none

hidden_inside : (left width at columns : ℕ) → left + width < at + columns → is_inside left width at columns ≡ false
hidden_inside left width at columns h = and_right (nat_le left at) (nat_le (at + columns) (left + width)) (lt-leb (at + columns) (left + width) h)

hidden_behind : (left width at last : ℕ) → left + width < at → 0 < last → is_shown_behind left width at last ≡ false
hidden_behind left width at last h some =
    let other : eqb last 0 ≡ false = ne_eqb last 0 (λ z. omega (arith, z, some)) in
    let inside : is_inside left width (at - last) last ≡ false = hidden_inside left width (at - last) last (omega (arith, h)) in
    rw (other, inside) refl

hidden_shown : (left width at last columns : ℕ) → left + width < at → 0 < last → (if columns == 0 then is_shown_behind left width at last else is_inside left width at columns) ≡ false
hidden_shown left width at last columns h some = elim (cases_Bool (eqb columns 0)) [
  | inl z ↦ rw z (hidden_behind left width at last h some)
  | inr z ↦ rw z (hidden_inside left width at columns (omega (arith, h)))
]

hidden_one : (left width at last c : ℕ) → left + width < at → 0 < last → shown_unit left width at last (c ∷ []) ≡ []
hidden_one left width at last c h some =
    let not_as_it_is : is_shown left width at last (c ∷ []) ≡ false = hidden_shown left width at last (unit_columns (c ∷ [])) h some in
    let none : columns_inside left width at (unit_columns (c ∷ [])) ≡ 0 = omega (arith, h) in
    rw (not_as_it_is, none) refl

last_stays : (before : List (List ℕ)) (u : List ℕ) → 0 < last_columns before → 0 < last_columns (before ++ u ∷ [])
last_stays before u some = rw (last_columns-push before u) (either (unit_columns u))
  where
    either : (columns : ℕ) → 0 < (if columns == 0 then last_columns before else columns)
    either zero = some
    either (suc n) = let other : eqb (suc n) 0 ≡ false = ne_eqb (suc n) 0 (λ z. omega (arith, z)) in rw other (omega arith)

pub shown_behind : (left width : ℕ) (before : List (List ℕ)) (cs : List ℕ) → left + width < sum_by unit_columns before → 0 < last_columns before → concat (shown_units left width before (singles cs)) ≡ []
shown_behind left width before [] h some = refl
shown_behind left width before (c ∷ cs) h some =
    let next : List (List ℕ) = before ++ (c ∷ []) ∷ [] in
    let none : shown_unit left width (sum_by unit_columns before) (last_columns before) (c ∷ []) ≡ [] = hidden_one left width (sum_by unit_columns before) (last_columns before) c h some in
    ap (λ us. concat (us ++ shown_units left width next (singles cs))) none
    ∙ shown_behind left width next cs (omega (arith, h, sum_by-append unit_columns before ((c ∷ []) ∷ []))) (last_stays before (c ∷ []) some)

-- ---- a text that begins with printable characters

pub singles_columns : (cs : List ℕ) → list_all is_printable cs ≡ true → sum_by unit_columns (singles cs) ≡ length cs
singles_columns [] h = refl
singles_columns (c ∷ cs) h =
    let both = and_parts (is_printable c) (list_all is_printable cs) h in
    omega (arith, sum_by-cons unit_columns (c ∷ []) (singles cs), single_columns c both.0, singles_columns cs both.1)

pub printable_unescaped : (cs : List ℕ) → list_all is_printable cs ≡ true → list_all is_unescaped cs ≡ true
printable_unescaped [] h = refl
printable_unescaped (c ∷ cs) h =
    let both = and_parts (is_printable c) (list_all is_printable cs) h in
    rw (here c both.0) (printable_unescaped cs both.1)
  where
    here : (c : ℕ) → is_printable c ≡ true → is_unescaped c ≡ true
    here c h = grind (arith, nat_tests, h)

-- ---- printable characters among others

last_run : (before : List (List ℕ)) (cs : List ℕ) → list_all is_printable cs ≡ true → last_columns (before ++ singles cs) ≡ (if length cs == 0 then last_columns before else 1)
last_run before [] h = ap last_columns (append-nil before)
last_run before (c ∷ cs) h =
    let both = and_parts (is_printable c) (list_all is_printable cs) h in
    let next : List (List ℕ) = before ++ (c ∷ []) ∷ [] in
    let one = single_columns c both.0 in
    let here : last_columns next ≡ 1 = last_columns-push before (c ∷ []) ∙ rw one refl in
    let some : eqb (suc (length cs)) 0 ≡ false = ne_eqb (suc (length cs)) 0 (λ z. omega (arith, z)) in
    rw some (ap last_columns (sym (append_assoc before ((c ∷ []) ∷ []) (singles cs))) ∙ last_run next cs both.1 ∙ ap (λ n. if length cs == 0 then n else 1) here ∙ same (length cs))
  where
    same : (n : ℕ) → let one : ℕ = 1 in (if n == 0 then one else one) ≡ one
    same n = elim (cases_Bool (eqb n 0)) [ inl e ↦ rw e refl | inr e ↦ rw e refl ]

-- more characters of printable ASCII
pub crop_run : (left width : ℕ) (rest more : List (List ℕ)) (run : List ℕ) (at last at' last' : ℕ) (out out' whole : List ℕ) → CropSoFar left width rest at last out whole → rest ≡ singles run ++ more → list_all is_printable run ≡ true
    → at' ≡ at + length run → last' ≡ (if length run == 0 then last else 1) → out' ≡ out ++ take (left + width - max left at) (drop (left - at) run) → CropSoFar left width more at' last' out' whole
crop_run left width rest more run at last at' last' out out' whole s e p a l o =
    let us : List (List ℕ) = singles run in
    let now : List (List ℕ) = shown_units left width s.before us in
    let next : List (List ℕ) = shown_units left width (s.before ++ us) more in
    let part : List ℕ = take (left + width - max left at) (drop (left - at) run) in
    let shown : concat now ≡ part = shown_printable left width at s.before run s.at_is p in
    let small : IsAscii part = printable_ascii part (all_take is_printable (drop (left - at) run) (left + width - max left at) (all_drop is_printable run (left - at) p)) in
    let bytes : encode_utf8_all (concat now) ≡ part = ap encode_utf8_all shown ∙ encodes-IsAscii part small in
    let split : encode_utf8_all (concat (shown_units left width s.before rest)) ≡ part ++ encode_utf8_all (concat next) =
    ap (λ vs. encode_utf8_all (concat (shown_units left width s.before vs))) e ∙ ap (λ vs. encode_utf8_all (concat vs)) (shown_append left width s.before us more) ∙ ap encode_utf8_all (concat-append now next)
    ∙ encodes-append (concat now) (concat next) ∙ ap (λ xs. xs ++ encode_utf8_all (concat next)) bytes in
    record {
      before = s.before ++ us;
      at_is = omega (arith, a, s.at_is, sum_by-append unit_columns s.before us, singles_columns run p);
      last_is = l ∙ rw (s.last_is) (sym (last_run s.before run p));
      shown = ap (λ xs. xs ++ encode_utf8_all (concat next)) o ∙ append_assoc out part (encode_utf8_all (concat next)) ∙ ap (λ xs. out ++ xs) (sym split) ∙ s.shown;
    }

-- the units of a text that begins with such characters
pub printable_left : (body run rest : List ℕ) (n : ℕ) → body ≡ run ++ rest → list_all is_printable run ≡ true → units (chars body) ++ replicate n (32 ∷ []) ≡ singles run ++ (units (chars rest) ++ replicate n (32 ∷ []))
printable_left body run rest n e p =
    let small : IsAscii run = printable_ascii run p in
    let split : chars body ≡ run ++ chars rest = ap chars e ∙ chars-append run rest (IsUtf8-from_ascii run small) ∙ ap (λ cs. cs ++ chars rest) (chars-IsAscii run small) in
    ap (λ cs. units cs ++ replicate n (32 ∷ [])) split ∙ ap (λ us. us ++ replicate n (32 ∷ [])) (units_front run (chars rest) (printable_unescaped run p)) ∙ append_assoc (singles run) (units (chars rest)) (replicate n (32 ∷ []))

-- where printable characters end
pub printable_boundary : (text : List ℕ) (n : ℕ) → IsUtf8 text → n ≤ length text → list_all is_printable (take n text) ≡ true → IsCharBoundary text n
printable_boundary text n u l p = IsCharBoundary-from_take text n u l (IsUtf8-from_ascii (take n text) (printable_ascii (take n text) p))
