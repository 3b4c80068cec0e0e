-- Units that are shown take as many columns, one after another, as each takes by itself.
use Rattle.std.proofs.Common.{◌≡◌, ℕ, zero, suc, ◌+◌, ◌-◌, ◌<◌, ◌≤◌, ◌==◌, Bool, true, false, eqb, leb, nat_le, List, [], ◌∷◌, ◌++◌, replicate, chars, if◌then◌else◌, subst, arith, refl, sym, ap, ◌∙◌, append_assoc, inl, inr}
use Rattle.std.specs.List.{concat, sum_by}
use Rattle.std.specs.Prelude.{encode_utf8}
use Rattle.std.specs.Str.{IsUtf8, encode_utf8_all}
use Rattle.std.proofs.lemmas.Bool.{cases_Bool, cond-true, and_parts, eqb-true, eq-eqb, ne_eqb, leb-true}
use Rattle.std.proofs.lemmas.Bool.Decides.{nat_tests}
use Rattle.std.proofs.lemmas.List.Sums.{sum_by-append, sum_by-cons}
use Rattle.std.proofs.lemmas.Str.{chars_from_encodes, encodes-chars, IsUtf8-past_char}
use Rattle.unicode_width.specs.Width.{char_width}
use Rattle.minus_text.specs.Units.{char_columns, begins_sequence, unit_columns, text_columns, columns}
use Rattle.minus_text.specs.TextUnits.{text_units}
use Rattle.minus_text.specs.Crop.{last_columns, is_inside, columns_inside, is_shown_behind, is_shown, shown_units, cropped, longest_front, fitted_units, fitted}
use Rattle.minus_text.proofs.CropLaws.{last_columns-push, shown_fit, fitted_fills}
use Rattle.minus_text.proofs.FrontsLaws.{concat-append}
use Rattle.minus_text.proofs.TextUnitsLaws.{concat_spaces}
use Rattle.minus_text.proofs.AddedColumnsLaws.{begins_bracket, AreSpaces, AreUnits, one_unit, units_total, spaces_before, spaces_are, replicated, both_spaces, front_spaces, rest_spaces, text_units_are}

-- ---- what is shown of units

bracket_front : (v cs : List ℕ) (first : ℕ) (others : List ℕ) → v ≡ first ∷ others → begins_bracket (v ++ cs) ≡ begins_bracket v
bracket_front v cs first others e = rw e refl

-- a unit with columns that is shown lies in the columns that are
shown_wide : (sequence : Bool) (left width at last columns : ℕ) → sequence ≡ false → 0 < columns → (if sequence then true else if columns == 0 then is_shown_behind left width at last else is_inside left width at columns) ≡ true → at + columns ≤ left + width
shown_wide sequence left width at last columns s c h =
    let some : eqb columns 0 ≡ false = ne_eqb columns 0 (λ z. omega (arith, c, z)) in
    let inside : is_inside left width at columns ≡ true = rw (s, some) at h in
    leb-true (at + columns) (left + width) (and_parts (nat_le left at) (nat_le (at + columns) (left + width)) inside).1

-- behind the columns that are shown stands no `[`
shown_beyond : (left width : ℕ) (before us : List (List ℕ)) → AreUnits us → left + width ≤ sum_by unit_columns before → begins_bracket (concat (shown_units left width before us)) ≡ false
shown_beyond left width before [] h l = refl
shown_beyond left width before (u ∷ us) h l =
    let at : ℕ = sum_by unit_columns before in
    let last : ℕ = last_columns before in
    let next : List (List ℕ) = shown_units left width (before ++ u ∷ []) us in
    elim (cases_Bool (is_shown left width at last u)) [
      | inl t ↦
          let other : begins_bracket u ≡ false = elim (cases_Bool (begins_bracket u)) [
            | inl b ↦
                let is = h.0.bracket b in
                let inside = shown_wide (begins_sequence u) left width at last (unit_columns u) is.0 is.1 t in
                absurd (omega (arith, is.1, inside, l))
            | inr b ↦ b
          ] in
          rw t (bracket_front u (concat next) h.0.first h.0.others h.0.some ∙ other)
      | inr f ↦
          let none : columns_inside left width at (unit_columns u) ≡ 0 = omega (arith, l) in
          let more : left + width ≤ sum_by unit_columns (before ++ u ∷ []) = omega (arith, l, sum_by-append unit_columns before (u ∷ [])) in
          rw (f, none) (shown_beyond left width (before ++ u ∷ []) us h.1 more)
    ]

-- a unit that is not shown has columns, where a character without columns would be shown
hidden_wide : (sequence : Bool) (left width at last columns : ℕ) → is_shown_behind left width at last ≡ true → (if sequence then true else if columns == 0 then is_shown_behind left width at last else is_inside left width at columns) ≡ false → 0 < columns
hidden_wide true left width at last columns b h = let d : true ≡ false = h in absurd cc
hidden_wide false left width at last columns b h = elim (cases_Bool (eqb columns 0)) [
  | inl z ↦ let no : true ≡ false = sym b ∙ (rw z at h) in absurd cc
  | inr z ↦ some_columns columns z
]
  where
    some_columns : (c : ℕ) → eqb c 0 ≡ false → 0 < c
    some_columns zero h = let d : true ≡ false = h in absurd cc
    some_columns (suc c) h = omega arith

-- nor does the left end cut it
behind_inside : (left width at last : ℕ) → is_shown_behind left width at last ≡ true → left ≤ at
behind_inside left width at last h = elim (cases_Bool (eqb last 0)) [
  | inl z ↦ let none : left ≡ 0 = eqb-true left 0 (rw z at h) in omega (arith, none)
  | inr z ↦
      let inside : is_inside left width (at - last) last ≡ true = rw z at h in
      let from = leb-true left (at - last) (and_parts (nat_le left (at - last)) (nat_le (at - last + last) (left + width)) inside).0 in
      omega (arith, from)
]

-- where no `[` comes first, none does of what is shown behind a character that is shown
shown_behind : (left width : ℕ) (before us : List (List ℕ)) → AreUnits us → begins_bracket (concat us) ≡ false → is_shown_behind left width (sum_by unit_columns before) (last_columns before) ≡ true → begins_bracket (concat (shown_units left width before us)) ≡ false
shown_behind left width before [] h o b = refl
shown_behind left width before (u ∷ us) h o b =
    let at : ℕ = sum_by unit_columns before in
    let last : ℕ = last_columns before in
    let k : ℕ = columns_inside left width at (unit_columns u) in
    let next : List (List ℕ) = shown_units left width (before ++ u ∷ []) us in
    elim (cases_Bool (is_shown left width at last u)) [
      | inl t ↦ rw t (bracket_front u (concat next) h.0.first h.0.others h.0.some ∙ sym (bracket_front u (concat us) h.0.first h.0.others h.0.some) ∙ o)
      | inr f ↦
          let wide : 0 < unit_columns u = hidden_wide (begins_sequence u) left width at last (unit_columns u) b f in
          let from : left ≤ at = behind_inside left width at last b in
          rw f (hidden k next (λ z.
          let past : left + width ≤ at = omega (arith, z, wide, from) in
          let more : left + width ≤ sum_by unit_columns (before ++ u ∷ []) = omega (arith, past, sum_by-append unit_columns before (u ∷ [])) in
          shown_beyond left width (before ++ u ∷ []) us h.1 more))
    ]
  where
    hidden : (k : ℕ) (next : List (List ℕ)) → (k ≡ 0 → begins_bracket (concat next) ≡ false) → begins_bracket (concat (replicate k (32 ∷ []) ++ next)) ≡ false
    hidden zero next h = h refl
    hidden (suc k) next h = refl

shown_spaces_alone : (left width : ℕ) (before us : List (List ℕ)) → AreSpaces (concat us) → AreSpaces (concat (shown_units left width before us))
shown_spaces_alone left width before [] h = refl
shown_spaces_alone left width before (u ∷ us) h =
    let at : ℕ = sum_by unit_columns before in
    let last : ℕ = last_columns before in
    let k : ℕ = columns_inside left width at (unit_columns u) in
    let next : List (List ℕ) = shown_units left width (before ++ u ∷ []) us in
    let rest : AreSpaces (concat next) = shown_spaces_alone left width (before ++ u ∷ []) us (rest_spaces u (concat us) h) in
    elim (cases_Bool (is_shown left width at last u)) [
      | inl t ↦ rw t (both_spaces u (concat next) (front_spaces u (concat us) h) rest)
      | inr f ↦ rw f (subst (λ (cs : List ℕ). AreSpaces cs) (sym (concat-append (replicate k (32 ∷ [])) next ∙ ap (λ cs. cs ++ concat next) (concat_spaces k))) (both_spaces (replicate k 32) (concat next) (replicated k) rest))
    ]

no_escape_columns : char_columns 27 ≡ 0
unfolding char_columns char_width
no_escape_columns = grind (arith, nat_tests)

-- behind an ESC that is shown, a character without columns would be shown too
zero_shown : (sequence : Bool) (left width at last columns : ℕ) → sequence ≡ false → columns ≡ 0 → (if sequence then true else if columns == 0 then is_shown_behind left width at last else is_inside left width at columns) ≡ true → is_shown_behind left width at last ≡ true
zero_shown sequence left width at last columns s c h = let z : eqb columns 0 ≡ true = eq-eqb columns 0 c in rw (s, z) at h

still_behind : (left width : ℕ) (before : List (List ℕ)) (u : List ℕ) → u ≡ 27 ∷ [] → is_shown left width (sum_by unit_columns before) (last_columns before) u ≡ true
    → is_shown_behind left width (sum_by unit_columns (before ++ u ∷ [])) (last_columns (before ++ u ∷ [])) ≡ true
still_behind left width before u e h =
    let at : ℕ = sum_by unit_columns before in
    let last : ℕ = last_columns before in
    let next : List (List ℕ) = before ++ u ∷ [] in
    let none : unit_columns u ≡ 0 = ap unit_columns e ∙ one_unit 27 ∙ no_escape_columns in
    let one = zero_shown (begins_sequence u) left width at last (unit_columns u) (ap begins_sequence e) none h in
    let sum : sum_by unit_columns next ≡ at = omega (arith, sum_by-append unit_columns before (u ∷ []), sum_by-cons unit_columns u [], none) in
    let same : last_columns next ≡ last = last_columns-push before u ∙ cond-true (eqb (unit_columns u) 0) last (unit_columns u) (eq-eqb (unit_columns u) 0 none) in
    ap (λ (n : ℕ). is_shown_behind left width n (last_columns next)) sum ∙ ap (λ (n : ℕ). is_shown_behind left width at n) same ∙ one

pub shown_are : (left width : ℕ) (before us : List (List ℕ)) → AreUnits us → AreUnits (shown_units left width before us)
shown_are left width before [] h = tt
shown_are left width before (u ∷ us) h =
    let at : ℕ = sum_by unit_columns before in
    let last : ℕ = last_columns before in
    let k : ℕ = columns_inside left width at (unit_columns u) in
    let next : List (List ℕ) = shown_units left width (before ++ u ∷ []) us in
    let rest : AreUnits next = shown_are left width (before ++ u ∷ []) us h.1 in
    elim (cases_Bool (is_shown left width at last u)) [
      | inl t ↦ rw t (
        record {
          first = h.0.first;
          others = h.0.others;
          some = h.0.some;
          bracket = h.0.bracket;
          kind = elim h.0.kind [
            | inl adds ↦ inl adds
            | inr kind ↦ elim kind [
              | inl escape ↦ inr (inl (record { alone = escape.alone; other = shown_behind left width (before ++ u ∷ []) us h.1 escape.other (still_behind left width before u escape.alone t) }))
              | inr end ↦ inr (inr (record { spaces = shown_spaces_alone left width (before ++ u ∷ []) us end.spaces; adds = end.adds }))
            ]
          ];
        },
        rest,
      )
      | inr f ↦ rw f (spaces_before k next rest)
    ]

-- what is shown of a text takes no more columns than there are
pub shown_columns_fit : (left width : ℕ) (cs : List ℕ) → text_columns (concat (shown_units left width [] (text_units cs))) ≤ width
shown_columns_fit left width cs =
    let us : List (List ℕ) = text_units cs in
    omega (arith, units_total (shown_units left width [] us) (shown_are left width [] us (text_units_are cs)), shown_fit left width [] us)

-- ---- fronts that are filled

spaces_none : (k : ℕ) → begins_bracket (concat (replicate k (32 ∷ []))) ≡ false
spaces_none zero = refl
spaces_none (suc k) = refl

spaces_from : (cs : List ℕ) (k : ℕ) → cs ≡ replicate k 32 → AreSpaces cs
spaces_from cs k e = subst (λ (xs : List ℕ). AreSpaces xs) (sym e) (replicated k)

front_bracket : (cols k : ℕ) (us : List (List ℕ)) → AreUnits us → begins_bracket (concat us) ≡ false → begins_bracket (concat (longest_front cols us ++ replicate k (32 ∷ []))) ≡ false
front_bracket cols k [] h o = spaces_none k
front_bracket cols k (u ∷ us) h o = elim (cases_Bool (leb (unit_columns u) cols)) [
  | inl t ↦
      let next : List (List ℕ) = longest_front (cols - unit_columns u) us ++ replicate k (32 ∷ []) in
      rw t (bracket_front u (concat next) h.0.first h.0.others h.0.some ∙ sym (bracket_front u (concat us) h.0.first h.0.others h.0.some) ∙ o)
  | inr f ↦ rw f (spaces_none k)
]

front_spaces_alone : (cols k : ℕ) (us : List (List ℕ)) → AreSpaces (concat us) → AreSpaces (concat (longest_front cols us ++ replicate k (32 ∷ [])))
front_spaces_alone cols k [] h = spaces_from (concat (replicate k (32 ∷ []))) k (concat_spaces k)
front_spaces_alone cols k (u ∷ us) h = elim (cases_Bool (leb (unit_columns u) cols)) [
  | inl t ↦
      let next : List (List ℕ) = longest_front (cols - unit_columns u) us ++ replicate k (32 ∷ []) in
      rw t (both_spaces u (concat next) (front_spaces u (concat us) h) (front_spaces_alone (cols - unit_columns u) k us (rest_spaces u (concat us) h)))
  | inr f ↦ rw f (spaces_from (concat (replicate k (32 ∷ []))) k (concat_spaces k))
]

front_are : (cols k : ℕ) (us : List (List ℕ)) → AreUnits us → AreUnits (longest_front cols us ++ replicate k (32 ∷ []))
front_are cols k [] h = spaces_are k
front_are cols k (u ∷ us) h = elim (cases_Bool (leb (unit_columns u) cols)) [
  | inl t ↦
      rw t (
        record {
          first = h.0.first;
          others = h.0.others;
          some = h.0.some;
          bracket = h.0.bracket;
          kind = elim h.0.kind [
            | inl adds ↦ inl adds
            | inr kind ↦ elim kind [
              | inl escape ↦ inr (inl (record { alone = escape.alone; other = front_bracket (cols - unit_columns u) k us h.1 escape.other }))
              | inr last ↦ inr (inr (record { spaces = front_spaces_alone (cols - unit_columns u) k us last.spaces; adds = last.adds }))
            ]
          ];
        },
        front_are (cols - unit_columns u) k us h.1,
      )
  | inr f ↦ rw f (spaces_are k)
]

-- a text that is cut or filled takes all columns
pub fitted_columns_fill : (cols : ℕ) (cs : List ℕ) → text_columns (concat (fitted_units cols (text_units cs))) ≡ cols
fitted_columns_fill cols cs =
    let us : List (List ℕ) = text_units cs in
    let k : ℕ = cols - sum_by unit_columns (longest_front cols us) in
    units_total (fitted_units cols us) (front_are cols k us (text_units_are cs)) ∙ (fitted_fills cols us).fills

-- ---- as bytes

-- a row that is what is shown of a text
pub cropped_columns : (left width : ℕ) (text row : List ℕ) → IsUtf8 row → row ≡ cropped left width text → columns row ≤ width
unfolding columns cropped
cropped_columns left width text row u e =
    let shown : List ℕ = concat (shown_units left width [] (text_units (chars text))) in
    let same : shown ≡ chars row = chars_from_encodes shown row u (sym e) in
    omega (arith, ap text_columns same, shown_columns_fit left width (chars text))

-- what is added to a text is text
utf8_rest : (cs new more : List ℕ) → IsUtf8 new → new ≡ encode_utf8_all cs ++ more → IsUtf8 more
utf8_rest [] new more u e = subst (λ (bs : List ℕ). IsUtf8 bs) e u
utf8_rest (c ∷ cs) new more u e =
    let rest : List ℕ = encode_utf8_all cs ++ more in
    utf8_rest cs rest more (IsUtf8-past_char new rest c u (e ∙ append_assoc (encode_utf8 c) (encode_utf8_all cs) more)) refl

-- a text that is cut or filled, where it was added to another
pub fitted_columns : (cols : ℕ) (text old new : List ℕ) → IsUtf8 old → IsUtf8 new → new ≡ old ++ fitted cols text → columns (fitted cols text) ≡ cols
unfolding columns fitted
fitted_columns cols text old new u v e =
    let units_are : List ℕ = concat (fitted_units cols (text_units (chars text))) in
    let w : IsUtf8 (encode_utf8_all units_are) = utf8_rest (chars old) new (encode_utf8_all units_are) v (e ∙ ap (λ bs. bs ++ encode_utf8_all units_are) (sym (encodes-chars old u))) in
    ap text_columns (sym (chars_from_encodes units_are (encode_utf8_all units_are) w refl)) ∙ fitted_columns_fill cols (chars text)
