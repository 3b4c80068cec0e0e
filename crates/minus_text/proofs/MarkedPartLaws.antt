-- Laws on what is shown of a text with markers in it, where its columns are its bytes.
use Rattle.std.proofs.Common.{◌≡◌, ℕ, zero, suc, ◌+◌, ◌-◌, ◌<◌, ◌≤◌, true, false, eqb, min, max, List, [], ◌∷◌, ◌++◌, length, take, drop, slice_range, replicate, chars, arith, refl, sym, ap, ap₂, ◌∙◌, append_assoc, inl, inr}
use Rattle.std.specs.List.{concat, sum_by, list_all}
use Rattle.std.specs.Str.{IsAscii, IsUtf8, IsCharBoundary, encode_utf8_all}
use Rattle.std.proofs.Math.Seq.{take-add}
use Rattle.std.proofs.lemmas.Bool.{cases_lt, ne_eqb}
use Rattle.std.proofs.lemmas.List.{append-nil, take_all, take-take, drop-drop, drop-take, map-append, length-append, length-take-le, length-drop}
use Rattle.std.proofs.lemmas.List.Sums.{sum_by-append, sum_by-cons}
use Rattle.std.proofs.lemmas.Str.{chars-nil, chars-append, chars-IsAscii, encodes-IsAscii, encodes-chars, encodes-append, IsUtf8-from_ascii, IsUtf8-between, IsUtf8-drop, IsCharBoundary-end}
use Rattle.std.proofs.lemmas.Str.Ascii.{IsAscii-nil, IsAscii-cons}
use Rattle.minus_text.specs.Plain.{is_printable, is_unescaped}
use Rattle.minus_text.specs.ShownMatches.{IsPlainTo}
use Rattle.minus_text.specs.Units.{units, unit_len, unit_columns, body_of}
use Rattle.minus_text.specs.TextUnits.{text_units}
use Rattle.minus_text.specs.Singles.{singles}
use Rattle.minus_text.specs.Crop.{last_columns, shown_unit, shown_units}
use Rattle.minus_text.specs.Escapes.{CutsText}
use Rattle.minus_text.specs.Highlight.{ordered, put_in, reverse_on, reverse_off}
use Rattle.minus_text.proofs.CutsLaws.{cuts_first}
use Rattle.minus_text.proofs.FrontsLaws.{concat-append}
use Rattle.minus_text.proofs.UnitsLaws.{unit_rule}
use Rattle.minus_text.proofs.PlainLaws.{printable_ascii}
use Rattle.minus_text.proofs.BorderLaws.{chars_unescaped, body_behind}
use Rattle.minus_text.proofs.PartedLaws.{cuts_at}
use Rattle.minus_text.proofs.RowTextsLaws.{all_take, all_drop}
use Rattle.minus_text.proofs.CropPlainLaws.{units_front, text_units_single, shown_append, shown_printable, shown_behind, singles_columns}

-- ---- a marker is a unit without columns, and is shown

pub record IsMarker (mk : List ℕ) : Type 0 where
  pub ascii : IsAscii mk
  pub unit : (zs : List ℕ) → units (mk ++ zs) ≡ mk ∷ units zs
  pub body : (xs ys : List ℕ) → body_of (xs ++ (mk ++ ys)) ≡ xs ++ (mk ++ body_of ys)
  pub columns : unit_columns mk ≡ 0
  pub shown : (left width at last : ℕ) → shown_unit left width at last mk ≡ mk ∷ []

assoc_three : (xs ps fs ys : List ℕ) → xs ++ ((ps ++ fs) ++ ys) ≡ ((xs ++ ps) ++ fs) ++ ys
assoc_three xs ps fs ys = ap (λ zs. xs ++ zs) (append_assoc ps fs ys) ∙ sym (append_assoc xs ps (fs ++ ys)) ∙ sym (append_assoc (xs ++ ps) fs ys)

body_marked : (ps xs ys : List ℕ) (f : ℕ) → eqb f 32 ≡ false → body_of (xs ++ ((ps ++ f ∷ []) ++ ys)) ≡ xs ++ ((ps ++ f ∷ []) ++ body_of ys)
body_marked ps xs ys f e = ap body_of (assoc_three xs ps (f ∷ []) ys) ∙ body_behind (xs ++ ps) f ys e ∙ sym (assoc_three xs ps (f ∷ []) (body_of ys))

pub on_marks : IsMarker reverse_on
on_marks = record {
  ascii = IsAscii-cons 27 (91 ∷ 55 ∷ 109 ∷ []) (omega arith) (IsAscii-cons 91 (55 ∷ 109 ∷ []) (omega arith) (IsAscii-cons 55 (109 ∷ []) (omega arith) (IsAscii-cons 109 [] (omega arith) IsAscii-nil)));
  unit = λ zs. cuts_first unit_len unit_rule (reverse_on ++ zs) reverse_on zs (omega arith) refl refl;
  body = λ xs ys. body_marked (27 ∷ 91 ∷ 55 ∷ []) xs ys 109 refl;
  columns = refl;
  shown = λ left width at last. refl;
}

pub off_marks : IsMarker reverse_off
off_marks = record {
  ascii = IsAscii-cons 27 (91 ∷ 50 ∷ 55 ∷ 109 ∷ []) (omega arith) (IsAscii-cons 91 (50 ∷ 55 ∷ 109 ∷ []) (omega arith) (IsAscii-cons 50 (55 ∷ 109 ∷ []) (omega arith) (IsAscii-cons 55 (109 ∷ []) (omega arith) (IsAscii-cons 109 [] (omega arith) IsAscii-nil))));
  unit = λ zs. cuts_first unit_len unit_rule (reverse_off ++ zs) reverse_off zs (omega arith) refl refl;
  body = λ xs ys. body_marked (27 ∷ 91 ∷ 50 ∷ 55 ∷ []) xs ys 109 refl;
  columns = refl;
  shown = λ left width at last. refl;
}

-- the units of characters without ESC, of a marker and of what follows it
pub text_units_marked : (xs mk ys : List ℕ) → IsMarker mk → list_all is_unescaped xs ≡ true → text_units (xs ++ (mk ++ ys)) ≡ singles xs ++ (mk ∷ text_units ys)
unfolding text_units
text_units_marked xs mk ys m h =
    let whole : List ℕ = xs ++ (mk ++ ys) in
    let n : ℕ = length ys - length (body_of ys) in
    let longer : length whole ≡ length xs + (length mk + length ys) = omega (arith, length-append xs (mk ++ ys), length-append mk ys) in
    let body = m.body xs ys in
    let body_longer : length (body_of whole) ≡ length xs + (length mk + length (body_of ys)) = omega (arith, ap length body, length-append xs (mk ++ body_of ys), length-append mk (body_of ys)) in
    let count : length whole - length (body_of whole) ≡ n = omega (arith, longer, body_longer) in
    let front : units (body_of whole) ≡ singles xs ++ (mk ∷ units (body_of ys)) = ap units body ∙ units_front xs (mk ++ body_of ys) h ∙ ap (λ us. singles xs ++ us) (m.unit (body_of ys)) in
    ap (λ us. us ++ replicate (length whole - length (body_of whole)) (32 ∷ [])) front
    ∙ ap (λ k. (singles xs ++ (mk ∷ units (body_of ys))) ++ replicate k (32 ∷ [])) count
    ∙ append_assoc (singles xs) (mk ∷ units (body_of ys)) (replicate n (32 ∷ []))

-- ---- parts of lists

pub take_both : {A : Type 0} (m n : ℕ) (xs : List A) → take m (take n xs) ≡ take (min m n) xs
take_both m n xs = elim (cases_lt n m) [
  | inl l ↦ let k : min m n ≡ n = omega (arith, l) in let size = length_le n xs in take_all m (take n xs) (omega (arith, l, size)) ∙ ap (λ i. take i xs) (sym k)
  | inr g ↦ let k : min m n ≡ m = omega (arith, g) in take-take m n xs g ∙ ap (λ i. take i xs) (sym k)
]
  where
    length_le : {A : Type 0} (n : ℕ) (xs : List A) → length (take n xs) ≤ n
    length_le zero xs = omega arith
    length_le (suc n) [] = omega arith
    length_le (suc n) (x ∷ xs) = omega (arith, length_le n xs)

pub drop_part : {A : Type 0} (k n : ℕ) (xs : List A) → drop k (take n xs) ≡ take (n - k) (drop k xs)
drop_part zero n xs = let e : n - zero ≡ n = omega arith in ap (λ i. take i xs) (sym e)
drop_part (suc k) zero xs = let e : zero - suc k ≡ 0 = omega arith in ap (λ i. take i (drop (suc k) xs)) (sym e)
drop_part (suc k) (suc n) [] = let e : suc n - suc k ≡ n - k = omega arith in none (n - k) ∙ ap (λ i. take i []) (sym e)
  where
    none : {A : Type 0} (i : ℕ) → [] ≡ take {A = A} i []
    none zero = refl
    none (suc i) = refl
drop_part (suc k) (suc n) (x ∷ xs) = let e : suc n - suc k ≡ n - k = omega arith in drop_part k n xs ∙ ap (λ i. take i (drop k xs)) (sym e)

pub split_at : (text : List ℕ) (a m b : ℕ) → a ≤ m → m ≤ b → slice_range text a b ≡ slice_range text a m ++ slice_range text m b
split_at text a m b l h =
    let sum : b - a ≡ (m - a) + (b - m) = omega (arith, l, h) in
    let at : a + (m - a) ≡ m = omega (arith, l) in
    ap (λ n. take n (drop a text)) sum ∙ take-add (m - a) (b - m) (drop a text)
    ∙ ap (λ xs. take (m - a) (drop a text) ++ take (b - m) xs) (drop-drop (m - a) a text ∙ ap (λ n. drop n text) at)

-- some unit has columns
some_last : (us : List (List ℕ)) → 0 < sum_by unit_columns us → 0 < last_columns us
some_last [] h = absurd (omega (arith, h))
some_last (u ∷ us) h = elim (cases_lt 0 (last_columns us)) [
  | inl l ↦ let other : eqb (last_columns us) 0 ≡ false = ne_eqb (last_columns us) 0 (λ z. omega (arith, z, l)) in rw other l
  | inr g ↦
      let none : last_columns us ≡ 0 = omega (arith, g) in
      elim (cases_lt 0 (sum_by unit_columns us)) [
        | inl s ↦ let l = some_last us s in absurd (omega (arith, l, none))
        | inr t ↦ rw none (omega (arith, h, t, sum_by-cons unit_columns u us))
      ]
]

-- ---- what is shown of a stretch of a text

-- the columns of units are the bytes before a place, as far as these are told apart
pub record Stands (end a : ℕ) (before : List (List ℕ)) : Type 0 where
  pub inside : a ≤ end → sum_by unit_columns before ≡ a
  pub behind : end < a → end < sum_by unit_columns before

module _ (left width : ℕ) (text : List ℕ) (u : IsUtf8 text) (plain : IsPlainTo (left + width) text) where
  abbrev end : ℕ
  end = left + width

  -- the columns of a stretch that are shown
  abbrev pub part : ℕ → ℕ → List ℕ
  part a b = slice_range text (max left a) (min (left + width) b)

  abbrev pub shown_bytes : List (List ℕ) → List (List ℕ) → List ℕ
  shown_bytes before us = encode_utf8_all (concat (shown_units left width before us))

  printable_part : (a b : ℕ) → b ≤ end + 1 → list_all is_printable (slice_range text a b) ≡ true
  printable_part a b l = elim (cases_lt b a) [
    | inl m ↦ let none : b - a ≡ 0 = omega (arith, m) in ap (λ n. list_all is_printable (take n (drop a text))) none
    | inr g ↦
        let sum : a + (b - a) ≡ b = omega (arith, g) in
        let cut : slice_range text a b ≡ drop a (take b (take (end + 1) text)) = sym (drop-take a (b - a) text) ∙ ap (λ n. drop a (take n text)) sum ∙ ap (drop a) (sym (take-take b (end + 1) text l)) in
        ap (list_all is_printable) cut ∙ all_drop is_printable (take b (take (end + 1) text)) a (all_take is_printable (take (end + 1) text) b plain.0)
  ]

  unescaped_chars : (xs : List ℕ) → IsUtf8 xs → list_all is_unescaped xs ≡ true → list_all is_unescaped (chars xs) ≡ true
  unescaped_chars xs v h = chars_unescaped (chars xs) (rw (encodes-chars xs v) h)

  pub unescaped_part : (a b : ℕ) → a ≤ b → IsCharBoundary text a → IsCharBoundary text b → list_all is_unescaped (chars (slice_range text a b)) ≡ true
  unescaped_part a b l p q = unescaped_chars (slice_range text a b) (IsUtf8-between text a b u l p q) (all_take is_unescaped (drop a text) (b - a) (all_drop is_unescaped text a plain.1))

  -- a stretch behind the columns that are shown
  hidden : (before : List (List ℕ)) (cs : List ℕ) → end < sum_by unit_columns before → shown_bytes before (singles cs) ≡ []
  hidden before cs h = ap encode_utf8_all (shown_behind left width before cs h (some_last before (omega (arith, h))))

  -- a stretch up to the first of them
  part_of_stretch : (a b : ℕ) → a ≤ b → (let m = min b (end + 1) in take (end - max left a) (drop (left - a) (slice_range text a m)) ≡ part a b)
  part_of_stretch a b l =
      let m : ℕ = min b (end + 1) in
      let sum : a + (left - a) ≡ max left a = omega arith in
      let count : min (end - max left a) ((m - a) - (left - a)) ≡ min end b - max left a = omega (arith, l) in
      ap (take (end - max left a)) (drop_part (left - a) (m - a) (drop a text) ∙ ap (take ((m - a) - (left - a))) (drop-drop (left - a) a text ∙ ap (λ n. drop n text) sum))
      ∙ take_both (end - max left a) ((m - a) - (left - a)) (drop (max left a) text) ∙ ap (λ n. take n (drop (max left a) text)) count

  -- what is shown of a stretch that begins there
  module _ (a b : ℕ) (before : List (List ℕ)) (l : a ≤ b) (p : IsCharBoundary text a) (q : IsCharBoundary text b) where
    abbrev m : ℕ
    m = min b (end + 1)

    abbrev near : List ℕ
    near = slice_range text a m

    abbrev far : List ℕ
    far = slice_range text m b

    printed : list_all is_printable near ≡ true
    printed = printable_part a m (omega arith)

    near_ascii : IsAscii near
    near_ascii = printable_ascii near printed

    two : a ≤ end → singles (chars (slice_range text a b)) ≡ singles near ++ singles (chars far)
    two s =
        let split = split_at text a m b (omega (arith, l, s)) (omega arith) in
        ap (λ xs. singles (chars xs)) split ∙ ap singles (chars-append near far (IsUtf8-from_ascii near near_ascii) ∙ ap (λ cs. cs ++ chars far) (chars-IsAscii near near_ascii)) ∙ map-append (λ (c : ℕ). c ∷ []) near (chars far)

    near_size : a ≤ end → length near ≡ m - a
    near_size s = let room = q.0 in length-take-le (m - a) (drop a text) (omega (arith, length-drop a text, room))

    near_columns : a ≤ end → sum_by unit_columns before ≡ a → sum_by unit_columns (before ++ singles near) ≡ m
    near_columns s e = omega (arith, e, l, s, sum_by-append unit_columns before (singles near), singles_columns near printed, near_size s)

    none_far : b ≤ end + 1 → far ≡ []
    none_far s = let none : b - m ≡ 0 = omega (arith, s) in ap (λ n. take n (drop m text)) none

    far_hidden : a ≤ end → sum_by unit_columns before ≡ a → shown_bytes (before ++ singles near) (singles (chars far)) ≡ []
    far_hidden s e = elim (cases_lt (end + 1) b) [
      | inl r ↦ hidden (before ++ singles near) (chars far) (omega (arith, r, near_columns s e))
      | inr g ↦ ap (λ xs. shown_bytes (before ++ singles near) (singles (chars xs))) (none_far g) ∙ ap (λ cs. shown_bytes (before ++ singles near) (singles cs)) chars-nil
    ]

    near_shown : a ≤ end → sum_by unit_columns before ≡ a → shown_bytes before (singles near) ≡ part a b
    near_shown s e =
        let here = shown_printable left width a before near (sym e) printed in
        let piece : List ℕ = take (end - max left a) (drop (left - a) near) in
        let small : IsAscii piece = printable_ascii piece (all_take is_printable (drop (left - a) near) (end - max left a) (all_drop is_printable near (left - a) printed)) in
        ap encode_utf8_all here ∙ encodes-IsAscii piece small ∙ part_of_stretch a b l

    pub stretch_shown : Stands end a before → shown_bytes before (singles (chars (slice_range text a b))) ≡ part a b
    stretch_shown h = elim (cases_lt end a) [
      | inl r ↦
          let none : min end b - max left a ≡ 0 = omega (arith, r) in
          hidden before (chars (slice_range text a b)) (h.behind r) ∙ ap (λ n. take n (drop (max left a) text)) (sym none)
      | inr g ↦
          let e = h.inside g in
          let first : List (List ℕ) = shown_units left width before (singles near) in
          let second : List (List ℕ) = shown_units left width (before ++ singles near) (singles (chars far)) in
          ap (λ us. shown_bytes before us) (two g) ∙ ap (λ us. encode_utf8_all (concat us)) (shown_append left width before (singles near) (singles (chars far)))
          ∙ ap encode_utf8_all (concat-append first second) ∙ encodes-append (concat first) (concat second)
          ∙ ap₂ ◌++◌ (near_shown g e) (far_hidden g e) ∙ append-nil (part a b)
    ]

    pub stands_behind : Stands end a before → Stands end b (before ++ singles (chars (slice_range text a b)))
    stands_behind h = record {
      inside = λ s.
          let r : a ≤ end = omega (arith, l, s) in
          let e = h.inside r in
          let all : singles (chars (slice_range text a b)) ≡ singles near =
          two r ∙ ap (λ xs. singles near ++ singles (chars xs)) (none_far (omega (arith, s))) ∙ ap (λ cs. singles near ++ singles cs) chars-nil ∙ append-nil (singles near) in
          ap (λ us. sum_by unit_columns (before ++ us)) all ∙ omega (arith, near_columns r e, s);
      behind = λ s. elim (cases_lt end a) [
        | inl r ↦ let more = h.behind r in omega (arith, more, sum_by-append unit_columns before (singles (chars (slice_range text a b))))
        | inr g ↦
            let e = h.inside g in
            let all = ap (λ us. sum_by unit_columns (before ++ us)) (two g) in
            let apart : sum_by unit_columns (before ++ (singles near ++ singles (chars far))) ≡ sum_by unit_columns (before ++ singles near) + sum_by unit_columns (singles (chars far)) =
            ap (sum_by unit_columns) (sym (append_assoc before (singles near) (singles (chars far)))) ∙ sum_by-append unit_columns (before ++ singles near) (singles (chars far)) in
            omega (arith, all, apart, near_columns g e, s)
      ];
    }

  -- a stretch with a marker behind it
  module _ (a b : ℕ) (before : List (List ℕ)) (mk rest : List ℕ) (m : IsMarker mk) (l : a ≤ b) (p : IsCharBoundary text a) (q : IsCharBoundary text b) (h : Stands end a before) where
    abbrev here : List ℕ
    here = slice_range text a b

    abbrev pub behind_marker : List (List ℕ)
    behind_marker = (before ++ singles (chars here)) ++ mk ∷ []

    pub marker_stands : Stands end b behind_marker
    marker_stands =
        let s = stands_behind a b before l p q h in
        let sum : sum_by unit_columns behind_marker ≡ sum_by unit_columns (before ++ singles (chars here)) = omega (arith, sum_by-append unit_columns (before ++ singles (chars here)) (mk ∷ []), sum_by-cons unit_columns mk [], m.columns) in
        record { inside = λ r. sum ∙ s.inside r; behind = λ r. let t = s.behind r in omega (arith, t, sum) }

    pub marker_shown : shown_bytes before (text_units (chars (here ++ (mk ++ rest)))) ≡ part a b ++ (mk ++ shown_bytes behind_marker (text_units (chars rest)))
    marker_shown =
        let split : chars (here ++ (mk ++ rest)) ≡ chars here ++ (mk ++ chars rest) =
        chars-append here (mk ++ rest) (IsUtf8-between text a b u l p q)
        ∙ ap (λ cs. chars here ++ cs) (chars-append mk rest (IsUtf8-from_ascii mk m.ascii) ∙ ap (λ cs. cs ++ chars rest) (chars-IsAscii mk m.ascii)) in
        let us : List (List ℕ) = singles (chars here) in
        let more : List (List ℕ) = text_units (chars rest) in
        let first : List (List ℕ) = shown_units left width before us in
        let at : List (List ℕ) = before ++ us in
        let after : List (List ℕ) = shown_units left width behind_marker more in
        let seen : shown_units left width at (mk ∷ more) ≡ mk ∷ after = ap (λ vs. vs ++ after) (m.shown left width (sum_by unit_columns at) (last_columns at)) in
        ap (λ cs. shown_bytes before (text_units cs)) split
        ∙ ap (shown_bytes before) (text_units_marked (chars here) mk (chars rest) m (unescaped_part a b l p q))
        ∙ ap (λ vs. encode_utf8_all (concat vs)) (shown_append left width before us (mk ∷ more) ∙ ap (λ vs. first ++ vs) seen)
        ∙ ap encode_utf8_all (concat-append first (mk ∷ after)) ∙ encodes-append (concat first) (mk ++ concat after)
        ∙ ap₂ ◌++◌ (stretch_shown a b before l p q h) (encodes-append mk (concat after) ∙ ap (λ bs. bs ++ encode_utf8_all (concat after)) (encodes-IsAscii mk m.ascii))

  -- the parts of a text from a place on that are shown, with the markers of these matches
  abbrev pub marked_part : ℕ → List (ℕ × ℕ) → List ℕ
  marked_part a [] = part a (length text)
  marked_part a (x ∷ ms) = part a x.0 ++ (reverse_on ++ (part x.0 x.1 ++ (reverse_off ++ marked_part x.1 ms)))

  rest_shown : (a : ℕ) (before : List (List ℕ)) → IsCharBoundary text a → Stands end a before → shown_bytes before (text_units (chars (drop a text))) ≡ part a (length text)
  rest_shown a before p h =
      let n : ℕ = length text in
      let all : slice_range text a n ≡ drop a text = take_all (n - a) (drop a text) (omega (arith, length-drop a text)) in
      let free : list_all is_unescaped (chars (drop a text)) ≡ true = unescaped_chars (drop a text) (IsUtf8-drop text a u p) (all_drop is_unescaped text a plain.1) in
      ap (shown_bytes before) (text_units_single (chars (drop a text)) free) ∙ ap (λ xs. shown_bytes before (singles (chars xs))) (sym all)
      ∙ stretch_shown a n before p.0 p (IsCharBoundary-end text) h

  pub marks_shown : (ms : List (ℕ × ℕ)) (a : ℕ) (before : List (List ℕ)) → CutsText text a ms → Stands end a before → shown_bytes before (text_units (chars (put_in text a (ordered false ms [])))) ≡ marked_part a ms
  marks_shown [] a before c h = rest_shown a before c h
  marks_shown (x ∷ ms) a before c h =
      let later : List ℕ = put_in text x.1 (ordered false ms []) in
      let second : List ℕ = slice_range text x.0 x.1 ++ (reverse_off ++ later) in
      let q : IsCharBoundary text x.1 = cuts_at text x.1 ms c.4 in
      let on = marker_stands a x.0 before reverse_on second on_marks c.1 c.0 c.2 h in
      let opened : List (List ℕ) = behind_marker a x.0 before reverse_on second on_marks c.1 c.0 c.2 h in
      let off = marker_stands x.0 x.1 opened reverse_off later off_marks c.3 c.2 q on in
      let closed : List (List ℕ) = behind_marker x.0 x.1 opened reverse_off later off_marks c.3 c.2 q on in
      marker_shown a x.0 before reverse_on second on_marks c.1 c.0 c.2 h
      ∙ ap (λ bs. part a x.0 ++ (reverse_on ++ bs))
      (marker_shown x.0 x.1 opened reverse_off later off_marks c.3 c.2 q on
      ∙ ap (λ bs. part x.0 x.1 ++ (reverse_off ++ bs)) (marks_shown ms x.1 closed c.4 off))
