-- Laws on the matches that are shown in some columns of a text.
use Rattle.std.proofs.Common.{◌≡◌, ℕ, zero, suc, ◌+◌, ◌-◌, ◌<◌, ◌≤◌, Bool, true, false, eqb, ltb, get_or, min, max, List, [], ◌∷◌, ◌++◌, length, take, drop, slice_range, chars, arith, refl, sym, ap, ap₂, ◌∙◌, append_assoc, if◌then◌else◌, inl, inr}
use Rattle.std.specs.List.{filter, list_all}
use Rattle.std.specs.Str.{IsAscii, IsUtf8, IsCharBoundary, encode_utf8_all}
use Rattle.std.proofs.lemmas.Bool.{cases_Bool, cases_lt, and_parts, ne_eqb, lt-ltb, le-ltb, ltb-true, ltb-false}
use Rattle.std.proofs.lemmas.List.{append-nil, take-append-drop, map-append, length-take, take-take}
use Rattle.std.proofs.lemmas.Str.{chars-append, chars-IsAscii, encodes-IsAscii, encodes-chars, IsUtf8-from_ascii}
use Rattle.minus_text.specs.Plain.{is_printable, is_unescaped}
use Rattle.minus_text.specs.Units.{unit_columns}
use Rattle.minus_text.specs.TextUnits.{text_units}
use Rattle.minus_text.specs.Singles.{singles}
use Rattle.minus_text.specs.Crop.{cropped}
use Rattle.minus_text.specs.Escapes.{CutsText}
use Rattle.minus_text.specs.Highlight.{reverse_on, reverse_off}
use Rattle.minus_text.specs.ShownMatches.{IsPlainTo, columns_before, shows_match, reversed_in, marked_stretch}
use Rattle.minus_text.proofs.BorderLaws.{chars_unescaped}
use Rattle.minus_text.proofs.PartedLaws.{cuts_at}
use Rattle.minus_text.proofs.RowTextsLaws.{all_take}
use Rattle.minus_text.proofs.PlainLaws.{printable_ascii}
use Rattle.minus_text.proofs.CropPlainLaws.{single_columns, text_units_single, printable_boundary}
use Rattle.minus_text.proofs.MarkedPartLaws.{Stands, marked_part, marks_shown}

-- ---- places that are left out

pub lower_cuts : (text : List ℕ) (a p : ℕ) (ms : List (ℕ × ℕ)) → a ≤ p → IsCharBoundary text a → CutsText text p ms → CutsText text a ms
lower_cuts text a p [] l b h = b
lower_cuts text a p (m ∷ ms) l b h = let up = h.1 in (b, omega (arith, l, up), h.2, h.3, h.4)

pub cuts_filtered : (text : List ℕ) (test : ℕ × ℕ → Bool) (a : ℕ) (ms : List (ℕ × ℕ)) → CutsText text a ms → CutsText text a (filter test ms)
cuts_filtered text test a [] h = h
cuts_filtered text test a (m ∷ ms) h =
    let later = cuts_filtered text test m.1 ms h.4 in
    elim (cases_Bool (test m)) [
      | inl t ↦ rw t (h.0, h.1, h.2, h.3, later)
      | inr f ↦ rw f (let one = h.1 in let two = h.3 in lower_cuts text a m.1 (filter test ms) (omega (arith, one, two)) h.0 later)
    ]

-- ---- the columns before a place of printable characters are its bytes

at_start : (us : List (List ℕ)) → columns_before 0 us ≡ 0
at_start [] = refl
at_start (u ∷ us) = refl

one_more : (n c : ℕ) (us : List (List ℕ)) → is_printable c ≡ true → columns_before (suc n) ((c ∷ []) ∷ us) ≡ 1 + columns_before n us
one_more n c us h =
    let some : eqb (suc n) 0 ≡ false = ne_eqb (suc n) 0 (λ z. omega (arith, z)) in
    let all : list_all is_printable (c ∷ []) ≡ true = rw h refl in
    let size : length (encode_utf8_all (c ∷ [])) ≡ 1 = ap length (encodes-IsAscii (c ∷ []) (printable_ascii (c ∷ []) all)) in
    let less : suc n - 1 ≡ n = omega arith in
    rw some (ap₂ ◌+◌ (single_columns c h) (ap (λ k. columns_before (suc n - k) us) size ∙ ap (λ k. columns_before k us) less))

printable_before : (p : ℕ) (front : List ℕ) (us : List (List ℕ)) → list_all is_printable front ≡ true
    → (p ≤ length front → columns_before p (singles front ++ us) ≡ p) × (length front ≤ p → length front ≤ columns_before p (singles front ++ us))
printable_before p [] us h = (λ l. let z : p ≡ 0 = omega (arith, l) in ap (λ k. columns_before k us) z ∙ at_start us ∙ sym z, λ l. omega arith)
printable_before zero (c ∷ front) us h = (λ l. refl, λ l. omega (arith, l))
printable_before (suc n) (c ∷ front) us h =
    let both = and_parts (is_printable c) (list_all is_printable front) h in
    let more = printable_before n front us both.1 in
    let step = one_more n c (singles front ++ us) both.0 in
    (λ l. let e = more.0 (omega (arith, l)) in omega (arith, step, e), λ l. let e = more.1 (omega (arith, l)) in omega (arith, step, e))

meets_alike : (left end c d p q : ℕ) → (p ≤ end → c ≡ p) → (end < p → end < c) → (q ≤ end → d ≡ q) → (end < q → end < d) → ltb (max left c) (min end d) ≡ ltb (max left p) (min end q)
meets_alike left end c d p q a b e f = elim (cases_lt end p) [
  | inl l ↦ let g = b l in le-ltb (max left c) (min end d) (omega (arith, g)) ∙ sym (le-ltb (max left p) (min end q) (omega (arith, l)))
  | inr l ↦ let g = a l in elim (cases_lt end q) [
    | inl m ↦ let h = f m in ap (λ k. ltb (max left k) (min end d)) g ∙ ap (ltb (max left p)) (omega (arith, h, m))
    | inr m ↦ let h = e m in ap (λ k. ltb (max left k) (min end d)) g ∙ ap (λ k. ltb (max left p) (min end k)) h
  ]
]

module _ (left width : ℕ) (text : List ℕ) (u : IsUtf8 text) (plain : IsPlainTo (left + width) text) where
  abbrev end : ℕ
  end = left + width

  abbrev stop : ℕ
  stop = min (left + width) (length text)

  -- each place up to there lies between two characters
  pub plain_boundary : (n : ℕ) → n ≤ stop → IsCharBoundary text n
  plain_boundary n l =
      let cut : take n (take (end + 1) text) ≡ take n text = take-take n (end + 1) text (omega (arith, l)) in
      printable_boundary text n u (omega (arith, l)) (ap (list_all is_printable) (sym cut) ∙ all_take is_printable (take (end + 1) text) n plain.0)

  plain_units : text_units (chars text) ≡ singles (take (end + 1) text) ++ singles (chars (drop (end + 1) text))
  plain_units =
      let front : List ℕ = take (end + 1) text in
      let rest : List ℕ = drop (end + 1) text in
      let small : IsAscii front = printable_ascii front plain.0 in
      let all : list_all is_unescaped (chars text) ≡ true = chars_unescaped (chars text) (rw (encodes-chars text u) plain.1) in
      let split : chars text ≡ front ++ chars rest =
      ap chars (sym (take-append-drop (end + 1) text)) ∙ chars-append front rest (IsUtf8-from_ascii front small) ∙ ap (λ cs. cs ++ chars rest) (chars-IsAscii front small) in
      text_units_single (chars text) all ∙ ap singles split ∙ map-append (λ (c : ℕ). c ∷ []) front (chars rest)

  plain_columns : (p : ℕ) → p ≤ length text → (let c = columns_before p (text_units (chars text)) in (p ≤ end → c ≡ p) × (end < p → end < c))
  plain_columns p l =
      let both = printable_before p (take (end + 1) text) (singles (chars (drop (end + 1) text))) plain.0 in
      let size = length-take (end + 1) text in
      let same = ap (columns_before p) plain_units in
      (λ m. same ∙ both.0 (omega (arith, l, m, size)), λ m. let e = both.1 (omega (arith, m, size)) in omega (arith, same, e, l, m, size))

  -- a match of it is shown where some of its bytes are
  pub plain_shows : (m : ℕ × ℕ) → m.0 ≤ length text → m.1 ≤ length text → shows_match left width (text_units (chars text)) m ≡ ltb (max left m.0) (min end m.1)
  plain_shows m l h =
      let a = plain_columns m.0 l in
      let b = plain_columns m.1 h in
      meets_alike left end _ _ m.0 m.1 a.0 a.1 b.0 b.1

  -- ---- the parts that are shown, as they are put together

  empty_range : (a b : ℕ) → b ≤ a → slice_range text a b ≡ []
  empty_range a b l = let none : b - a ≡ 0 = omega (arith, l) in ap (λ n. take n (drop a text)) none

  -- a place that is moved into the columns
  range_from : (a : ℕ) → slice_range text a stop ≡ slice_range text (min a stop) stop
  range_from a = elim (cases_lt stop a) [
    | inl l ↦ empty_range a stop (omega (arith, l)) ∙ sym (empty_range (min a stop) stop (omega arith))
    | inr g ↦ let same : min a stop ≡ a = omega (arith, g) in ap (λ n. slice_range text n stop) (sym same)
  ]

  -- what stands before a match that is shown
  range_before : (a b : ℕ) → a ≤ b → max left b < end → slice_range text (max left a) (min end b) ≡ slice_range text (max left a) (max b (max left a))
  range_before a b l h = elim (cases_lt b left) [
    | inl m ↦ empty_range (max left a) (min end b) (omega (arith, m)) ∙ sym (empty_range (max left a) (max b (max left a)) (omega (arith, l, m)))
    | inr g ↦ let same : min end b ≡ max b (max left a) = omega (arith, l, h, g) in ap (slice_range text (max left a)) same
  ]

  pub part_is_stretch : (ms : List (ℕ × ℕ)) (a : ℕ) → CutsText text a ms
      → marked_part left width text u plain a (filter (shows_match left width (text_units (chars text))) ms) ≡ marked_stretch text (min (max left a) stop) stop ms
  part_is_stretch [] a c = range_from (max left a)
  part_is_stretch (m ∷ ms) a c =
      let at : ℕ = min (max left a) stop in
      let from = c.1 in
      let order = c.3 in
      let room = (cuts_at text m.1 ms c.4).0 in
      let shows = plain_shows m c.2.0 room in
      let later : List (ℕ × ℕ) = filter (shows_match left width (text_units (chars text))) ms in
      elim (cases_Bool (shows_match left width (text_units (chars text)) m)) [
        | inl t ↦
            let l : max left m.0 < min end m.1 = ltb-true (max left m.0) (min end m.1) (sym shows ∙ t) in
            let here : at ≡ max left a = omega (arith, l, from, room) in
            let start : max m.0 at ≡ max left m.0 = omega (arith, here, from) in
            let until : min m.1 stop ≡ min end m.1 = omega (arith, room) in
            let some : ltb (max m.0 at) (min m.1 stop) ≡ true = lt-ltb (max m.0 at) (min m.1 stop) (omega (arith, l, start, until)) in
            let next : min (max left m.1) stop ≡ min m.1 stop = omega (arith, l) in
            let before : slice_range text (max left a) (min end m.0) ≡ slice_range text at (max m.0 at) =
            range_before a m.0 from (omega (arith, l)) ∙ ap (λ n. slice_range text n (max m.0 n)) (sym here) in
            let inside : slice_range text (max left m.0) (min end m.1) ≡ slice_range text (max m.0 at) (min m.1 stop) = ap₂ (slice_range text) (sym start) (sym until) in
            let rest = part_is_stretch ms m.1 c.4 ∙ ap (λ n. marked_stretch text n stop ms) next in
            rw (t, some) (ap₂ (λ xs ys. xs ++ (reverse_on ++ ys)) before (ap₂ (λ xs ys. xs ++ (reverse_off ++ ys)) inside rest))
        | inr f ↦
            let g : min end m.1 ≤ max left m.0 = ltb-false (max left m.0) (min end m.1) (sym shows ∙ f) in
            let none : ltb (max m.0 at) (min m.1 stop) ≡ false = le-ltb (max m.0 at) (min m.1 stop) (omega (arith, g, from, order, room)) in
            rw (f, none) (part_is_stretch ms a (lower_cuts text a m.1 ms (omega (arith, from, order)) c.0 c.4))
      ]

  -- what is shown of it with its matches that are shown in reverse
  pub plain_shown : (ms : List (ℕ × ℕ)) → CutsText text 0 ms → cropped left width (reversed_in left width text ms []) ≡ marked_stretch text (min left stop) stop ms
  unfolding cropped
  plain_shown ms c =
      let test = shows_match left width (text_units (chars text)) in
      let none : Stands end 0 [] = record { inside = λ l. refl; behind = λ l. absurd (omega (arith, l)) } in
      let same : max left 0 ≡ left = omega arith in
      marks_shown left width text u plain (filter test ms) 0 [] (cuts_filtered text test 0 ms c) none ∙ part_is_stretch ms 0 c ∙ ap (λ n. marked_stretch text (min n stop) stop ms) same

-- ---- units that are counted one after another

-- one unit more that begins before a place
pub counts_one : (q at columns : ℕ) (unit : List ℕ) (us more : List (List ℕ)) → at < q → us ≡ unit ∷ more → columns + columns_before (q - at) us ≡ (columns + unit_columns unit) + columns_before (q - (at + length (encode_utf8_all unit))) more
counts_one q at columns unit us more l e =
    let some : eqb (q - at) 0 ≡ false = ne_eqb (q - at) 0 (λ z. omega (arith, l, z)) in
    let less : (q - at) - length (encode_utf8_all unit) ≡ q - (at + length (encode_utf8_all unit)) = omega arith in
    let first : columns_before (q - at) (unit ∷ more) ≡ unit_columns unit + columns_before ((q - at) - length (encode_utf8_all unit)) more = rw some refl in
    omega (arith, ap (columns_before (q - at)) e, first, ap (λ n. columns_before n more) less)

-- no unit is left, or none that begins before the place
pub counts_all : (q at columns : ℕ) (us : List (List ℕ)) → us ≡ [] → columns ≡ columns + columns_before (q - at) us
counts_all q at columns us e = omega (arith, ap (columns_before (q - at)) e)

pub counts_reached : (q at columns : ℕ) (us : List (List ℕ)) → q ≤ at → columns ≡ columns + columns_before (q - at) us
counts_reached q at columns us l =
    let none : q - at ≡ 0 = omega (arith, l) in
    omega (arith, ap (λ n. columns_before n us) none, at_start us)

-- ---- matches one after another

pub filter_more : (test : ℕ × ℕ → Bool) (m : ℕ × ℕ) (left ms olds news all : List (ℕ × ℕ)) → left ≡ m ∷ ms → olds ++ filter test left ≡ all → news ≡ olds ++ (if test m then m ∷ [] else []) → news ++ filter test ms ≡ all
filter_more test m left ms olds news all e inv n = elim (cases_Bool (test m)) [
  | inl t ↦
      let one : filter test (m ∷ ms) ≡ m ∷ filter test ms = rw t refl in
      let added : news ≡ olds ++ m ∷ [] = rw t at n in
      ap (λ l. l ++ filter test ms) added ∙ append_assoc olds (m ∷ []) (filter test ms) ∙ ap (λ l. olds ++ l) (sym (ap (filter test) e ∙ one)) ∙ inv
  | inr f ↦
      let none : filter test (m ∷ ms) ≡ filter test ms = rw f refl in
      let same : news ≡ olds ++ [] = rw f at n in
      ap (λ l. l ++ filter test ms) (same ∙ append-nil olds) ∙ ap (λ l. olds ++ l) (sym (ap (filter test) e ∙ none)) ∙ inv
]

-- a later place has no fewer columns before it
later_columns : (us : List (List ℕ)) (p q : ℕ) → p ≤ q → columns_before p us ≤ columns_before q us
later_columns [] p q l = omega arith
later_columns (u ∷ us) zero q l = omega arith
later_columns (u ∷ us) (suc p) zero l = absurd (omega (arith, l))
later_columns (u ∷ us) (suc p) (suc q) l =
    let one : eqb (suc p) 0 ≡ false = ne_eqb (suc p) 0 (λ z. omega (arith, z)) in
    let two : eqb (suc q) 0 ≡ false = ne_eqb (suc q) 0 (λ z. omega (arith, z)) in
    let n : ℕ = length (encode_utf8_all u) in
    let more = later_columns us (suc p - n) (suc q - n) (omega (arith, l)) in
    rw (one, two) (omega (arith, more))

-- no match is shown that begins behind the columns
pub none_behind : (left width : ℕ) (text : List ℕ) (us : List (List ℕ)) (p a : ℕ) (ms : List (ℕ × ℕ)) → CutsText text a ms → p ≤ a → left + width ≤ columns_before p us → filter (shows_match left width us) ms ≡ []
none_behind left width text us p a [] c l h = refl
none_behind left width text us p a (m ∷ ms) c l h =
    let from = c.1 in
    let order = c.3 in
    let more = later_columns us p m.0 (omega (arith, l, from)) in
    let no : shows_match left width us m ≡ false = le-ltb (max left (columns_before m.0 us)) (min (left + width) (columns_before m.1 us)) (omega (arith, more, h)) in
    rw no (none_behind left width text us p m.1 ms c.4 (omega (arith, l, from, order)) h)

-- ---- matches that stand in a stretch

least : (text : List ℕ) (a : ℕ) (ms : List (ℕ × ℕ)) (k : ℕ) (d : ℕ × ℕ) → CutsText text a ms → k < length ms → (a ≤ (get_or ms k d).0) × (a ≤ (get_or ms k d).1)
least text a [] k d h l = absurd (omega (arith, l))
least text a (m ∷ ms) zero d h l = let from = h.1 in let order = h.3 in (from, omega (arith, from, order))
least text a (m ∷ ms) (suc k) d h l =
    let more = least text m.1 ms k d h.4 (omega (arith, l)) in
    let from = h.1 in
    let order = h.3 in
    (let one = more.0 in omega (arith, one, from, order), let two = more.1 in omega (arith, two, from, order))

-- they begin and end one behind another
pub cuts_rise : (text : List ℕ) (a : ℕ) (ms : List (ℕ × ℕ)) → CutsText text a ms → (i j : ℕ) (d : ℕ × ℕ) → i ≤ j → j < length ms → ((get_or ms i d).0 ≤ (get_or ms j d).0) × ((get_or ms i d).1 ≤ (get_or ms j d).1)
cuts_rise text a [] h i j d l m = absurd (omega (arith, m))
cuts_rise text a (x ∷ ms) h zero zero d l m = (omega arith, omega arith)
cuts_rise text a (x ∷ ms) h zero (suc j) d l m =
    let more = least text x.1 ms j d h.4 (omega (arith, m)) in
    let order = h.3 in
    (let one = more.0 in omega (arith, one, order), more.1)
cuts_rise text a (x ∷ ms) h (suc i) zero d l m = absurd (omega (arith, l))
cuts_rise text a (x ∷ ms) h (suc i) (suc j) d l m = cuts_rise text x.1 ms h.4 i j d (omega (arith, l)) (omega (arith, m))

pub cuts_behind : (text : List ℕ) (a n : ℕ) (ms : List (ℕ × ℕ)) → CutsText text a ms → (p : ℕ) × CutsText text p (drop n ms)
cuts_behind text a zero ms h = (a, h)
cuts_behind text a (suc n) [] h = (a, h)
cuts_behind text a (suc n) (m ∷ ms) h = cuts_behind text m.1 n ms h.4

-- those that end before it
pub ended_before : (text : List ℕ) (at end n : ℕ) (ms : List (ℕ × ℕ)) → ((k : ℕ) → k < n → k < length ms → (get_or ms k (0, 0)).1 ≤ at) → marked_stretch text at end (drop n ms) ≡ marked_stretch text at end ms
ended_before text at end zero ms h = refl
ended_before text at end (suc n) [] h = refl
ended_before text at end (suc n) (m ∷ ms) h =
    let here : m.1 ≤ at = h 0 (omega arith) (omega arith) in
    let none : ltb (max m.0 at) (min m.1 end) ≡ false = le-ltb (max m.0 at) (min m.1 end) (omega (arith, here)) in
    rw none (ended_before text at end n ms (λ k l r. h (suc k) (omega (arith, l)) (omega (arith, r))))

-- those that begin behind it
begun_behind : (text : List ℕ) (at end : ℕ) (ms : List (ℕ × ℕ)) → ((k : ℕ) → k < length ms → end ≤ (get_or ms k (0, 0)).0) → slice_range text at end ≡ marked_stretch text at end ms
begun_behind text at end [] h = refl
begun_behind text at end (m ∷ ms) h =
    let here : end ≤ m.0 = h 0 (omega arith) in
    let none : ltb (max m.0 at) (min m.1 end) ≡ false = le-ltb (max m.0 at) (min m.1 end) (omega (arith, here)) in
    rw none (begun_behind text at end ms (λ k r. h (suc k) (omega (arith, r))))

pub begun_before : (text : List ℕ) (at end n : ℕ) (ms : List (ℕ × ℕ)) → ((k : ℕ) → n ≤ k → k < length ms → end ≤ (get_or ms k (0, 0)).0) → marked_stretch text at end (take n ms) ≡ marked_stretch text at end ms
begun_before text at end zero ms h = begun_behind text at end ms (λ k r. h k (omega arith) r)
begun_before text at end (suc n) [] h = refl
begun_before text at end (suc n) (m ∷ ms) h =
    let later : (at : ℕ) → marked_stretch text at end (take n ms) ≡ marked_stretch text at end ms = λ b. begun_before text b end n ms (λ k l r. h (suc k) (omega (arith, l)) (omega (arith, r))) in
    let start = max m.0 at in
    let stop = min m.1 end in
    elim (cases_Bool (ltb start stop)) [
      | inl t ↦ rw t (ap (λ xs. slice_range text at start ++ (reverse_on ++ (slice_range text start stop ++ (reverse_off ++ xs)))) (later stop))
      | inr f ↦ rw f (later at)
    ]
