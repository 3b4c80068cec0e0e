-- Laws on the visible characters of a row.
use Rattle.std.proofs.Common.{◌≡◌, ℕ, ◌+◌, ◌-◌, ◌<◌, true, false, ◌&&◌, eqb, ltb, List, [], ◌∷◌, ◌++◌, length, take, drop, chars, ◌≤◌, subst, arith, refl, sym, ap, ◌∙◌, append_assoc, inl, inr}
use Rattle.std.specs.List.{concat, slice_range}
use Rattle.std.specs.Str.{IsUtf8, IsCharBoundary, encode_utf8_all}
use Rattle.std.specs.Prelude.{encode_utf8}
use Rattle.std.proofs.lemmas.Bool.{cases_Bool, le-ltb, lt-ltb, ne_eqb, and_right, and_from, not_from_false}
use Rattle.std.proofs.lemmas.List.{append-nil, append_cancel_left, length-append, take_at, drop_at}
use Rattle.std.proofs.lemmas.Str.{encodes-append, encodes-chars, IsUtf8-past_char, IsCharBoundary-at_seam}
use Rattle.minus_text.specs.Units.{begins_sequence}
use Rattle.minus_text.specs.Highlight.{reverse_on, reverse_off}
use Rattle.minus_text.proofs.FrontsLaws.{concat-append}
use Rattle.minus_text.proofs.TextUnitsLaws.{text_units_join}
use Rattle.minus_state.specs.VisibleCharacters.{before_visible, behind_visible, text_of, row_units, has_visible, place_after_visible, marked, MarksAloneAreAdded}

pub text_of-append : (us vs : List (List ℕ)) → text_of (us ++ vs) ≡ text_of us ++ text_of vs
text_of-append us vs = ap encode_utf8_all (concat-append us vs) ∙ encodes-append (concat us) (concat vs)

pub text_of-cons : (u : List ℕ) (us : List (List ℕ)) → text_of (u ∷ us) ≡ encode_utf8_all u ++ text_of us
text_of-cons u us = encodes-append u (concat us)

-- the units before a visible character and those from it on are all units
pub visible_split : (n : ℕ) (us : List (List ℕ)) → before_visible n us ++ behind_visible n us ≡ us
visible_split n [] = refl
visible_split n (u ∷ us) = elim (cases_Bool (begins_sequence u)) [
  | inl s ↦ rw s (ap (λ vs. u ∷ vs) (visible_split n us))
  | inr v ↦ elim (cases_Bool (eqb n 0)) [
    | inl z ↦ rw (v, z) refl
    | inr z ↦ rw (v, z) (ap (λ vs. u ∷ vs) (visible_split (n - 1) us))
  ]
]

-- the bytes that are passed, and the units that are left
pub record VisibleSoFar (count left : ℕ) (all rest : List (List ℕ)) (bytes bytes_rest : List ℕ) : Type 0 where
  pub done : List ℕ
  pub behind : behind_visible left rest ≡ behind_visible count all
  pub before : text_of (before_visible count all) ≡ done ++ text_of (before_visible left rest)
  pub bytes_are : bytes ≡ done ++ bytes_rest

-- a unit is passed: a sequence, or a visible character that comes before the one that is looked for
passed : (count left left' : ℕ) (all rest more : List (List ℕ)) (unit text bytes bytes_rest bytes_more : List ℕ) → VisibleSoFar count left all rest bytes bytes_rest → bytes_rest ≡ text ++ bytes_more → text ≡ encode_utf8_all unit
    → behind_visible left rest ≡ behind_visible left' more → before_visible left rest ≡ unit ∷ before_visible left' more → VisibleSoFar count left' all more bytes bytes_more
passed count left left' all rest more unit text bytes bytes_rest bytes_more s b t behind before = record {
  done = s.done ++ text;
  behind = sym behind ∙ s.behind;
  before = s.before ∙ ap (λ us. s.done ++ text_of us) before ∙ ap (λ bs. s.done ++ bs) (text_of-cons unit (before_visible left' more) ∙ ap (λ bs. bs ++ text_of (before_visible left' more)) (sym t)) ∙ sym (append_assoc s.done text (text_of (before_visible left' more)));
  bytes_are = s.bytes_are ∙ ap (λ bs. s.done ++ bs) b ∙ sym (append_assoc s.done text bytes_more);
}

pub passes_sequence : (count left : ℕ) (all rest more : List (List ℕ)) (unit text bytes bytes_rest bytes_more : List ℕ) → VisibleSoFar count left all rest bytes bytes_rest → rest ≡ unit ∷ more → bytes_rest ≡ text ++ bytes_more → text ≡ encode_utf8_all unit
    → begins_sequence unit ≡ true → VisibleSoFar count left all more bytes bytes_more
passes_sequence count left all rest more unit text bytes bytes_rest bytes_more s e b t q =
    passed count left left all rest more unit text bytes bytes_rest bytes_more s b t (ap (behind_visible left) e ∙ rw q refl) (ap (before_visible left) e ∙ rw q refl)

pub passes_visible : (count left : ℕ) (all rest more : List (List ℕ)) (unit text bytes bytes_rest bytes_more : List ℕ) → VisibleSoFar count left all rest bytes bytes_rest → rest ≡ unit ∷ more → bytes_rest ≡ text ++ bytes_more → text ≡ encode_utf8_all unit
    → begins_sequence unit ≡ false → eqb left 0 ≡ false → VisibleSoFar count (left - 1) all more bytes bytes_more
passes_visible count left all rest more unit text bytes bytes_rest bytes_more s e b t q z =
    passed count left (left - 1) all rest more unit text bytes bytes_rest bytes_more s b t (ap (behind_visible left) e ∙ rw (q, z) refl) (ap (before_visible left) e ∙ rw (q, z) refl)

-- what is found where the visible character is there, and where it is not
pub record Found (count : ℕ) (all : List (List ℕ)) (bytes : List ℕ) (rest : List (List ℕ)) (bytes_rest : List ℕ) : Type 0 where
  pub units : rest ≡ behind_visible count all
  pub bytes_are : bytes ≡ text_of (before_visible count all) ++ bytes_rest

found : (count left : ℕ) (all rest : List (List ℕ)) (bytes bytes_rest : List ℕ) → VisibleSoFar count left all rest bytes bytes_rest → behind_visible left rest ≡ rest → before_visible left rest ≡ [] → Found count all bytes rest bytes_rest
found count left all rest bytes bytes_rest s behind before =
    let none : text_of (before_visible count all) ≡ s.done = s.before ∙ ap (λ us. s.done ++ text_of us) before ∙ append-nil s.done in
    record { units = sym behind ∙ s.behind; bytes_are = s.bytes_are ∙ ap (λ bs. bs ++ bytes_rest) (sym none) }

-- ---- marks

pub row_text : (row : List ℕ) → IsUtf8 row → text_of (row_units row) ≡ row
row_text row u = ap encode_utf8_all (text_units_join (chars row)) ∙ encodes-chars row u

pub marks_alone : MarksAloneAreAdded
unfolding marked
marks_alone start end row u = elim (cases_Bool (ltb start end && has_visible start row)) [
  | inl t ↦
      let all : List (List ℕ) = row_units row in
      let front : List (List ℕ) = before_visible start all in
      let behind : List (List ℕ) = behind_visible start all in
      let inner : List (List ℕ) = before_visible (end - start) behind in
      let rest : List (List ℕ) = behind_visible (end - start) behind in
      let halves : text_of inner ++ text_of rest ≡ text_of behind = sym (text_of-append inner rest) ∙ ap text_of (visible_split (end - start) behind) in
      let whole : text_of front ++ text_of behind ≡ row = sym (text_of-append front behind) ∙ ap text_of (visible_split start all) ∙ row_text row u in
      rw t (inr (record {
        front = text_of front;
        inner = text_of inner;
        rest = text_of rest;
        row_is = sym whole ∙ ap (λ bs. text_of front ++ bs) (sym halves) ∙ sym (append_assoc (text_of front) (text_of inner) (text_of rest));
        marked_is = refl;
      }))
  | inr f ↦ rw f (inl refl)
]

-- ---- places

-- what follows some characters of a text is text
pub utf8_rest : (cs row rest : List ℕ) → IsUtf8 row → row ≡ encode_utf8_all cs ++ rest → IsUtf8 rest
utf8_rest [] row rest u e = subst (λ (bs : List ℕ). IsUtf8 bs) e u
utf8_rest (c ∷ cs) row rest u e =
    let more : List ℕ = encode_utf8_all cs ++ rest in
    utf8_rest cs more rest (IsUtf8-past_char row more c u (e ∙ append_assoc (encode_utf8 c) (encode_utf8_all cs) rest)) refl

-- a row may be cut behind some of its units
pub record Cut (row : List ℕ) (us : List (List ℕ)) (len : ℕ) : Type 0 where
  pub place : length row - len ≡ length (text_of us)
  pub boundary : IsCharBoundary row (length row - len)

pub cut_behind : (row rest : List ℕ) (us : List (List ℕ)) (len : ℕ) → IsUtf8 row → row ≡ text_of us ++ rest → len ≡ length rest → Cut row us len
cut_behind row rest us len u e l =
    let at : length row - len ≡ length (text_of us) = omega (arith, l, ap length e, length-append (text_of us) rest) in
    record { place = at; boundary = rw at (IsCharBoundary-at_seam row (text_of us) rest e (utf8_rest (concat us) row rest u e)) }

pub place_after_some : (n : ℕ) (row text rest unit : List ℕ) (us : List (List ℕ)) (len : ℕ) → row ≡ text_of (before_visible n (row_units row)) ++ (text ++ rest) → behind_visible n (row_units row) ≡ unit ∷ us → text ≡ encode_utf8_all unit → len ≡ length rest
    → length row - len ≡ place_after_visible n row
unfolding place_after_visible
place_after_some n row text rest unit us len e b t l =
    let before : List (List ℕ) = before_visible n (row_units row) in
    let one : take 1 (behind_visible n (row_units row)) ≡ unit ∷ [] = ap (take 1) b in
    let size = ap (λ vs. length (text_of (before ++ vs))) one in
    omega (arith, size, ap length (text_of-append before (unit ∷ [])), length-append (text_of before) (text_of (unit ∷ [])), ap length (text_of-cons unit []), length-append (encode_utf8_all unit) (text_of []), ap length t, l, ap length e, length-append (text_of before) (text ++ rest), length-append text rest)

pub place_after_none : (n : ℕ) (row : List ℕ) → IsUtf8 row → behind_visible n (row_units row) ≡ [] → length row ≡ place_after_visible n row
unfolding place_after_visible
place_after_none n row u b =
    let before : List (List ℕ) = before_visible n (row_units row) in
    let all : before ≡ row_units row = sym (append-nil before) ∙ ap (λ vs. before ++ vs) (sym b) ∙ visible_split n (row_units row) in
    let one : before ++ take 1 (behind_visible n (row_units row)) ≡ before = ap (λ vs. before ++ take 1 vs) b ∙ append-nil before in
    sym (ap length (ap text_of (one ∙ all) ∙ row_text row u))

-- ---- a row without marks, and one with

pub unmarked_order : (start end : ℕ) (row : List ℕ) → end ≤ start → marked start end row ≡ row
unfolding marked
unmarked_order start end row h = rw (le-ltb start end h) refl

pub unmarked_none : (start end : ℕ) (row : List ℕ) → behind_visible start (row_units row) ≡ [] → marked start end row ≡ row
unfolding marked
unmarked_none start end row h =
    let none : has_visible start row ≡ false = rw h refl in
    let test : (ltb start end && has_visible start row) ≡ false = and_right (ltb start end) (has_visible start row) none in
    rw test refl

pub marked_formed : (start end first last : ℕ) (row from to out : List ℕ) → IsUtf8 row → start < end → (length (behind_visible start (row_units row)) ≡ 0 → ⊥) → row ≡ text_of (before_visible start (row_units row)) ++ from
    → from ≡ text_of (before_visible (end - start) (behind_visible start (row_units row))) ++ to → first ≡ length row - length from → last ≡ length row - length to
    → out ≡ (((take (first - 0) row ++ reverse_on) ++ slice_range row first last) ++ reverse_off) ++ drop last row → out ≡ marked start end row
unfolding marked
marked_formed start end first last row from to out u lt some e f a b o =
    let all : List (List ℕ) = row_units row in
    let behind : List (List ℕ) = behind_visible start all in
    let inner : List (List ℕ) = before_visible (end - start) behind in
    let rest : List (List ℕ) = behind_visible (end - start) behind in
    let front : List ℕ = text_of (before_visible start all) in
    let whole : row ≡ front ++ text_of behind = sym (row_text row u) ∙ ap text_of (sym (visible_split start all)) ∙ text_of-append (before_visible start all) behind in
    let from_is : from ≡ text_of behind = append_cancel_left front from (text_of behind) (sym e ∙ whole) in
    let to_is : to ≡ text_of rest = append_cancel_left (text_of inner) to (text_of rest) (sym f ∙ from_is ∙ ap text_of (sym (visible_split (end - start) behind)) ∙ text_of-append inner rest) in
    let size : length row ≡ length front + length from = ap length e ∙ length-append front from in
    let inside : length from ≡ length (text_of inner) + length to = ap length f ∙ length-append (text_of inner) to in
    let at : length front ≡ first = omega (arith, a, size) in
    let on : length (text_of inner) ≡ last - first = omega (arith, a, b, size, inside) in
    let parted : row ≡ (front ++ text_of inner) ++ to = e ∙ ap (λ bs. front ++ bs) f ∙ sym (append_assoc front (text_of inner) to) in
    let end_at : length (front ++ text_of inner) ≡ last = omega (arith, b, size, inside, length-append front (text_of inner)) in
    let zero_off : first - 0 ≡ first = omega arith in
    let one : take (first - 0) row ≡ front = rw zero_off (ap (take first) e ∙ take_at front from first at) in
    let two : slice_range row first last ≡ text_of inner = ap (λ bs. take (last - first) bs) (ap (drop first) e ∙ drop_at front from first at ∙ f) ∙ take_at (text_of inner) to (last - first) on in
    let three : drop last row ≡ text_of rest = ap (drop last) parted ∙ drop_at (front ++ text_of inner) to last end_at ∙ to_is in
    let seen : (ltb start end && has_visible start row) ≡ true = and_from (ltb start end) (has_visible start row) (lt-ltb start end lt) (not_from_false (eqb (length behind) 0) (ne_eqb (length behind) 0 some)) in
    rw seen (o ∙ rw (one, two, three) refl)

-- the parts of a row with its marks between them
pub parts_joined : (out p q r a b c : List ℕ) → out ≡ p ++ (reverse_on ++ (q ++ (reverse_off ++ r))) → p ≡ a → q ≡ b → r ≡ c → out ≡ (((a ++ reverse_on) ++ b) ++ reverse_off) ++ c
parts_joined out p q r a b c e f g h =
    e ∙ rw (f, g, h) (sym (append_assoc a reverse_on (b ++ (reverse_off ++ c))) ∙ sym (append_assoc (a ++ reverse_on) b (reverse_off ++ c)) ∙ sym (append_assoc ((a ++ reverse_on) ++ b) reverse_off c))
