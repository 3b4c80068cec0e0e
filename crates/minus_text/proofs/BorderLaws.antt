-- Texts without ESC, and units that stay as they are: the columns of a line add up where they end.
use Rattle.std.proofs.Common.{◌≡◌, ◌≢◌, ℕ, zero, suc, ◌+◌, ◌-◌, ◌<◌, ◌≤◌, ◌&&◌, Bool, true, false, not, eqb, List, [], ◌∷◌, ◌++◌, length, take, drop, get_or, chars, encode_utf8, arith, refl, sym, ap, ◌∙◌, append_assoc, inl, inr}
use Rattle.std.specs.List.{sum_by, list_all, prefix_len, position_or_len}
use Rattle.std.specs.Str.{IsUtf8, IsAscii, encode_utf8_all}
use Rattle.std.specs.Str.Lines.{strip_carriage_return}
use Rattle.std.proofs.Math.Seq.{take-append-add}
use Rattle.std.proofs.lemmas.Bool.{cases_Bool, and_parts, eqb-true, ne_eqb}
use Rattle.std.proofs.lemmas.Bool.Decides.{nat_tests}
use Rattle.std.proofs.lemmas.List.{append-nil, append_cancel_right, length-append, length-take-le, drop-append-le, take_at, drop_at, drop_all, take_all, take-append-drop, take_more, nil_from_length}
use Rattle.std.proofs.lemmas.List.Folds.{list_all-append}
use Rattle.std.proofs.lemmas.List.Sums.{sum_by-cons}
use Rattle.std.proofs.lemmas.Str.{chars-append, chars-IsAscii, encodes-chars, encodes-IsAscii, IsCharBoundary-end, IsCharBoundary-at_seam, IsCharBoundary-from_rest, IsUtf8-append, IsUtf8-take, IsUtf8-drop, IsUtf8-from_ascii}
use Rattle.minus_text.specs.Plain.{is_unescaped}
use Rattle.minus_text.specs.Units.{char_columns, is_final, begins_sequence, units, unit_columns, unit_len, body_of, text_columns, columns}
use Rattle.minus_text.specs.declared.formed.Border.{Border}
use Rattle.minus_text.specs.Kept.{IsBorder}
use Rattle.minus_text.specs.Settled.{SettlesFirst}
use Rattle.minus_text.proofs.CutsLaws.{cuts-nil}
use Rattle.minus_text.proofs.StretchesLaws.{text_split}
use Rattle.minus_text.proofs.UnitsLaws.{unit_character, unit_sequence}
use Rattle.minus_text.proofs.PlainLaws.{printable_column}
use Rattle.minus_text.proofs.SeamLaws.{strip_behind}
use Rattle.minus_text.proofs.PreparedLaws.{columns_on, left_of_front}

other_than : (c : ℕ) → is_unescaped c ≡ true → eqb c 27 ≡ false
other_than c h = elim (cases_Bool (eqb c 27)) [
  | inl t ↦ let no : not true ≡ true = rw t at h in absurd cc
  | inr f ↦ f
]

escape_alone : IsAscii (27 ∷ [])
escape_alone zero = omega arith
escape_alone (suc i) = omega arith

-- no character is ESC where no byte is one
pub chars_unescaped : (cs : List ℕ) → list_all is_unescaped (encode_utf8_all cs) ≡ true → list_all is_unescaped cs ≡ true
chars_unescaped [] h = refl
chars_unescaped (c ∷ cs) h =
    let both = and_parts (list_all is_unescaped (encode_utf8 c)) (list_all is_unescaped (encode_utf8_all cs)) (sym (list_all-append is_unescaped (encode_utf8 c) (encode_utf8_all cs)) ∙ h) in
    elim (cases_Bool (is_unescaped c)) [
      | inl t ↦ rw t (chars_unescaped cs both.1)
      | inr f ↦ elim (cases_Bool (eqb c 27)) [
        | inl t ↦
            let here : c ≡ 27 = eqb-true c 27 t in
            let one : encode_utf8 c ≡ 27 ∷ [] = ap encode_utf8 here ∙ sym (append-nil (encode_utf8 27)) ∙ encodes-IsAscii (27 ∷ []) escape_alone in
            let no : false ≡ true = rw one at both.0 in
            absurd cc
        | inr g ↦ let yes : not false ≡ false = rw g at f in absurd cc
      ]
    ]

no_sequence : (c : ℕ) (cs : List ℕ) → eqb c 27 ≡ false → begins_sequence (c ∷ cs) ≡ false
no_sequence c [] e = refl
no_sequence c (d ∷ cs) e = rw e refl

-- one more character takes its columns
column_more : (c : ℕ) (cs : List ℕ) → eqb c 27 ≡ false → text_columns (c ∷ cs) ≡ char_columns c + text_columns cs
unfolding text_columns
column_more c cs e = elim (cases_Bool (eqb c 32 && eqb (length (body_of cs)) 0)) [
  | inl t ↦
      let both = and_parts (eqb c 32) (eqb (length (body_of cs)) 0) t in
      let space : c ≡ 32 = eqb-true c 32 both.0 in
      let one : char_columns c ≡ 1 = ap char_columns space ∙ printable_column 32 refl in
      let nil : body_of cs ≡ [] = nil_from_length (body_of cs) (eqb-true (length (body_of cs)) 0 both.1) in
      let none : sum_by unit_columns (units []) ≡ 0 = ap (sum_by unit_columns) (cuts-nil unit_len) in
      rw (t, nil) (omega (arith, one, none))
  | inr f ↦
      let first = (unit_character (c ∷ body_of cs) (body_of cs) c (char_columns c) refl (no_sequence c (body_of cs) e) refl) in
      let sum = ap (sum_by unit_columns) first.first ∙ sum_by-cons unit_columns first.unit (units (body_of cs)) in
      rw f (omega (arith, sum, first.columns, few cs))
]
  where
    few : (cs : List ℕ) → length (body_of cs) ≤ length cs
    few [] = omega arith
    few (c ∷ cs) = elim (cases_Bool (eqb c 32 && eqb (length (body_of cs)) 0)) [
      | inl e ↦ rw e (omega arith)
      | inr e ↦ rw e (omega (arith, few cs))
    ]

columns_before : (cs ds : List ℕ) → list_all is_unescaped cs ≡ true → text_columns (cs ++ ds) ≡ sum_by char_columns cs + text_columns ds
columns_before [] ds h = omega arith
columns_before (c ∷ cs) ds h =
    let both = and_parts (is_unescaped c) (list_all is_unescaped cs) h in
    omega (arith, column_more c (cs ++ ds) (other_than c both.0), columns_before cs ds both.1, sum_by-cons char_columns c cs)

no_columns : text_columns [] ≡ 0
unfolding text_columns
no_columns = let none : sum_by unit_columns (units []) ≡ 0 = ap (sum_by unit_columns) (cuts-nil unit_len) in omega (arith, none)

-- the columns of a text without ESC are those of its characters
pub columns_unescaped : (text : List ℕ) → IsUtf8 text → list_all is_unescaped text ≡ true → columns text ≡ sum_by char_columns (chars text)
unfolding columns
columns_unescaped text u h =
    let cs : List ℕ = chars text in
    let all : list_all is_unescaped cs ≡ true = chars_unescaped cs (rw (encodes-chars text u) h) in
    let nil : cs ++ [] ≡ cs = append-nil cs in
    omega (arith, ap text_columns nil, columns_before cs [] all, no_columns)

-- and whatever follows it takes its own beside them
columns_both : (text more : List ℕ) → IsUtf8 text → list_all is_unescaped text ≡ true → columns (text ++ more) ≡ columns text + columns more
unfolding columns
columns_both text more u h =
    let cs : List ℕ = chars text in
    let all : list_all is_unescaped cs ≡ true = chars_unescaped cs (rw (encodes-chars text u) h) in
    let nil : cs ++ [] ≡ cs = append-nil cs in
    omega (arith, ap text_columns (chars-append text more u), columns_before cs (chars more) all, ap text_columns nil, columns_before cs [] all, no_columns)

strip_none : (text : List ℕ) → ((xs : List ℕ) → text ≡ xs ++ 13 ∷ [] → ⊥) → strip_carriage_return text ≡ text
strip_none [] none = refl
strip_none (b ∷ bs) none = elim (cases_Bool (eqb (get_or (b ∷ bs) (length (b ∷ bs) - 1) 0) 13)) [
  | inl t ↦
      let n : ℕ = length (b ∷ bs) - 1 in
      let lt : n < length (b ∷ bs) = omega arith in
      let all : n + 1 ≡ length (b ∷ bs) = omega arith in
      let last : get_or (b ∷ bs) n 0 ≡ 13 = eqb-true (get_or (b ∷ bs) n 0) 13 t in
      absurd (none (take n (b ∷ bs)) (sym (take_all (n + 1) (b ∷ bs) (omega arith)) ∙ take_more (b ∷ bs) n 0 lt ∙ ap (λ c. take n (b ∷ bs) ++ c ∷ []) last))
  | inr f ↦ rw f refl
]

keeps_all : (all more : List ℕ) → strip_carriage_return all ≡ all → strip_carriage_return (all ++ more) ≡ all ++ strip_carriage_return more
keeps_all all [] e = ap strip_carriage_return (append-nil all) ∙ e ∙ sym (append-nil all)
keeps_all all (b ∷ more) e = strip_behind all (b ∷ more) (omega arith)

-- so a line is measured to its end, if what was not measured has no ESC and does not end with a carriage return
pub whole_border : (line piece : List ℕ) (border : Border) (size width : ℕ) → IsUtf8 line → IsUtf8 (line ++ piece) → IsBorder line border → list_all is_unescaped (drop border.bytes line ++ piece) ≡ true
    → ((xs : List ℕ) → drop border.bytes line ++ piece ≡ xs ++ 13 ∷ [] → ⊥) → size ≡ length (line ++ piece) → width ≡ border.columns + columns (drop border.bytes line ++ piece) → IsBorder (line ++ piece) (record { bytes = size; columns = width })
whole_border line piece border size width u v h free none es ew =
    let all : List ℕ = line ++ piece in
    let rest : List ℕ = drop border.bytes line ++ piece in
    let ur : IsUtf8 rest = left_of_front line piece border.bytes u v h.boundary in
    let taken : take size all ≡ all = take_all size all (omega arith) in
    let split : take border.bytes line ++ rest ≡ all = sym (append_assoc (take border.bytes line) (drop border.bytes line) piece) ∙ ap (λ xs. xs ++ piece) (take-append-drop border.bytes line) in
    let ended : strip_carriage_return all ≡ all = ap strip_carriage_return (sym split) ∙ h.keeps rest ∙ ap (λ xs. take border.bytes line ++ xs) (strip_none rest none) ∙ split in
    record {
      within = omega arith;
      boundary = rw es (IsCharBoundary-end all);
      adds = λ more k. ap (λ xs. columns (xs ++ more)) taken ∙ ap columns (append_assoc line piece more) ∙ columns_on line (piece ++ more) border u (rw (append_assoc line piece more) at (IsUtf8-append all more v k)) h
          ∙ (let on : columns (drop border.bytes line ++ (piece ++ more)) ≡ columns rest + columns more = ap columns (sym (append_assoc (drop border.bytes line) piece more)) ∙ columns_both rest more ur free in omega (arith, on, ew));
      keeps = λ more. ap (λ xs. strip_carriage_return (xs ++ more)) taken ∙ keeps_all all more ended ∙ ap (λ xs. xs ++ strip_carriage_return more) (sym taken);
    }

-- ---- units that stay as they are

alone_last : (xs ys : List ℕ) (a b : ℕ) → xs ++ a ∷ [] ≡ ys ++ b ∷ [] → a ≡ b
alone_last [] [] a b e = cc
alone_last [] (y ∷ ys) a b e = let z : 1 ≡ suc (length ys + 1) = ap length e ∙ ap suc (length-append ys (b ∷ [])) in absurd (omega arith)
alone_last (x ∷ xs) [] a b e = let z : suc (length xs + 1) ≡ 1 = sym (ap suc (length-append xs (a ∷ []))) ∙ ap length e in absurd (omega arith)
alone_last (x ∷ xs) (y ∷ ys) a b e = alone_last xs ys a b (ap (drop 1) e)

-- a character that begins no sequence whatever follows
pub settles_character : (cs rest : List ℕ) (c width : ℕ) → cs ≡ c ∷ rest → c ≢ 27 → c ≢ 13 → width ≡ char_columns c → SettlesFirst cs width rest
settles_character cs rest c width e n m w = record {
  front = [];
  last = c;
  joins = e;
  adds = λ ds. rw w (column_more c ds (ne_eqb c 27 n));
  stays = m;
}

-- the body of a text behind a character that is no space
pub body_behind : (front : List ℕ) (f : ℕ) (ds : List ℕ) → eqb f 32 ≡ false → body_of ((front ++ f ∷ []) ++ ds) ≡ (front ++ f ∷ []) ++ body_of ds
body_behind [] f ds e = rw e refl
body_behind (c ∷ front) f ds e =
    let more = body_behind front f ds e in
    let some : eqb (length (body_of ((front ++ f ∷ []) ++ ds))) 0 ≡ false = ne_eqb (length (body_of ((front ++ f ∷ []) ++ ds))) 0 (λ z. omega (arith, z, ap length more, length-append (front ++ f ∷ []) (body_of ds), length-append front (f ∷ []))) in
    let no : (eqb c 32 && eqb (length (body_of ((front ++ f ∷ []) ++ ds))) 0) ≡ false = rw some (and_false (eqb c 32)) in
    rw no (ap (λ xs. c ∷ xs) more)
  where
    and_false : (b : Bool) → (b && false) ≡ false
    and_false true = refl
    and_false false = refl

final_no_space : (f : ℕ) → is_final f ≡ true → (eqb f 32 ≡ false) × (f ≢ 13)
final_no_space f h = (grind (arith, nat_tests, h), λ e. grind (arith, nat_tests, h, e))

-- where the first final character stands
position_final : (ps : List ℕ) (f : ℕ) (ds : List ℕ) → prefix_len (λ c. not (is_final c)) ps ≡ length ps → is_final f ≡ true → position_or_len is_final (ps ++ f ∷ ds) ≡ length ps
position_final [] f ds e h = rw h refl
position_final (p ∷ ps) f ds e h = elim (cases_Bool (is_final p)) [
  | inl t ↦ let z : 0 ≡ suc (length ps) = sym (rw t refl) ∙ e in absurd (omega arith)
  | inr g ↦
      let here : prefix_len (λ c. not (is_final c)) (p ∷ ps) ≡ 1 + prefix_len (λ c. not (is_final c)) ps = rw g refl in
      let on = position_final ps f ds (omega (arith, here, e)) h in
      rw g (omega (arith, on))
]

sequence_columns : (ps : List ℕ) (f : ℕ) (ds : List ℕ) → prefix_len (λ c. not (is_final c)) ps ≡ length ps → is_final f ≡ true → text_columns ((27 ∷ 91 ∷ ps ++ f ∷ []) ++ ds) ≡ 0 + text_columns ds
unfolding text_columns
sequence_columns ps f ds e h =
    let front : List ℕ = 27 ∷ 91 ∷ ps in
    let body : body_of ((front ++ f ∷ []) ++ ds) ≡ (front ++ f ∷ []) ++ body_of ds = body_behind front f ds (final_no_space f h).0 in
    let inside : List ℕ = (ps ++ f ∷ []) ++ body_of ds in
    let split : inside ≡ ps ++ f ∷ body_of ds = append_assoc ps (f ∷ []) (body_of ds) in
    let place : position_or_len is_final inside ≡ length ps = ap (position_or_len is_final) split ∙ position_final ps f (body_of ds) e h in
    let rest : body_of ds ≡ drop (position_or_len is_final inside + 1) inside =
    sym (ap (λ n. drop (n + 1) inside) place ∙ drop_at (ps ++ f ∷ []) (body_of ds) (length ps + 1) (length-append ps (f ∷ []))) in
    let unit = unit_sequence ((front ++ f ∷ []) ++ body_of ds) inside (body_of ds) refl rest in
    let sum = ap (sum_by unit_columns) unit.first ∙ sum_by-cons unit_columns unit.unit (units (body_of ds)) in
    let none : 0 ≡ unit_columns unit.unit = unit.columns in
    let longer : length ((front ++ f ∷ []) ++ ds) ≡ length (front ++ f ∷ []) + length ds = length-append (front ++ f ∷ []) ds in
    let body_longer : length (body_of ((front ++ f ∷ []) ++ ds)) ≡ length (front ++ f ∷ []) + length (body_of ds) = ap length body ∙ length-append (front ++ f ∷ []) (body_of ds) in
    let units_are : sum_by unit_columns (units (body_of ((front ++ f ∷ []) ++ ds))) ≡ sum_by unit_columns (units (body_of ds)) = ap (λ xs. sum_by unit_columns (units xs)) body ∙ omega (arith, sum, none) in
    omega (arith, units_are, longer, body_longer)

-- a sequence that has its end
pub settles_sequence : (cs inside end rest : List ℕ) (f : ℕ) → cs ≡ 27 ∷ 91 ∷ inside → end ≡ drop (prefix_len (λ c. not (is_final c)) inside) inside → end ≡ f ∷ rest → SettlesFirst cs 0 rest
settles_sequence cs inside end rest f e g h =
    let stretch = stretch_end (λ c. not (is_final c)) inside f rest (sym g ∙ h) in
    let final : is_final f ≡ true = not_not (is_final f) stretch.2 in
    let ps : List ℕ = take (prefix_len (λ c. not (is_final c)) inside) inside in
    record {
      front = 27 ∷ 91 ∷ ps;
      last = f;
      joins = e ∙ ap (λ xs. 27 ∷ 91 ∷ xs) (stretch.0 ∙ sym (append_assoc ps (f ∷ []) rest));
      adds = λ ds. sequence_columns ps f ds stretch.1 final;
      stays = (final_no_space f final).1;
    }
  where
    not_not : (b : Bool) → not b ≡ false → b ≡ true
    not_not true e = refl
    not_not false e = absurd cc

    stretch_end : (p : ℕ → Bool) (xs : List ℕ) (f : ℕ) (rest : List ℕ) → drop (prefix_len p xs) xs ≡ f ∷ rest → (xs ≡ take (prefix_len p xs) xs ++ f ∷ rest) × (prefix_len p (take (prefix_len p xs) xs) ≡ length (take (prefix_len p xs) xs)) × (p f ≡ false)
    stretch_end p [] f rest e =
        let nil : List ℕ = [] in
        let none : drop (prefix_len p nil) nil ≡ nil = drop_all (prefix_len p nil) nil (omega arith) in
        let z : 0 ≡ suc (length rest) = ap length (sym none ∙ e) in
        absurd (omega arith)
    stretch_end p (x ∷ xs) f rest e = elim (cases_Bool (p x)) [
      | inl t ↦
          let len : prefix_len p (x ∷ xs) ≡ suc (prefix_len p xs) = rw t (omega arith) in
          let on = stretch_end p xs f rest (ap (λ n. drop n (x ∷ xs)) (sym len) ∙ e) in
          let more : prefix_len p (x ∷ take (prefix_len p xs) xs) ≡ suc (prefix_len p (take (prefix_len p xs) xs)) = rw t (omega arith) in
          rw len (ap (λ ys. x ∷ ys) on.0, more ∙ ap suc on.1, on.2)
      | inr g ↦
          let len : prefix_len p (x ∷ xs) ≡ 0 = rw g refl in
          let same : x ∷ xs ≡ f ∷ rest = sym (ap (λ n. drop n (x ∷ xs)) len) ∙ e in
          let head : x ≡ f = cc in
          rw len (same, refl, ap p (sym head) ∙ g)
    ]

-- ---- a front of such units

-- whatever follows a front takes its own columns beside it, and the front does not end with a carriage return
pub record Settled (front : List ℕ) (width : ℕ) : Type 0 where
  pub text : IsUtf8 front
  pub adds : (more : List ℕ) → IsUtf8 more → columns (front ++ more) ≡ width + columns more
  pub keeps : (more : List ℕ) → strip_carriage_return (front ++ more) ≡ front ++ strip_carriage_return more

-- what is settled of a text, and the rest
pub record SettledSoFar (text : List ℕ) (width : ℕ) (rest : List ℕ) : Type 0 where
  pub front : List ℕ
  pub joins : text ≡ front ++ rest
  pub settled : Settled front width

-- the bytes of a unit
unit_settled : (text rest : List ℕ) (width : ℕ) → IsUtf8 text → IsUtf8 rest → SettlesFirst (chars text) width (chars rest) → SettledSoFar text width rest
unfolding columns
unit_settled text rest width u v h =
    let unit : List ℕ = h.front ++ h.last ∷ [] in
    let bytes : List ℕ = encode_utf8_all unit in
    let split : text ≡ bytes ++ rest = text_split text rest unit u v h.joins in
    let uu : IsUtf8 bytes = front_text bytes rest (rw split at u) v in
    let same : chars bytes ≡ unit = append_cancel_right (chars bytes) unit (chars rest) (sym (chars-append bytes rest uu) ∙ ap chars (sym split) ∙ h.joins) in
    let none : (xs : List ℕ) → bytes ≡ xs ++ 13 ∷ [] → ⊥ = λ xs e. h.stays (alone_last h.front (chars xs) h.last 13 (sym same ∙ return_chars xs bytes e uu)) in
    record {
      front = bytes;
      joins = split;
      settled = record {
        text = uu;
        adds = λ more k. ap text_columns (chars-append bytes more uu ∙ ap (λ cs. cs ++ chars more) same) ∙ h.adds (chars more);
        keeps = λ more. keeps_all bytes more (strip_none bytes none);
      };
    }
  where
    front_text : (xs ys : List ℕ) → IsUtf8 (xs ++ ys) → IsUtf8 ys → IsUtf8 xs
    front_text xs ys u v = rw (take_at xs ys (length xs) refl) at (IsUtf8-take (xs ++ ys) (length xs) u (IsCharBoundary-at_seam (xs ++ ys) xs ys refl v))

    return_alone : IsAscii (13 ∷ [])
    return_alone zero = omega arith
    return_alone (suc i) = omega arith

    return_chars : (xs bytes : List ℕ) → bytes ≡ xs ++ 13 ∷ [] → IsUtf8 bytes → chars bytes ≡ chars xs ++ 13 ∷ []
    return_chars xs bytes e u =
        let ux : IsUtf8 xs = front_text xs (13 ∷ []) (rw e at u) (IsUtf8-from_ascii (13 ∷ []) return_alone) in
        ap chars e ∙ chars-append xs (13 ∷ []) ux ∙ ap (λ cs. chars xs ++ cs) (chars-IsAscii (13 ∷ []) return_alone)

-- a front behind a front
both_settled : (xs ys : List ℕ) (m n : ℕ) → Settled xs m → Settled ys n → Settled (xs ++ ys) (m + n)
both_settled xs ys m n h k = record {
  text = IsUtf8-append xs ys h.text k.text;
  adds = λ more u. ap columns (append_assoc xs ys more) ∙ h.adds (ys ++ more) (IsUtf8-append ys more k.text u) ∙ (let on = k.adds more u in omega (arith, on));
  keeps = λ more. ap strip_carriage_return (append_assoc xs ys more) ∙ h.keeps (ys ++ more) ∙ ap (λ zs. xs ++ zs) (k.keeps more) ∙ sym (append_assoc xs ys (strip_carriage_return more));
}

-- one more unit
pub settled_more : (text rest after : List ℕ) (width more : ℕ) → IsUtf8 text → IsUtf8 rest → IsUtf8 after → SettledSoFar text width rest → SettlesFirst (chars rest) more (chars after) → SettledSoFar text (width + more) after
settled_more text rest after width more u v w h k =
    let unit = unit_settled rest after more v w k in
    record {
      front = h.front ++ unit.front;
      joins = h.joins ∙ ap (λ xs. h.front ++ xs) unit.joins ∙ sym (append_assoc h.front unit.front after);
      settled = both_settled h.front unit.front width more h.settled unit.settled;
    }

-- so far is a border
pub settled_border : (text rest : List ℕ) (width size : ℕ) → IsUtf8 rest → SettledSoFar text width rest → size ≡ length text - length rest → IsBorder text (record { bytes = size; columns = width })
settled_border text rest width size v h e =
    let size_is : size ≡ length h.front = omega (arith, e, ap length h.joins, length-append h.front rest) in
    let taken : take size text ≡ h.front = ap (λ n. take n text) size_is ∙ ap (take (length h.front)) h.joins ∙ take_at h.front rest (length h.front) refl in
    record {
      within = omega (arith, size_is, ap length h.joins, length-append h.front rest);
      boundary = rw size_is (IsCharBoundary-at_seam text h.front rest h.joins v);
      adds = rw taken h.settled.adds;
      keeps = rw taken h.settled.keeps;
    }

-- ---- a border behind a border

border_settled : (text : List ℕ) (border : Border) → IsUtf8 text → IsBorder text border → Settled (take border.bytes text) border.columns
border_settled text border u h = record { text = IsUtf8-take text border.bytes u h.boundary; adds = h.adds; keeps = h.keeps }

pub border_behind : (line piece : List ℕ) (border more : Border) → IsUtf8 line → IsUtf8 (line ++ piece) → IsBorder line border → IsBorder (drop border.bytes line ++ piece) more
    → IsBorder (line ++ piece) (record { bytes = border.bytes + more.bytes; columns = border.columns + more.columns })
border_behind line piece border more u v h k =
    let rest : List ℕ = drop border.bytes line ++ piece in
    let ur : IsUtf8 rest = left_of_front line piece border.bytes u v h.boundary in
    let front : List ℕ = take border.bytes line in
    let within : border.bytes ≤ length line = h.within in
    let more_within : more.bytes ≤ length rest = k.within in
    let split : front ++ rest ≡ line ++ piece = sym (append_assoc front (drop border.bytes line) piece) ∙ ap (λ xs. xs ++ piece) (take-append-drop border.bytes line) in
    let long : length front ≡ border.bytes = length-take-le border.bytes line within in
    let taken : take (border.bytes + more.bytes) (line ++ piece) ≡ front ++ take more.bytes rest = ap (take (border.bytes + more.bytes)) (sym split) ∙ ap (λ n. take (n + more.bytes) (front ++ rest)) (sym long) ∙ take-append-add front rest more.bytes in
    let both = both_settled front (take more.bytes rest) border.columns more.columns (border_settled line border u h) (border_settled rest more ur k) in
    record {
      within = omega (arith, more_within, ap length split, length-append front rest, long);
      boundary = IsCharBoundary-from_rest (line ++ piece) border.bytes more.bytes (omega (arith, within, length-append line piece)) (rw (drop-append-le border.bytes line piece within) k.boundary);
      adds = rw taken both.adds;
      keeps = rw taken both.keeps;
    }

-- what is measured takes no more columns than the whole
pub border_least : (text : List ℕ) (border : Border) → IsUtf8 text → IsBorder text border → border.columns ≤ columns text
border_least text border u h =
    let rest : IsUtf8 (drop border.bytes text) = IsUtf8-drop text border.bytes u h.boundary in
    let all : columns (take border.bytes text ++ drop border.bytes text) ≡ border.columns + columns (drop border.bytes text) = h.adds (drop border.bytes text) rest in
    omega (arith, all, ap columns (take-append-drop border.bytes text))
