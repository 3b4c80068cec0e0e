-- Laws on parts and words that are measured in one go.
use Rattle.std.proofs.Common.{◌≡◌, ℕ, zero, suc, ◌+◌, ◌<◌, ◌≤◌, ◌&&◌, Bool, true, false, not, eqb, List, [], ◌∷◌, ◌++◌, length, map, chars, encode_utf8, arith, refl, sym, ap, ◌∙◌, inl, inr}
use Rattle.std.specs.List.{concat, sum_by, flat_map, list_all}
use Rattle.std.specs.Char.{is_ascii_alphanumeric}
use Rattle.std.specs.Str.{IsUtf8, IsAscii, encode_utf8_all}
use Rattle.std.proofs.lemmas.Bool.{cases_Bool, cases_lt, and_parts, eqb-true}
use Rattle.std.proofs.lemmas.List.{append-nil, nil_from_length}
use Rattle.std.proofs.lemmas.List.Folds.{list_all-append}
use Rattle.std.proofs.lemmas.List.Sums.{sum_by-append}
use Rattle.std.proofs.lemmas.Str.{chars-append, chars-IsAscii, encodes-chars, encodes-IsAscii, IsUtf8-from_ascii}
use Rattle.minus_text.specs.Plain.{is_printable}
use Rattle.minus_text.specs.Hyphens.{is_unhyphened, parts, part_len_after, begins_alphanumeric}
use Rattle.minus_text.specs.Units.{units, unit_len, unit_columns}
use Rattle.minus_text.specs.Singles.{singles}
use Rattle.minus_text.specs.Pieces.{fronts, with_spaces}
use Rattle.minus_text.specs.declared.pieces.Measured.{Measured}
use Rattle.minus_text.specs.MeasuredPieces.{measure}
use Rattle.minus_text.proofs.CutsLaws.{cuts-nil}
use Rattle.minus_text.proofs.UnitsLaws.{units_join}
use Rattle.minus_text.proofs.PartsLaws.{part_empty}
use Rattle.minus_text.proofs.WordsLaws.{word_last}
use Rattle.minus_text.proofs.PlainLaws.{printable_ascii, one_front}
use Rattle.minus_text.proofs.CropPlainLaws.{units_front, printable_unescaped, singles_columns}

-- ---- columns

-- printable ASCII at the front of a text takes a column for each byte
pub columns_behind : (text front rest : List ℕ) → text ≡ front ++ rest → list_all is_printable front ≡ true → sum_by unit_columns (units (chars text)) ≡ length front + sum_by unit_columns (units (chars rest))
columns_behind text front rest e p =
    let small : IsAscii front = printable_ascii front p in
    let split : chars text ≡ front ++ chars rest = ap chars e ∙ chars-append front rest (IsUtf8-from_ascii front small) ∙ ap (λ cs. cs ++ chars rest) (chars-IsAscii front small) in
    let parted : units (chars text) ≡ singles front ++ units (chars rest) = ap units split ∙ units_front front (chars rest) (printable_unescaped front p) in
    omega (arith, ap (sum_by unit_columns) parted, sum_by-append unit_columns (singles front) (units (chars rest)), singles_columns front p)

-- ---- a part that fits

-- its columns are those of its units, and its bytes those of its characters
part_measure : (cols spaces width : ℕ) (part : List ℕ) → IsUtf8 part → 0 < length (chars part) → width ≡ sum_by unit_columns (units (chars part)) → width ≤ cols
    → (let m : Measured = record { len = length part; width = width; spaces = spaces } in m) ∷ [] ≡ map measure (with_spaces (fronts cols (chars part)) spaces)
part_measure cols spaces width part u some w few =
    let cs : List ℕ = chars part in
    let joined : concat (units cs) ≡ cs = units_join cs in
    let front : units cs ∷ [] ≡ fronts cols cs = one_front cols cs some (omega (arith, w, few)) in
    let bytes : length (encode_utf8_all (concat (units cs))) ≡ length part = ap (λ xs. length (encode_utf8_all xs)) joined ∙ ap length (encodes-chars part u) in
    same_measure (length part) (length (encode_utf8_all (concat (units cs)))) (sum_by unit_columns (units cs)) (sym bytes) w ∙ ap (λ fs. map measure (with_spaces fs spaces)) front
  where
    same_measure : (a n w : ℕ) → a ≡ n → width ≡ w → (let m : Measured = record { len = a; width = width; spaces = spaces } in m) ∷ [] ≡ record { len = n; width = w; spaces = spaces } ∷ []
    same_measure a n w e f = rw (← e, ← f) refl

-- so it is one piece
pub part_fits : (cols spaces width : ℕ) (part : List ℕ) (old news : List Measured) → IsUtf8 part → width ≡ sum_by unit_columns (units (chars part)) → width ≤ cols
    → news ≡ old ++ record { len = length part; width = width; spaces = spaces } ∷ [] → news ≡ old ++ map measure (with_spaces (fronts cols (chars part)) spaces)
part_fits cols spaces width part old news u w few pushed =
    elim (cases_lt 0 (length (chars part))) [
      | inl some ↦ pushed ∙ ap (λ ms. old ++ ms) (part_measure cols spaces width part u some w few)
      | inr l ↦
          let none : chars part ≡ [] = nil_from_length (chars part) (omega (arith, l)) in
          let empty : part ≡ [] = sym (encodes-chars part u) ∙ ap encode_utf8_all none in
          let width_is : width ≡ 0 = w ∙ ap (λ cs. sum_by unit_columns (units cs)) none ∙ ap (sum_by unit_columns) (cuts-nil unit_len) in
          part_empty cols (chars part) old old news width (length part) spaces none refl width_is (ap length empty) pushed
    ]

-- ---- a word without hyphens

other_than : (c : ℕ) → is_unhyphened c ≡ true → eqb c 45 ≡ false
other_than c h = elim (cases_Bool (eqb c 45)) [
  | inl t ↦ let no : not true ≡ true = rw t at h in absurd cc
  | inr f ↦ f
]

hyphen_alone : IsAscii (45 ∷ [])
hyphen_alone zero = omega arith
hyphen_alone (suc i) = omega arith

-- no character is a hyphen where no byte is one
chars_unhyphened : (cs : List ℕ) → list_all is_unhyphened (encode_utf8_all cs) ≡ true → list_all is_unhyphened cs ≡ true
chars_unhyphened [] h = refl
chars_unhyphened (c ∷ cs) h =
    let both = and_parts (list_all is_unhyphened (encode_utf8 c)) (list_all is_unhyphened (encode_utf8_all cs)) (sym (list_all-append is_unhyphened (encode_utf8 c) (encode_utf8_all cs)) ∙ h) in
    elim (cases_Bool (is_unhyphened c)) [
      | inl t ↦ rw t (chars_unhyphened cs both.1)
      | inr f ↦ elim (cases_Bool (eqb c 45)) [
        | inl t ↦
            let here : c ≡ 45 = eqb-true c 45 t in
            let one : encode_utf8 c ≡ 45 ∷ [] = ap encode_utf8 here ∙ sym (append-nil (encode_utf8 45)) ∙ encodes-IsAscii (45 ∷ []) hyphen_alone in
            let no : false ≡ true = rw one at both.0 in
            absurd cc
        | inr g ↦ let yes : not false ≡ false = rw g at f in absurd cc
      ]
    ]

and_false : (b : Bool) → (b && false) ≡ false
and_false true = refl
and_false false = refl

no_joint : (cs : List ℕ) (before : Bool) → list_all is_unhyphened cs ≡ true → part_len_after before cs ≡ length cs
no_joint [] before h = refl
no_joint (c ∷ cs) before h =
    let one = and_parts (is_unhyphened c) (list_all is_unhyphened cs) h in
    let none : (before && (eqb c 45 && begins_alphanumeric cs)) ≡ false = rw (other_than c one.0) (and_false before) in
    rw none (omega (arith, no_joint cs (is_ascii_alphanumeric c) one.1))

-- so it is one part
pub unhyphened_word : (cols spaces : ℕ) (body : List ℕ) (old news : List Measured) → IsUtf8 body → list_all is_unhyphened body ≡ true → news ≡ old ++ map measure (with_spaces (fronts cols (chars body)) spaces)
    → news ≡ old ++ map measure (with_spaces (flat_map (fronts cols) (parts (chars body))) spaces)
unhyphened_word cols spaces body old news u h pushed =
    let whole : part_len_after false (chars body) ≡ length (chars body) = no_joint (chars body) false (chars_unhyphened (chars body) (rw (encodes-chars body u) h)) in
    word_last cols spaces old old news (chars body) (chars body) whole pushed refl
