-- Laws on the part of a text that is seen.
use Rattle.std.proofs.Common.{◌≡◌, ℕ, ◌+◌, ◌&&◌, Bool, true, false, ◌≤◌, subst, append_assoc, nat_lt, Option, None, Some, List, [], ◌∷◌, ◌++◌, length, if◌then◌else◌, arith, refl, sym, ap, ◌∙◌}
use Rattle.std.specs.List.{sum_by}
use Rattle.std.specs.Str.{IsUtf8, encode_utf8_all}
use Rattle.std.proofs.lemmas.List.{length-append}
use Rattle.std.proofs.lemmas.List.Sums.{sum_by-append, sum_by-cons}
use Rattle.minus_text.specs.Units.{unit_columns}
use Rattle.minus_text.specs.Crop.{is_inside}
use Rattle.minus_state.specs.VisibleCharacters.{text_of, row_units}
use Rattle.minus_state.specs.LineBounds.{is_seen, joined, seen_range}
use Rattle.minus_state.proofs.VisibleLaws.{text_of-append, text_of-cons, row_text}

joined_assoc : (a b c : Option (ℕ × ℕ)) → joined (joined a b) c ≡ joined a (joined b c)
joined_assoc None b c = refl
joined_assoc (Some a) None c = refl
joined_assoc (Some a) (Some b) None = refl
joined_assoc (Some a) (Some b) (Some c) = refl

joined_none : (a : Option (ℕ × ℕ)) → joined a None ≡ a
joined_none None = refl
joined_none (Some a) = refl

-- the columns and bytes so far, and the range with that of what is left
pub record SeenSoFar (left width : ℕ) (all rest : List (List ℕ)) (at bytes : ℕ) (range : Option (ℕ × ℕ)) : Type 0 where
  pub before : List (List ℕ)
  pub at_is : at ≡ sum_by unit_columns before
  pub bytes_is : bytes ≡ length (text_of before)
  pub range_is : joined range (seen_range left width before rest) ≡ seen_range left width [] all

pub none_seen : (left width : ℕ) (all : List (List ℕ)) → SeenSoFar left width all all 0 0 None
none_seen left width all = record { before = []; at_is = refl; bytes_is = refl; range_is = refl }

-- one more unit
pub seen_more : (left width : ℕ) (all rest more : List (List ℕ)) (unit text : List ℕ) (at at' columns bytes bytes' : ℕ) (range range' : Option (ℕ × ℕ)) (seen : Bool) → SeenSoFar left width all rest at bytes range → rest ≡ unit ∷ more
    → text ≡ encode_utf8_all unit → columns ≡ unit_columns unit → at' ≡ at + columns → bytes' ≡ bytes + length text → seen ≡ (nat_lt 0 columns && is_inside left width at columns)
    → range' ≡ joined range (if seen then Some (bytes, bytes') else None) → SeenSoFar left width all more at' bytes' range'
seen_more left width all rest more unit text at at' columns bytes bytes' range range' seen s e t c a b h r =
    let next : List (List ℕ) = s.before ++ unit ∷ [] in
    let sum : at' ≡ sum_by unit_columns next = omega (arith, a, c, s.at_is, sum_by-append unit_columns s.before (unit ∷ []), sum_by-cons unit_columns unit []) in
    let size : bytes' ≡ length (text_of next) =
    omega (arith, b, s.bytes_is, ap length t, ap length (text_of-append s.before (unit ∷ [])), length-append (text_of s.before) (text_of (unit ∷ [])), ap length (text_of-cons unit []), length-append (encode_utf8_all unit) (text_of [])) in
    let test : seen ≡ is_seen left width s.before unit = h ∙ rw (c, s.at_is) refl in
    let here : Option (ℕ × ℕ) = if is_seen left width s.before unit then Some (length (text_of s.before), length (text_of next)) else None in
    let one : range' ≡ joined range here = r ∙ rw (test, s.bytes_is, size) refl in
    record {
      before = next;
      at_is = sum;
      bytes_is = size;
      range_is = ap (λ o. joined o (seen_range left width next more)) one ∙ joined_assoc range here (seen_range left width next more) ∙ ap (λ us. joined range (seen_range left width s.before us)) (sym e) ∙ s.range_is;
    }

pub seen_done : (left width : ℕ) (all rest : List (List ℕ)) (at bytes : ℕ) (range : Option (ℕ × ℕ)) → SeenSoFar left width all rest at bytes range → rest ≡ [] → range ≡ seen_range left width [] all
seen_done left width all rest at bytes range s e = sym (joined_none range) ∙ ap (λ us. joined range (seen_range left width s.before us)) (sym e) ∙ s.range_is

-- ---- ranges lie in the text

abbrev pub IsWithin : ℕ → Option (ℕ × ℕ) → Type 0
IsWithin n None = Unit {0}
IsWithin n (Some range) = (range.0 ≤ n) × (range.1 ≤ n)

joined_within : (n : ℕ) (a b : Option (ℕ × ℕ)) → IsWithin n a → IsWithin n b → IsWithin n (joined a b)
joined_within n None b h k = k
joined_within n (Some a) None h k = h
joined_within n (Some a) (Some b) h k = (h.0, k.1)

one_within : (n start end : ℕ) (seen : Bool) → start ≤ n → end ≤ n → IsWithin n (if seen then Some (start, end) else None)
one_within n start end true h k = (h, k)
one_within n start end false h k = tt

seen_within : (left width n : ℕ) (before us : List (List ℕ)) → n ≡ length (text_of (before ++ us)) → IsWithin n (seen_range left width before us)
seen_within left width n before [] e = tt
seen_within left width n before (u ∷ us) e =
    let next : List (List ℕ) = before ++ u ∷ [] in
    let all : n ≡ length (text_of (next ++ us)) = e ∙ ap (λ vs. length (text_of vs)) (sym (append_assoc before (u ∷ []) us)) in
    let start : length (text_of before) ≤ n = omega (arith, e, ap length (text_of-append before (u ∷ us)), length-append (text_of before) (text_of (u ∷ us))) in
    let end : length (text_of next) ≤ n = omega (arith, all, ap length (text_of-append next us), length-append (text_of next) (text_of us)) in
    joined_within n (if is_seen left width before u then Some (length (text_of before), length (text_of next)) else None) (seen_range left width next us) (one_within n (length (text_of before)) (length (text_of next)) (is_seen left width before u) start end) (seen_within left width n next us all)

pub range_within : (left width : ℕ) (text : List ℕ) (range : ℕ × ℕ) → IsUtf8 text → Some range ≡ seen_range left width [] (row_units text) → (range.0 ≤ length text) × (range.1 ≤ length text)
range_within left width text range u e = subst (λ (o : Option (ℕ × ℕ)). IsWithin (length text) o) (sym e) (seen_within left width (length text) [] (row_units text) (sym (ap length (row_text text u))))
