-- What stands before a place of a text, and what is put in.
use Rattle.std.proofs.Common.{inl, inr, ◌≡◌, ℕ, zero, suc, ◌+◌, ◌<◌, ◌≤◌, Bool, true, false, cond, nat_le, ltb, List, [], ◌∷◌, ◌++◌, map, length, drop, get_or, position, Some, None, refl, sym, ap, ◌∙◌, arith, append_assoc}
use Rattle.std.specs.List.{position_or_len}
use Rattle.std.specs.Option.{unwrap_or}
use Rattle.std.proofs.lemmas.Bool.{cases_Bool, cases_lt}
use Rattle.std.proofs.lemmas.List.{drop_more, drop-map, map-append}
use Rattle.std.proofs.lemmas.List.Sums.{prefix_len-le-length}
use Rattle.minus_text.specs.declared.search.escapes.Insert.{Insert}
use Rattle.minus_text.specs.Escapes.{insert_of}
use Rattle.minus_text.specs.Highlight.{count_before, before, behind, closed, of_match, ordered, reverse_on}

pub count_mapped : (place : ℕ) (is : List Insert) → position_or_len (λ (i : Insert). nat_le place i.place) is ≡ count_before place (map insert_of is)
count_mapped place [] = refl
count_mapped place (i ∷ is) = elim (cases_Bool (nat_le place i.place)) [ inl e ↦ rw e refl | inr e ↦ rw e (ap (λ n. 1 + n) (count_mapped place is)) ]

found_or_all : (n size : ℕ) → n ≤ size → unwrap_or (cond (ltb n size) (Some n) None) size ≡ n
found_or_all n size le = elim (cases_lt n size) [
  | inl h ↦ let t : ltb n size ≡ true = grind (arith, h) in rw t refl
  | inr h ↦ let f : ltb n size ≡ false = grind (arith, h) in rw f (omega (arith, le, h))
]

pub position_is : (place : ℕ) (is : List Insert) → unwrap_or (position (λ (i : Insert). nat_le place i.place) is) (length is) ≡ count_before place (map insert_of is)
position_is place is =
    let same = count_mapped place is in
    found_or_all (position_or_len (λ (i : Insert). nat_le place i.place) is) (length is) (prefix_len-le-length _ is) ∙ same

drop_none : {A : Type 0} (k : ℕ) → drop {A = A} k [] ≡ []
drop_none zero = refl
drop_none (suc k) = refl

drop_sum : {A : Type 0} (n k : ℕ) (xs : List A) → drop k (drop n xs) ≡ drop (n + k) xs
drop_sum zero k xs = let e : zero + k ≡ k = omega arith in ap (λ i. drop i xs) (sym e)
drop_sum (suc n) k [] = drop_none k ∙ sym (drop_none (suc n + k))
drop_sum (suc n) k (x ∷ xs) = let e : suc n + k ≡ suc (n + k) = omega arith in drop_sum n k xs ∙ ap (λ i. drop i (x ∷ xs)) (sym e)

pub matched : (accurate : Bool) (m : ℕ × ℕ) (old first second outer inner : List Insert) (on : Insert) (es new : List (ℕ × List ℕ)) →
    first ≡ old ++ outer → second ≡ first ++ on ∷ [] → insert_of on ≡ (m.0, reverse_on) → map insert_of outer ≡ before m.0 es →
    map insert_of inner ≡ before m.1 (behind m.0 es) → new ≡ map insert_of second ++ closed accurate m.1 (map insert_of inner) →
    new ≡ map insert_of old ++ of_match accurate m es
matched accurate m old first second outer inner on es new f s o out inn n =
    let front : map insert_of first ≡ map insert_of old ++ before m.0 es =
    ap (map insert_of) f ∙ map-append insert_of old outer ∙ ap (λ l. map insert_of old ++ l) out in
    let both : map insert_of second ≡ (map insert_of old ++ before m.0 es) ++ (m.0, reverse_on) ∷ [] =
    ap (map insert_of) s ∙ map-append insert_of first (on ∷ []) ∙ ap (λ x. map insert_of first ++ x ∷ []) o ∙ ap (λ l. l ++ (m.0, reverse_on) ∷ []) front in
    n ∙ ap (λ l. l ++ closed accurate m.1 (map insert_of inner)) both
    ∙ ap (λ l. ((map insert_of old ++ before m.0 es) ++ (m.0, reverse_on) ∷ []) ++ closed accurate m.1 l) inn
    ∙ append_assoc (map insert_of old ++ before m.0 es) ((m.0, reverse_on) ∷ []) _
    ∙ append_assoc (map insert_of old) (before m.0 es) _

module _ (accurate : Bool) (matches : List (ℕ × ℕ)) (i : ℕ) (more : i < length matches) (found : List Insert) (done count : ℕ) where
  abbrev m : ℕ × ℕ
  m = get_or matches i (0, 0)

  abbrev es : List (ℕ × List ℕ)
  es = map insert_of (drop done found)

  pub one_more_match : (puts grown all : List (ℕ × List ℕ)) → puts ++ ordered accurate (drop i matches) es ≡ all → grown ≡ puts ++ of_match accurate m es →
      drop count es ≡ behind m.1 (behind m.0 es) → grown ++ ordered accurate (drop (i + 1) matches) (map insert_of (drop (done + count) found)) ≡ all
  one_more_match puts grown all inv g r =
      let next : map insert_of (drop (done + count) found) ≡ behind m.1 (behind m.0 es) =
      ap (map insert_of) (sym (drop_sum done count found)) ∙ sym (drop-map insert_of count (drop done found)) ∙ r in
      ap (λ l. l ++ ordered accurate (drop (i + 1) matches) (map insert_of (drop (done + count) found))) g
      ∙ append_assoc puts (of_match accurate m es) _
      ∙ ap (λ l. puts ++ (of_match accurate m es ++ ordered accurate (drop (i + 1) matches) l)) next
      ∙ ap (λ l. puts ++ ordered accurate l es) (sym (drop_more matches i (0, 0) more)) ∙ inv
