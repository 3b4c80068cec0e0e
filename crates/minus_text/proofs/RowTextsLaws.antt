-- Laws on texts that have no ESC from a place on.
use Rattle.std.proofs.Common.{◌≡◌, ℕ, zero, suc, ◌+◌, ◌-◌, ◌≤◌, Bool, true, eqb, List, [], ◌∷◌, ◌++◌, length, take, drop, arith, refl, sym, ap, ◌∙◌, inl, inr}
use Rattle.std.specs.List.{list_all}
use Rattle.std.proofs.lemmas.Bool.{cases_Bool, cases_lt, and_parts, and_from}
use Rattle.std.proofs.lemmas.List.{take-append-drop, drop-drop, drop-take, drop_all, length-take, drop-append-le}
use Rattle.std.proofs.lemmas.List.Folds.{list_all-append}
use Rattle.std.proofs.Math.Seq.{drop-append-add}
use Rattle.memchr.specs.Find.{Nowhere, Passes, is_byte}
use Rattle.minus_text.specs.Plain.{is_unescaped}
use Rattle.minus_text.specs.RowText.{IsUnescapedFrom}

-- a part of a text
pub all_take : (p : ℕ → Bool) (xs : List ℕ) (n : ℕ) → list_all p xs ≡ true → list_all p (take n xs) ≡ true
all_take p xs n h = (and_parts (list_all p (take n xs)) (list_all p (drop n xs)) (sym (list_all-append p (take n xs) (drop n xs)) ∙ ap (list_all p) (take-append-drop n xs) ∙ h)).0

pub all_drop : (p : ℕ → Bool) (xs : List ℕ) (n : ℕ) → list_all p xs ≡ true → list_all p (drop n xs) ≡ true
all_drop p xs n h = (and_parts (list_all p (take n xs)) (list_all p (drop n xs)) (sym (list_all-append p (take n xs) (drop n xs)) ∙ ap (list_all p) (take-append-drop n xs) ∙ h)).1

-- from a later place on
pub unescaped_later : (e n : ℕ) (text : List ℕ) → e ≤ n → IsUnescapedFrom e text → IsUnescapedFrom n text
unescaped_later e n text l h =
    let sum : e + (n - e) ≡ n = omega (arith, l) in
    ap (λ k. list_all is_unescaped (drop k text)) (sym sum) ∙ ap (list_all is_unescaped) (sym (drop-drop (n - e) e text)) ∙ all_drop is_unescaped (drop e text) (n - e) h

part_cut : (k n : ℕ) (xs : List ℕ) → list_all is_unescaped (drop k xs) ≡ true → list_all is_unescaped (drop k (take n xs)) ≡ true
part_cut k n xs h = elim (cases_lt n k) [
  | inl l ↦ ap (list_all is_unescaped) (drop_all k (take n xs) (omega (arith, l, length-take n xs)))
  | inr g ↦
      let sum : k + (n - k) ≡ n = omega (arith, g) in
      ap (λ m. list_all is_unescaped (drop k (take m xs))) (sym sum) ∙ ap (list_all is_unescaped) (drop-take k (n - k) xs) ∙ all_take is_unescaped (drop k xs) (n - k) h
]

pub unescaped_part : (e s n : ℕ) (text : List ℕ) → IsUnescapedFrom e text → IsUnescapedFrom (e - s) (take n (drop s text))
unescaped_part e s n text h =
    let here : list_all is_unescaped (drop (e - s) (drop s text)) ≡ true = ap (list_all is_unescaped) (drop-drop (e - s) s text) ∙ unescaped_later e (s + (e - s)) text (omega arith) h in
    part_cut (e - s) n (drop s text) here

-- a piece behind it
unescaped_append : (e : ℕ) (text piece : List ℕ) → IsUnescapedFrom e text → list_all is_unescaped piece ≡ true → IsUnescapedFrom e (text ++ piece)
unescaped_append e text piece h p = elim (cases_lt (length text) e) [
  | inl l ↦
      let sum : length text + (e - length text) ≡ e = omega (arith, l) in
      ap (λ k. list_all is_unescaped (drop k (text ++ piece))) (sym sum) ∙ ap (list_all is_unescaped) (drop-append-add text piece (e - length text)) ∙ all_drop is_unescaped piece (e - length text) p
  | inr g ↦ ap (list_all is_unescaped) (drop-append-le e text piece g) ∙ list_all-append is_unescaped (drop e text) piece ∙ and_from (list_all is_unescaped (drop e text)) (list_all is_unescaped piece) h p
]

-- no byte from a place on is ESC, where a search finds none
pub none_from : (k : ℕ) (hay : List ℕ) → Nowhere (Passes (is_byte 27) hay) k (length hay) → list_all is_unescaped (drop k hay) ≡ true
none_from zero [] h = refl
none_from (suc k) [] h = refl
none_from (suc k) (c ∷ cs) h = none_from k cs (λ j l m. h (suc j) (omega (arith, l)) (omega (arith, m)))
none_from zero (c ∷ cs) h = elim (cases_Bool (eqb c 27)) [
  | inl t ↦ absurd (h 0 (omega arith) (omega arith) t)
  | inr f ↦ rw f (none_from zero cs (λ j l m. h (suc j) (omega (arith, l)) (omega (arith, m))))
]

pub escapes_found : (last : ℕ) (text piece : List ℕ) → Nowhere (Passes (is_byte 27) piece) (last + 1) (length piece) → IsUnescapedFrom (length text + last + 1) (text ++ piece)
escapes_found last text piece h =
    let sum : length text + last + 1 ≡ length text + (last + 1) = omega arith in
    ap (λ k. list_all is_unescaped (drop k (text ++ piece))) sum ∙ ap (list_all is_unescaped) (drop-append-add text piece (last + 1)) ∙ none_from (last + 1) piece h

pub escapes_kept : (known : ℕ) (text piece : List ℕ) → IsUnescapedFrom known text → Nowhere (Passes (is_byte 27) piece) 0 (length piece) → IsUnescapedFrom known (text ++ piece)
escapes_kept known text piece h n = unescaped_append known text piece h (none_from 0 piece n)
