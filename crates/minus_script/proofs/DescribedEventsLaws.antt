-- The events that texts describe.
use Rattle.std.proofs.Common.{◌≡◌, ℕ, zero, suc, ◌+◌, ◌<◌, ◌≤◌, List, [], ◌∷◌, ◌++◌, length, get_or, take, drop, option_map, Bor, Option, Some, None, Result, Ok, Err, IfOk, IfErr, ◌⊎◌, inl, inr, refl, sym, ap, ◌∙◌, subst, arith}
use Rattle.std.specs.Prelude.{◌≢◌, MatchOption}
use Rattle.std.specs.Str.Pattern.{RFindsChar}
use Rattle.std.proofs.lemmas.Bool.{cond-false, ne_eqb}
use Rattle.std.proofs.lemmas.List.{drop_more, take-append-drop}
use Rattle.std.proofs.lemmas.Str.{len_utf8_ascii}
use Rattle.std.proofs.lemmas.Str.Pattern.{NoCharPasses-char}
use Rattle.std.specs.Result.{result_ok}
use Rattle.minus_term.specs.declared.error.DescriptionError.{DescriptionError}
use Rattle.minus_term.specs.declared.event.KeyEvent.{KeyEvent}
use Rattle.minus_term.specs.declared.event.MouseEvent.{MouseEvent}
use Rattle.minus_input.specs.Description.{DescribesKey, DescribesMouse, KeyFault, MouseFault, HasOneMeaning}
use Rattle.minus_input.proofs.DescriptionLaws.{each_text}
use Rattle.minus_script.specs.DescribedEvents.{what_holds, key_described, mouse_described, with_front, split_last}

module _ {D : Type 0} (Describes : D → Type 0) (Fault : DescriptionError → Type 0) (one : HasOneMeaning Describes Fault) where
  holds : (both : ((d : D) × Describes d) ⊎ ((e : DescriptionError) × Fault e)) (d : D) → Describes d → Some d ≡ what_holds {Describes = Describes} {Fault = Fault} both
  holds (inl is) d h = ap Some (one.one_event d is.0 h is.1)
  holds (inr fault) d h = absurd (one.never_both d fault.0 h fault.1)

  fails : (both : ((d : D) × Describes d) ⊎ ((e : DescriptionError) × Fault e)) (e : DescriptionError) → Fault e → None ≡ what_holds {Describes = Describes} {Fault = Fault} both
  fails (inl is) e h = absurd (one.never_both is.0 e is.1 h)
  fails (inr fault) e h = refl

  read_as : (both : ((d : D) × Describes d) ⊎ ((e : DescriptionError) × Fault e)) (r : Result D DescriptionError) → IfOk r Describes → IfErr r Fault → result_ok r ≡ what_holds {Describes = Describes} {Fault = Fault} both
  read_as both (Ok d) ok err = holds both d ok
  read_as both (Err e) ok err = fails both e err

pub key_read : (text : List ℕ) (r : Result KeyEvent DescriptionError) → IfOk r (DescribesKey text) → IfErr r (KeyFault text) → result_ok r ≡ key_described text
unfolding key_described
key_read text r ok err = read_as (DescribesKey text) (KeyFault text) (each_text text).0 (each_text text).0.one_of_both r ok err

pub mouse_read : (text : List ℕ) (r : Result MouseEvent DescriptionError) → IfOk r (DescribesMouse text) → IfErr r (MouseFault text) → result_ok r ≡ mouse_described text
unfolding mouse_described
mouse_read text r ok err = read_as (DescribesMouse text) (MouseFault text) (each_text text).1 (each_text text).1.one_of_both r ok err

-- no byte is a blank
abbrev HasNoBlank : List ℕ → Type 0
HasNoBlank text = (k : ℕ) → k < length text → get_or text k 0 ≢ 32

split_none : (text : List ℕ) → HasNoBlank text → split_last text ≡ None
split_none [] none = refl
split_none (b ∷ text) none =
    ap (with_front b text) (split_none text (λ k lt. none (suc k) (omega (arith, lt)))) ∙ cond-false _ _ _ (ne_eqb b 32 (none zero (omega arith)))

split_at : (front back : List ℕ) → HasNoBlank back → split_last (front ++ 32 ∷ back) ≡ Some (front, back)
split_at [] back none = ap (with_front 32 back) (split_none back none)
split_at (b ∷ front) back none = ap (with_front b (front ++ 32 ∷ back)) (split_at front back none)

-- what stands around the last blank
pub last_split : (text : List ℕ) (r : Option (Bor (List ℕ) × Bor (List ℕ)))
    → MatchOption r (RFindsChar 32 text None) (λ x. (i : ℕ) × (j : ℕ) × RFindsChar 32 text (Some (i, j)) × (x.0.now ≡ take i text) × (x.1.now ≡ drop j text) × (i ≤ j) × (length x.0.now ≡ i) × (length x.1.now + j ≡ length text))
    → option_map (λ x. (x.0.now, x.1.now)) r ≡ split_last text
last_split text None h = sym (split_none text (λ k. NoCharPasses-char 32 text k h (omega arith)))
last_split text (Some x) h =
    let i = h.0 in
    let j = h.1 in
    let next : j ≡ i + 1 = omega (arith, h.2.1.ends, len_utf8_ascii 32 (omega arith)) in
    let none : HasNoBlank (drop j text) = λ k. NoCharPasses-char 32 (drop j text) k h.2.0 (omega arith) in
    let inside : i < length text = omega (arith, h.7, next) in
    let around : text ≡ take i text ++ 32 ∷ drop (i + 1) text = sym (take-append-drop i text) ∙ ap (λ l. take i text ++ l) (drop_more text i 0 inside ∙ ap (λ b. b ∷ drop (i + 1) text) (h.2.1.byte (omega arith))) in
    (λ t. Some (h.3 t, h.4 t)) ∙ ap (λ n. Some (take i text, drop n text)) next ∙ sym (ap split_last around ∙ split_at (take i text) (drop (i + 1) text) (subst (λ n. HasNoBlank (drop n text)) next none))
