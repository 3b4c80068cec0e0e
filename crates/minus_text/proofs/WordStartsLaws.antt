-- Characters before the words of a text.
use Rattle.std.proofs.Common.{◌≡◌, ℕ, ◌+◌, ◌-◌, ◌<◌, ◌≤◌, List, [], ◌∷◌, ◌++◌, map, length, take, drop, get_or, slice_range, chars, sym, ap, ◌∙◌, arith, IsUtf8, IsCharBoundary}
use Rattle.std.proofs.lemmas.Str.{IsUtf8-take, chars-append, encodes-chars, length-le-encodes}
use Rattle.std.proofs.lemmas.List.{take-append-drop, take-take, drop-take, length-append, take_more, map-append}
use Rattle.minus_text.specs.WordStarts.{char_number, AreWithin}

shorter : (text : List ℕ) (at n : ℕ) → take at (take (at + n) text) ≡ take at text
shorter text at n = take-take at (at + n) text (omega arith)

-- a front is a shorter front and what follows it
front_on : (text : List ℕ) (at n : ℕ) → take (at + n) text ≡ take at text ++ take n (drop at text)
front_on text at n =
    sym (take-append-drop at (take (at + n) text)) ∙ ap (λ xs. xs ++ drop at (take (at + n) text)) (shorter text at n) ∙ ap (λ xs. take at text ++ xs) (drop-take at n text)

module _ (text : List ℕ) (utf8 : IsUtf8 text) where
  -- the characters before a place, and those from it on to another
  pub chars_on : (at place : ℕ) → at ≤ place → IsCharBoundary text at → IsCharBoundary text place → length (chars (take place text)) ≡ length (chars (take at text)) + length (chars (slice_range text at place))
  chars_on at place order a p =
      let n : ℕ = place - at in
      let e : at + n ≡ place = omega (arith, order) in
      ap (λ m. length (chars (take m text))) (sym e)
      ∙ ap (λ xs. length (chars xs)) (front_on text at n)
      ∙ ap length (chars-append (take at text) (take n (drop at text)) (IsUtf8-take text at utf8 a))
      ∙ length-append (chars (take at text)) (chars (take n (drop at text)))

  -- there are at most as many before a place as in all, and at most as many as bytes
  pub chars_few : (place : ℕ) → IsCharBoundary text place → length (chars (take place text)) ≤ length (chars text)
  chars_few place p =
      let whole = ap (λ xs. length (chars xs)) (take-append-drop place text) in
      let parts = ap length (chars-append (take place text) (drop place text) (IsUtf8-take text place utf8 p)) in
      omega (arith, whole, parts, length-append (chars (take place text)) (chars (drop place text)))

  pub chars_small : length (chars text) ≤ length text
  chars_small = let e = ap length (encodes-chars text utf8) in let le = length-le-encodes (chars text) in omega (arith, e, le)

-- one more place within
pub within_snoc : (last : ℕ) (xs : List ℕ) (x : ℕ) → AreWithin last xs → 1 ≤ x → x ≤ last → AreWithin last (xs ++ x ∷ [])
within_snoc last [] x h one le = (one, le, tt)
within_snoc last (y ∷ ys) x h one le = (h.0, h.1, within_snoc last ys x h.2 one le)

-- one more start
pub one_more_start : (text : List ℕ) (places : List (ℕ × ℕ)) (i : ℕ) (old new : List ℕ) (start : ℕ) → i < length places → old ≡ map (λ p. char_number text p.0) (take i places)
    → start ≡ char_number text (get_or places i (0, 0)).0 → new ≡ old ++ start ∷ [] → new ≡ map (λ p. char_number text p.0) (take (i + 1) places)
one_more_start text places i old new start more o s n =
    let f : ℕ × ℕ → ℕ = λ p. char_number text p.0 in
    let p : ℕ × ℕ = get_or places i (0, 0) in
    n ∙ ap (λ xs. xs ++ start ∷ []) o ∙ ap (λ x. map f (take i places) ++ x ∷ []) s
    ∙ sym (map-append f (take i places) (p ∷ []))
    ∙ ap (map f) (sym (take_more places i (0, 0) more))
