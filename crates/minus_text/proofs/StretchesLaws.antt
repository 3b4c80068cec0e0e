-- Laws on stretches of characters of one class at the start of a text.
use Rattle.std.proofs.Common.{◌≡◌, ◌≢◌, ◌⊎◌, ℕ, zero, suc, ◌+◌, ◌-◌, ◌<◌, ◌≤◌, Bool, true, false, not, List, [], ◌∷◌, ◌++◌, length, take, drop, get_or, chars, encode_utf8, arith, refl, sym, ap, ◌∙◌, inl, inr}
use Rattle.std.specs.List.{prefix_len, position_or_len}
use Rattle.std.specs.Str.{IsUtf8, IsAscii, encode_utf8_all}
use Rattle.std.proofs.lemmas.Bool.{cases_Bool, eqb-true, ne_eqb}
use Rattle.std.proofs.lemmas.Bool.Decides.{nat_tests}
use Rattle.std.proofs.lemmas.List.{append-nil, length-append, drop-drop, drop_at, drop_all, drop_more, take_all, take-append-drop, length-take-le, get_or-take, get_or-append_right}
use Rattle.std.proofs.lemmas.Str.{chars-append, chars-nil, chars-IsAscii, encode_ascii, encodes-append, encodes-chars, IsUtf8-from_ascii, IsUtf8-take, IsCharBoundary-before_ascii}
use Rattle.minus_text.specs.Units.{is_final}
use Rattle.minus_text.specs.Pieces.{is_space, body_len}

pub left_none : (p : ℕ → Bool) (rest all : List ℕ) → rest ≡ [] → drop (prefix_len p rest) rest ≡ all → rest ≡ all
left_none p rest all e h = e ∙ ap (λ xs. drop (prefix_len p xs) xs) (sym e) ∙ h

-- a text whose characters go on with those of another
pub text_split : (text rest : List ℕ) (front : List ℕ) → IsUtf8 text → IsUtf8 rest → chars text ≡ front ++ chars rest → text ≡ encode_utf8_all front ++ rest
text_split text rest front u v e =
    sym (encodes-chars text u) ∙ ap encode_utf8_all e ∙ encodes-append front (chars rest) ∙ ap (λ bs. encode_utf8_all front ++ bs) (encodes-chars rest v)

-- one element more is passed
pub past_one : (n : ℕ) (all rest more : List ℕ) (c : ℕ) → rest ≡ drop n all → rest ≡ c ∷ more → more ≡ drop (n + 1) all
past_one n all rest more c e f = ap (drop 1) (sym f ∙ e) ∙ drop-drop 1 n all

pub past_none : (n : ℕ) (all rest : List ℕ) → rest ≡ drop n all → rest ≡ [] → rest ≡ drop (n + 1) all
past_none n all rest e f = f ∙ ap (drop 1) (sym f ∙ e) ∙ drop-drop 1 n all

-- a stretch that ends with the front, or goes on to the end
pub stretch_stops : (p : ℕ → Bool) (ys : List ℕ) (c : ℕ) (zs : List ℕ) → p c ≡ false → prefix_len p (ys ++ c ∷ zs) ≡ prefix_len p ys
stretch_stops p [] c zs e = rw e refl
stretch_stops p (y ∷ ys) c zs e = elim (cases_Bool (p y)) [
  | inl t ↦ rw t (ap (λ n. 1 + n) (stretch_stops p ys c zs e))
  | inr t ↦ rw t refl
]

-- a character of ASCII
pub alone : (c : ℕ) → c < 128 → IsAscii (c ∷ [])
alone c l zero = l
alone c l (suc i) = omega arith

-- no character is of a class of ASCII where no byte is
none_of : (q : ℕ → Bool) → ((c : ℕ) → q c ≡ true → c < 128) → (cs : List ℕ) → ((i : ℕ) → i < length (encode_utf8_all cs) → q (get_or (encode_utf8_all cs) i 0) ≡ false) → prefix_len (λ c. not (q c)) cs ≡ length cs
none_of q small [] h = refl
none_of q small (c ∷ cs) h =
    let size : length (encode_utf8_all (c ∷ cs)) ≡ length (encode_utf8 c) + length (encode_utf8_all cs) = length-append (encode_utf8 c) (encode_utf8_all cs) in
    let rest : prefix_len (λ c. not (q c)) cs ≡ length cs =
    none_of q small cs (λ i l. ap q (sym (get_or-append_right (encode_utf8 c) (encode_utf8_all cs) (length (encode_utf8 c)) (length (encode_utf8 c) + i) 0 refl (omega arith) ∙ ap (λ k. get_or (encode_utf8_all cs) k 0) (let z : (length (encode_utf8 c) + i) - length (encode_utf8 c) ≡ i = omega arith in z))) ∙ h (length (encode_utf8 c) + i) (omega arith)) in
    elim (cases_Bool (q c)) [
      | inl t ↦
          let one : encode_utf8 c ≡ c ∷ [] = encode_ascii c (small c t) in
          let first : get_or (encode_utf8_all (c ∷ cs)) 0 0 ≡ c = ap (λ xs. get_or (xs ++ encode_utf8_all cs) 0 0) one in
          let no : true ≡ false = sym t ∙ ap q (sym first) ∙ h 0 (omega (arith, ap length one, size)) in
          absurd cc
      | inr f ↦ rw f (omega (arith, rest))
    ]

-- the first byte of such a class is the first character of it
class_ends : (q : ℕ → Bool) → ((c : ℕ) → q c ≡ true → c < 128) → (text front rest : List ℕ) → IsUtf8 front → text ≡ front ++ rest → ((i : ℕ) → i < length front → q (get_or front i 0) ≡ false) → ((rest ≡ []) ⊎ ((c : ℕ) × (more : List ℕ) × (q c ≡ true) × (rest ≡ c ∷ more)))
    → chars rest ≡ drop (position_or_len q (chars text)) (chars text)
class_ends q small text front rest u e none end =
    let all : chars text ≡ chars front ++ chars rest = ap chars e ∙ chars-append front rest u in
    let whole : prefix_len (λ c. not (q c)) (chars front) ≡ length (chars front) = none_of q small (chars front) (λ i l. let same = encodes-chars front u in rw (← same) at (none i (rw same at l))) in
    let len : position_or_len q (chars text) ≡ length (chars front) = elim end [
      | inl z ↦ ap (position_or_len q) (all ∙ ap (λ xs. chars front ++ xs) (ap chars z ∙ chars-nil) ∙ append-nil (chars front)) ∙ whole
      | inr m ↦
          let ascii : IsAscii (m.0 ∷ []) = alone m.0 (small m.0 m.2) in
          let stops : not (q m.0) ≡ false = ap not m.2 in
          ap (position_or_len q) (all ∙ ap (λ xs. chars front ++ xs) (ap chars m.3 ∙ chars-append (m.0 ∷ []) m.1 (IsUtf8-from_ascii (m.0 ∷ []) ascii) ∙ ap (λ xs. xs ++ chars m.1) (chars-IsAscii (m.0 ∷ []) ascii))) ∙ stretch_stops (λ c. not (q c)) (chars front) m.0 (chars m.1) stops ∙ whole
    ] in
    sym (ap (λ k. drop k (chars text)) len ∙ ap (drop (length (chars front))) all ∙ drop_at (chars front) (chars rest) (length (chars front)) refl)

class_at : (q : ℕ → Bool) → ((c : ℕ) → q c ≡ true → c < 128) → (text rest : List ℕ) (at : ℕ) → IsUtf8 text → at ≤ length text → ((i : ℕ) → i < at → q (get_or text i 0) ≡ false) → rest ≡ drop at text → ((length text ≤ at) ⊎ ((at < length text) × (q (get_or text at 0) ≡ true)))
    → chars rest ≡ drop (position_or_len q (chars text)) (chars text)
class_at q small text rest at u le none e end =
    let len : length (take at text) ≡ at = length-take-le at text le in
    let split : text ≡ take at text ++ rest = sym (take-append-drop at text) ∙ ap (λ xs. take at text ++ xs) (sym e) in
    let front : IsUtf8 (take at text) = elim end [
      | inl g ↦ rw (take_all at text g) u
      | inr h ↦ IsUtf8-take text at u (IsCharBoundary-before_ascii text at h.0 (small (get_or text at 0) h.1))
    ] in
    let before : (i : ℕ) → i < length (take at text) → q (get_or (take at text) i 0) ≡ false = λ i l. ap q (get_or-take at text i 0 (omega arith)) ∙ none i (omega arith) in
    class_ends q small text (take at text) rest front split before (elim end [
      | inl g ↦ inl (e ∙ drop_all at text g)
      | inr h ↦ inr (get_or text at 0, drop (at + 1) text, h.1, e ∙ drop_more text at 0 h.0)
    ])

space_small : (c : ℕ) → is_space c ≡ true → c < 128
space_small c t = let e : c ≡ 32 = eqb-true c 32 t in omega arith

-- what stands behind the body of a text begins at its first space, or at its end
pub body_at : (text rest : List ℕ) (at : ℕ) → IsUtf8 text → at ≤ length text → ((i : ℕ) → i < at → get_or text i 0 ≢ 32) → rest ≡ drop at text → ((length text ≤ at) ⊎ ((at < length text) × (get_or text at 0 ≡ 32)))
    → chars rest ≡ drop (body_len (chars text)) (chars text)
body_at text rest at u le none e end =
    class_at is_space space_small text rest at u le (λ i l. ne_eqb (get_or text i 0) 32 (none i l)) e (elim end [
      | inl g ↦ inl g
      | inr h ↦ inr (h.0, rw (h.1) refl)
    ])

final_small : (c : ℕ) → is_final c ≡ true → c < 128
final_small c h = grind (arith, nat_tests, h)

-- what stands behind the parameters of an escape sequence begins at its final character, or at the end
pub parameters_at : (text rest : List ℕ) (at : ℕ) → IsUtf8 text → at ≤ length text → ((i : ℕ) → i < at → is_final (get_or text i 0) ≡ false) → rest ≡ drop at text → ((length text ≤ at) ⊎ ((at < length text) × (is_final (get_or text at 0) ≡ true)))
    → chars rest ≡ drop (position_or_len is_final (chars text)) (chars text)
parameters_at text rest at u le none e end = class_at is_final final_small text rest at u le none e end
