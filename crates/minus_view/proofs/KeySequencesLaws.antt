-- Laws of units: a rest is short, and a whole unit stays one whatever follows.
use Rattle.std.proofs.Common.{ℕ, ◌≡◌, ◌<◌, ◌≤◌, ◌+◌, ◌==◌, ◌++◌, List, [], ◌∷◌, Bool, true, false, Option, Some, None, option_map, refl, ap, sym, ◌∙◌, arith, length, drop, if◌then◌else◌, length-append, ◌⊎◌, inl, inr}
use Rattle.std.proofs.lemmas.List.{length-drop, drop-append-le}
use Rattle.std.specs.Int.{is_in_range}
use Rattle.std.proofs.lemmas.Bool.Decides.{nat_tests}
use Rattle.std.proofs.lemmas.List.Sums.{prefix_len-le-length}
use Rattle.std.proofs.lemmas.List.Folds.{prefix_len-append}
use Rattle.minus_view.specs.KeySequences.{tail_len, more_of, character_len, final_len, parameters_len, sequence_len, escaped_len, unit_len}

-- a tail of at most `most` bytes waits only where there are fewer
tail_waits : (most first last : ℕ) (bs : List ℕ) → tail_len most first last bs ≡ None → length bs < most
tail_waits most first last bs h = grind (arith, nat_tests)

map_waits : (f : ℕ → ℕ) (o : Option ℕ) → option_map f o ≡ None → o ≡ None
map_waits f None h = refl
map_waits f (Some n) h = absurd (cc)

one_waits : (t : Bool) (a b : Option ℕ) → (if t then a else b) ≡ None → (a ≡ None) ⊎ (b ≡ None)
one_waits true a b h = inl h
one_waits false a b h = inr h

more_few : (b : ℕ) → more_of b ≤ 3
more_few b = grind (arith, nat_tests)

-- a tail stays as it is
tail_stays : (most first last : ℕ) (bs more : List ℕ) (n : ℕ) → tail_len most first last bs ≡ Some n → tail_len most first last (bs ++ more) ≡ Some n
tail_stays most first last bs more n h =
    let p = is_in_range first last in
    let run = prefix_len-append p bs more in
    let within = prefix_len-le-length p bs in
    let len = length-append bs more in
    grind (arith, nat_tests)

-- each part of a unit waits with few bytes
character_waits : (b : ℕ) (bs : List ℕ) → character_len b bs ≡ None → length bs < 3
character_waits b bs h =
    let few = more_few b in
    let waits = tail_waits (more_of b) 0x80 0xBF bs (map_waits (λ n. n + 1) (tail_len (more_of b) 0x80 0xBF bs) h) in
    omega arith

parameters_wait : (bs : List ℕ) → parameters_len bs ≡ None → length bs < 64
parameters_wait bs h = tail_waits 64 0x20 0x3F bs (map_waits (λ n. n + final_len n (drop n bs)) (tail_len 64 0x20 0x3F bs) h)

map_one : (o : Option ℕ) → option_map (λ n. n + 1) o ≡ None → o ≡ None
map_one o h = map_waits (λ n. n + 1) o h

sequence_waits : (bs : List ℕ) → sequence_len bs ≡ None → length bs < 64
sequence_waits [] h = omega arith
sequence_waits (b ∷ bs) h = elim (one_waits (b == 91) (option_map (λ n. n + 1) (tail_len 1 0x20 0x7E bs)) _ h) [
  | inl e ↦ let few = tail_waits 1 0x20 0x7E bs (map_one (tail_len 1 0x20 0x7E bs) e) in omega arith
  | inr e ↦ elim (one_waits (b == 77) (option_map (λ n. n + 1) (tail_len 3 0x20 0xFF bs)) (parameters_len (b ∷ bs)) e) [
    | inl e2 ↦ let few = tail_waits 3 0x20 0xFF bs (map_one (tail_len 3 0x20 0xFF bs) e2) in omega arith
    | inr e2 ↦ parameters_wait (b ∷ bs) e2
  ]
]

escaped_waits : (bs : List ℕ) → escaped_len bs ≡ None → length bs < 65
escaped_waits [] h = omega arith
escaped_waits (b ∷ bs) h = elim (one_waits (b == 91) (option_map (λ n. n + 1) (sequence_len bs)) _ h) [
  | inl e ↦ let few = sequence_waits bs (map_one (sequence_len bs) e) in omega arith
  | inr e ↦ elim (one_waits (b == 79) (option_map (λ n. n + 1) (tail_len 1 0x20 0x7E bs)) _ e) [
    | inl e2 ↦ let few = tail_waits 1 0x20 0x7E bs (map_one (tail_len 1 0x20 0x7E bs) e2) in omega arith
    | inr e2 ↦ elim (one_waits (b == 27) (Some 0) (character_len b bs) e2) [
      | inl e3 ↦ absurd (cc)
      | inr e3 ↦ let few = character_waits b bs e3 in omega arith
    ]
  ]
]

pub unit_waits : (bs : List ℕ) → unit_len bs ≡ None → length bs ≤ 65
unit_waits [] h = omega arith
unit_waits (b ∷ bs) h = elim (one_waits (b == 27) (option_map (λ n. n + 1) (escaped_len bs)) (character_len b bs) h) [
  | inl e ↦ let few = escaped_waits bs (map_one (escaped_len bs) e) in omega arith
  | inr e ↦ let few = character_waits b bs e in omega arith
]

-- what holds of the parts holds of the whole
map_stays : (f : ℕ → ℕ) (o o2 : Option ℕ) (n : ℕ) → ((m : ℕ) → o ≡ Some m → o2 ≡ Some m) → option_map f o ≡ Some n → option_map f o2 ≡ Some n
map_stays f (Some m) o2 n stays h = ap (option_map f) (stays m refl) ∙ h
map_stays f None o2 n stays h = absurd (cc)

one_stays : (t : Bool) (a b a2 b2 : Option ℕ) (n : ℕ) → (a ≡ Some n → a2 ≡ Some n) → (b ≡ Some n → b2 ≡ Some n)
    → (if t then a else b) ≡ Some n → (if t then a2 else b2) ≡ Some n
one_stays true a b a2 b2 n first second h = first h
one_stays false a b a2 b2 n first second h = second h

character_stays : (b : ℕ) (bs more : List ℕ) (n : ℕ) → character_len b bs ≡ Some n → character_len b (bs ++ more) ≡ Some n
character_stays b bs more n h = map_stays (λ n. n + 1) (tail_len (more_of b) 0x80 0xBF bs) (tail_len (more_of b) 0x80 0xBF (bs ++ more)) n (λ m e. tail_stays (more_of b) 0x80 0xBF bs more m e) h

fixed_stays : (most first last : ℕ) (bs more : List ℕ) (n : ℕ)
    → option_map (λ n. n + 1) (tail_len most first last bs) ≡ Some n → option_map (λ n. n + 1) (tail_len most first last (bs ++ more)) ≡ Some n
fixed_stays most first last bs more n h = map_stays (λ n. n + 1) (tail_len most first last bs) (tail_len most first last (bs ++ more)) n (λ m e. tail_stays most first last bs more m e) h

final_front : (n : ℕ) (xs more : List ℕ) → 0 < length xs → final_len n (xs ++ more) ≡ final_len n xs
final_front n [] more h = absurd (omega (arith, h))
final_front n (x ∷ xs) more h = refl

final_none : (n : ℕ) (xs : List ℕ) → 64 ≤ n → final_len n xs ≡ 0
final_none n [] h = refl
final_none n (x ∷ xs) h = grind (arith, nat_tests)

final_stays : (n : ℕ) (bs more : List ℕ) → (n < length bs) ⊎ (64 ≤ n) → final_len n (drop n (bs ++ more)) ≡ final_len n (drop n bs)
final_stays n bs more (inl within) = ap (final_len n) (drop-append-le n bs more (omega arith)) ∙ final_front n (drop n bs) more (omega (arith, length-drop n bs))
final_stays n bs more (inr most) = final_none n (drop n (bs ++ more)) most ∙ sym (final_none n (drop n bs) most)

-- parameters are followed by a byte, or are as many as there may be
parameters_end : (bs : List ℕ) (n : ℕ) → tail_len 64 0x20 0x3F bs ≡ Some n → (n < length bs) ⊎ (64 ≤ n)
parameters_end bs n h =
    let within = prefix_len-le-length (is_in_range 0x20 0x3F) bs in
    grind (arith, nat_tests)

parameters_by : (bs more : List ℕ) (t : Option ℕ) (k : ℕ) → tail_len 64 0x20 0x3F bs ≡ t
    → option_map (λ n. n + final_len n (drop n bs)) t ≡ Some k → parameters_len (bs ++ more) ≡ Some k
parameters_by bs more (Some n) k e h =
    ap (option_map (λ n. n + final_len n (drop n (bs ++ more)))) (tail_stays 64 0x20 0x3F bs more n e)
    ∙ ap (λ m. Some (n + m)) (final_stays n bs more (parameters_end bs n e)) ∙ h
parameters_by bs more None k e h = absurd (cc)

parameters_stay : (bs more : List ℕ) (n : ℕ) → parameters_len bs ≡ Some n → parameters_len (bs ++ more) ≡ Some n
parameters_stay bs more n h = parameters_by bs more (tail_len 64 0x20 0x3F bs) n refl h

sequence_stays : (bs more : List ℕ) (n : ℕ) → sequence_len bs ≡ Some n → sequence_len (bs ++ more) ≡ Some n
sequence_stays [] more n h = absurd (cc)
sequence_stays (b ∷ bs) more n h =
    one_stays (b == 91) _ _ _ _ n (fixed_stays 1 0x20 0x7E bs more n)
    (one_stays (b == 77) _ _ _ _ n (fixed_stays 3 0x20 0xFF bs more n) (parameters_stay (b ∷ bs) more n)) h

escaped_stays : (bs more : List ℕ) (n : ℕ) → escaped_len bs ≡ Some n → escaped_len (bs ++ more) ≡ Some n
escaped_stays [] more n h = absurd (cc)
escaped_stays (b ∷ bs) more n h =
    one_stays (b == 91) _ _ _ _ n (map_stays (λ n. n + 1) (sequence_len bs) (sequence_len (bs ++ more)) n (sequence_stays bs more))
    (one_stays (b == 79) _ _ _ _ n (fixed_stays 1 0x20 0x7E bs more n)
    (one_stays (b == 27) (Some 0) _ (Some 0) _ n (λ e. e) (character_stays b bs more n))) h

pub unit_stays : (bs more : List ℕ) (n : ℕ) → unit_len bs ≡ Some n → unit_len (bs ++ more) ≡ Some n
unit_stays [] more n h = absurd (cc)
unit_stays (b ∷ bs) more n h =
    one_stays (b == 27) _ _ _ _ n (map_stays (λ n. n + 1) (escaped_len bs) (escaped_len (bs ++ more)) n (escaped_stays bs more))
    (character_stays b bs more n) h
