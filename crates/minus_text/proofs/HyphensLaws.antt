-- Each cut of a word stands after a hyphen between ASCII letters or digits, and no such hyphen is left inside a part.
use Rattle.std.proofs.Common.{◌≡◌, ℕ, zero, suc, ◌+◌, ◌<◌, ◌≤◌, ◌&&◌, Bool, true, false, eqb, List, [], ◌∷◌, ◌++◌, length, take, drop, arith, refl, sym, ap, ◌∙◌, append_assoc, inl, inr}
use Rattle.std.specs.List.{concat, All}
use Rattle.std.specs.Char.{is_ascii_alphanumeric}
use Rattle.std.proofs.lemmas.Bool.{cases_Bool, and_parts, eqb-true}
use Rattle.std.proofs.lemmas.List.{append-nil, length-append, length-drop}
use Rattle.minus_text.specs.Hyphens.{parts, part_len_after, begins_alphanumeric, EndsAtJoint, HasNoJoint, WordsAreCutAtJoints}
use Rattle.minus_text.proofs.CutsLaws.{cuts-nil, cuts-cons, cuts_join}
use Rattle.minus_text.proofs.WordsLaws.{part_rule}

-- the test that ends a part at a hyphen
abbrev joint : ℕ → ℕ → List ℕ → Bool
joint p c cs = is_ascii_alphanumeric p && (eqb c 45 && begins_alphanumeric cs)

len_joint : (p c : ℕ) (cs : List ℕ) → joint p c cs ≡ true → part_len_after (is_ascii_alphanumeric p) (c ∷ cs) ≡ 1
len_joint p c cs e = rw e refl

len_other : (p c : ℕ) (cs : List ℕ) → joint p c cs ≡ false → part_len_after (is_ascii_alphanumeric p) (c ∷ cs) ≡ suc (part_len_after (is_ascii_alphanumeric c) cs)
len_other p c cs e = let s : 1 + part_len_after (is_ascii_alphanumeric c) cs ≡ suc (part_len_after (is_ascii_alphanumeric c) cs) = omega arith in rw e s

longer_front : (front rest xs : List ℕ) → EndsAtJoint front rest → EndsAtJoint (xs ++ front) rest
longer_front front rest xs h = record {
  before = xs ++ h.before;
  letter = h.letter;
  next = h.next;
  more = h.more;
  front_is = ap (λ ys. xs ++ ys) h.front_is ∙ sym (append_assoc xs h.before (h.letter ∷ 45 ∷ []));
  rest_is = h.rest_is;
  between = h.between;
}

-- a part that ends before its text does ends at a joint
ends_at : (p : ℕ) (cs : List ℕ) → part_len_after (is_ascii_alphanumeric p) cs < length cs → (let n : ℕ = part_len_after (is_ascii_alphanumeric p) cs in EndsAtJoint (p ∷ take n cs) (drop n cs))
ends_at p [] l = absurd (omega arith)
ends_at p (c ∷ cs) l = elim (cases_Bool (joint p c cs)) [
  | inl t ↦ rw (len_joint p c cs t) (here cs t)
  | inr f ↦
      let len = len_other p c cs f in
      let on = ends_at c cs (omega (arith, len)) in
      rw len (longer_front (c ∷ take (part_len_after (is_ascii_alphanumeric c) cs) cs) (drop (part_len_after (is_ascii_alphanumeric c) cs) cs) (p ∷ []) on)
]
  where
    here : (cs : List ℕ) → joint p c cs ≡ true → EndsAtJoint (p ∷ c ∷ []) cs
    here [] t =
        let one = and_parts (is_ascii_alphanumeric p) (eqb c 45 && false) t in
        let two = and_parts (eqb c 45) false one.1 in
        absurd (let no : false ≡ true = two.1 in cc)
    here (d ∷ ds) t =
        let one = and_parts (is_ascii_alphanumeric p) (eqb c 45 && is_ascii_alphanumeric d) t in
        let two = and_parts (eqb c 45) (is_ascii_alphanumeric d) one.1 in
        let hyphen : c ≡ 45 = eqb-true c 45 two.0 in
        record {
          before = [];
          letter = p;
          next = d;
          more = ds;
          front_is = ap (λ x. p ∷ x ∷ []) hyphen;
          rest_is = refl;
          between = rw (one.0) two.1;
        }

-- no joint stands inside a part
none_inside : (p : ℕ) (cs before more : List ℕ) (a b : ℕ) → p ∷ take (part_len_after (is_ascii_alphanumeric p) cs) cs ≡ before ++ a ∷ 45 ∷ b ∷ more → (is_ascii_alphanumeric a && is_ascii_alphanumeric b) ≡ false
none_inside p [] before more a b e = absurd (omega (arith, ap length e, length-append before (a ∷ 45 ∷ b ∷ more)))
none_inside p (c ∷ cs) before more a b e = elim (cases_Bool (joint p c cs)) [
  | inl t ↦ let two : p ∷ c ∷ [] ≡ before ++ a ∷ 45 ∷ b ∷ more = rw (len_joint p c cs t) at e in absurd (omega (arith, ap length two, length-append before (a ∷ 45 ∷ b ∷ more)))
  | inr f ↦ inside before f (rw (len_other p c cs f) at e) (λ front g. none_inside c cs front more a b g)
]
  where
    first_next : (n : ℕ) (ds : List ℕ) → take n ds ≡ b ∷ more → begins_alphanumeric ds ≡ is_ascii_alphanumeric b
    first_next zero ds e = let z : 0 ≡ suc (length more) = ap length e in absurd (omega arith)
    first_next (suc n) [] e = let z : 0 ≡ suc (length more) = ap length e in absurd (omega arith)
    first_next (suc n) (d ∷ ds) e = let same : d ≡ b = cc in ap is_ascii_alphanumeric same

    inside : (before : List ℕ) → joint p c cs ≡ false → p ∷ c ∷ take (part_len_after (is_ascii_alphanumeric c) cs) cs ≡ before ++ a ∷ 45 ∷ b ∷ more
        → ((front : List ℕ) → c ∷ take (part_len_after (is_ascii_alphanumeric c) cs) cs ≡ front ++ a ∷ 45 ∷ b ∷ more → (is_ascii_alphanumeric a && is_ascii_alphanumeric b) ≡ false) → (is_ascii_alphanumeric a && is_ascii_alphanumeric b) ≡ false
    inside [] f e on =
        let here : p ≡ a = cc in
        let rest : c ∷ take (part_len_after (is_ascii_alphanumeric c) cs) cs ≡ 45 ∷ b ∷ more = ap (drop 1) e in
        let hyphen : c ≡ 45 = cc in
        let next = first_next (part_len_after (is_ascii_alphanumeric c) cs) cs (ap (drop 1) rest) in
        ap (λ x. is_ascii_alphanumeric x && is_ascii_alphanumeric b) (sym here) ∙ ap (λ y. is_ascii_alphanumeric p && y) (sym next) ∙ ap (λ (y : Bool). is_ascii_alphanumeric p && (y && begins_alphanumeric cs)) (sym (ap (λ x. eqb x 45) hyphen)) ∙ f
    inside (q ∷ before) f e on = on before (ap (drop 1) e)

-- ---- the parts of a word

first_len : (c : ℕ) (cs : List ℕ) → part_len_after false (c ∷ cs) ≡ suc (part_len_after (is_ascii_alphanumeric c) cs)
first_len c cs = omega arith

parts_cons : (c : ℕ) (cs : List ℕ) → (let n : ℕ = part_len_after (is_ascii_alphanumeric c) cs in parts (c ∷ cs) ≡ (c ∷ take n cs) ∷ parts (drop n cs))
parts_cons c cs = cuts-cons (part_len_after false) part_rule c cs ∙ ap (λ n. take n (c ∷ cs) ∷ parts (drop n (c ∷ cs))) (first_len c cs)

none_up_to : (n : ℕ) (cs : List ℕ) → length cs ≤ n → All HasNoJoint (parts cs)
none_up_to n [] l = rw (cuts-nil (part_len_after false)) (λ k d m. absurd (omega arith))
none_up_to zero (c ∷ cs) l = absurd (omega arith)
none_up_to (suc n) (c ∷ cs) l =
    let k : ℕ = part_len_after (is_ascii_alphanumeric c) cs in
    let rest : All HasNoJoint (parts (drop k cs)) = none_up_to n (drop k cs) (omega (arith, length-drop k cs)) in
    rw (parts_cons c cs) (both (c ∷ take k cs) (parts (drop k cs)) (λ before more a b e. none_inside c cs before more a b e) rest)
  where
    both : (x : List ℕ) (xs : List (List ℕ)) → HasNoJoint x → All HasNoJoint xs → All HasNoJoint (x ∷ xs)
    both x xs h k zero d m = h
    both x xs h k (suc i) d m = k i d (omega arith)

some_left : (ds : List ℕ) (after : List (List ℕ)) → parts ds ≡ after → 0 < length after → 0 < length ds
some_left [] after e k = absurd (omega (arith, ap length (sym (cuts-nil (part_len_after false)) ∙ e)))
some_left (d ∷ ds) after e k = omega arith

whole_front : (xs ys : List ℕ) → EndsAtJoint xs ys → EndsAtJoint (xs ++ []) ys
whole_front xs ys h = let nil : xs ++ [] ≡ xs = append-nil xs in rw nil h

-- the cuts behind the first part
behind_first : (c : ℕ) (cs t : List ℕ) (before after : List (List ℕ)) → (let len : ℕ = part_len_after (is_ascii_alphanumeric c) cs in parts (drop len cs) ≡ before ++ after → c ∷ take len cs ≡ t → 0 < length after
    → (0 < length before → EndsAtJoint (concat before) (concat after)) → EndsAtJoint (t ++ concat before) (concat after))
behind_first c cs t [] after more head k on =
    let len : ℕ = part_len_after (is_ascii_alphanumeric c) cs in
    let joined : concat after ≡ drop len cs = ap concat (sym more) ∙ cuts_join (part_len_after false) part_rule (drop len cs) in
    let some : 0 < length (drop len cs) = some_left (drop len cs) after more k in
    let ends = ends_at c cs (omega (arith, some, length-drop len cs)) in
    rw (joined, ← head) (whole_front (c ∷ take len cs) (drop len cs) ends)
behind_first c cs t (b ∷ before) after more head k on = longer_front (concat (b ∷ before)) (concat after) t (on (omega arith))

cuts_up : (n : ℕ) (cs : List ℕ) → length cs ≤ n → (before after : List (List ℕ)) → parts cs ≡ before ++ after → 0 < length before → 0 < length after → EndsAtJoint (concat before) (concat after)
cuts_up n [] l before after e m k = absurd (omega (arith, ap length (sym (cuts-nil (part_len_after false)) ∙ e), length-append before after))
cuts_up zero (c ∷ cs) l before after e m k = absurd (omega arith)
cuts_up (suc n) (c ∷ cs) l [] after e m k = absurd (omega arith)
cuts_up (suc n) (c ∷ cs) l (t ∷ before) after e m k =
    let len : ℕ = part_len_after (is_ascii_alphanumeric c) cs in
    let all : (c ∷ take len cs) ∷ parts (drop len cs) ≡ t ∷ (before ++ after) = sym (parts_cons c cs) ∙ e in
    let more : parts (drop len cs) ≡ before ++ after = ap (drop 1) all in
    let head : c ∷ take len cs ≡ t = cc in
    behind_first c cs t before after more head k (λ some. cuts_up n (drop len cs) (omega (arith, length-drop len cs)) before after more some k)

pub words_cut : WordsAreCutAtJoints
words_cut word = record {
  joins = cuts_join (part_len_after false) part_rule word;
  cuts_stand = cuts_up (length word) word (omega arith);
  none_left = none_up_to (length word) word (omega arith);
}
