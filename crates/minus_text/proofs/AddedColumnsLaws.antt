-- What a unit adds to the columns of what follows it: as many as it takes by itself, behind whatever unit it stands.
use Rattle.std.proofs.Common.{◌≡◌, ◌⊎◌, ℕ, zero, suc, ◌+◌, ◌-◌, ◌<◌, ◌≤◌, ◌&&◌, Bool, true, false, not, eqb, List, [], ◌∷◌, ◌++◌, length, take, drop, replicate, subst, arith, refl, sym, ap, ◌∙◌, inl, inr}
use Rattle.std.specs.List.{concat, sum_by, prefix_len, position_or_len}
use Rattle.std.proofs.lemmas.Bool.{cases_Bool, and_parts, eqb-true}
use Rattle.std.proofs.lemmas.List.{append-nil, append_cancel_right, length-append, length-replicate, length-drop, drop-drop, drop_all, nil_from_length, take_at, drop_at, take-replicate, drop-replicate, replicate-append-replicate}
use Rattle.std.proofs.lemmas.List.Sums.{sum_by-cons}
use Rattle.minus_text.specs.Units.{char_columns, is_final, begins_sequence, units, unit_len, unit_columns, body_of, text_columns, columns}
use Rattle.minus_text.specs.TextUnits.{text_units}
use Rattle.minus_text.proofs.BorderLaws.{settles_sequence}
use Rattle.minus_text.proofs.ColumnsLaws.{body_before}
use Rattle.minus_text.proofs.CutsLaws.{cuts-nil}
use Rattle.minus_text.proofs.FrontsLaws.{concat-append}
use Rattle.minus_text.proofs.PlainLaws.{printable_column}
use Rattle.minus_text.proofs.TextUnitsLaws.{concat_spaces, body_and_spaces}
use Rattle.minus_text.proofs.UnitsLaws.{units_join, unit_character, unit_sequence}

-- ---- what a unit adds to the columns of what follows it

abbrev pub Adds : List ℕ → Type 0
Adds v = (ds : List ℕ) → text_columns (v ++ ds) ≡ unit_columns v + text_columns ds

-- with a `[` an ESC before it begins a sequence
abbrev pub begins_bracket : List ℕ → Bool
begins_bracket [] = false
begins_bracket (c ∷ cs) = eqb c 91

abbrev pub AreSpaces : List ℕ → Type 0
AreSpaces cs = cs ≡ replicate (length cs) 32

-- an ESC that begins no sequence
pub record IsEscape (v r : List ℕ) : Type 0 where
  pub alone : v ≡ 27 ∷ []
  pub other : begins_bracket r ≡ false

-- a sequence without an end, which is the last of its body
pub record IsOpen (v r : List ℕ) : Type 0 where
  pub spaces : AreSpaces r
  pub adds : (n : ℕ) → text_columns (v ++ replicate n 32) ≡ unit_columns v + n

-- a unit before some characters
pub record IsUnit (v r : List ℕ) : Type 0 where
  pub first : ℕ
  pub others : List ℕ
  pub some : v ≡ first ∷ others
  pub bracket : begins_bracket v ≡ true → (begins_sequence v ≡ false) × (0 < unit_columns v)
  pub kind : Adds v ⊎ (IsEscape v r ⊎ IsOpen v r)

abbrev pub AreUnits : List (List ℕ) → Type 0
AreUnits [] = Unit {0}
AreUnits (v ∷ vs) = IsUnit v (concat vs) × AreUnits vs

no_text : text_columns [] ≡ 0
unfolding text_columns
no_text = let none : sum_by unit_columns (units []) ≡ 0 = ap (sum_by unit_columns) (cuts-nil unit_len) in omega (arith, none)

spaces_text : (n : ℕ) → text_columns (replicate n 32) ≡ n
unfolding text_columns
spaces_text n =
    let nil : List ℕ = [] in
    let body : body_of (replicate n 32) ≡ nil = body_before nil n in
    let none : sum_by unit_columns (units nil) ≡ 0 = ap (sum_by unit_columns) (cuts-nil unit_len) in
    let sum = ap (λ xs. sum_by unit_columns (units xs)) body in
    omega (arith, sum, none, ap length body, length-replicate {A = ℕ} n 32)

-- a character that begins no sequence
single_columns : (c : ℕ) (cs : List ℕ) → begins_sequence (c ∷ body_of cs) ≡ false → text_columns (c ∷ cs) ≡ char_columns c + text_columns cs
unfolding text_columns
single_columns c cs e = elim (cases_Bool (eqb c 32 && eqb (length (body_of cs)) 0)) [
  | inl t ↦
      let both = and_parts (eqb c 32) (eqb (length (body_of cs)) 0) t in
      let space : c ≡ 32 = eqb-true c 32 both.0 in
      let one : char_columns c ≡ 1 = ap char_columns space ∙ printable_column 32 refl in
      let nil : body_of cs ≡ [] = nil_from_length (body_of cs) (eqb-true (length (body_of cs)) 0 both.1) in
      let none : sum_by unit_columns (units []) ≡ 0 = ap (sum_by unit_columns) (cuts-nil unit_len) in
      rw (t, nil) (omega (arith, one, none))
  | inr f ↦
      let first = unit_character (c ∷ body_of cs) (body_of cs) c (char_columns c) refl e refl in
      let sum = ap (sum_by unit_columns) first.first ∙ sum_by-cons unit_columns first.unit (units (body_of cs)) in
      rw f (omega (arith, sum, first.columns, few cs))
]
  where
    few : (cs : List ℕ) → length (body_of cs) ≤ length cs
    few [] = omega arith
    few (c ∷ cs) = elim (cases_Bool (eqb c 32 && eqb (length (body_of cs)) 0)) [
      | inl e ↦ rw e (omega arith)
      | inr e ↦ rw e (omega (arith, few cs))
    ]

pub one_unit : (c : ℕ) → unit_columns (c ∷ []) ≡ char_columns c
one_unit c = omega (arith, sum_by-cons char_columns c [])

no_sequence : (c : ℕ) (cs : List ℕ) → eqb c 27 ≡ false → begins_sequence (c ∷ cs) ≡ false
no_sequence c [] e = refl
no_sequence c (d ∷ cs) e = rw e refl

character_adds : (c : ℕ) → eqb c 27 ≡ false → Adds (c ∷ [])
character_adds c e = λ ds. single_columns c ds (no_sequence c (body_of ds) e) ∙ ap (λ n. n + text_columns ds) (sym (one_unit c))

bracket_body : (r : List ℕ) → begins_bracket r ≡ false → begins_sequence (27 ∷ body_of r) ≡ false
bracket_body [] h = refl
bracket_body (d ∷ ds) h = elim (cases_Bool (eqb d 32 && eqb (length (body_of ds)) 0)) [
  | inl t ↦ rw t refl
  | inr f ↦ rw f h
]

-- units take their columns one after another
pub units_total : (vs : List (List ℕ)) → AreUnits vs → text_columns (concat vs) ≡ sum_by unit_columns vs
units_total [] h = no_text
units_total (v ∷ vs) h =
    let rest = units_total vs h.1 in
    let here : text_columns (v ++ concat vs) ≡ unit_columns v + text_columns (concat vs) = elim h.0.kind [
      | inl adds ↦ adds (concat vs)
      | inr k ↦ elim k [
        | inl escape ↦
            let front : text_columns (v ++ concat vs) ≡ text_columns (27 ∷ concat vs) = ap (λ us. text_columns (us ++ concat vs)) escape.alone in
            let one : unit_columns v ≡ char_columns 27 = ap unit_columns escape.alone ∙ one_unit 27 in
            omega (arith, front, one, single_columns 27 (concat vs) (bracket_body (concat vs) escape.other))
        | inr last ↦
            let n : ℕ = length (concat vs) in
            let front : text_columns (v ++ concat vs) ≡ text_columns (v ++ replicate n 32) = ap (λ cs. text_columns (v ++ cs)) last.spaces in
            let behind : text_columns (concat vs) ≡ text_columns (replicate n 32) = ap text_columns last.spaces in
            omega (arith, front, behind, last.adds n, spaces_text n)
      ]
    ] in
    omega (arith, rest, here, sum_by-cons unit_columns v vs)

-- ---- spaces

space_unit : (r : List ℕ) → IsUnit (32 ∷ []) r
space_unit r = record { first = 32; others = []; some = refl; bracket = λ h. absurd (let d : false ≡ true = h in cc); kind = inl (character_adds 32 refl) }

pub spaces_before : (n : ℕ) (vs : List (List ℕ)) → AreUnits vs → AreUnits (replicate n (32 ∷ []) ++ vs)
spaces_before zero vs h = h
spaces_before (suc n) vs h = (space_unit (concat (replicate n (32 ∷ []) ++ vs)), spaces_before n vs h)

pub spaces_are : (n : ℕ) → AreUnits (replicate n (32 ∷ []))
spaces_are zero = tt
spaces_are (suc n) = (space_unit (concat (replicate n (32 ∷ []))), spaces_are n)

spaces_bracket : (n : ℕ) (cs : List ℕ) → begins_bracket cs ≡ false → begins_bracket (replicate n 32 ++ cs) ≡ false
spaces_bracket zero cs h = h
spaces_bracket (suc n) cs h = refl

pub replicated : (n : ℕ) → AreSpaces (replicate n 32)
replicated n = ap (λ (k : ℕ). replicate k 32) (sym (length-replicate {A = ℕ} n 32))

pub both_spaces : (xs ys : List ℕ) → AreSpaces xs → AreSpaces ys → AreSpaces (xs ++ ys)
both_spaces xs ys h k =
    ap (λ zs. zs ++ ys) h ∙ ap (λ zs. replicate (length xs) 32 ++ zs) k ∙ replicate-append-replicate (length xs) (length ys) 32 ∙ ap (λ (n : ℕ). replicate n 32) (sym (length-append xs ys))

pub front_spaces : (xs ys : List ℕ) → AreSpaces (xs ++ ys) → AreSpaces xs
front_spaces xs ys h =
    let n : ℕ = length (xs ++ ys) in
    let few : length xs ≤ n = omega (arith, length-append xs ys) in
    sym (take_at xs ys (length xs) refl) ∙ ap (take (length xs)) h ∙ take-replicate (length xs) n 32 few

pub rest_spaces : (xs ys : List ℕ) → AreSpaces (xs ++ ys) → AreSpaces ys
rest_spaces xs ys h =
    let n : ℕ = length (xs ++ ys) in
    let left : n - length xs ≡ length ys = omega (arith, length-append xs ys) in
    sym (drop_at xs ys (length xs) refl) ∙ ap (drop (length xs)) h ∙ drop-replicate (length xs) n 32 ∙ ap (λ (k : ℕ). replicate k 32) left

-- ---- the units of a text

body_tail : (c : ℕ) (cs : List ℕ) → body_of (c ∷ cs) ≡ c ∷ cs → body_of cs ≡ cs
body_tail c cs h = elim (cases_Bool (eqb c 32 && eqb (length (body_of cs)) 0)) [
  | inl t ↦
      let nil : List ℕ = [] in
      let none : body_of (c ∷ cs) ≡ nil = rw t refl in
      let no : nil ≡ c ∷ cs = sym none ∙ h in
      absurd cc
  | inr f ↦ let same : body_of (c ∷ cs) ≡ c ∷ body_of cs = rw f refl in ap (drop 1) (sym same ∙ h)
]

body_suffix : (xs ys : List ℕ) → body_of (xs ++ ys) ≡ xs ++ ys → body_of ys ≡ ys
body_suffix [] ys h = h
body_suffix (x ∷ xs) ys h = body_suffix xs ys (body_tail x (xs ++ ys) h)

bracket_tail : (cs : List ℕ) (m : ℕ) → begins_sequence (27 ∷ cs) ≡ false → begins_bracket (cs ++ replicate m 32) ≡ false
bracket_tail [] m h = let nil : List ℕ = [] in ap begins_bracket (sym (append-nil (replicate m 32))) ∙ spaces_bracket m nil refl
bracket_tail (d ∷ ds) m h = h

concat_units : (us : List (List ℕ)) (m : ℕ) → concat (us ++ replicate m (32 ∷ [])) ≡ concat us ++ replicate m 32
concat_units us m = concat-append us (replicate m (32 ∷ [])) ∙ ap (λ xs. concat us ++ xs) (concat_spaces m)

-- a character by itself
character_unit : (c : ℕ) (cs r : List ℕ) → begins_sequence (c ∷ cs) ≡ false → (begins_sequence (27 ∷ cs) ≡ false → begins_bracket r ≡ false) → IsUnit (c ∷ []) r
character_unit c cs r h behind = record {
  first = c;
  others = [];
  some = refl;
  bracket = λ b. (refl, let is : c ≡ 91 = eqb-true c 91 b in omega (arith, one_unit c, ap char_columns is, printable_column 91 refl));
  kind = elim (cases_Bool (eqb c 27)) [
    | inl t ↦ let is : c ≡ 27 = eqb-true c 27 t in inr (inl (record { alone = ap (λ x. x ∷ []) is; other = behind (ap (λ x. begins_sequence (x ∷ cs)) (sym is) ∙ h) }))
    | inr f ↦ inl (character_adds c f)
  ];
}

sequence_bracket : (inside : List ℕ) → begins_bracket (27 ∷ 91 ∷ inside) ≡ true → ⊥
sequence_bracket inside h = let d : false ≡ true = h in cc

-- a sequence that has its end, and one that has none
pub record FirstUnit (cs : List ℕ) (m : ℕ) : Type 0 where
  pub unit : List ℕ
  pub rest : List ℕ
  pub joins : cs ≡ unit ++ rest
  pub units_are : units cs ≡ unit ∷ units rest
  pub is : IsUnit unit (rest ++ replicate m 32)

closed_unit : (inside end rest : List ℕ) (f m : ℕ) → end ≡ drop (prefix_len (λ c. not (is_final c)) inside) inside → end ≡ f ∷ rest → FirstUnit (27 ∷ 91 ∷ inside) m
closed_unit inside end rest f m e h =
    let cs : List ℕ = 27 ∷ 91 ∷ inside in
    let k : ℕ = position_or_len is_final inside in
    let behind : rest ≡ drop (k + 1) inside = ap (drop 1) (sym h ∙ e) ∙ drop-drop 1 k inside in
    let settled = settles_sequence cs inside end rest f refl e h in
    let split = unit_sequence cs inside rest refl behind in
    let same : settled.front ++ settled.last ∷ [] ≡ split.unit = append_cancel_right (settled.front ++ settled.last ∷ []) split.unit rest (sym settled.joins ∙ split.joins) in
    let none : unit_columns split.unit ≡ 0 = sym split.columns in
    record {
      unit = split.unit;
      rest = rest;
      joins = split.joins;
      units_are = split.first;
      is = begun split.unit rest inside (rest ++ replicate m 32) split.some split.joins (inl (λ ds. ap (λ us. text_columns (us ++ ds)) (sym same) ∙ settled.adds ds ∙ ap (λ n. n + text_columns ds) (sym none)));
    }
  where
    begun : (v rest inside r : List ℕ) → 0 < length v → 27 ∷ 91 ∷ inside ≡ v ++ rest → Adds v ⊎ (IsEscape v r ⊎ IsOpen v r) → IsUnit v r
    begun [] rest inside r l e k = absurd (omega arith)
    begun (x ∷ v) rest inside r l e k = record {
      first = x;
      others = v;
      some = refl;
      bracket = λ b. let is : x ≡ 27 = cc in let no : x ≡ 91 = eqb-true x 91 b in absurd (omega (arith, is, no));
      kind = k;
    }

open_adds : (cs : List ℕ) → body_of cs ≡ cs → units cs ≡ cs ∷ [] → (n : ℕ) → text_columns (cs ++ replicate n 32) ≡ unit_columns cs + n
unfolding text_columns
open_adds cs b all n =
    let body : body_of (cs ++ replicate n 32) ≡ cs = body_before cs n ∙ b in
    let sum = ap (λ xs. sum_by unit_columns (units xs)) body ∙ ap (sum_by unit_columns) all ∙ sum_by-cons unit_columns cs [] in
    omega (arith, sum, ap length body, length-append cs (replicate n 32), length-replicate {A = ℕ} n 32)

open_unit : (inside : List ℕ) (m : ℕ) → body_of (27 ∷ 91 ∷ inside) ≡ 27 ∷ 91 ∷ inside → [] ≡ drop (prefix_len (λ c. not (is_final c)) inside) inside → FirstUnit (27 ∷ 91 ∷ inside) m
open_unit inside m b e =
    let cs : List ℕ = 27 ∷ 91 ∷ inside in
    let nil : List ℕ = [] in
    let k : ℕ = position_or_len is_final inside in
    let past : length inside ≤ k = omega (arith, ap length e, length-drop k inside) in
    let behind : nil ≡ drop (k + 1) inside = sym (drop_all (k + 1) inside (omega arith)) in
    let split = unit_sequence cs inside nil refl behind in
    let same : cs ≡ split.unit = split.joins ∙ append-nil split.unit in
    let all : units cs ≡ cs ∷ [] = split.first ∙ ap (λ u. u ∷ units nil) (sym same) ∙ ap (λ us. cs ∷ us) (cuts-nil unit_len) in
    record {
      unit = cs;
      rest = nil;
      joins = sym (append-nil cs);
      units_are = split.first ∙ ap (λ u. u ∷ units nil) (sym same);
      is = record { first = 27; others = 91 ∷ inside; some = refl; bracket = λ h. absurd (sequence_bracket inside h); kind = inr (inr (record { spaces = replicated m; adds = open_adds cs b all })) };
    }

first_unit : (c : ℕ) (cs : List ℕ) (m : ℕ) → body_of (c ∷ cs) ≡ c ∷ cs → FirstUnit (c ∷ cs) m
first_unit c cs m b = elim (cases_Bool (begins_sequence (c ∷ cs))) [
  | inl t ↦ sequence_first c cs m b t
  | inr f ↦
      let split = unit_character (c ∷ cs) cs c (char_columns c) refl f refl in
      let same : c ∷ [] ≡ split.unit = append_cancel_right (c ∷ []) split.unit cs split.joins in
      record { unit = c ∷ []; rest = cs; joins = refl; units_are = split.first ∙ ap (λ u. u ∷ units cs) (sym same); is = character_unit c cs (cs ++ replicate m 32) f (bracket_tail cs m) }
]
  where
    sequence_end : (inside end : List ℕ) (m : ℕ) → body_of (27 ∷ 91 ∷ inside) ≡ 27 ∷ 91 ∷ inside → end ≡ drop (prefix_len (λ c. not (is_final c)) inside) inside → FirstUnit (27 ∷ 91 ∷ inside) m
    sequence_end inside [] m b e = open_unit inside m b e
    sequence_end inside (f ∷ rest) m b e = closed_unit inside (f ∷ rest) rest f m e refl

    sequence_first : (c : ℕ) (cs : List ℕ) (m : ℕ) → body_of (c ∷ cs) ≡ c ∷ cs → begins_sequence (c ∷ cs) ≡ true → FirstUnit (c ∷ cs) m
    sequence_first c [] m b h = let d : false ≡ true = h in absurd cc
    sequence_first c (d ∷ cs) m b h =
        let both = and_parts (eqb c 27) (eqb d 91) h in
        let one : c ≡ 27 = eqb-true c 27 both.0 in
        let two : d ≡ 91 = eqb-true d 91 both.1 in
        let all : c ∷ d ∷ cs ≡ 27 ∷ 91 ∷ cs = rw (one, two) refl in
        subst (λ (xs : List ℕ). FirstUnit xs m) (sym all) (sequence_end cs (drop (prefix_len (λ x. not (is_final x)) cs) cs) m (subst (λ (xs : List ℕ). body_of xs ≡ xs) all b) refl)

units_up_to : (k : ℕ) (cs : List ℕ) (m : ℕ) → length cs ≤ k → body_of cs ≡ cs → AreUnits (units cs ++ replicate m (32 ∷ []))
units_up_to k [] m l b = subst (λ (us : List (List ℕ)). AreUnits (us ++ replicate m (32 ∷ []))) (sym (cuts-nil unit_len)) (spaces_are m)
units_up_to zero (c ∷ cs) m l b = absurd (omega arith)
units_up_to (suc k) (c ∷ cs) m l b =
    let first = first_unit c cs m b in
    let some : 0 < length first.unit = omega (arith, ap length first.is.some) in
    let less : length first.rest ≤ k = omega (arith, l, some, ap length first.joins, length-append first.unit first.rest) in
    let body : body_of first.rest ≡ first.rest = body_suffix first.unit first.rest (subst (λ (xs : List ℕ). body_of xs ≡ xs) first.joins b) in
    let rest = units_up_to k first.rest m less body in
    let joined : concat (units first.rest ++ replicate m (32 ∷ [])) ≡ first.rest ++ replicate m 32 = concat_units (units first.rest) m ∙ ap (λ xs. xs ++ replicate m 32) (units_join first.rest) in
    subst (λ (us : List (List ℕ)). AreUnits (us ++ replicate m (32 ∷ []))) (sym first.units_are) (subst (λ (r : List ℕ). IsUnit first.unit r) (sym joined) first.is, rest)

pub text_units_are : (cs : List ℕ) → AreUnits (text_units cs)
unfolding text_units
text_units_are cs = units_up_to (length (body_of cs)) (body_of cs) (length cs - length (body_of cs)) (omega arith) (body_again cs)
  where
    body_again : (cs : List ℕ) → body_of (body_of cs) ≡ body_of cs
    body_again cs = sym (body_before (body_of cs) (length cs - length (body_of cs))) ∙ ap body_of (sym (body_and_spaces cs))
