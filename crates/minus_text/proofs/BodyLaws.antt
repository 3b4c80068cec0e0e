-- The bodies of a word, one after another: each hangs on the text before its end and the one character behind it.
use Rattle.std.proofs.Common.{◌≡◌, ℕ, zero, suc, ◌+◌, ◌<◌, ◌≤◌, ◌&&◌, Bool, true, false, not, cond, eqb, nat_le, nat_lt, ◌||◌, List, [], ◌∷◌, ◌++◌, length, map, take, drop, arith, refl, sym, ap, ◌∙◌, append_assoc, zero-add, inl, inr}
use Rattle.std.specs.List.{concat, flat_map, prefix_len, position_or_len, sum_by, count_by}
use Rattle.std.specs.Char.{is_ascii_alphanumeric}
use Rattle.std.proofs.Math.Seq.{take-append-add}
use Rattle.std.proofs.lemmas.Bool.{cases_Bool, and_parts, eqb-true}
use Rattle.std.proofs.lemmas.Bool.Decides.{nat_tests}
use Rattle.std.proofs.lemmas.List.{append-nil, append_cancel_left, length-append, length-take, length-drop, take_at, drop_at, drop-drop, take-append-drop, length-take-le, map-append, nil_from_length}
use Rattle.std.proofs.lemmas.List.Sums.{sum_by-cons}
use Rattle.unicode_width.specs.Width.{char_width}
use Rattle.minus_text.specs.Units.{char_columns, is_final, begins_sequence, units, unit_len, unit_columns}
use Rattle.minus_text.specs.Runs.{IsRun, IsFull, AreRuns}
use Rattle.minus_text.specs.TheRuns.{the_runs}
use Rattle.minus_text.specs.Fronts.{is_wide, fits_front, front_rule}
use Rattle.minus_text.specs.Pieces.{fronts}
use Rattle.minus_text.specs.Hyphens.{parts, part_len_after, begins_alphanumeric}
use Rattle.minus_text.proofs.CutsLaws.{cuts-nil, cuts-cons, cuts_first}
use Rattle.minus_text.proofs.UnitsLaws.{unit_rule, units_join, unit_sequence, unit_character}
use Rattle.minus_text.proofs.FrontsLaws.{concat-append}
use Rattle.minus_text.proofs.WordsLaws.{part_rule, take_some, fronts_some}

-- ---- characters behind a text

-- an ASCII letter or digit comes last, or stands before the text where that is empty
abbrev pub ends_alphanumeric : Bool → List ℕ → Bool
ends_alphanumeric before [] = before
ends_alphanumeric before (c ∷ cs) = ends_alphanumeric (is_ascii_alphanumeric c) cs

pub ends_append : (before : Bool) (xs ys : List ℕ) → ends_alphanumeric before (xs ++ ys) ≡ ends_alphanumeric (ends_alphanumeric before xs) ys
ends_append before [] ys = refl
ends_append before (x ∷ xs) ys = ends_append (is_ascii_alphanumeric x) xs ys

-- two texts that go on with the same character begin with the same one
pub record SameNext (xs : List ℕ) (c : ℕ) (ys zs : List ℕ) : Type 0 where
  pub next : ℕ
  pub one : List ℕ
  pub other : List ℕ
  pub one_is : xs ++ c ∷ ys ≡ next ∷ one
  pub other_is : xs ++ c ∷ zs ≡ next ∷ other

pub same_next : (xs : List ℕ) (c : ℕ) (ys zs : List ℕ) → SameNext xs c ys zs
same_next [] c ys zs = record { next = c; one = ys; other = zs; one_is = refl; other_is = refl }
same_next (x ∷ xs) c ys zs = record { next = x; one = xs ++ c ∷ ys; other = xs ++ c ∷ zs; one_is = refl; other_is = refl }

begins_same : (xs : List ℕ) (c : ℕ) (ys zs : List ℕ) → begins_alphanumeric (xs ++ c ∷ zs) ≡ begins_alphanumeric (xs ++ c ∷ ys)
begins_same [] c ys zs = refl
begins_same (x ∷ xs) c ys zs = refl

-- ---- units

pub prefix_inside : (p : ℕ → Bool) (xs ys zs : List ℕ) → prefix_len p (xs ++ ys) < length xs → prefix_len p (xs ++ zs) ≡ prefix_len p (xs ++ ys)
prefix_inside p [] ys zs l = absurd (omega arith)
prefix_inside p (x ∷ xs) ys zs l = elim (cases_Bool (p x)) [
  | inl t ↦ let m : 1 + prefix_len p (xs ++ ys) < suc (length xs) = rw t at l in rw t (ap (λ n. 1 + n) (prefix_inside p xs ys zs (omega arith)))
  | inr f ↦ rw f refl
]

-- a unit that ends before a character ends there whatever follows that character
unit_stays : (u : List ℕ) (c : ℕ) (ys zs : List ℕ) → 0 < length u → unit_len (u ++ c ∷ ys) ≡ length u → unit_len (u ++ c ∷ zs) ≡ length u
unit_stays [] c ys zs some e = absurd (omega arith)
unit_stays (a ∷ []) c ys zs some e = elim (cases_Bool (eqb a 27 && eqb c 91)) [
  | inl t ↦ let long : 2 + (position_or_len is_final ys + 1) ≡ 1 = rw t at e in absurd (omega arith)
  | inr f ↦ rw f refl
]
unit_stays (a ∷ d ∷ u) c ys zs some e = elim (cases_Bool (eqb a 27 && eqb d 91)) [
  | inl t ↦
      let long : 2 + (position_or_len is_final (u ++ c ∷ ys) + 1) ≡ suc (suc (length u)) = rw t at e in
      let same : position_or_len is_final (u ++ c ∷ zs) ≡ position_or_len is_final (u ++ c ∷ ys) = prefix_inside (λ x. not (is_final x)) u (c ∷ ys) (c ∷ zs) (omega arith) in
      rw t (omega (arith, same))
  | inr f ↦ let short : 1 ≡ suc (suc (length u)) = rw f at e in absurd (omega arith)
]

-- the first of the units of a text
record FirstUnit (cs u : List ℕ) (us : List (List ℕ)) : Type 0 where
  rest : List ℕ
  joins : cs ≡ u ++ rest
  others : us ≡ units rest
  some : 0 < length u
  len : 0 < length rest → unit_len cs ≡ length u

first_unit : (cs u : List ℕ) (us : List (List ℕ)) → units cs ≡ u ∷ us → FirstUnit cs u us
first_unit [] u us e = let z : 0 ≡ suc (length us) = ap length (sym (cuts-nil unit_len) ∙ e) in absurd (omega arith)
first_unit (c ∷ cs) u us e =
    let whole : List ℕ = c ∷ cs in
    let n : ℕ = unit_len whole in
    let both : take n whole ∷ units (drop n whole) ≡ u ∷ us = sym (cuts-cons unit_len unit_rule c cs) ∙ e in
    let head : take n whole ≡ u = cc in
    let tail : units (drop n whole) ≡ us = cc in
    record {
      rest = drop n whole;
      joins = sym (take-append-drop n whole) ∙ ap (λ xs. xs ++ drop n whole) head;
      others = sym tail;
      some = rw head at (take_some n whole (unit_rule c cs) (omega arith));
      len = λ l. omega (arith, ap length head, length-take n whole, length-drop n whole, l);
    }

unit_front : (u rest : List ℕ) → 0 < length u → unit_len (u ++ rest) ≡ length u → units (u ++ rest) ≡ u ∷ units rest
unit_front u rest some len =
    cuts_first unit_len unit_rule (u ++ rest) u rest (omega (arith, length-append u rest)) (sym (ap (λ n. take n (u ++ rest)) len ∙ take_at u rest (length u) refl)) (sym (ap (λ n. drop n (u ++ rest)) len ∙ drop_at u rest (length u) refl))

-- units that end before a character are the same whatever follows it, and the others are those of what stands from it
-- on
units_stay : (us vs : List (List ℕ)) (c : ℕ) (ys zs : List ℕ) → units (concat us ++ c ∷ ys) ≡ us ++ vs → units (concat us ++ c ∷ zs) ≡ us ++ units (c ∷ zs)
units_stay [] vs c ys zs e = refl
units_stay (u ∷ us) vs c ys zs e =
    let at = same_next (concat us) c ys zs in
    let all : (ds : List ℕ) → (u ++ concat us) ++ ds ≡ u ++ (concat us ++ ds) = λ ds. append_assoc u (concat us) ds in
    let first = first_unit ((u ++ concat us) ++ c ∷ ys) u (us ++ vs) e in
    let rest : concat us ++ c ∷ ys ≡ first.rest = append_cancel_left u (concat us ++ c ∷ ys) first.rest (sym (all (c ∷ ys)) ∙ first.joins) in
    let on : units (concat us ++ c ∷ zs) ≡ us ++ units (c ∷ zs) = units_stay us vs c ys zs (ap units rest ∙ sym first.others) in
    let old : unit_len (u ++ at.next ∷ at.one) ≡ length u = sym (ap unit_len (all (c ∷ ys) ∙ ap (λ ds. u ++ ds) at.one_is)) ∙ first.len (omega (arith, ap length rest, length-append (concat us) (c ∷ ys))) in
    let new : unit_len (u ++ (concat us ++ c ∷ zs)) ≡ length u = ap (λ ds. unit_len (u ++ ds)) at.other_is ∙ unit_stays u at.next at.one at.other first.some old in
    ap units (all (c ∷ zs)) ∙ unit_front u (concat us ++ c ∷ zs) first.some new ∙ ap (λ ws. u ∷ ws) on

-- the units behind others are those of what stands behind them
units_left : (us vs : List (List ℕ)) (cs : List ℕ) → units cs ≡ us ++ vs → units (concat vs) ≡ vs
units_left [] vs cs e = ap (λ ws. units (concat ws)) (sym e) ∙ ap units (units_join cs) ∙ e
units_left (u ∷ us) vs cs e = let first = first_unit cs u (us ++ vs) e in units_left us vs first.rest (sym first.others)

-- the first unit has the columns of the first character
escape_none : char_columns 27 ≡ 0
unfolding char_columns char_width
escape_none = grind (arith, nat_tests)

pub first_columns : (c : ℕ) (cs u : List ℕ) (us : List (List ℕ)) → units (c ∷ cs) ≡ u ∷ us → unit_columns u ≡ char_columns c
first_columns c cs u us e = elim (cases_Bool (begins_sequence (c ∷ cs))) [
  | inl t ↦ sequence c cs t e
  | inr f ↦
      let h = unit_character (c ∷ cs) cs c (char_columns c) refl f refl in
      let both : h.unit ∷ units cs ≡ u ∷ us = sym h.first ∙ e in
      let head : h.unit ≡ u = cc in
      sym (h.columns ∙ ap unit_columns head)
]
  where
    sequence : (c : ℕ) (cs : List ℕ) → begins_sequence (c ∷ cs) ≡ true → units (c ∷ cs) ≡ u ∷ us → unit_columns u ≡ char_columns c
    sequence c [] t e = absurd cc
    sequence c (d ∷ cs) t e =
        let k = and_parts (eqb c 27) (eqb d 91) t in
        let escape : c ≡ 27 = eqb-true c 27 k.0 in
        let bracket : d ≡ 91 = eqb-true d 91 k.1 in
        let rest : List ℕ = drop (position_or_len is_final cs + 1) cs in
        let h = unit_sequence (c ∷ d ∷ cs) cs rest (ap (λ x. x ∷ d ∷ cs) escape ∙ ap (λ y. 27 ∷ y ∷ cs) bracket) refl in
        let both : h.unit ∷ units rest ≡ u ∷ us = sym h.first ∙ e in
        let head : h.unit ≡ u = cc in
        sym (ap unit_columns head) ∙ sym h.columns ∙ sym (ap char_columns escape ∙ escape_none)

-- ---- parts

pub part_ends : (before : Bool) (c : ℕ) (cs : List ℕ) → (before && (eqb c 45 && begins_alphanumeric cs)) ≡ true → part_len_after before (c ∷ cs) ≡ 1
part_ends before c cs t = rw t refl

pub part_goes : (before : Bool) (c : ℕ) (cs : List ℕ) → (before && (eqb c 45 && begins_alphanumeric cs)) ≡ false → part_len_after before (c ∷ cs) ≡ suc (part_len_after (is_ascii_alphanumeric c) cs)
part_goes before c cs f = let s : 1 + part_len_after (is_ascii_alphanumeric c) cs ≡ suc (part_len_after (is_ascii_alphanumeric c) cs) = omega arith in rw f s

pub part_some : (before : Bool) (cs : List ℕ) → 0 < length cs → 0 < part_len_after before cs
part_some before [] l = absurd (omega arith)
part_some before (c ∷ cs) l = elim (cases_Bool (before && (eqb c 45 && begins_alphanumeric cs))) [
  | inl t ↦ omega (arith, part_ends before c cs t)
  | inr f ↦ omega (arith, part_goes before c cs f)
]

part_few : (before : Bool) (cs : List ℕ) → part_len_after before cs ≤ length cs
part_few before [] = omega arith
part_few before (c ∷ cs) = elim (cases_Bool (before && (eqb c 45 && begins_alphanumeric cs))) [
  | inl t ↦ omega (arith, part_ends before c cs t)
  | inr f ↦ omega (arith, part_goes before c cs f, part_few (is_ascii_alphanumeric c) cs)
]

-- a part that ends before a character ends there whatever follows that character, and with no letter or digit
part_stays : (before : Bool) (xs : List ℕ) (c : ℕ) (ys zs : List ℕ) → 0 < length xs → part_len_after before (xs ++ c ∷ ys) ≡ length xs → (part_len_after before (xs ++ c ∷ zs) ≡ length xs) × (ends_alphanumeric before xs ≡ false)
part_stays before [] c ys zs some e = absurd (omega arith)
part_stays before (x ∷ xs) c ys zs some e =
    let same = begins_same xs c ys zs in
    elim (cases_Bool (before && (eqb x 45 && begins_alphanumeric (xs ++ c ∷ ys)))) [
      | inl t ↦
          let one = part_ends before x (xs ++ c ∷ ys) t in
          let nil : xs ≡ [] = nil_from_length xs (omega (arith, one, e)) in
          let h = and_parts before (eqb x 45 && begins_alphanumeric (xs ++ c ∷ ys)) t in
          let k = and_parts (eqb x 45) (begins_alphanumeric (xs ++ c ∷ ys)) h.1 in
          let hyphen : x ≡ 45 = eqb-true x 45 k.0 in
          let new : (before && (eqb x 45 && begins_alphanumeric (xs ++ c ∷ zs))) ≡ true = ap (λ (b : Bool). before && (eqb x 45 && b)) same ∙ t in
          (part_ends before x (xs ++ c ∷ zs) new ∙ ap (λ ws. suc (length ws)) (sym nil), ap (ends_alphanumeric (is_ascii_alphanumeric x)) nil ∙ ap is_ascii_alphanumeric hyphen)
      | inr f ↦
          let more = part_goes before x (xs ++ c ∷ ys) f in
          let left : part_len_after (is_ascii_alphanumeric x) (xs ++ c ∷ ys) ≡ length xs = omega (arith, more, e) in
          let on = part_stays (is_ascii_alphanumeric x) xs c ys zs (omega (arith, left, part_some (is_ascii_alphanumeric x) (xs ++ c ∷ ys) (omega (arith, length-append xs (c ∷ ys))))) left in
          let new : (before && (eqb x 45 && begins_alphanumeric (xs ++ c ∷ zs))) ≡ false = ap (λ (b : Bool). before && (eqb x 45 && b)) same ∙ f in
          (part_goes before x (xs ++ c ∷ zs) new ∙ ap suc on.0, on.1)
    ]

-- a part that goes on behind a place does so whatever follows the character there
part_passes : (before : Bool) (xs : List ℕ) (c : ℕ) (ys zs : List ℕ) → length xs < part_len_after before (xs ++ c ∷ ys) → part_len_after before (xs ++ c ∷ zs) ≡ length xs + part_len_after (ends_alphanumeric before xs) (c ∷ zs)
part_passes before [] c ys zs l = sym (zero-add (part_len_after before (c ∷ zs)))
part_passes before (x ∷ xs) c ys zs l =
    let same = begins_same xs c ys zs in
    elim (cases_Bool (before && (eqb x 45 && begins_alphanumeric (xs ++ c ∷ ys)))) [
      | inl t ↦ let one = part_ends before x (xs ++ c ∷ ys) t in absurd (omega (arith, one, l))
      | inr f ↦
          let more = part_goes before x (xs ++ c ∷ ys) f in
          let on = part_passes (is_ascii_alphanumeric x) xs c ys zs (omega (arith, more, l)) in
          let new : (before && (eqb x 45 && begins_alphanumeric (xs ++ c ∷ zs))) ≡ false = ap (λ (b : Bool). before && (eqb x 45 && b)) same ∙ f in
          let shift : suc (length xs + part_len_after (ends_alphanumeric (is_ascii_alphanumeric x) xs) (c ∷ zs)) ≡ suc (length xs) + part_len_after (ends_alphanumeric (is_ascii_alphanumeric x) xs) (c ∷ zs) = omega arith in
          part_goes before x (xs ++ c ∷ zs) new ∙ ap suc on ∙ shift
    ]

-- ---- the bodies of what is left of a word

-- the bodies of what is left of a word, behind an ASCII letter or digit or not
pub bodies_after : ℕ → Bool → List ℕ → List (List (List ℕ))
bodies_after cols before body = fronts cols (take (part_len_after before body) body) ++ flat_map (fronts cols) (parts (drop (part_len_after before body) body))

pub bodies_at : (cols : ℕ) (before : Bool) (body : List ℕ) (n : ℕ) → part_len_after before body ≡ n → bodies_after cols before body ≡ fronts cols (take n body) ++ flat_map (fronts cols) (parts (drop n body))
unfolding bodies_after
bodies_at cols before body n e = ap (λ k. fronts cols (take k body) ++ flat_map (fronts cols) (parts (drop k body))) e

fronts_nil : (cols : ℕ) → fronts cols [] ≡ []
fronts_nil cols =
    let none : units [] ≡ [] = cuts-nil unit_len in
    sym ((the_runs (fits_front cols) (front_rule cols) (units [])).only [] none)

no_parts : (cols : ℕ) → flat_map (fronts cols) (parts []) ≡ []
no_parts cols = ap (flat_map (fronts cols)) (cuts-nil (part_len_after false))

-- with no letter before it, it is a word of its own
pub bodies_all : (cols : ℕ) (body : List ℕ) → bodies_after cols false body ≡ flat_map (fronts cols) (parts body)
bodies_all cols [] = bodies_at cols false [] 0 refl ∙ ap (λ fs. fs ++ flat_map (fronts cols) (parts [])) (fronts_nil cols)
bodies_all cols (c ∷ cs) = bodies_at cols false (c ∷ cs) (part_len_after false (c ∷ cs)) refl ∙ sym (ap (flat_map (fronts cols)) (cuts-cons (part_len_after false) part_rule c cs))

pub bodies_nil : (cols : ℕ) (before : Bool) → bodies_after cols before [] ≡ []
bodies_nil cols before = bodies_at cols before [] 0 refl ∙ ap (λ fs. fs ++ flat_map (fronts cols) (parts [])) (fronts_nil cols) ∙ no_parts cols

pub bodies_some : (cols : ℕ) (before : Bool) (body : List ℕ) → 0 < length body → 0 < length (bodies_after cols before body)
bodies_some cols before body l =
    let n : ℕ = part_len_after before body in
    let first = fronts_some cols (take n body) (take_some n body (part_some before body l) l) in
    omega (arith, first, ap length (bodies_at cols before body n refl), length-append (fronts cols (take n body)) (flat_map (fronts cols) (parts (drop n body))))

-- where no hyphen comes first that ends a part, it makes no difference what stands before
pub bodies_either : (cols : ℕ) (before : Bool) (c : ℕ) (cs : List ℕ) → (before && (eqb c 45 && begins_alphanumeric cs)) ≡ false → bodies_after cols before (c ∷ cs) ≡ bodies_after cols false (c ∷ cs)
bodies_either cols before c cs e =
    let n : ℕ = part_len_after false (c ∷ cs) in
    bodies_at cols before (c ∷ cs) n (part_goes before c cs e ∙ sym (part_goes false c cs refl)) ∙ sym (bodies_at cols false (c ∷ cs) n refl)

-- a run of a text's units comes first among the fronts
fronts_first : (cols : ℕ) (part rest : List ℕ) (run : List (List ℕ)) → units part ≡ run ++ units rest → IsRun (fits_front cols) run (units rest) → fronts cols part ≡ run ∷ fronts cols rest
fronts_first cols part rest run e h =
    sym ((the_runs (fits_front cols) (front_rule cols) (units part)).only (run ∷ fronts cols rest) (units rest, e, h, (the_runs (fits_front cols) (front_rule cols) (units rest)).are))

-- units that take the same columns fit in the same fronts
pub same_sums : (us vs : List (List ℕ)) → map unit_columns us ≡ map unit_columns vs → (sum_by unit_columns us ≡ sum_by unit_columns vs) × (count_by is_wide us ≡ count_by is_wide vs)
same_sums [] [] e = (refl, refl)
same_sums [] (v ∷ vs) e = let z : 0 ≡ suc (length (map unit_columns vs)) = ap length e in absurd (omega arith)
same_sums (u ∷ us) [] e = let z : suc (length (map unit_columns us)) ≡ 0 = ap length e in absurd (omega arith)
same_sums (u ∷ us) (v ∷ vs) e =
    let both : unit_columns u ∷ map unit_columns us ≡ unit_columns v ∷ map unit_columns vs = e in
    let here : unit_columns u ≡ unit_columns v = cc in
    let rest : map unit_columns us ≡ map unit_columns vs = cc in
    let on = same_sums us vs rest in (
      sum_by-cons unit_columns u us ∙ ap (λ n. n + sum_by unit_columns us) here ∙ ap (λ n. unit_columns v + n) on.0 ∙ sym (sum_by-cons unit_columns v vs),
      sum_by-cons (λ x. cond (is_wide x) 1 0) u us ∙ ap (λ n. cond (nat_lt 0 n) 1 0 + count_by is_wide us) here ∙ ap (λ n. cond (is_wide v) 1 0 + n) on.1 ∙ sym (sum_by-cons (λ x. cond (is_wide x) 1 0) v vs),
    )

pub same_fits : (cols : ℕ) (us vs : List (List ℕ)) → map unit_columns us ≡ map unit_columns vs → fits_front cols us ≡ fits_front cols vs
same_fits cols us vs e =
    let h = same_sums us vs e in
    ap (λ n. nat_le n cols || nat_le (count_by is_wide us) 1) h.0 ∙ ap (λ n. nat_le (sum_by unit_columns vs) cols || nat_le n 1) h.1

-- a front that is full stays so whatever follows the character behind it
full_stays : (cols c : ℕ) (ws vs : List ℕ) (run us : List (List ℕ)) → units (c ∷ ws) ≡ us → IsFull (fits_front cols) run us → IsFull (fits_front cols) run (units (c ∷ vs))
full_stays cols c ws vs run [] e full = let z = first_some c ws in absurd (omega (arith, z, ap length e))
  where
    first_some : (c : ℕ) (cs : List ℕ) → 0 < length (units (c ∷ cs))
    first_some c cs = omega (arith, ap length (cuts-cons unit_len unit_rule c cs))
full_stays cols c ws vs run (u ∷ us) e full = at (units (c ∷ vs)) refl
  where
    at : (others : List (List ℕ)) → units (c ∷ vs) ≡ others → IsFull (fits_front cols) run others
    at [] f = tt
    at (v ∷ others) f =
        let same : unit_columns v ≡ unit_columns u = first_columns c vs v others f ∙ sym (first_columns c ws u us e) in
        let all : map unit_columns (run ++ v ∷ []) ≡ map unit_columns (run ++ u ∷ []) = map-append unit_columns run (v ∷ []) ∙ ap (λ n. map unit_columns run ++ n ∷ []) same ∙ sym (map-append unit_columns run (u ∷ [])) in
        same_fits cols (run ++ v ∷ []) (run ++ u ∷ []) all ∙ full

-- the first body of what is left of a word
pub record FirstBody (cols : ℕ) (before : Bool) (body : List ℕ) : Type 0 where
  pub first : List (List ℕ)
  pub rest : List ℕ
  pub joins : body ≡ concat first ++ rest
  pub alone : rest ≡ [] → bodies_after cols before body ≡ first ∷ []
  pub stays : (c : ℕ) (ys zs : List ℕ) → rest ≡ c ∷ ys → bodies_after cols before (concat first ++ c ∷ zs) ≡ first ∷ bodies_after cols (ends_alphanumeric before (concat first)) (c ∷ zs)

-- it is all of a part
whole_part : (cols : ℕ) (before : Bool) (part after : List ℕ) (first : List (List ℕ)) → part_len_after before (part ++ after) ≡ length part → 0 < length part → fronts cols part ≡ first ∷ [] → concat first ≡ part → FirstBody cols before (part ++ after)
whole_part cols before part after first len some e text =
    let here : (ds : List ℕ) → part_len_after before (part ++ ds) ≡ length part → bodies_after cols before (part ++ ds) ≡ first ∷ flat_map (fronts cols) (parts ds) = λ ds l.
    bodies_at cols before (part ++ ds) (length part) l ∙ ap (λ xs. fronts cols xs ++ flat_map (fronts cols) (parts (drop (length part) (part ++ ds)))) (take_at part ds (length part) refl)
    ∙ ap (λ fs. fs ++ flat_map (fronts cols) (parts (drop (length part) (part ++ ds)))) e ∙ ap (λ xs. first ∷ flat_map (fronts cols) (parts xs)) (drop_at part ds (length part) refl) in
    record {
      first = first;
      rest = after;
      joins = ap (λ xs. xs ++ after) (sym text);
      alone = λ n. here after len ∙ ap (λ xs. first ∷ flat_map (fronts cols) (parts xs)) n ∙ ap (λ fs. first ∷ fs) (no_parts cols);
      stays = λ c ys zs n.
          let stay = part_stays before part c ys zs some (rw n at len) in
          let flag : ends_alphanumeric before (concat first) ≡ false = ap (ends_alphanumeric before) text ∙ stay.1 in
          ap (λ xs. bodies_after cols before (xs ++ c ∷ zs)) text ∙ here (c ∷ zs) stay.0 ∙ ap (λ fs. first ∷ fs) (sym (bodies_all cols (c ∷ zs))) ∙ ap (λ b. first ∷ bodies_after cols b (c ∷ zs)) (sym flag);
    }

-- what comes first in a list that begins with another
begins_with : (xs ys : List ℕ) (c : ℕ) (zs : List ℕ) → 0 < length xs → xs ++ ys ≡ c ∷ zs → (ws : List ℕ) × (xs ≡ c ∷ ws)
begins_with [] ys c zs some e = absurd (omega arith)
begins_with (x ∷ xs) ys c zs some e = let whole : x ∷ (xs ++ ys) ≡ c ∷ zs = e in let head : x ≡ c = cc in (xs, ap (λ y. y ∷ xs) head)

take_first : (n c : ℕ) (cs : List ℕ) → 0 < n → (ws : List ℕ) × (take n (c ∷ cs) ≡ c ∷ ws)
take_first zero c cs some = absurd (omega arith)
take_first (suc n) c cs some = (take n cs, refl)

-- or it is a front of a part
front_part : (cols : ℕ) (before : Bool) (part after : List ℕ) (first : List (List ℕ)) (u : List ℕ) (us : List (List ℕ)) → part_len_after before (part ++ after) ≡ length part → units part ≡ first ++ u ∷ us → IsRun (fits_front cols) first (u ∷ us) → FirstBody cols before (part ++ after)
front_part cols before part after first u us len e run =
    let text : List ℕ = concat first in
    let left : List ℕ = concat (u ∷ us) in
    let behind : units left ≡ u ∷ us = units_left first (u ∷ us) part e in
    let one = first_unit left u us behind in
    let some : 0 < length left = omega (arith, ap length one.joins, length-append u one.rest, one.some) in
    let part_is : part ≡ text ++ left = sym (units_join part) ∙ ap concat e ∙ concat-append first (u ∷ us) in
    let all : part ++ after ≡ text ++ (left ++ after) = ap (λ xs. xs ++ after) part_is ∙ append_assoc text left after in
    record {
      first = first;
      rest = left ++ after;
      joins = all;
      alone = λ n. absurd (omega (arith, ap length n, length-append left after, some));
      stays = λ c ys zs n.
          let head = begins_with left after c ys some n in
          let flag : Bool = ends_alphanumeric before text in
          let k : ℕ = part_len_after flag (c ∷ zs) in
          let longer : length text < part_len_after before (text ++ c ∷ ys) =
          omega (arith, ap (part_len_after before) (all ∙ ap (λ xs. text ++ xs) n), len, ap length part_is, length-append text left, some) in
          let passes : part_len_after before (text ++ c ∷ zs) ≡ length text + k = part_passes before text c ys zs longer in
          let taken : take (length text + k) (text ++ c ∷ zs) ≡ text ++ take k (c ∷ zs) = take-append-add text (c ∷ zs) k in
          let dropped : drop (length text + k) (text ++ c ∷ zs) ≡ drop k (c ∷ zs) = sym (drop-drop k (length text) (text ++ c ∷ zs)) ∙ ap (drop k) (drop_at text (c ∷ zs) (length text) refl) in
          let next = take_first k c zs (part_some flag (c ∷ zs) (omega arith)) in
          let old : units (text ++ c ∷ head.0) ≡ first ++ u ∷ us = ap units (ap (λ xs. text ++ xs) (sym head.1) ∙ sym part_is) ∙ e in
          let new : units (text ++ c ∷ next.0) ≡ first ++ units (c ∷ next.0) = units_stay first (u ∷ us) c head.0 next.0 old in
          let was : units (c ∷ head.0) ≡ u ∷ us = ap units (sym head.1) ∙ behind in
          let is_run : IsRun (fits_front cols) first (units (c ∷ next.0)) = record { some = run.some; fitting = run.fitting; full = full_stays cols c head.0 next.0 first (u ∷ us) was run.full } in
          let front : fronts cols (text ++ take k (c ∷ zs)) ≡ first ∷ fronts cols (take k (c ∷ zs)) =
          ap (λ xs. fronts cols (text ++ xs)) next.1 ∙ fronts_first cols (text ++ c ∷ next.0) (c ∷ next.0) first new is_run ∙ ap (λ xs. first ∷ fronts cols xs) (sym next.1) in
          bodies_at cols before (text ++ c ∷ zs) (length text + k) passes ∙ ap (λ xs. fronts cols xs ++ flat_map (fronts cols) (parts (drop (length text + k) (text ++ c ∷ zs)))) taken
          ∙ ap (λ xs. fronts cols (text ++ take k (c ∷ zs)) ++ flat_map (fronts cols) (parts xs)) dropped ∙ ap (λ fs. fs ++ flat_map (fronts cols) (parts (drop k (c ∷ zs)))) front
          ∙ ap (λ fs. first ∷ fs) (sym (bodies_at cols flag (c ∷ zs) k refl));
    }

pub first_body : (cols : ℕ) (before : Bool) (body : List ℕ) → 0 < length body → FirstBody cols before body
first_body cols before body l =
    let n : ℕ = part_len_after before body in
    let few : n ≤ length body = part_few before body in
    let part : List ℕ = take n body in
    let size : length part ≡ n = length-take-le n body few in
    let some : 0 < length part = take_some n body (part_some before body l) l in
    let joined : part ++ drop n body ≡ body = take-append-drop n body in
    let len : part_len_after before (part ++ drop n body) ≡ length part = ap (part_len_after before) joined ∙ sym size in
    rw joined at (divided part (drop n body) (fronts cols part) len some refl (the_runs (fits_front cols) (front_rule cols) (units part)).are)
  where
    divided : (part after : List ℕ) (runs : List (List (List ℕ))) → part_len_after before (part ++ after) ≡ length part → 0 < length part → fronts cols part ≡ runs → AreRuns (fits_front cols) (units part) runs → FirstBody cols before (part ++ after)
    divided part after [] len some e h = absurd (omega (arith, some, ap length (sym (units_join part) ∙ ap concat h)))
    divided part after (first ∷ []) len some e h =
        let all : units part ≡ first ++ [] = h.1 ∙ ap (λ us. first ++ us) h.3 in
        whole_part cols before part after first len some e (ap concat (sym (append-nil first) ∙ sym all) ∙ units_join part)
    divided part after (first ∷ second ∷ runs) len some e h = further part after first second runs h.0 len h.1 h.2 h.3
      where
        further : (part after : List ℕ) (first second : List (List ℕ)) (runs : List (List (List ℕ))) (rest : List (List ℕ)) → part_len_after before (part ++ after) ≡ length part → units part ≡ first ++ rest → IsRun (fits_front cols) first rest
            → AreRuns (fits_front cols) rest (second ∷ runs) → FirstBody cols before (part ++ after)
        further part after first second runs [] len e run h = absurd (let some : 0 < length second = h.2.some in omega (arith, some, ap length h.1, length-append second h.0))
        further part after first second runs (u ∷ us) len e run h = front_part cols before part after first u us len e run
