-- The columns of a line's first piece: a text that goes on takes no fewer, and a carriage return at its end takes none.
use Rattle.std.proofs.Common.{◌≡◌, ℕ, zero, suc, ◌+◌, ◌-◌, ◌<◌, ◌≤◌, ◌&&◌, Bool, true, false, not, eqb, nat_le, List, [], ◌∷◌, ◌++◌, length, map, take, drop, arith, refl, sym, ap, ◌∙◌, ◌⊎◌, append_assoc, inl, inr}
use Rattle.std.specs.List.{flat_map, prefix_len, position_or_len, sum_by}
use Rattle.std.specs.Char.{is_ascii_alphanumeric}
use Rattle.std.proofs.lemmas.Bool.{cases_Bool, cases_lt, and_parts, eqb-true, le-leb, or_left}
use Rattle.std.proofs.lemmas.Bool.Decides.{nat_tests}
use Rattle.std.proofs.lemmas.List.{append-nil, length-append, take-append-drop, drop_all, drop_at, drop-drop, drop-append-le, length-drop, map-append}
use Rattle.std.proofs.lemmas.List.Sums.{sum_by-append, sum_by-cons}
use Rattle.unicode_width.specs.Width.{char_width}
use Rattle.minus_text.specs.Units.{char_columns, is_final, units, unit_len, unit_columns}
use Rattle.minus_text.specs.Runs.{IsFull, AreRuns}
use Rattle.minus_text.specs.RunsLaws.{two_fronts}
use Rattle.minus_text.specs.TheRuns.{the_runs}
use Rattle.minus_text.specs.Fronts.{fits_front, front_rule}
use Rattle.minus_text.specs.Pieces.{Piece, pieces, piece_columns, is_space, body_len, word_len, with_spaces, fronts}
use Rattle.minus_text.specs.Hyphens.{parts, part_len_after, begins_alphanumeric}
use Rattle.minus_text.proofs.CutsLaws.{cuts-nil, cuts-cons}
use Rattle.minus_text.proofs.UnitsLaws.{unit_rule, unit_sequence, unit_character}
use Rattle.minus_text.proofs.WordsLaws.{take_some, fronts_some}
use Rattle.minus_text.proofs.RestartLaws.{BeginsAsWide}
use Rattle.minus_text.proofs.BodyLaws.{prefix_inside, first_columns, part_ends, part_goes, part_some, bodies_after, bodies_at, bodies_nil, same_sums, same_fits}
use Rattle.minus_text.proofs.FirstPieceLaws.{pieces_all, after_is}

-- ---- the first part of a text that goes on

-- a part of a text that goes on has this many characters more
record Longer (old new more : List ℕ) : Type 0 where
  added : List ℕ
  left : List ℕ
  part_of : more ≡ added ++ left
  longer : new ≡ old ++ added

same_part : (part more : List ℕ) → Longer part part more
same_part part more = record { added = []; left = more; part_of = refl; longer = sym (append-nil part) }

one_longer : (c : ℕ) (old new more : List ℕ) → Longer old new more → Longer (c ∷ old) (c ∷ new) more
one_longer c old new more h = record { added = h.added; left = h.left; part_of = h.part_of; longer = ap (λ xs. c ∷ xs) h.longer }

all_added : (n : ℕ) (more : List ℕ) → Longer [] (take n more) more
all_added n more = record { added = take n more; left = drop n more; part_of = sym (take-append-drop n more); longer = refl }

body_longer : (cs more : List ℕ) → Longer (take (body_len cs) cs) (take (body_len (cs ++ more)) (cs ++ more)) more
body_longer [] more = all_added (body_len more) more
body_longer (c ∷ cs) more = elim (cases_Bool (is_space c)) [
  | inl t ↦ rw t (same_part [] more)
  | inr f ↦
      let one : 1 + body_len cs ≡ suc (body_len cs) = omega arith in
      let two : 1 + body_len (cs ++ more) ≡ suc (body_len (cs ++ more)) = omega arith in
      rw (f, one, two) (one_longer c (take (body_len cs) cs) (take (body_len (cs ++ more)) (cs ++ more)) more (body_longer cs more))
]

-- the first part behind a letter or digit or not
part_after : Bool → List ℕ → List ℕ
part_after before cs = take (part_len_after before cs) cs

part_is : (cs : List ℕ) → part_after false cs ≡ take (part_len_after false cs) cs
unfolding part_after
part_is cs = refl

part_nil : (before : Bool) → part_after before [] ≡ []
unfolding part_after
part_nil before = refl

part_stops : (before : Bool) (c : ℕ) (cs : List ℕ) → (before && (eqb c 45 && begins_alphanumeric cs)) ≡ true → part_after before (c ∷ cs) ≡ c ∷ []
unfolding part_after
part_stops before c cs t = ap (λ n. take n (c ∷ cs)) (part_ends before c cs t)

part_on : (before : Bool) (c : ℕ) (cs : List ℕ) → (before && (eqb c 45 && begins_alphanumeric cs)) ≡ false → part_after before (c ∷ cs) ≡ c ∷ part_after (is_ascii_alphanumeric c) cs
unfolding part_after
part_on before c cs f = ap (λ n. take n (c ∷ cs)) (part_goes before c cs f)

part_one : (before : Bool) (c : ℕ) → part_after before (c ∷ []) ≡ c ∷ []
part_one before c = elim (cases_Bool (before && (eqb c 45 && false))) [
  | inl t ↦ part_stops before c [] t
  | inr f ↦ part_on before c [] f ∙ ap (λ xs. c ∷ xs) (part_nil (is_ascii_alphanumeric c))
]

front_added : (before : Bool) (more : List ℕ) → Longer [] (part_after before more) more
unfolding part_after
front_added before more = all_added (part_len_after before more) more

part_longer : (before : Bool) (cs more : List ℕ) → Longer (part_after before cs) (part_after before (cs ++ more)) more
part_longer before [] more = rw (part_nil before) (front_added before more)
part_longer before (c ∷ []) more = elim (cases_Bool (before && (eqb c 45 && begins_alphanumeric more))) [
  | inl t ↦ rw (part_one before c, part_stops before c more t) (same_part (c ∷ []) more)
  | inr f ↦ rw (part_one before c, part_on before c more f) (one_longer c [] (part_after (is_ascii_alphanumeric c) more) more (front_added (is_ascii_alphanumeric c) more))
]
part_longer before (c ∷ d ∷ cs) more = elim (cases_Bool (before && (eqb c 45 && is_ascii_alphanumeric d))) [
  | inl t ↦ rw (part_stops before c (d ∷ cs) t, part_stops before c (d ∷ (cs ++ more)) t) (same_part (c ∷ []) more)
  | inr f ↦ rw (part_on before c (d ∷ cs) f, part_on before c (d ∷ (cs ++ more)) f)
      (one_longer c (part_after (is_ascii_alphanumeric c) (d ∷ cs)) (part_after (is_ascii_alphanumeric c) (d ∷ (cs ++ more))) more (part_longer (is_ascii_alphanumeric c) (d ∷ cs) more))
]

-- the first part of a line
first_part : List ℕ → List ℕ
first_part cs = part_after false (take (body_len cs) cs)

first_longer : (cs more : List ℕ) → Longer (first_part cs) (first_part (cs ++ more)) more
unfolding first_part
first_longer cs more =
    let body = body_longer cs more in
    let part = part_longer false (take (body_len cs) cs) body.added in
    record {
      added = part.added;
      left = part.left ++ body.left;
      part_of = body.part_of ∙ ap (λ xs. xs ++ body.left) part.part_of ∙ append_assoc part.added part.left body.left;
      longer = ap (part_after false) body.longer ∙ part.longer;
    }

-- ---- its units

-- units of a text that goes on: as many as before have the same columns as before, and the others are units of what
-- follows
record MoreUnits (old new : List (List ℕ)) (more : List ℕ) : Type 0 where
  front : List (List ℕ)
  from : ℕ
  split : new ≡ front ++ units (drop from more)
  same : map unit_columns front ≡ map unit_columns old

one_more : (u v : List ℕ) (old news new : List (List ℕ)) (more : List ℕ) → unit_columns v ≡ unit_columns u → news ≡ v ∷ new → MoreUnits old new more → MoreUnits (u ∷ old) news more
one_more u v old news new more e f h = record { front = v ∷ h.front; from = h.from; split = f ∙ ap (λ us. v ∷ us) h.split; same = ap (λ n. n ∷ map unit_columns h.front) e ∙ ap (λ ns. unit_columns u ∷ ns) h.same }

no_units : (more : List ℕ) (k : ℕ) → MoreUnits (units []) (units (drop k more)) more
no_units more k = record { front = []; from = k; split = refl; same = sym (ap (map unit_columns) (cuts-nil unit_len)) }

drop_past : (xs ys : List ℕ) (n : ℕ) → length xs ≤ n → drop n (xs ++ ys) ≡ drop (n - length xs) ys
drop_past xs ys n l =
    let e : length xs + (n - length xs) ≡ n = omega arith in
    sym (ap (λ k. drop k (xs ++ ys)) e) ∙ sym (drop-drop (n - length xs) (length xs) (xs ++ ys)) ∙ ap (drop (n - length xs)) (drop_at xs ys (length xs) refl)

-- what stands behind a sequence
after_sequence : List ℕ → List ℕ
after_sequence cs = drop (position_or_len is_final cs + 1) cs

sequence_unit : (cs : List ℕ) → (u : List ℕ) × (units (27 ∷ 91 ∷ cs) ≡ u ∷ units (after_sequence cs)) × (unit_columns u ≡ 0)
unfolding after_sequence
sequence_unit cs = let h = unit_sequence (27 ∷ 91 ∷ cs) cs (drop (position_or_len is_final cs + 1) cs) refl refl in (h.unit, h.first, sym h.columns)

-- it is further on in the text, or there is nothing
record AfterSequence (cs more : List ℕ) : Type 0 where
  left : List ℕ
  old : after_sequence cs ≡ left
  less : length left ≤ length cs
  new : (after_sequence (cs ++ more) ≡ left ++ more) ⊎ ((left ≡ []) × ((k : ℕ) × (after_sequence (cs ++ more) ≡ drop k more)))

after_more : (cs more : List ℕ) → AfterSequence cs more
unfolding after_sequence
after_more cs more =
    let p : ℕ → Bool = λ c. not (is_final c) in
    let m : ℕ = prefix_len p (cs ++ more) in
    let nil : prefix_len p (cs ++ []) ≡ prefix_len p cs = ap (prefix_len p) (append-nil cs) in
    record {
      left = drop (prefix_len p cs + 1) cs;
      old = refl;
      less = omega (arith, length-drop (prefix_len p cs + 1) cs);
      new = elim (cases_lt m (length cs)) [
        | inl l ↦
            let same : prefix_len p cs ≡ m = sym nil ∙ prefix_inside p cs more [] l in
            inl (ap (λ n. drop (n + 1) (cs ++ more)) (sym same) ∙ drop-append-le (prefix_len p cs + 1) cs more (omega (arith, same, l)))
        | inr g ↦
            let none : length cs ≤ prefix_len p cs = elim (cases_lt (prefix_len p (cs ++ [])) (length cs)) [
              | inl l ↦ let same = prefix_inside p cs [] more l in absurd (omega (arith, same, l, g))
              | inr h ↦ omega (arith, nil, h)
            ] in
            inr (drop_all (prefix_len p cs + 1) cs (omega (arith, none)), ((m + 1) - length cs, drop_past cs more (m + 1) (omega (arith, g))))
      ];
    }

sequence_more : (cs more : List ℕ) → ((left : List ℕ) → length left ≤ length cs → MoreUnits (units left) (units (left ++ more)) more) → MoreUnits (units (27 ∷ 91 ∷ cs)) (units (27 ∷ 91 ∷ (cs ++ more))) more
sequence_more cs more on =
    let old = sequence_unit cs in
    let new = sequence_unit (cs ++ more) in
    let h = after_more cs more in
    let left : MoreUnits (units (after_sequence cs)) (units (after_sequence (cs ++ more))) more = elim h.new [
      | inl e ↦ rw (h.old, e) (on h.left h.less)
      | inr e ↦ rw (h.old, e.0, e.1.1) (no_units more e.1.0)
    ] in
    rw old.1 (one_more old.0 new.0 (units (after_sequence cs)) (units (27 ∷ 91 ∷ (cs ++ more))) (units (after_sequence (cs ++ more))) more (new.2 ∙ sym old.2) new.1 left)

more_units : (n : ℕ) (cs more : List ℕ) → length cs ≤ n → MoreUnits (units cs) (units (cs ++ more)) more
more_units n [] more l = no_units more 0
more_units zero (c ∷ cs) more l = absurd (omega arith)
more_units (suc n) (c ∷ []) more l =
    let old = unit_character (c ∷ []) [] c (char_columns c) refl refl refl in
    let k : ℕ = unit_len (c ∷ more) in
    let first : units (c ∷ more) ≡ take k (c ∷ more) ∷ units (drop k (c ∷ more)) = cuts-cons unit_len unit_rule c more in
    let same : unit_columns (take k (c ∷ more)) ≡ unit_columns old.unit = first_columns c more (take k (c ∷ more)) (units (drop k (c ∷ more))) first ∙ old.columns in
    let back = behind k (unit_rule c more) in
    rw old.first (one_more old.unit (take k (c ∷ more)) (units []) (units (c ∷ more)) (units (drop back.0 more)) more same (first ∙ ap (λ xs. take k (c ∷ more) ∷ units xs) back.1) (no_units more back.0))
  where
    behind : (k : ℕ) → 0 < k → (j : ℕ) × (drop k (c ∷ more) ≡ drop j more)
    behind zero some = absurd (omega arith)
    behind (suc j) some = (j, refl)
more_units (suc n) (c ∷ d ∷ cs) more l = elim (cases_Bool (eqb c 27 && eqb d 91)) [
  | inl t ↦
      let k = and_parts (eqb c 27) (eqb d 91) t in
      let escape : c ≡ 27 = eqb-true c 27 k.0 in
      let bracket : d ≡ 91 = eqb-true d 91 k.1 in
      rw (escape, bracket) (sequence_more cs more (λ ds less. more_units n ds more (omega (arith, less, l))))
  | inr f ↦
      let old = unit_character (c ∷ d ∷ cs) (d ∷ cs) c (char_columns c) refl f refl in
      let new = unit_character (c ∷ d ∷ (cs ++ more)) (d ∷ (cs ++ more)) c (char_columns c) refl f refl in
      rw old.first (one_more old.unit new.unit (units (d ∷ cs)) (units (c ∷ d ∷ (cs ++ more))) (units (d ∷ (cs ++ more))) more (sym new.columns ∙ old.columns) new.first (more_units n (d ∷ cs) more (omega arith)))
]

-- ---- the first front

-- the first front of units: it fits and is full
record IsFirst (cols : ℕ) (us front rest : List (List ℕ)) : Type 0 where
  joins : us ≡ front ++ rest
  fitting : fits_front cols front ≡ true
  full : IsFull (fits_front cols) front rest

-- units with the same columns in two parts
record SameParts (front rest us : List (List ℕ)) : Type 0 where
  one : List (List ℕ)
  two : List (List ℕ)
  joins : us ≡ one ++ two
  same_one : map unit_columns one ≡ map unit_columns front
  same_two : map unit_columns two ≡ map unit_columns rest

same_parts : (front rest us : List (List ℕ)) → map unit_columns us ≡ map unit_columns (front ++ rest) → SameParts front rest us
same_parts [] rest us e = record { one = []; two = us; joins = refl; same_one = refl; same_two = e }
same_parts (f ∷ front) rest [] e = let z : 0 ≡ suc (length (map unit_columns (front ++ rest))) = ap length e in absurd (omega arith)
same_parts (f ∷ front) rest (u ∷ us) e =
    let both : unit_columns u ∷ map unit_columns us ≡ unit_columns f ∷ map unit_columns (front ++ rest) = e in
    let here : unit_columns u ≡ unit_columns f = cc in
    let more : map unit_columns us ≡ map unit_columns (front ++ rest) = cc in
    let on = same_parts front rest us more in
    record { one = u ∷ on.one; two = on.two; joins = ap (λ xs. u ∷ xs) on.joins; same_one = ap (λ n. n ∷ map unit_columns on.one) here ∙ ap (λ ns. unit_columns f ∷ ns) on.same_one; same_two = on.same_two }

-- a full front and one more unit do not fit, nor with further ones
over : (cols : ℕ) (front : List (List ℕ)) (u : List ℕ) (us : List (List ℕ)) → fits_front cols (front ++ u ∷ us) ≡ true → fits_front cols (front ++ u ∷ []) ≡ true
over cols front u us e = let same : (front ++ u ∷ []) ++ us ≡ front ++ u ∷ us = append_assoc front (u ∷ []) us in (front_rule cols).front (front ++ u ∷ []) us (ap (fits_front cols) same ∙ e)

-- the first front of more units takes no fewer columns
first_more : (cols : ℕ) (old front rest new others left : List (List ℕ)) (more : List ℕ) → IsFirst cols old front rest → IsFirst cols new others left → MoreUnits old new more → sum_by unit_columns front ≤ sum_by unit_columns others
first_more cols old front rest new others left more h k m =
    let ws : List (List ℕ) = units (drop m.from more) in
    let p = same_parts front rest m.front (m.same ∙ ap (map unit_columns) h.joins) in
    let sums = same_sums p.one front p.same_one in
    let fits : fits_front cols p.one ≡ true = same_fits cols p.one front p.same_one ∙ h.fitting in
    let both : p.one ++ (p.two ++ ws) ≡ others ++ left = sym (append_assoc p.one p.two ws) ∙ ap (λ us. us ++ ws) (sym p.joins) ∙ sym m.split ∙ k.joins in
    elim (two_fronts p.one (p.two ++ ws) others left both) [
      | inl w ↦ omega (arith, sums.0, ap (sum_by unit_columns) w.1, sum_by-append unit_columns p.one w.0)
      | inr w ↦ shorter w.0 p.one (p.two ++ ws) fits w.1 w.2 sums.0
    ]
  where
    shorter : (z one tail : List (List ℕ)) → fits_front cols one ≡ true → one ≡ others ++ z → left ≡ z ++ tail → sum_by unit_columns one ≡ sum_by unit_columns front → sum_by unit_columns front ≤ sum_by unit_columns others
    shorter [] one tail fits e f s = omega (arith, s, ap (sum_by unit_columns) e, ap (sum_by unit_columns) (append-nil others))
    shorter (u ∷ z) one tail fits e f s =
        let no : fits_front cols (others ++ u ∷ []) ≡ false = rw f at k.full in
        let yes = over cols others u z (ap (fits_front cols) (sym e) ∙ fits) in
        let both : true ≡ false = sym yes ∙ no in
        absurd cc

-- nor more, if no unit of what follows has columns
first_no_more : (cols : ℕ) (old front rest new others left : List (List ℕ)) (more : List ℕ) → IsFirst cols old front rest → IsFirst cols new others left → MoreUnits old new more → ((k : ℕ) → sum_by unit_columns (units (drop k more)) ≡ 0) → sum_by unit_columns others ≤ sum_by unit_columns front
first_no_more cols old front rest new others left more h k m none =
    let ws : List (List ℕ) = units (drop m.from more) in
    let p = same_parts front rest m.front (m.same ∙ ap (map unit_columns) h.joins) in
    let sums = same_sums p.one front p.same_one in
    let both : p.one ++ (p.two ++ ws) ≡ others ++ left = sym (append_assoc p.one p.two ws) ∙ ap (λ us. us ++ ws) (sym p.joins) ∙ sym m.split ∙ k.joins in
    elim (two_fronts p.one (p.two ++ ws) others left both) [
      | inl w ↦ longer p.one p.two rest w.0 ws w.1 w.2 p.same_one p.same_two h.full (none m.from)
      | inr w ↦ omega (arith, sums.0, ap (sum_by unit_columns) w.1, sum_by-append unit_columns others w.0)
    ]
  where
    longer : (one two rest z ws : List (List ℕ)) → others ≡ one ++ z → two ++ ws ≡ z ++ left → map unit_columns one ≡ map unit_columns front → map unit_columns two ≡ map unit_columns rest
        → IsFull (fits_front cols) front rest → sum_by unit_columns ws ≡ 0 → sum_by unit_columns others ≤ sum_by unit_columns front
    longer one [] rest z ws e f s t full o =
        let sums = same_sums one front s in
        omega (arith, sums.0, ap (sum_by unit_columns) e, sum_by-append unit_columns one z, ap (sum_by unit_columns) f, sum_by-append unit_columns z left, o)
    longer one (u ∷ two) rest [] ws e f s t full o = let sums = same_sums one front s in omega (arith, sums.0, ap (sum_by unit_columns) e, ap (sum_by unit_columns) (append-nil one))
    longer one (u ∷ two) [] (v ∷ z) ws e f s t full o = let y : suc (length (map unit_columns two)) ≡ 0 = ap length t in absurd (omega arith)
    longer one (u ∷ two) (r ∷ rest) (v ∷ z) ws e f s t full o =
        let heads : u ∷ (two ++ ws) ≡ v ∷ (z ++ left) = f in
        let same : u ≡ v = cc in
        let columns : unit_columns u ∷ map unit_columns two ≡ unit_columns r ∷ map unit_columns rest = t in
        let equal : unit_columns u ≡ unit_columns r = cc in
        let yes = over cols one v z (ap (fits_front cols) (sym e) ∙ k.fitting) in
        let all : map unit_columns (one ++ v ∷ []) ≡ map unit_columns (front ++ r ∷ []) =
        map-append unit_columns one (v ∷ []) ∙ ap (λ ns. ns ++ unit_columns v ∷ []) s ∙ ap (λ n. map unit_columns front ++ n ∷ []) (sym (ap unit_columns same) ∙ equal) ∙ sym (map-append unit_columns front (r ∷ [])) in
        let no : fits_front cols (one ++ v ∷ []) ≡ false = same_fits cols (one ++ v ∷ []) (front ++ r ∷ []) all ∙ full in
        let both : true ≡ false = sym yes ∙ no in
        absurd cc

-- ---- the first piece

-- a line's first piece holds the first front of its first part
record BeginsFront (cols : ℕ) (cs : List ℕ) : Type 0 where
  first : Piece
  others : List Piece
  left : List (List ℕ)
  are : pieces cols cs ≡ first ∷ others
  is : IsFirst cols (units (first_part cs)) first.body left

spaced : (b : List (List ℕ)) (bs : List (List (List ℕ))) (n : ℕ) → (p : Piece) × (ps : List Piece) × (with_spaces (b ∷ bs) n ≡ p ∷ ps) × (p.body ≡ b)
spaced b [] n = (record { body = b; spaces = n }, [], refl, refl)
spaced b (c ∷ bs) n = (record { body = b; spaces = 0 }, with_spaces (c ∷ bs) n, refl, refl)

-- of bodies that begin with the fronts of a part
by_fronts : (cols : ℕ) (cs part : List ℕ) (runs tail : List (List (List ℕ))) (spaces : ℕ) (behind : List Piece) → pieces cols cs ≡ with_spaces (runs ++ tail) spaces ++ behind → AreRuns (fits_front cols) (units part) runs → 0 < length runs → first_part cs ≡ part → BeginsFront cols cs
by_fronts cols cs part [] tail spaces behind e h some f = absurd (omega arith)
by_fronts cols cs part (run ∷ runs) tail spaces behind e h some f =
    let p = spaced run (runs ++ tail) spaces in
    record {
      first = p.0;
      others = p.1 ++ behind;
      left = h.0;
      are = e ∙ ap (λ ps. ps ++ behind) p.2;
      is = rw (p.3, f) (record { joins = h.1; fitting = h.2.fitting; full = h.2.full });
    }

begins_front : (cols : ℕ) (cs : List ℕ) → 0 < length cs → BeginsFront cols cs
unfolding first_part
begins_front cols cs some = by_body (take (body_len cs) cs) (prefix_len is_space (drop (body_len cs) cs)) (pieces cols (drop (word_len cs) cs)) (pieces_all cols cs some ∙ after_is cols false cs) refl
  where
    by_body : (body : List ℕ) (spaces : ℕ) (behind : List Piece) → pieces cols cs ≡ with_spaces (bodies_after cols false body) spaces ++ behind → take (body_len cs) cs ≡ body → BeginsFront cols cs
    by_body [] spaces behind e f =
        let p : Piece = record { body = []; spaces = spaces } in
        let part : first_part cs ≡ [] = ap (part_after false) f ∙ part_nil false in
        let none : units [] ≡ [] = cuts-nil unit_len in
        record {
          first = p;
          others = behind;
          left = [];
          are = e ∙ ap (λ bs. with_spaces bs spaces ++ behind) (bodies_nil cols false);
          is = record { joins = ap units part ∙ none; fitting = or_left (nat_le 0 cols) (nat_le 0 1) (le-leb 0 cols (omega arith)); full = tt };
        }
    by_body (c ∷ body) spaces behind e f =
        let part : List ℕ = take (part_len_after false (c ∷ body)) (c ∷ body) in
        let tail : List (List (List ℕ)) = flat_map (fronts cols) (parts (drop (part_len_after false (c ∷ body)) (c ∷ body))) in
        by_fronts cols cs part (fronts cols part) tail spaces behind (e ∙ ap (λ bs. with_spaces bs spaces ++ behind) (bodies_at cols false (c ∷ body) (part_len_after false (c ∷ body)) refl))
        (the_runs (fits_front cols) (front_rule cols) (units part)).are (fronts_some cols part (take_some (part_len_after false (c ∷ body)) (c ∷ body) (part_some false (c ∷ body) (omega arith)) (omega arith))) (ap (part_after false) f ∙ part_is (c ∷ body))

as_wide : (ps qs : List Piece) (p q : Piece) (others more : List Piece) → ps ≡ p ∷ others → qs ≡ q ∷ more → piece_columns p ≤ piece_columns q → BeginsAsWide ps qs
as_wide ps qs p q others more e f l = rw (e, f) l

first_units : (cs more : List ℕ) → (added left : List ℕ) × (more ≡ added ++ left) × MoreUnits (units (first_part cs)) (units (first_part (cs ++ more))) added
first_units cs more =
    let h = first_longer cs more in
    (h.added, h.left, h.part_of, rw h.longer (more_units (length (first_part cs)) (first_part cs) h.added (omega arith)))

-- the first piece of a text that goes on takes no fewer columns
pub first_grows : (cols : ℕ) (cs more : List ℕ) → 0 < length cs → BeginsAsWide (pieces cols cs) (pieces cols (cs ++ more))
first_grows cols cs more some =
    let old = begins_front cols cs some in
    let new = begins_front cols (cs ++ more) (omega (arith, some, length-append cs more)) in
    let h = first_units cs more in
    as_wide (pieces cols cs) (pieces cols (cs ++ more)) old.first new.first old.others new.others old.are new.are
    (first_more cols (units (first_part cs)) old.first.body old.left (units (first_part (cs ++ more))) new.first.body new.left h.0 old.is new.is h.3)

return_none : char_columns 13 ≡ 0
unfolding char_columns char_width
return_none = grind (arith, nat_tests)

none : (cs : List ℕ) → cs ≡ [] → sum_by unit_columns (units cs) ≡ 0
none cs e = ap (λ xs. sum_by unit_columns (units xs)) e ∙ ap (sum_by unit_columns) (cuts-nil unit_len)

-- of a carriage return no unit has columns
return_units : (added left : List ℕ) → 13 ∷ [] ≡ added ++ left → (k : ℕ) → sum_by unit_columns (units (drop k added)) ≡ 0
return_units [] left e k = none (drop k []) (drop_all k [] (omega arith))
return_units (c ∷ []) left e zero =
    let head : 13 ∷ [] ≡ c ∷ left = e in
    let here : 13 ≡ c = cc in
    let h = unit_character (c ∷ []) [] c (char_columns c) refl refl refl in
    let rest : sum_by unit_columns (units []) ≡ 0 = ap (sum_by unit_columns) (cuts-nil unit_len) in
    omega (arith, ap (sum_by unit_columns) h.first, sum_by-cons unit_columns h.unit (units []), rest, h.columns, ap char_columns here, return_none)
return_units (c ∷ []) left e (suc k) = none (drop k []) (drop_all k [] (omega arith))
return_units (c ∷ d ∷ added) left e k = let z : 1 ≡ suc (suc (length (added ++ left))) = ap length e in absurd (omega arith)

-- a carriage return at the end takes none
pub return_takes_none : (cols : ℕ) (cs : List ℕ) → 0 < length cs → BeginsAsWide (pieces cols (cs ++ 13 ∷ [])) (pieces cols cs)
return_takes_none cols cs some =
    let more : List ℕ = 13 ∷ [] in
    let old = begins_front cols cs some in
    let new = begins_front cols (cs ++ more) (omega (arith, some, length-append cs more)) in
    let h = first_units cs more in
    as_wide (pieces cols (cs ++ more)) (pieces cols cs) new.first old.first new.others old.others new.are old.are
    (first_no_more cols (units (first_part cs)) old.first.body old.left (units (first_part (cs ++ more))) new.first.body new.left h.0 old.is new.is h.3 (return_units h.0 h.1 h.2))
