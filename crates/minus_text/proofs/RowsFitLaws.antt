-- Each row fits, or holds one unit that is too wide.
use Rattle.std.proofs.Common.{◌≡◌, ℕ, ◌+◌, ◌-◌, take, chars, ◌≤◌, ◌<◌, ◌⊎◌, true, false, cond, nat_le, List, [], ◌∷◌, ◌++◌, length, arith, refl, ap, ◌∙◌, inl, inr}
use Rattle.std.specs.List.{sum_by, count_by, flat_map, All}
use Rattle.std.proofs.lemmas.Bool.{cases_Bool, cases_lt, leb-true, ltb-false, le-leb, or_cases, or_left}
use Rattle.std.proofs.lemmas.List.{append-nil}
use Rattle.std.proofs.lemmas.List.Sums.{sum_by-cons}
use Rattle.std.proofs.lemmas.List.Elements.{All-nil, All-cons, All-append, All-head, All-tail}
use Rattle.minus_text.specs.Units.{units, unit_columns}
use Rattle.minus_text.specs.Runs.{AreRuns}
use Rattle.minus_text.specs.TheRuns.{the_runs}
use Rattle.minus_text.specs.Fronts.{is_wide, fits_front, front_rule}
use Rattle.minus_text.specs.Pieces.{Piece, fronts, with_spaces, word_pieces, words, body_len, pieces}
use Rattle.minus_text.specs.Hyphens.{parts}
use Rattle.minus_text.specs.RowRuns.{run_columns, fits_row}
use Rattle.minus_text.specs.Rows.{the_rows, line_runs, HoldsOneWide, RowsFit}

-- the body of a piece fits as a front
abbrev pub IsFront : ℕ → Piece → Type 0
IsFront cols p = fits_front cols p.body ≡ true

-- units that fit as a front
abbrev pub FitsFront : ℕ → List (List ℕ) → Type 0
FitsFront cols r = fits_front cols r ≡ true

runs_fit : (cols : ℕ) (us : List (List ℕ)) (runs : List (List (List ℕ))) → AreRuns (fits_front cols) us runs → All (FitsFront cols) runs
runs_fit cols us [] h = All-nil (FitsFront cols)
runs_fit cols us (r ∷ rs) h = All-cons (FitsFront cols) r rs h.2.fitting (runs_fit cols h.0 rs h.3)

fronts_fit : (cols : ℕ) (part : List ℕ) → All (FitsFront cols) (fronts cols part)
fronts_fit cols part = runs_fit cols (units part) (fronts cols part) (the_runs (fits_front cols) (front_rule cols) (units part)).are

all_fronts_fit : (cols : ℕ) (ps : List (List ℕ)) → All (FitsFront cols) (flat_map (fronts cols) ps)
all_fronts_fit cols [] = All-nil (FitsFront cols)
all_fronts_fit cols (p ∷ ps) = All-append (FitsFront cols) (fronts cols p) (flat_map (fronts cols) ps) (fronts_fit cols p) (all_fronts_fit cols ps)

empty_fits : (cols : ℕ) → fits_front cols [] ≡ true
empty_fits cols = or_left (nat_le 0 cols) (nat_le 0 1) (le-leb 0 cols (omega arith))

spaces_fit : (cols : ℕ) (bs : List (List (List ℕ))) (n : ℕ) → All (FitsFront cols) bs → All (IsFront cols) (with_spaces bs n)
spaces_fit cols [] n h = All-cons (IsFront cols) (record { body = []; spaces = n }) [] (empty_fits cols) (All-nil (IsFront cols))
spaces_fit cols (b ∷ []) n h = All-cons (IsFront cols) (record { body = b; spaces = n }) [] (All-head (FitsFront cols) b [] h) (All-nil (IsFront cols))
spaces_fit cols (b ∷ c ∷ bs) n h = All-cons (IsFront cols) (record { body = b; spaces = 0 }) (with_spaces (c ∷ bs) n) (All-head (FitsFront cols) b (c ∷ bs) h) (spaces_fit cols (c ∷ bs) n (All-tail (FitsFront cols) b (c ∷ bs) h))

words_fit : (cols : ℕ) (ws : List (List ℕ)) → All (IsFront cols) (flat_map (word_pieces cols) ws)
words_fit cols [] = All-nil (IsFront cols)
words_fit cols (w ∷ ws) = All-append (IsFront cols) (word_pieces cols w) (flat_map (word_pieces cols) ws) (spaces_fit cols (flat_map (fronts cols) (parts (take (body_len w) w))) (length w - body_len w) (all_fronts_fit cols (parts (take (body_len w) w)))) (words_fit cols ws)

pieces_fit : (cols : ℕ) (line : List ℕ) → All (IsFront cols) (pieces cols line)
unfolding pieces
pieces_fit cols line = words_fit cols (words line)

-- ---- one wide unit

-- a unit without columns
abbrev pub NoColumns : List ℕ → Type 0
NoColumns u = unit_columns u ≡ 0

narrow : (u : List ℕ) → is_wide u ≡ false → unit_columns u ≡ 0
narrow u e = let l = ltb-false 0 (unit_columns u) e in omega arith

count_cons : (u : List ℕ) (us : List (List ℕ)) → count_by is_wide (u ∷ us) ≡ cond (is_wide u) 1 0 + count_by is_wide us
count_cons u us = sum_by-cons (λ x. cond (is_wide x) 1 0) u us

-- no unit has columns
all_narrow : (us : List (List ℕ)) → count_by is_wide us ≡ 0 → All NoColumns us × (sum_by unit_columns us ≡ 0)
all_narrow [] e = (All-nil NoColumns, refl)
all_narrow (u ∷ us) e = elim (cases_Bool (is_wide u)) [
  | inl w ↦ let c : count_by is_wide (u ∷ us) ≡ 1 + count_by is_wide us = count_cons u us ∙ ap (λ b. cond b 1 0 + count_by is_wide us) w in absurd (omega arith)
  | inr w ↦
      let c : count_by is_wide (u ∷ us) ≡ 0 + count_by is_wide us = count_cons u us ∙ ap (λ b. cond b 1 0 + count_by is_wide us) w in
      let ih = all_narrow us (omega arith) in
      let n = narrow u w in
      (All-cons NoColumns u us n ih.0, omega (arith, sum_by-cons unit_columns u us, ih.1, n))
]

-- one unit alone has columns, and more than fit
one_wide : (cols : ℕ) (us : List (List ℕ)) → count_by is_wide us ≤ 1 → cols < sum_by unit_columns us → HoldsOneWide cols us
one_wide cols [] few over = absurd (omega arith)
one_wide cols (u ∷ us) few over = elim (cases_Bool (is_wide u)) [
  | inl w ↦
      let c : count_by is_wide (u ∷ us) ≡ 1 + count_by is_wide us = count_cons u us ∙ ap (λ b. cond b 1 0 + count_by is_wide us) w in
      let rest = all_narrow us (omega arith) in
      record { before = []; wide = u; after = us; all = refl; wider = omega (arith, sum_by-cons unit_columns u us, rest.1); none_before = All-nil NoColumns; none_after = rest.0 }
  | inr w ↦
      let c : count_by is_wide (u ∷ us) ≡ 0 + count_by is_wide us = count_cons u us ∙ ap (λ b. cond b 1 0 + count_by is_wide us) w in
      let n = narrow u w in
      let ih = one_wide cols us (omega arith) (omega (arith, sum_by-cons unit_columns u us, n)) in
      record { before = u ∷ ih.before; wide = ih.wide; after = ih.after; all = ap (λ xs. u ∷ xs) ih.all; wider = ih.wider; none_before = All-cons NoColumns u ih.before n ih.none_before; none_after = ih.none_after }
]

-- ---- rows

abbrev pub IsFitRow : ℕ → List Piece → Type 0
IsFitRow cols run = (run_columns run ≤ cols) ⊎ HoldsOneWide cols (flat_map (λ p. p.body) run)

row_fits : (cols : ℕ) (run : List Piece) → fits_row cols run ≡ true → All (IsFront cols) run → IsFitRow cols run
row_fits cols [] f h = inl (omega arith)
row_fits cols (p ∷ []) f h =
    elim (or_cases (nat_le (sum_by unit_columns p.body) cols) (nat_le (count_by is_wide p.body) 1) (All-head (IsFront cols) p [] h)) [
      | inl e ↦ inl (leb-true (sum_by unit_columns p.body) cols e)
      | inr e ↦ elim (cases_lt cols (sum_by unit_columns p.body)) [
        | inl over ↦ inr (rw (append-nil p.body) (one_wide cols p.body (leb-true (count_by is_wide p.body) 1 e) over))
        | inr l ↦ inl l
      ]
    ]
row_fits cols (p ∷ q ∷ ps) f h =
    elim (or_cases (nat_le (length (p ∷ q ∷ ps)) 1) (nat_le (run_columns (p ∷ q ∷ ps)) cols) f) [
      | inl e ↦ let l = leb-true (length (p ∷ q ∷ ps)) 1 e in absurd (omega arith)
      | inr e ↦ inl (leb-true (run_columns (p ∷ q ∷ ps)) cols e)
    ]

All-front : (P : Piece → Type 0) (xs ys : List Piece) → All P (xs ++ ys) → All P xs × All P ys
All-front P [] ys h = (All-nil P, h)
All-front P (x ∷ xs) ys h = let t = All-front P xs ys (All-tail P x (xs ++ ys) h) in (All-cons P x xs (All-head P x (xs ++ ys) h) t.0, t.1)

rows_fit_from : (cols : ℕ) (ps : List Piece) (runs : List (List Piece)) → AreRuns (fits_row cols) ps runs → All (IsFront cols) ps → All (IsFitRow cols) runs
rows_fit_from cols ps [] h k = All-nil (IsFitRow cols)
rows_fit_from cols ps (run ∷ runs) h k =
    let both = All-front (IsFront cols) run h.0 (rw (h.1) at k) in
    All-cons (IsFitRow cols) run runs (row_fits cols run h.2.fitting both.0) (rows_fit_from cols h.0 runs h.3 both.1)

pub rows_fit_lem : RowsFit
rows_fit_lem cols line = rows_fit_from cols (pieces cols (chars line)) (line_runs cols line) (the_rows cols (pieces cols (chars line))).are (pieces_fit cols (chars line))
