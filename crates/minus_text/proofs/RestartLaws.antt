-- Rows that cannot change: what stands before a run stays where the text from the run on changes, if the first piece of
-- it takes no fewer columns.
use Rattle.std.proofs.Common.{◌≡◌, ℕ, ◌<◌, ◌≤◌, Bool, true, false, nat_le, List, [], ◌∷◌, ◌++◌, length, arith, refl, sym, ap, ◌∙◌, append_assoc, inl, inr}
use Rattle.std.proofs.lemmas.Bool.{cases_Bool, leb-true, le-leb, or_cases, or_left, or_right}
use Rattle.std.proofs.lemmas.List.{length-append, append_cancel_left}
use Rattle.minus_text.specs.Runs.{IsRun, IsFull, AreRuns}
use Rattle.minus_text.specs.Pieces.{Piece, piece_columns}
use Rattle.minus_text.specs.RowRuns.{fits_row, run_columns}
use Rattle.minus_text.specs.Rows.{the_rows}

-- ---- lists divided into runs, whatever the rule

-- the elements of runs, one run after another
abbrev pub elements : {X : Type 0} → List (List X) → List X
elements [] = []
elements (r ∷ rs) = r ++ elements rs

pub elements_append : {X : Type 0} (rs ss : List (List X)) → elements (rs ++ ss) ≡ elements rs ++ elements ss
elements_append [] ss = refl
elements_append (r ∷ rs) ss = ap (λ ys. r ++ ys) (elements_append rs ss) ∙ sym (append_assoc r (elements rs) (elements ss))

pub runs_elements : {X : Type 0} (fits : List X → Bool) (xs : List X) (rs : List (List X)) → AreRuns fits xs rs → xs ≡ elements rs
runs_elements fits xs [] h = h
runs_elements fits xs (r ∷ rs) h = h.1 ∙ ap (λ ys. r ++ ys) (runs_elements fits h.0 rs h.3)

-- a run that is full before the one is full before the other
abbrev pub StaysFull : {X : Type 0} → (List X → Bool) → List X → List X → Type 0
StaysFull {X} fits xs ys = (run : List X) → IsFull fits run xs → IsFull fits run ys

still_full : {X : Type 0} (fits : List X → Bool) (r : List X) (before after : List (List X)) (xs ys : List X) → AreRuns fits (elements before ++ xs) (before ++ after) → StaysFull fits xs ys
    → IsFull fits r (elements before ++ xs) → IsFull fits r (elements before ++ ys)
still_full fits r [] after xs ys h stays f = stays r f
still_full fits r ([] ∷ before) after xs ys h stays f = let some : 0 < 0 = h.2.some in absurd (omega arith)
still_full fits r ((x ∷ b) ∷ before) after xs ys h stays f = f

-- the runs before a place stay where what follows it changes
pub runs_stay : {X : Type 0} (fits : List X → Bool) (before after others : List (List X)) (xs ys : List X) → AreRuns fits (elements before ++ xs) (before ++ after) → StaysFull fits xs ys → AreRuns fits ys others
    → AreRuns fits (elements before ++ ys) (before ++ others)
runs_stay fits [] after others xs ys h stays k = k
runs_stay fits (r ∷ before) after others xs ys h stays k =
    let e : r ++ (elements before ++ xs) ≡ r ++ h.0 = sym (append_assoc r (elements before) xs) ∙ h.1 in
    let same : elements before ++ xs ≡ h.0 = append_cancel_left r (elements before ++ xs) h.0 e in
    let inner : AreRuns fits (elements before ++ xs) (before ++ after) = rw (← same) at h.3 in
    let run : IsRun fits r (elements before ++ xs) = rw (← same) at h.2 in
    (elements before ++ ys, append_assoc r (elements before) ys, record { some = run.some; fitting = run.fitting; full = still_full fits r before after xs ys inner stays run.full }, runs_stay fits before after others xs ys inner stays k)

-- ---- the rows of pieces

-- nothing follows, or what follows begins with a piece that takes no fewer columns
abbrev pub BeginsAsWide : List Piece → List Piece → Type 0
BeginsAsWide ps [] = Unit {0}
BeginsAsWide [] (q ∷ qs) = ⊥
BeginsAsWide (p ∷ ps) (q ∷ qs) = piece_columns p ≤ piece_columns q

columns_last : (run : List Piece) (p q : Piece) → piece_columns p ≤ piece_columns q → run_columns (run ++ p ∷ []) ≤ run_columns (run ++ q ∷ [])
columns_last [] p q l = l
columns_last (a ∷ []) p q l = omega arith
columns_last (a ∷ b ∷ run) p q l = omega (arith, columns_last (b ∷ run) p q l)

wider_full : (cols : ℕ) (run : List Piece) (p q : Piece) → piece_columns p ≤ piece_columns q → fits_row cols (run ++ p ∷ []) ≡ false → fits_row cols (run ++ q ∷ []) ≡ false
wider_full cols run p q l f = elim (cases_Bool (fits_row cols (run ++ q ∷ []))) [
  | inl t ↦ elim (or_cases (nat_le (length (run ++ q ∷ [])) 1) (nat_le (run_columns (run ++ q ∷ [])) cols) t) [
    | inl e ↦
        let few = leb-true (length (run ++ q ∷ [])) 1 e in
        let yes : fits_row cols (run ++ p ∷ []) ≡ true = or_left (nat_le (length (run ++ p ∷ [])) 1) (nat_le (run_columns (run ++ p ∷ [])) cols) (le-leb (length (run ++ p ∷ [])) 1 (omega (arith, length-append run (p ∷ []), length-append run (q ∷ [])))) in
        let both : true ≡ false = sym yes ∙ f in
        cc
    | inr e ↦
        let few = leb-true (run_columns (run ++ q ∷ [])) cols e in
        let yes : fits_row cols (run ++ p ∷ []) ≡ true = or_right (nat_le (length (run ++ p ∷ [])) 1) (nat_le (run_columns (run ++ p ∷ [])) cols) (le-leb (run_columns (run ++ p ∷ [])) cols (omega (arith, columns_last run p q l))) in
        let both : true ≡ false = sym yes ∙ f in
        cc
  ]
  | inr e ↦ e
]

as_wide_full : (cols : ℕ) (ps qs : List Piece) → BeginsAsWide ps qs → StaysFull (fits_row cols) ps qs
as_wide_full cols ps [] w run f = tt
as_wide_full cols [] (q ∷ qs) w run f = absurd w
as_wide_full cols (p ∷ ps) (q ∷ qs) w run f = wider_full cols run p q w f

-- the rows before a run stay, and from there on they are those of the other pieces alone
pub rows_stay : (cols : ℕ) (before after : List (List Piece)) (ps qs : List Piece) → (the_rows cols (elements before ++ ps)).runs ≡ before ++ after → BeginsAsWide ps qs
    → (the_rows cols (elements before ++ qs)).runs ≡ before ++ (the_rows cols qs).runs
rows_stay cols before after ps qs e w =
    let old : AreRuns (fits_row cols) (elements before ++ ps) (before ++ after) = rw e at (the_rows cols (elements before ++ ps)).are in
    let new = runs_stay (fits_row cols) before after (the_rows cols qs).runs ps qs old (as_wide_full cols ps qs w) (the_rows cols qs).are in
    sym ((the_rows cols (elements before ++ qs)).only (before ++ (the_rows cols qs).runs) new)
