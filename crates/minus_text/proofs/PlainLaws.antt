-- Laws on texts of printable ASCII: a byte is a character and takes a column.
use Rattle.std.proofs.Common.{◌≡◌, ℕ, zero, suc, ◌+◌, ◌<◌, ◌≤◌, ◌&&◌, true, false, eqb, nat_le, List, [], ◌∷◌, ◌++◌, length, replicate, chars, arith, refl, sym, ap, ◌∙◌, append_assoc, inl, inr}
use Rattle.std.specs.List.{concat, sum_by, list_all}
use Rattle.std.specs.Str.{IsAscii, encode_utf8_all}
use Rattle.std.proofs.lemmas.Bool.{cases_Bool, and_parts, le-leb, or_left, or_right, eqb-true, ne_eqb}
use Rattle.std.proofs.lemmas.Bool.Decides.{nat_tests}
use Rattle.std.proofs.lemmas.List.{append-nil, length-append, length-replicate}
use Rattle.std.proofs.lemmas.List.Folds.{list_all-append}
use Rattle.std.proofs.lemmas.List.Sums.{sum_by-cons}
use Rattle.std.proofs.lemmas.Str.{chars-IsAscii, encodes-IsAscii}
use Rattle.unicode_width.specs.Width.{char_width}
use Rattle.minus_text.specs.Plain.{is_printable}
use Rattle.minus_text.specs.Units.{char_columns, begins_sequence, units, unit_columns, body_of, text_columns, columns}
use Rattle.minus_text.specs.Runs.{AreRuns}
use Rattle.minus_text.specs.TheRuns.{the_runs}
use Rattle.minus_text.specs.Fronts.{is_wide, fits_front, front_rule}
use Rattle.std.specs.List.{count_by}
use Rattle.minus_text.specs.Pieces.{Piece, pieces, piece_text, fronts}
use Rattle.minus_text.specs.RowRuns.{fits_row, run_columns}
use Rattle.minus_text.specs.Rows.{the_rows, run_text, row_text, line_runs, line_places, places}
use Rattle.minus_text.specs.declared.rows.Span.{Span}
use Rattle.minus_text.proofs.UnitsLaws.{units_join}
use Rattle.minus_text.proofs.PiecesLaws.{pieces_join_lem}
use Rattle.minus_text.proofs.RowsLaws.{empty_places}

-- ---- characters and units

pub printable_column : (c : ℕ) → is_printable c ≡ true → char_columns c ≡ 1
unfolding char_columns char_width
printable_column c h = grind (arith, nat_tests, h)

printable_small : (c : ℕ) → is_printable c ≡ true → c < 128
printable_small c h = grind (arith, nat_tests, h)

printable_no_escape : (c : ℕ) → is_printable c ≡ true → eqb c 27 ≡ false
printable_no_escape c h = grind (arith, nat_tests, h)

pub printable_ascii : (bs : List ℕ) → list_all is_printable bs ≡ true → IsAscii bs
printable_ascii [] h i = omega arith
printable_ascii (b ∷ bs) h zero = let one = and_parts (is_printable b) (list_all is_printable bs) h in printable_small b one.0
printable_ascii (b ∷ bs) h (suc i) = let one = and_parts (is_printable b) (list_all is_printable bs) h in printable_ascii bs one.1 i

sum_columns : (cs : List ℕ) → list_all is_printable cs ≡ true → sum_by char_columns cs ≡ length cs
sum_columns [] h = refl
sum_columns (c ∷ cs) h =
    let one = and_parts (is_printable c) (list_all is_printable cs) h in
    omega (arith, sum_by-cons char_columns c cs, printable_column c one.0, sum_columns cs one.1)

no_sequence : (cs : List ℕ) → list_all is_printable cs ≡ true → begins_sequence cs ≡ false
no_sequence [] h = refl
no_sequence (c ∷ []) h = refl
no_sequence (c ∷ d ∷ cs) h =
    let one = and_parts (is_printable c) (list_all is_printable (d ∷ cs)) h in
    rw (printable_no_escape c one.0) refl

unit_plain : (u : List ℕ) → list_all is_printable u ≡ true → unit_columns u ≡ length u
unit_plain u h = rw (no_sequence u h) (sum_columns u h)

two_sides : (xs ys : List ℕ) → list_all is_printable (xs ++ ys) ≡ true → (list_all is_printable xs ≡ true) × (list_all is_printable ys ≡ true)
two_sides xs ys h = and_parts (list_all is_printable xs) (list_all is_printable ys) (sym (list_all-append is_printable xs ys) ∙ h)

-- units of such a text take a column for each character
pub units_plain : (us : List (List ℕ)) → list_all is_printable (concat us) ≡ true → sum_by unit_columns us ≡ length (concat us)
units_plain [] h = refl
units_plain (u ∷ us) h =
    let both = two_sides u (concat us) h in
    omega (arith, sum_by-cons unit_columns u us, unit_plain u both.0, units_plain us both.1, length-append u (concat us))

-- ---- a line that fits

run_plain : (ps : List Piece) → list_all is_printable (run_text ps) ≡ true → run_columns ps ≤ length (run_text ps)
run_plain [] h = omega arith
run_plain (p ∷ []) h =
    let both = two_sides (piece_text p) [] h in
    let body = two_sides (concat p.body) (replicate p.spaces 32) both.0 in
    omega (arith, units_plain p.body body.0, length-append (concat p.body) (replicate p.spaces 32), length-append (piece_text p) [])
run_plain (p ∷ q ∷ ps) h =
    let both = two_sides (piece_text p) (run_text (q ∷ ps)) h in
    let body = two_sides (concat p.body) (replicate p.spaces 32) both.0 in
    omega (arith, units_plain p.body body.0, length-append (concat p.body) (replicate p.spaces 32), length-replicate {A = ℕ} p.spaces 32, length-append (piece_text p) (run_text (q ∷ ps)), run_plain (q ∷ ps) both.1)

pub some_pieces : (ps : List Piece) (cs : List ℕ) → run_text ps ≡ cs → 0 < length cs → 0 < length ps
some_pieces [] cs e l = let z : 0 ≡ length cs = ap length e in absurd (omega arith)
some_pieces (p ∷ ps) cs e l = omega arith

-- all pieces are one run
pub one_run : (cols : ℕ) (ps : List Piece) → 0 < length ps → run_columns ps ≤ cols → ps ∷ [] ≡ (the_rows cols ps).runs
one_run cols ps some fits =
    let are : AreRuns (fits_row cols) ps (ps ∷ []) = ([], sym (append-nil ps), record { some = some; fitting = or_right (nat_le (length ps) 1) (nat_le (run_columns ps) cols) (le-leb (run_columns ps) cols fits); full = tt }, refl) in
    (the_rows cols ps).only (ps ∷ []) are

-- a row's text, and the spaces that end its run
row_spaces : (run : List Piece) → (n : ℕ) × (run_text run ≡ row_text run ++ replicate n 32)
row_spaces [] = (0, refl)
row_spaces (p ∷ []) = (p.spaces, append-nil (piece_text p))
row_spaces (p ∷ q ∷ ps) = let h = row_spaces (q ∷ ps) in (h.0, ap (λ xs. piece_text p ++ xs) h.1 ∙ sym (append_assoc (piece_text p) (row_text (q ∷ ps)) (replicate h.0 32)))

replicate_last : (n : ℕ) → 0 < n → (xs : List ℕ) × (replicate n 32 ≡ xs ++ 32 ∷ [])
replicate_last zero l = absurd (omega arith)
replicate_last (suc zero) l = ([], refl)
replicate_last (suc (suc n)) l = let h = replicate_last (suc n) (omega arith) in (32 ∷ h.0, ap (λ ys. 32 ∷ ys) h.1)

-- where no space ends the run, its row's text is all of it
row_whole : (run : List Piece) → ((xs : List ℕ) → run_text run ≡ xs ++ 32 ∷ [] → ⊥) → row_text run ≡ run_text run
row_whole run none =
    let h = row_spaces run in
    elim (cases_Bool (eqb h.0 0)) [
      | inl z ↦ let e : h.0 ≡ 0 = eqb-true h.0 0 z in sym (h.1 ∙ ap (λ n. row_text run ++ replicate n 32) e ∙ append-nil (row_text run))
      | inr z ↦
          let last = replicate_last h.0 (some h.0 z) in
          absurd (none (row_text run ++ last.0) (h.1 ∙ ap (λ ys. row_text run ++ ys) last.1 ∙ sym (append_assoc (row_text run) last.0 (32 ∷ []))))
    ]
  where
    some : (n : ℕ) → eqb n 0 ≡ false → 0 < n
    some zero z = absurd cc
    some (suc n) z = omega arith

-- a line of printable ASCII that fits and does not end with a space is one row
pub one_row : (cols : ℕ) (line : List ℕ) (rows : List Span) → 0 < length line → length line ≤ cols → list_all is_printable line ≡ true → ((xs : List ℕ) → line ≡ xs ++ 32 ∷ [] → ⊥)
    → rows ≡ record { start = 0; end = length line } ∷ [] → rows ≡ line_places cols line
unfolding line_places
one_row cols line rows some few h none e =
    let small : IsAscii line = printable_ascii line h in
    let same : chars line ≡ line = chars-IsAscii line small in
    let ps : List Piece = pieces cols line in
    let text : run_text ps ≡ line = pieces_join_lem cols line in
    let fits : run_columns ps ≤ length (run_text ps) = run_plain ps (rw text h) in
    let size : length (run_text ps) ≡ length line = ap length text in
    let runs : ps ∷ [] ≡ (the_rows cols ps).runs = one_run cols ps (some_pieces ps line text some) (omega arith) in
    let row : row_text ps ≡ line = row_whole ps (λ xs f. none xs (sym text ∙ f)) ∙ text in
    let bytes : length (encode_utf8_all (row_text ps)) ≡ length line = ap (λ xs. length (encode_utf8_all xs)) row ∙ ap length (encodes-IsAscii line small) in
    let end : length line ≡ 0 + length (encode_utf8_all (row_text ps)) = omega (arith, bytes) in
    let other : eqb (length (chars line)) 0 ≡ false = ne_eqb (length (chars line)) 0 (λ z. omega (arith, ap length same)) in
    let all : line_runs cols line ≡ ps ∷ [] = ap (λ cs. (the_rows cols (pieces cols cs)).runs) same ∙ sym runs in
    rw other (e ∙ ap (λ (n : ℕ). let s : Span = record { start = 0; end = n } in s ∷ []) end ∙ ap (places 0) (sym all))

-- ---- the columns of such a text

body_printable : (cs : List ℕ) → list_all is_printable cs ≡ true → list_all is_printable (body_of cs) ≡ true
body_printable [] h = refl
body_printable (c ∷ cs) h =
    let one = and_parts (is_printable c) (list_all is_printable cs) h in
    elim (cases_Bool (eqb c 32 && eqb (length (body_of cs)) 0)) [
      | inl e ↦ rw e refl
      | inr e ↦ rw (e, one.0) (body_printable cs one.1)
    ]

body_length : (cs : List ℕ) → length (body_of cs) ≤ length cs
body_length [] = omega arith
body_length (c ∷ cs) = elim (cases_Bool (eqb c 32 && eqb (length (body_of cs)) 0)) [
  | inl e ↦ rw e (omega arith)
  | inr e ↦ rw e (omega (arith, body_length cs))
]

pub columns_plain : (text : List ℕ) → list_all is_printable text ≡ true → columns text ≡ length text
unfolding columns text_columns
columns_plain text h =
    let same : chars text ≡ text = chars-IsAscii text (printable_ascii text h) in
    let joined : concat (units (body_of text)) ≡ body_of text = units_join (body_of text) in
    let body : sum_by unit_columns (units (body_of text)) ≡ length (concat (units (body_of text))) = units_plain (units (body_of text)) (rw joined (body_printable text h)) in
    rw same (omega (arith, body, ap length joined, body_length text))

-- ---- a part that fits

pub some_units : (us : List (List ℕ)) (cs : List ℕ) → concat us ≡ cs → 0 < length cs → 0 < length us
some_units [] cs e l = let z : 0 ≡ length cs = ap length e in absurd (omega arith)
some_units (u ∷ us) cs e l = omega arith

-- a part that fits is one front
pub one_front : (cols : ℕ) (cs : List ℕ) → 0 < length cs → sum_by unit_columns (units cs) ≤ cols → units cs ∷ [] ≡ fronts cols cs
one_front cols cs some fits =
    let us : List (List ℕ) = units cs in
    let are : AreRuns (fits_front cols) us (us ∷ []) = ([], sym (append-nil us), record { some = some_units us cs (units_join cs) some; fitting = or_left (nat_le (sum_by unit_columns us) cols) (nat_le (count_by is_wide us) 1) (le-leb (sum_by unit_columns us) cols fits); full = tt }, refl) in
    (the_runs (fits_front cols) (front_rule cols) us).only (us ∷ []) are

-- a row that is all of its line, or the row of no text
pub whole_row : (cols : ℕ) (line : List ℕ) → length line ≤ cols → list_all is_printable line ≡ true → ((xs : List ℕ) → line ≡ xs ++ 32 ∷ [] → ⊥) → line_places cols line ≡ record { start = 0; end = length line } ∷ []
whole_row cols [] few h none = sym (empty_places cols [] (record { start = 0; end = 0 } ∷ []) refl refl)
whole_row cols (b ∷ bs) few h none = sym (one_row cols (b ∷ bs) (record { start = 0; end = length (b ∷ bs) } ∷ []) (omega arith) few h none refl)

pub empty_row : (cols : ℕ) (line : List ℕ) → length line ≡ 0 → line_places cols line ≡ record { start = 0; end = length line } ∷ []
empty_row cols [] e = sym (empty_places cols [] (record { start = 0; end = 0 } ∷ []) refl refl)
empty_row cols (b ∷ bs) e = absurd (omega arith)
