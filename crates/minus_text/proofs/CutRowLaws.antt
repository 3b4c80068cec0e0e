-- A row of printable ASCII, by the text that stands on it, the spaces behind that and what follows.
use Rattle.std.proofs.Common.{◌≡◌, ℕ, zero, suc, ◌+◌, ◌<◌, ◌≤◌, Bool, true, false, not, nat_le, List, [], ◌∷◌, ◌++◌, length, map, replicate, chars, arith, refl, sym, ap, ◌∙◌, append_assoc, inl, inr}
use Rattle.std.specs.List.{concat, flat_map, list_all}
use Rattle.std.specs.Str.{IsAscii, encode_utf8_all}
use Rattle.std.proofs.lemmas.Bool.{cases_Bool, and_parts, le-leb, leb-true, or_right, or_cases}
use Rattle.std.proofs.lemmas.List.{append-nil, length-append, length-replicate}
use Rattle.std.proofs.lemmas.List.Concat.{flat_map-append}
use Rattle.std.proofs.lemmas.List.Folds.{list_all-append}
use Rattle.std.proofs.lemmas.Str.{chars-IsAscii, encodes-IsAscii}
use Rattle.minus_text.specs.Plain.{is_printable}
use Rattle.minus_text.specs.Units.{units}
use Rattle.minus_text.specs.Runs.{IsRun, IsFull}
use Rattle.minus_text.specs.TheRuns.{the_runs}
use Rattle.minus_text.specs.Fronts.{fits_front, front_rule}
use Rattle.minus_text.specs.Pieces.{Piece, pieces, piece_text, piece_columns, fronts, with_spaces, is_space}
use Rattle.minus_text.specs.Hyphens.{parts, part_len_after}
use Rattle.minus_text.specs.RowRuns.{fits_row, run_columns}
use Rattle.minus_text.specs.Rows.{the_rows, run_text, row_text, line_places, places}
use Rattle.minus_text.specs.Kept.{moved}
use Rattle.minus_text.specs.declared.rows.Span.{Span}
use Rattle.minus_text.proofs.CutsLaws.{cuts-nil, cuts_join}
use Rattle.minus_text.proofs.WordsLaws.{part_rule}
use Rattle.minus_text.proofs.UnitsLaws.{units_join}
use Rattle.minus_text.proofs.PiecesLaws.{pieces_join_lem, runs_join}
use Rattle.minus_text.proofs.PlainLaws.{printable_ascii, units_plain, some_pieces, one_run, empty_row}
use Rattle.minus_text.proofs.RestartLaws.{BeginsAsWide}
use Rattle.minus_text.proofs.FirstColumnsLaws.{first_grows}
use Rattle.minus_text.proofs.GoesOnLaws.{places_of_some, places_moved}
use Rattle.minus_text.proofs.CutSeamsLaws.{BeginsWord, EndsWord, pieces_seam, last_stretch, one_word, IsOnePart, one_piece, printable_units}

-- a text whose last word is known: what stands before it, and the word
record LastWord (us : List ℕ) : Type 0 where
  before : List ℕ
  word : List ℕ
  joins : us ≡ before ++ word
  ends : EndsWord before
  solid : list_all (λ c. not (is_space c)) word ≡ true
  some : 0 < length word

last_word : (vs : List ℕ) (c : ℕ) → is_space c ≡ false → LastWord (vs ++ c ∷ [])
last_word vs c e =
    let h = last_stretch vs in
    record {
      before = h.before;
      word = h.stretch ++ c ∷ [];
      joins = ap (λ xs. xs ++ c ∷ []) h.joins ∙ append_assoc h.before h.stretch (c ∷ []);
      ends = h.ends;
      solid = list_all-append (λ d. not (is_space d)) h.stretch (c ∷ []) ∙ rw (h.solid, e) refl;
      some = omega (arith, length-append h.stretch (c ∷ []));
    }

-- ---- the row's text

with_some : (bs : List (List (List ℕ))) (n : ℕ) → 0 < length (with_spaces bs n)
with_some [] n = omega arith
with_some (b ∷ []) n = omega arith
with_some (b ∷ c ∷ bs) n = omega arith

row_text_append : (ps qs : List Piece) → 0 < length qs → row_text (ps ++ qs) ≡ run_text ps ++ row_text qs
row_text_append [] qs some = refl
row_text_append (p ∷ []) [] some = absurd (omega arith)
row_text_append (p ∷ []) (q ∷ qs) some = ap (λ xs. xs ++ row_text (q ∷ qs)) (sym (append-nil (piece_text p)))
row_text_append (p ∷ r ∷ ps) qs some = ap (λ xs. piece_text p ++ xs) (row_text_append (r ∷ ps) qs some) ∙ sym (append_assoc (piece_text p) (run_text (r ∷ ps)) (row_text qs))

row_of_word : (bs : List (List (List ℕ))) (n : ℕ) → row_text (with_spaces bs n) ≡ flat_map concat bs
row_of_word [] n = refl
row_of_word (b ∷ []) n = sym (append-nil (concat b))
row_of_word (b ∷ c ∷ []) n = ap (λ xs. xs ++ concat c) (append-nil (concat b)) ∙ ap (λ xs. concat b ++ xs) (sym (append-nil (concat c)))
row_of_word (b ∷ c ∷ d ∷ bs) n = ap (λ xs. xs ++ row_text (with_spaces (c ∷ d ∷ bs) n)) (append-nil (concat b)) ∙ ap (λ xs. concat b ++ xs) (row_of_word (c ∷ d ∷ bs) n)

fronts_text : (cols : ℕ) (ps : List (List ℕ)) → flat_map concat (flat_map (fronts cols) ps) ≡ concat ps
fronts_text cols [] = refl
fronts_text cols (p ∷ ps) =
    flat_map-append concat (fronts cols p) (flat_map (fronts cols) ps)
    ∙ ap (λ xs. xs ++ flat_map concat (flat_map (fronts cols) ps)) (runs_join (fits_front cols) (units p) (fronts cols p) (the_runs (fits_front cols) (front_rule cols) (units p)).are ∙ units_join p)
    ∙ ap (λ xs. p ++ xs) (fronts_text cols ps)

-- a row's text is that of its run without the spaces that end it
pub row_trimmed : (cols n : ℕ) (vs : List ℕ) (c : ℕ) → is_space c ≡ false → row_text (pieces cols ((vs ++ c ∷ []) ++ replicate n 32)) ≡ vs ++ c ∷ []
row_trimmed cols n vs c e =
    let h : LastWord (vs ++ c ∷ []) = last_word vs c e in
    let behind : List ℕ = h.word ++ replicate n 32 in
    let split : (vs ++ c ∷ []) ++ replicate n 32 ≡ h.before ++ behind = ap (λ xs. xs ++ replicate n 32) h.joins ∙ append_assoc h.before h.word (replicate n 32) in
    let bodies : List (List (List ℕ)) = flat_map (fronts cols) (parts h.word) in
    let last : pieces cols behind ≡ with_spaces bodies n = one_word cols n h.word h.solid (omega (arith, h.some)) in
    let all : pieces cols ((vs ++ c ∷ []) ++ replicate n 32) ≡ pieces cols h.before ++ with_spaces bodies n =
    ap (pieces cols) split ∙ pieces_seam cols h.before behind h.ends (begins h.word h.solid h.some (replicate n 32)) ∙ ap (λ ps. pieces cols h.before ++ ps) last in
    ap row_text all ∙ row_text_append (pieces cols h.before) (with_spaces bodies n) (with_some bodies n)
    ∙ ap (λ xs. xs ++ row_text (with_spaces bodies n)) (pieces_join_lem cols h.before)
    ∙ ap (λ xs. h.before ++ xs) (row_of_word bodies n ∙ fronts_text cols (parts h.word) ∙ cuts_join (part_len_after false) part_rule h.word) ∙ sym h.joins
  where
    opposite : (b : Bool) → not b ≡ true → b ≡ false
    opposite false e = refl
    opposite true e = absurd cc

    begins : (bs : List ℕ) → list_all (λ c. not (is_space c)) bs ≡ true → 0 < length bs → (ys : List ℕ) → BeginsWord (bs ++ ys)
    begins [] h some ys = absurd (omega arith)
    begins (b ∷ bs) h some ys = let one = and_parts (not (is_space b)) (list_all (λ c. not (is_space c)) bs) h in opposite (is_space b) one.0

-- ---- columns of printable ASCII

two_sides : (xs ys : List ℕ) → list_all is_printable (xs ++ ys) ≡ true → (list_all is_printable xs ≡ true) × (list_all is_printable ys ≡ true)
two_sides xs ys h = and_parts (list_all is_printable xs) (list_all is_printable ys) (sym (list_all-append is_printable xs ys) ∙ h)

-- what the pieces before another one take, their spaces too
columns_before : (ps : List Piece) (q : Piece) → list_all is_printable (run_text ps) ≡ true → run_columns (ps ++ q ∷ []) ≡ length (run_text ps) + piece_columns q
columns_before [] q h = omega arith
columns_before (p ∷ []) q h =
    let both = two_sides (piece_text p) [] h in
    let body = two_sides (concat p.body) (replicate p.spaces 32) both.0 in
    omega (arith, units_plain p.body body.0, length-append (concat p.body) (replicate p.spaces 32), length-replicate {A = ℕ} p.spaces 32, length-append (piece_text p) [])
columns_before (p ∷ r ∷ ps) q h =
    let both = two_sides (piece_text p) (run_text (r ∷ ps)) h in
    let body = two_sides (concat p.body) (replicate p.spaces 32) both.0 in
    omega (arith, units_plain p.body body.0, length-append (concat p.body) (replicate p.spaces 32), length-replicate {A = ℕ} p.spaces 32, length-append (piece_text p) (run_text (r ∷ ps)), columns_before (r ∷ ps) q both.1)

columns_row : (ps : List Piece) → list_all is_printable (run_text ps) ≡ true → run_columns ps ≡ length (row_text ps)
columns_row [] h = refl
columns_row (p ∷ []) h =
    let both = two_sides (piece_text p) [] h in
    let body = two_sides (concat p.body) (replicate p.spaces 32) both.0 in
    omega (arith, units_plain p.body body.0)
columns_row (p ∷ r ∷ ps) h =
    let both = two_sides (piece_text p) (run_text (r ∷ ps)) h in
    let body = two_sides (concat p.body) (replicate p.spaces 32) both.0 in
    omega (arith, units_plain p.body body.0, length-append (concat p.body) (replicate p.spaces 32), length-replicate {A = ℕ} p.spaces 32, length-append (piece_text p) (row_text (r ∷ ps)), columns_row (r ∷ ps) both.1)

-- ---- the first piece of what does not fit

first_wide : (cols : ℕ) (ws more : List ℕ) (p : Piece) (ps : List Piece) → IsOnePart ws → length ws ≤ cols → pieces cols (ws ++ more) ≡ p ∷ ps → length ws ≤ piece_columns p
first_wide cols [] more p ps h few e = omega arith
first_wide cols (w ∷ ws) more p ps h few e =
    let cs : List ℕ = w ∷ ws in
    let grows : BeginsAsWide (pieces cols cs) (pieces cols (cs ++ more)) = first_grows cols cs more (omega arith) in
    let there : BeginsAsWide (record { body = units cs; spaces = 0 } ∷ []) (p ∷ ps) = rw (one_piece cols cs h (omega arith) few, e) at grows in
    omega (arith, printable_units cs h.printable, there)

-- ---- the row

not_fits : (cols : ℕ) (ps : List Piece) (q : Piece) → 0 < length ps → cols < run_columns (ps ++ q ∷ []) → fits_row cols (ps ++ q ∷ []) ≡ false
not_fits cols ps q some wide = elim (cases_Bool (fits_row cols (ps ++ q ∷ []))) [
  | inl t ↦ elim (or_cases (nat_le (length (ps ++ q ∷ [])) 1) (nat_le (run_columns (ps ++ q ∷ [])) cols) t) [
    | inl e ↦ let few = leb-true (length (ps ++ q ∷ [])) 1 e in absurd (omega (arith, length-append ps (q ∷ [])))
    | inr e ↦ let few = leb-true (run_columns (ps ++ q ∷ [])) cols e in absurd (omega arith)
  ]
  | inr e ↦ e
]

full_by : (cols : ℕ) (run : List Piece) (zs : List ℕ) → ((p : Piece) (ps : List Piece) → pieces cols zs ≡ p ∷ ps → fits_row cols (run ++ p ∷ []) ≡ false) → (qs : List Piece) → pieces cols zs ≡ qs → IsFull (fits_row cols) run qs
full_by cols run zs h [] e = tt
full_by cols run zs h (q ∷ qs) e = h q qs e

-- a text ends a row, and the spaces behind it too; the pieces of what follows are those of a line of its own, and the
-- first of them does not fit
pub cut_row : (cols n : ℕ) (vs : List ℕ) (c : ℕ) (ws more : List ℕ) → is_space c ≡ false → list_all is_printable ((vs ++ c ∷ []) ++ replicate n 32) ≡ true → list_all is_printable (ws ++ more) ≡ true
    → length vs + 1 ≤ cols → 0 < length (ws ++ more) → IsOnePart ws → length ws ≤ cols → cols < (length vs + 1 + n) + length ws
    → (let us : List ℕ = (vs ++ c ∷ []) ++ replicate n 32 in pieces cols (us ++ (ws ++ more)) ≡ pieces cols us ++ pieces cols (ws ++ more)
    → line_places cols (us ++ (ws ++ more)) ≡ record { start = 0; end = length vs + 1 } ∷ map (moved (length vs + 1 + n)) (line_places cols (ws ++ more)))
cut_row cols n vs c ws more e printable seen fits left solid few wide all =
    let us : List ℕ = (vs ++ c ∷ []) ++ replicate n 32 in
    let zs : List ℕ = ws ++ more in
    let size : length us ≡ length vs + 1 + n = omega (arith, length-append (vs ++ c ∷ []) (replicate n 32), length-append vs (c ∷ []), length-replicate {A = ℕ} n 32) in
    let run : List Piece = pieces cols us in
    let text : run_text run ≡ us = pieces_join_lem cols us in
    let row : row_text run ≡ vs ++ c ∷ [] = row_trimmed cols n vs c e in
    let row_size : length (row_text run) ≡ length vs + 1 = omega (arith, ap length row, length-append vs (c ∷ [])) in
    let many : 0 < length run = some_pieces run us text (omega (arith, size)) in
    let ok : list_all is_printable (run_text run) ≡ true = rw text printable in
    let columns : run_columns run ≡ length (row_text run) = columns_row run ok in
    let fitting : fits_row cols run ≡ true = or_right (nat_le (length run) 1) (nat_le (run_columns run) cols) (le-leb (run_columns run) cols (omega arith)) in
    let full : IsFull (fits_row cols) run (pieces cols zs) = full_by cols run zs (λ p ps f. not_fits cols run p many (omega (arith, columns_before run p ok, ap length text, size, first_wide cols ws more p ps solid few f))) (pieces cols zs) refl in
    let is : IsRun (fits_row cols) run (pieces cols zs) = record { some = many; fitting = fitting; full = full } in
    let runs : run ∷ (the_rows cols (pieces cols zs)).runs ≡ (the_rows cols (pieces cols (us ++ zs))).runs =
    (the_rows cols (pieces cols (us ++ zs))).only (run ∷ (the_rows cols (pieces cols zs)).runs) (pieces cols zs, all, is, (the_rows cols (pieces cols zs)).are) in
    let ascii_all : IsAscii (us ++ zs) = printable_ascii (us ++ zs) (list_all-append is_printable us zs ∙ rw (printable, seen) refl) in
    let ascii_z : IsAscii zs = printable_ascii zs seen in
    let ascii_u : IsAscii us = printable_ascii us printable in
    let ascii_r : IsAscii (vs ++ c ∷ []) = printable_ascii (vs ++ c ∷ []) ((two_sides (vs ++ c ∷ []) (replicate n 32) printable).0) in
    let same : chars (us ++ zs) ≡ us ++ zs = chars-IsAscii (us ++ zs) ascii_all in
    let same_z : chars zs ≡ zs = chars-IsAscii zs ascii_z in
    let here : line_places cols (us ++ zs) ≡ places 0 (run ∷ (the_rows cols (pieces cols zs)).runs) =
    places_of_some cols (us ++ zs) (omega (arith, ap length same, length-append us zs, size)) ∙ ap (λ cs. places 0 (the_rows cols (pieces cols cs)).runs) same ∙ ap (places 0) (sym runs) in
    let there : line_places cols zs ≡ places 0 (the_rows cols (pieces cols zs)).runs =
    places_of_some cols zs (omega (arith, ap length same_z)) ∙ ap (λ cs. places 0 (the_rows cols (pieces cols cs)).runs) same_z in
    let end : 0 + length (encode_utf8_all (row_text run)) ≡ length vs + 1 = omega (arith, ap (λ xs. length (encode_utf8_all xs)) row, ap length (encodes-IsAscii (vs ++ c ∷ []) ascii_r), length-append vs (c ∷ [])) in
    let next : 0 + length (encode_utf8_all (run_text run)) ≡ (length vs + 1 + n) + 0 = omega (arith, ap (λ xs. length (encode_utf8_all xs)) text, ap length (encodes-IsAscii us ascii_u), size) in
    here
    ∙ ap (λ (k : ℕ). let s : Span = record { start = 0; end = k } in s ∷ places (0 + length (encode_utf8_all (run_text run))) (the_rows cols (pieces cols zs)).runs) end
    ∙ ap (λ (k : ℕ). let s : Span = record { start = 0; end = length vs + 1 } in s ∷ places k (the_rows cols (pieces cols zs)).runs) next
    ∙ ap (λ ss. let s : Span = record { start = 0; end = length vs + 1 } in s ∷ ss) (places_moved (length vs + 1 + n) 0 (the_rows cols (pieces cols zs)).runs ∙ ap (map (moved (length vs + 1 + n))) (sym there))

-- ---- the last row

only_row : (cols n : ℕ) (us row : List ℕ) → list_all is_printable us ≡ true → 0 < length us → list_all is_printable row ≡ true → row_text (pieces cols us) ≡ row → length row ≤ cols → line_places cols us ≡ record { start = 0; end = length row } ∷ []
only_row cols n us row printable some seen e fits =
    let run : List Piece = pieces cols us in
    let text : run_text run ≡ us = pieces_join_lem cols us in
    let columns : run_columns run ≡ length (row_text run) = columns_row run (rw text printable) in
    let runs : run ∷ [] ≡ (the_rows cols run).runs = one_run cols run (some_pieces run us text some) (omega (arith, columns, ap length e, fits)) in
    let same : chars us ≡ us = chars-IsAscii us (printable_ascii us printable) in
    let end : 0 + length (encode_utf8_all (row_text run)) ≡ length row = omega (arith, ap (λ xs. length (encode_utf8_all xs)) e, ap length (encodes-IsAscii row (printable_ascii row seen))) in
    places_of_some cols us (omega (arith, ap length same, some)) ∙ ap (λ cs. places 0 (the_rows cols (pieces cols cs)).runs) same ∙ ap (places 0) (sym runs)
    ∙ ap (λ (k : ℕ). let s : Span = record { start = 0; end = k } in s ∷ []) end

-- what fits is one row without the spaces that end it
pub last_row : (cols n : ℕ) (vs : List ℕ) (c : ℕ) → is_space c ≡ false → list_all is_printable ((vs ++ c ∷ []) ++ replicate n 32) ≡ true → length vs + 1 ≤ cols
    → line_places cols ((vs ++ c ∷ []) ++ replicate n 32) ≡ record { start = 0; end = length vs + 1 } ∷ []
last_row cols n vs c e printable fits =
    let us : List ℕ = (vs ++ c ∷ []) ++ replicate n 32 in
    let size : length (vs ++ c ∷ []) ≡ length vs + 1 = length-append vs (c ∷ []) in
    only_row cols n us (vs ++ c ∷ []) printable (omega (arith, length-append (vs ++ c ∷ []) (replicate n 32), size)) ((two_sides (vs ++ c ∷ []) (replicate n 32) printable).0) (row_trimmed cols n vs c e) (omega (arith, size, fits))
    ∙ ap (λ (k : ℕ). let s : Span = record { start = 0; end = k } in s ∷ []) size

-- spaces alone are an empty row
pub blank_row : (cols n : ℕ) → line_places cols (replicate n 32) ≡ record { start = 0; end = 0 } ∷ []
blank_row cols zero = empty_row cols [] refl
blank_row cols (suc n) =
    let bodies : flat_map (fronts cols) (parts []) ≡ [] = ap (flat_map (fronts cols)) (cuts-nil (part_len_after false)) in
    let run : pieces cols (replicate (suc n) 32) ≡ record { body = []; spaces = suc n } ∷ [] = one_word cols (suc n) [] refl (omega arith) ∙ ap (λ bs. with_spaces bs (suc n)) bodies in
    only_row cols n (replicate (suc n) 32) [] (all_spaces (suc n)) (omega (arith, length-replicate {A = ℕ} (suc n) 32)) refl (ap row_text run) (omega arith)
  where
    all_spaces : (n : ℕ) → list_all is_printable (replicate n 32) ≡ true
    all_spaces zero = refl
    all_spaces (suc n) = all_spaces n
