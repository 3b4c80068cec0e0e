-- The rows of a line that goes on: those before a row stay where the row's first character stays, with no hyphen that
-- joins it to what stands before, and its first piece takes no fewer columns.
use Rattle.std.proofs.Common.{◌≡◌, ℕ, suc, ◌+◌, ◌<◌, false, eqb, List, [], ◌∷◌, ◌++◌, length, map, take, chars, arith, refl, sym, ap, ◌∙◌}
use Rattle.std.specs.Str.{IsUtf8, encode_utf8_all}
use Rattle.std.proofs.lemmas.Bool.{ne_eqb}
use Rattle.std.proofs.lemmas.List.{length-append, map-append, take_at, length-map}
use Rattle.std.proofs.lemmas.Str.{chars-append, encodes-append, encodes-chars}
use Rattle.minus_text.specs.Pieces.{Piece, pieces, piece_text}
use Rattle.minus_text.specs.RowRuns.{fits_row}
use Rattle.minus_text.specs.Rows.{the_rows, run_text, row_text, line_runs, line_rows, places, line_places}
use Rattle.minus_text.specs.declared.rows.Span.{Span}
use Rattle.minus_text.specs.Kept.{moved}
use Rattle.minus_text.proofs.RestartLaws.{elements, elements_append, runs_elements, BeginsAsWide, rows_stay}
use Rattle.minus_text.proofs.FirstPieceLaws.{IsSound, pieces_from}

-- the rows of a line that is not empty
rows_of_some : (cols : ℕ) (line : List ℕ) → 0 < length (chars line) → line_rows cols line ≡ map (λ run. encode_utf8_all (row_text run)) (line_runs cols line)
unfolding line_rows
rows_of_some cols line some = let other : eqb (length (chars line)) 0 ≡ false = ne_eqb (length (chars line)) 0 (λ z. omega arith) in rw other refl

pub places_of_some : (cols : ℕ) (line : List ℕ) → 0 < length (chars line) → line_places cols line ≡ places 0 (line_runs cols line)
unfolding line_places
places_of_some cols line some = let other : eqb (length (chars line)) 0 ≡ false = ne_eqb (length (chars line)) 0 (λ z. omega arith) in rw other refl

-- places counted from further on
pub places_moved : (n at : ℕ) (runs : List (List Piece)) → places (n + at) runs ≡ map (moved n) (places at runs)
places_moved n at [] = refl
places_moved n at (run ∷ runs) =
    let e : (n + at) + length (encode_utf8_all (row_text run)) ≡ n + (at + length (encode_utf8_all (row_text run))) = omega arith in
    let f : (n + at) + length (encode_utf8_all (run_text run)) ≡ n + (at + length (encode_utf8_all (run_text run))) = omega arith in
    rw (e, f) (ap (λ ss. let s : Span = record { start = n + at; end = n + (at + length (encode_utf8_all (row_text run))) } in s ∷ ss) (places_moved n (at + length (encode_utf8_all (run_text run))) runs))

pub run_bytes : (ps qs : List Piece) → length (encode_utf8_all (run_text (ps ++ qs))) ≡ length (encode_utf8_all (run_text ps)) + length (encode_utf8_all (run_text qs))
run_bytes [] qs = omega arith
run_bytes (p ∷ ps) qs =
    omega (arith, run_bytes ps qs, ap length (encodes-append (piece_text p) (run_text (ps ++ qs))), ap length (encodes-append (piece_text p) (run_text ps)), length-append (encode_utf8_all (piece_text p)) (encode_utf8_all (run_text (ps ++ qs))), length-append (encode_utf8_all (piece_text p)) (encode_utf8_all (run_text ps)))

places_append : (at : ℕ) (before after : List (List Piece)) → places at (before ++ after) ≡ places at before ++ places (at + length (encode_utf8_all (run_text (elements before)))) after
places_append at [] after = let z : at + 0 ≡ at = omega arith in rw z refl
places_append at (run ∷ before) after =
    let bytes : length (encode_utf8_all (run_text (run ++ elements before))) ≡ length (encode_utf8_all (run_text run)) + length (encode_utf8_all (run_text (elements before))) = run_bytes run (elements before) in
    let e : (at + length (encode_utf8_all (run_text run))) + length (encode_utf8_all (run_text (elements before))) ≡ at + length (encode_utf8_all (run_text (run ++ elements before))) = omega arith in
    ap (λ ss. let s : Span = record { start = at; end = at + length (encode_utf8_all (row_text run)) } in s ∷ ss)
    (places_append (at + length (encode_utf8_all (run_text run))) before after ∙ ap (λ k. places (at + length (encode_utf8_all (run_text run))) before ++ places k after) e)

-- a line in two parts, and another text in the place of the second: both go on alike, and the pieces of each are those
-- of a line of its own
pub record GoesOnAs (cols : ℕ) (xs rest others : List ℕ) : Type 0 where
  pub text : IsUtf8 xs
  pub next : ℕ
  pub more : List ℕ
  pub other : List ℕ
  pub rest_is : chars rest ≡ next ∷ more
  pub others_are : chars others ≡ next ∷ other
  pub sound : IsSound (chars xs) next more
  pub other_sound : IsSound (chars xs) next other
  pub as_wide : BeginsAsWide (pieces cols (next ∷ more)) (pieces cols (next ∷ other))

-- the runs of the line that goes on otherwise
line_runs_go_on : (cols : ℕ) (xs rest others : List ℕ) (before after : List (List Piece)) → GoesOnAs cols xs rest others → line_runs cols (xs ++ rest) ≡ before ++ after → run_text (elements before) ≡ chars xs
    → line_runs cols (xs ++ others) ≡ before ++ line_runs cols others
line_runs_go_on cols xs rest others before after h e text =
    let front : List Piece = elements before in
    let back : List Piece = elements after in
    let old : List ℕ = h.next ∷ h.more in
    let new : List ℕ = h.next ∷ h.other in
    let old_is : chars (xs ++ rest) ≡ run_text front ++ old = chars-append xs rest h.text ∙ ap (λ cs. chars xs ++ cs) h.rest_is ∙ ap (λ cs. cs ++ old) (sym text) in
    let new_is : chars (xs ++ others) ≡ run_text front ++ new = chars-append xs others h.text ∙ ap (λ cs. chars xs ++ cs) h.others_are ∙ ap (λ cs. cs ++ new) (sym text) in
    let all : pieces cols (run_text front ++ old) ≡ front ++ back =
    ap (pieces cols) (sym old_is) ∙ runs_elements (fits_row cols) (pieces cols (chars (xs ++ rest))) (line_runs cols (xs ++ rest)) (the_rows cols (pieces cols (chars (xs ++ rest)))).are ∙ ap elements e ∙ elements_append before after in
    let here : pieces cols (run_text front ++ old) ≡ front ++ pieces cols old = pieces_from cols front back h.next h.more h.more all (rw (← text) at h.sound) in
    let there : pieces cols (run_text front ++ new) ≡ front ++ pieces cols new = pieces_from cols front back h.next h.more h.other all (rw (← text) at h.other_sound) in
    let was : (the_rows cols (front ++ pieces cols old)).runs ≡ before ++ after = ap (λ ps. (the_rows cols ps).runs) (sym here ∙ ap (pieces cols) (sym old_is)) ∙ e in
    ap (λ cs. (the_rows cols (pieces cols cs)).runs) new_is ∙ ap (λ ps. (the_rows cols ps).runs) there ∙ rows_stay cols before after (pieces cols old) (pieces cols new) was h.as_wide
    ∙ ap (λ cs. before ++ (the_rows cols (pieces cols cs)).runs) (sym h.others_are)

some_other : (cols : ℕ) (xs rest others : List ℕ) → GoesOnAs cols xs rest others → (0 < length (chars (xs ++ rest))) × (0 < length (chars (xs ++ others))) × (0 < length (chars others))
some_other cols xs rest others h = (
  omega (arith, ap length (chars-append xs rest h.text), length-append (chars xs) (chars rest), ap length h.rest_is),
  omega (arith, ap length (chars-append xs others h.text), length-append (chars xs) (chars others), ap length h.others_are),
  omega (arith, ap length h.others_are),
)

-- its rows: those before the place, and those of what follows it alone
pub line_rows_go_on : (cols : ℕ) (xs rest others : List ℕ) (before after : List (List Piece)) → GoesOnAs cols xs rest others → line_runs cols (xs ++ rest) ≡ before ++ after → run_text (elements before) ≡ chars xs
    → line_rows cols (xs ++ others) ≡ take (length before) (line_rows cols (xs ++ rest)) ++ line_rows cols others
line_rows_go_on cols xs rest others before after h e text =
    let some = some_other cols xs rest others h in
    let f : List Piece → List ℕ = λ run. encode_utf8_all (row_text run) in
    let new : line_rows cols (xs ++ others) ≡ map f before ++ line_rows cols others =
    rows_of_some cols (xs ++ others) some.1 ∙ ap (map f) (line_runs_go_on cols xs rest others before after h e text) ∙ map-append f before (line_runs cols others) ∙ ap (λ rs. map f before ++ rs) (sym (rows_of_some cols others some.2)) in
    let old : take (length before) (line_rows cols (xs ++ rest)) ≡ map f before =
    ap (take (length before)) (rows_of_some cols (xs ++ rest) some.0 ∙ ap (map f) e ∙ map-append f before after) ∙ take_at (map f before) (map f after) (length before) (length-map before f) in
    new ∙ ap (λ rs. rs ++ line_rows cols others) (sym old)

-- and their places: the first ones stay, and the others are counted from the place on
pub line_places_go_on : (cols : ℕ) (xs rest others : List ℕ) (before after : List (List Piece)) → GoesOnAs cols xs rest others → line_runs cols (xs ++ rest) ≡ before ++ after → run_text (elements before) ≡ chars xs
    → line_places cols (xs ++ others) ≡ take (length before) (line_places cols (xs ++ rest)) ++ map (moved (length xs)) (line_places cols others)
line_places_go_on cols xs rest others before after h e text =
    let some = some_other cols xs rest others h in
    let bytes : 0 + length (encode_utf8_all (run_text (elements before))) ≡ length xs + 0 = omega (arith, ap (λ cs. length (encode_utf8_all cs)) text, ap length (encodes-chars xs h.text)) in
    let new : line_places cols (xs ++ others) ≡ places 0 before ++ map (moved (length xs)) (line_places cols others) =
    places_of_some cols (xs ++ others) some.1 ∙ ap (places 0) (line_runs_go_on cols xs rest others before after h e text) ∙ places_append 0 before (line_runs cols others)
    ∙ ap (λ k. places 0 before ++ places k (line_runs cols others)) bytes ∙ ap (λ ss. places 0 before ++ ss) (places_moved (length xs) 0 (line_runs cols others) ∙ ap (map (moved (length xs))) (sym (places_of_some cols others some.2))) in
    let old : take (length before) (line_places cols (xs ++ rest)) ≡ places 0 before =
    ap (take (length before)) (places_of_some cols (xs ++ rest) some.0 ∙ ap (places 0) e ∙ places_append 0 before after) ∙ take_at (places 0 before) (places (0 + length (encode_utf8_all (run_text (elements before)))) after) (length before) (places_count 0 before) in
    new ∙ ap (λ ss. ss ++ map (moved (length xs)) (line_places cols others)) (sym old)
  where
    places_count : (at : ℕ) (runs : List (List Piece)) → length (places at runs) ≡ length runs
    places_count at [] = refl
    places_count at (run ∷ runs) = ap suc (places_count (at + length (encode_utf8_all (run_text run))) runs)
