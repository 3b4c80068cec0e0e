-- Laws on the rows of a line and their places.
use Rattle.std.proofs.Common.{◌≡◌, ℕ, zero, suc, ◌+◌, ◌-◌, ◌≤◌, ◌<◌, ◌||◌, true, false, eqb, nat_le, List, [], ◌∷◌, ◌++◌, length, map, take, get_or, replicate, chars, ◌≢◌, arith, refl, sym, ap, ◌∙◌, append_assoc, inl, inr}
use Rattle.std.specs.List.{sum_by, flat_map}
use Rattle.std.specs.Str.{encode_utf8_all, all_scalars, IsUtf8, IsCharBoundary}
use Rattle.std.proofs.lemmas.Bool.{cases_Bool, leb-true, le-leb, or_cases, or_left, or_right, and_parts, ne_eqb, eq-eqb, eqb-true, eqb-false}
use Rattle.std.proofs.lemmas.List.{append-nil, length-append, length-map, take_more, take_at, drop_at, nil_from_length, map-append}
use Rattle.std.proofs.lemmas.List.Concat.{flat_map-append}
use Rattle.std.proofs.lemmas.Str.{encodes-append, encodes-chars, scalars-chars, IsCharBoundary-at_seam, IsCharBoundary-start, IsUtf8-nil, chars-nil}
use Rattle.minus_text.specs.Runs.{IsRun, IsFull, AreRuns, IsFitRule}
use Rattle.minus_text.specs.RunsLaws.{same_runs}
use Rattle.minus_text.specs.Pieces.{Piece, pieces, piece_text, piece_columns}
use Rattle.minus_text.specs.RowRuns.{run_columns, fits_row}
use Rattle.minus_text.specs.Rows.{the_rows, run_text, row_text, line_runs, line_rows, places, line_places, IsPlace, ArePlaces}
use Rattle.minus_text.specs.declared.rows.Span.{Span}
use Rattle.minus_text.specs.declared.pieces.Measured.{Measured}
use Rattle.minus_text.specs.MeasuredPieces.{measure, size, measured_columns, fits_measured, end_of, measured_places}
use Rattle.minus_text.proofs.WordsLaws.{some_chars}
use Rattle.minus_text.proofs.PiecesLaws.{pieces_join_lem, pieces_size, piece_size}

-- ---- what is measured is what is meant

columns_measured : (run : List Piece) → measured_columns (map measure run) ≡ run_columns run
columns_measured [] = refl
columns_measured (p ∷ []) = refl
columns_measured (p ∷ q ∷ ps) = ap (λ n. (piece_columns p + p.spaces) + n) (columns_measured (q ∷ ps))

fits_same : (cols : ℕ) (run : List Piece) → fits_measured cols (map measure run) ≡ fits_row cols run
fits_same cols run = ap (λ n. nat_le n 1 || nat_le (measured_columns (map measure run)) cols) (length-map run measure) ∙ ap (λ n. nat_le (length run) 1 || nat_le n cols) (columns_measured run)

run_measured : (cols : ℕ) (run rest : List Piece) → IsRun (fits_row cols) run rest → IsRun (fits_measured cols) (map measure run) (map measure rest)
run_measured cols run rest h = record { some = let l = length-map run measure in let s : 0 < length run = h.some in omega arith; fitting = fits_same cols run ∙ h.fitting; full = full_measured rest h.full }
  where
    full_measured : (rest : List Piece) → IsFull (fits_row cols) run rest → IsFull (fits_measured cols) (map measure run) (map measure rest)
    full_measured [] f = tt
    full_measured (p ∷ ps) f = ap (fits_measured cols) (sym (map-append measure run (p ∷ []))) ∙ fits_same cols (run ++ p ∷ []) ∙ f

runs_measured : (cols : ℕ) (ps : List Piece) (runs : List (List Piece)) → AreRuns (fits_row cols) ps runs → AreRuns (fits_measured cols) (map measure ps) (map (map measure) runs)
runs_measured cols ps [] h = ap (map measure) h
runs_measured cols ps (run ∷ runs) h = (map measure h.0, ap (map measure) h.1 ∙ map-append measure run h.0, run_measured cols run h.0 h.2, runs_measured cols h.0 runs h.3)

measured_front : (ps qs : List Measured) → measured_columns ps ≤ measured_columns (ps ++ qs)
measured_front [] qs = omega arith
measured_front (a ∷ []) [] = omega arith
measured_front (a ∷ []) (q ∷ qs) = omega arith
measured_front (a ∷ b ∷ ps) qs = omega (arith, measured_front (b ∷ ps) qs)

measured_rule : (cols : ℕ) → IsFitRule (fits_measured cols)
measured_rule cols = record {
  one = λ p. or_left (nat_le (length (p ∷ [])) 1) (nat_le (measured_columns (p ∷ [])) cols) (le-leb (length (p ∷ [])) 1 (omega arith));
  front = λ ps qs h. elim (or_cases (nat_le (length (ps ++ qs)) 1) (nat_le (measured_columns (ps ++ qs)) cols) h) [
    | inl e ↦
        let l = leb-true (length (ps ++ qs)) 1 e in
        or_left (nat_le (length ps) 1) (nat_le (measured_columns ps) cols) (le-leb (length ps) 1 (omega (arith, length-append ps qs)))
    | inr e ↦
        let l = leb-true (measured_columns (ps ++ qs)) cols e in
        or_right (nat_le (length ps) 1) (nat_le (measured_columns ps) cols) (le-leb (measured_columns ps) cols (omega (arith, measured_front ps qs)))
  ];
}

end_measured : (at : ℕ) (run : List Piece) → end_of at (map measure run) ≡ at + length (encode_utf8_all (row_text run))
end_measured at [] = omega arith
end_measured at (p ∷ []) = refl
end_measured at (p ∷ q ∷ ps) =
    let ih = end_measured (at + size (measure p)) (q ∷ ps) in
    let one = piece_size p in
    omega (arith, ih, one, ap length (encodes-append (piece_text p) (row_text (q ∷ ps))), length-append (encode_utf8_all (piece_text p)) (encode_utf8_all (row_text (q ∷ ps))))

places_measured : (at : ℕ) (runs : List (List Piece)) → measured_places at (map (map measure) runs) ≡ places at runs
places_measured at [] = refl
places_measured at (run ∷ runs) =
    let end = end_measured at run in
    let next : at + sum_by size (map measure run) ≡ at + length (encode_utf8_all (run_text run)) = ap (λ n. at + n) (pieces_size run) in
    ap (λ (x : ℕ). let s : Span = record { start = at; end = x } in s ∷ measured_places (at + sum_by size (map measure run)) (map (map measure) runs)) end
    ∙ ap (λ (x : ℕ). let s : Span = record { start = at; end = at + length (encode_utf8_all (row_text run)) } in s ∷ measured_places x (map (map measure) runs)) next
    ∙ ap (λ ss. let s : Span = record { start = at; end = at + length (encode_utf8_all (row_text run)) } in s ∷ ss) (places_measured (at + length (encode_utf8_all (run_text run))) runs)

-- the rows that are fitted are those of the line
pub fitted : (cols : ℕ) (line : List ℕ) (items : List Measured) (rows : List Span) → IsUtf8 line → 0 < length line → items ≡ map measure (pieces cols (chars line))
    → (runs : List (List Measured)) → AreRuns (fits_measured cols) items runs → rows ≡ measured_places 0 runs → rows ≡ line_places cols line
unfolding line_places
fitted cols line items rows u some e runs h f =
    let ps : List Piece = pieces cols (chars line) in
    let are : AreRuns (fits_measured cols) (map measure ps) runs = rw e at h in
    let same : runs ≡ map (map measure) (line_runs cols line) = same_runs (fits_measured cols) (measured_rule cols) (map measure ps) runs (map (map measure) (line_runs cols line)) are (runs_measured cols ps (line_runs cols line) (the_rows cols ps).are) in
    let many : 0 < length (chars line) = some_chars line u some in
    let other : eqb (length (chars line)) 0 ≡ false = ne_eqb (length (chars line)) 0 (λ z. omega arith) in
    rw other (f ∙ ap (measured_places 0) same ∙ places_measured 0 (line_runs cols line))

-- the bytes of all pieces are those of the line
pub line_size : (cols : ℕ) (line : List ℕ) (items : List Measured) → IsUtf8 line → items ≡ map measure (pieces cols (chars line)) → sum_by size items ≡ length line
line_size cols line items u e =
    ap (sum_by size) e ∙ pieces_size (pieces cols (chars line)) ∙ ap (λ cs. length (encode_utf8_all cs)) (pieces_join_lem cols (chars line)) ∙ ap length (encodes-chars line u)

pub empty_places : (cols : ℕ) (line : List ℕ) (rows : List Span) → length line ≡ 0 → rows ≡ record { start = 0; end = 0 } ∷ [] → rows ≡ line_places cols line
unfolding line_places
empty_places cols line rows e f =
    let none : chars line ≡ [] = ap chars (nil_from_length line e) ∙ chars-nil in
    let t : eqb (length (chars line)) 0 ≡ true = eq-eqb (length (chars line)) 0 (ap length none) in
    rw t f

-- ---- the places cut out the rows

scalars_parts : (xs ys : List ℕ) → all_scalars (xs ++ ys) ≡ true → (all_scalars xs ≡ true) × (all_scalars ys ≡ true)
scalars_parts [] ys h = (refl, h)
scalars_parts (x ∷ xs) ys h =
    let one = and_parts _ (all_scalars (xs ++ ys)) h in
    let both = scalars_parts xs ys one.1 in
    (rw (one.0) (both.0), both.1)

-- a row's text goes on to its run with the last spaces
row_goes_on : (run : List Piece) → (more : List ℕ) × (run_text run ≡ row_text run ++ more)
row_goes_on [] = ([], refl)
row_goes_on (p ∷ []) = (replicate p.spaces 32, append-nil (piece_text p))
row_goes_on (p ∷ q ∷ ps) = let h = row_goes_on (q ∷ ps) in (h.0, ap (λ xs. piece_text p ++ xs) h.1 ∙ sym (append_assoc (piece_text p) (row_text (q ∷ ps)) h.0))

-- a stretch of characters between others
place_between : (line before row after : List ℕ) → all_scalars (before ++ (row ++ after)) ≡ true → line ≡ encode_utf8_all (before ++ (row ++ after))
    → IsPlace line (record { start = length (encode_utf8_all before); end = length (encode_utf8_all before) + length (encode_utf8_all row) }) (encode_utf8_all row)
place_between line before row after s e =
    let b : List ℕ = encode_utf8_all before in
    let r : List ℕ = encode_utf8_all row in
    let a : List ℕ = encode_utf8_all after in
    let rest = scalars_parts before (row ++ after) s in
    let last = scalars_parts row after rest.1 in
    let all : line ≡ b ++ (r ++ a) = e ∙ encodes-append before (row ++ after) ∙ ap (λ xs. b ++ xs) (encodes-append row after) in
    let seam : line ≡ b ++ encode_utf8_all (row ++ after) = e ∙ encodes-append before (row ++ after) in
    let seam2 : line ≡ (b ++ r) ++ a = all ∙ sym (append_assoc b r a) in
    let size2 : length (b ++ r) ≡ length b + length r = length-append b r in
    let end : IsCharBoundary line (length (b ++ r)) = IsCharBoundary-at_seam line (b ++ r) a seam2 (after, (last.1, refl)) in
    let n : (length b + length r) - length b ≡ length r = omega arith in
    record {
      ordered = omega arith;
      start = IsCharBoundary-at_seam line b (encode_utf8_all (row ++ after)) seam (row ++ after, (rest.1, refl));
      end = rw size2 at end;
      value = rw (n, all) (ap (take (length r)) (drop_at b (r ++ a) (length b) refl) ∙ take_at r a (length r) refl);
    }

places_are : (line before : List ℕ) (runs : List (List Piece)) → all_scalars (before ++ flat_map run_text runs) ≡ true → line ≡ encode_utf8_all (before ++ flat_map run_text runs)
    → ArePlaces line (places (length (encode_utf8_all before)) runs) (map (λ run. encode_utf8_all (row_text run)) runs)
places_are line before [] s e = tt
places_are line before (run ∷ runs) s e =
    let on = row_goes_on run in
    let rest : List ℕ = flat_map run_text runs in
    let split : run_text run ++ rest ≡ row_text run ++ (on.0 ++ rest) = ap (λ xs. xs ++ rest) on.1 ∙ append_assoc (row_text run) on.0 rest in
    let here = place_between line before (row_text run) (on.0 ++ rest) (rw split at s) (rw split at e) in
    let s2 : all_scalars ((before ++ run_text run) ++ rest) ≡ true = rw (append_assoc before (run_text run) rest) s in
    let e2 : line ≡ encode_utf8_all ((before ++ run_text run) ++ rest) = rw (append_assoc before (run_text run) rest) e in
    let next : length (encode_utf8_all (before ++ run_text run)) ≡ length (encode_utf8_all before) + length (encode_utf8_all (run_text run)) =
    ap length (encodes-append before (run_text run)) ∙ length-append (encode_utf8_all before) (encode_utf8_all (run_text run)) in
    (here, rw next at (places_are line (before ++ run_text run) runs s2 e2))

-- runs, one after another, are the pieces
pub runs_text : (cols : ℕ) (ps : List Piece) (runs : List (List Piece)) → AreRuns (fits_row cols) ps runs → flat_map run_text runs ≡ run_text ps
runs_text cols ps [] h = sym (ap run_text h)
runs_text cols ps (run ∷ runs) h = ap (λ xs. run_text run ++ xs) (runs_text cols h.0 runs h.3) ∙ sym (flat_map-append piece_text run h.0) ∙ sym (ap run_text h.1)

line_text : (cols : ℕ) (line : List ℕ) → flat_map run_text (line_runs cols line) ≡ chars line
line_text cols line = runs_text cols (pieces cols (chars line)) (line_runs cols line) (the_rows cols (pieces cols (chars line))).are ∙ pieces_join_lem cols (chars line)

-- the places cut out the rows
pub line_places-are : (cols : ℕ) (line : List ℕ) → IsUtf8 line → ArePlaces line (line_places cols line) (line_rows cols line)
unfolding line_places line_rows
line_places-are cols line u = elim (cases_Bool (eqb (length (chars line)) 0)) [
  | inl e ↦ let none : line ≡ [] = sym (encodes-chars line u) ∙ ap encode_utf8_all (nil_from_length (chars line) (eqb-true (length (chars line)) 0 e)) in rw e (rw none (record { ordered = omega arith; start = IsCharBoundary-start [] IsUtf8-nil; end = IsCharBoundary-start [] IsUtf8-nil; value = refl }, tt))
  | inr e ↦
      let text = line_text cols line in
      rw e (places_are line [] (line_runs cols line) (rw text (scalars-chars line u)) (rw text (sym (encodes-chars line u))))
]

some_of : (xs : List (List Piece)) (cs : List ℕ) → flat_map run_text xs ≡ cs → 0 < length cs → 0 < length xs
some_of [] cs e l = let z : 0 ≡ length cs = ap length e in absurd (omega arith)
some_of (x ∷ xs) cs e l = omega arith

-- a line has a row at least
pub line_rows-some : (cols : ℕ) (line : List ℕ) → 0 < length (line_rows cols line)
unfolding line_rows
line_rows-some cols line = elim (cases_Bool (eqb (length (chars line)) 0)) [
  | inl e ↦ rw e (omega arith)
  | inr e ↦
      let other : length (chars line) ≢ 0 = eqb-false (length (chars line)) 0 e in
      let some : 0 < length (line_runs cols line) = some_of (line_runs cols line) (chars line) (line_text cols line) (omega arith) in
      rw e (omega (arith, length-map (line_runs cols line) (λ run. encode_utf8_all (row_text run))))
]

-- each place cuts out its row
pub places_count : (text : List ℕ) (ss : List Span) (rs : List (List ℕ)) → ArePlaces text ss rs → length ss ≡ length rs
places_count text [] [] h = refl
places_count text [] (r ∷ rs) h = absurd h
places_count text (s ∷ ss) [] h = absurd h
places_count text (s ∷ ss) (r ∷ rs) h = ap suc (places_count text ss rs h.1)

pub place_at : (text : List ℕ) (ss : List Span) (rs : List (List ℕ)) (i : ℕ) (d : Span) (e : List ℕ) → ArePlaces text ss rs → i < length ss → IsPlace text (get_or ss i d) (get_or rs i e)
place_at text [] rs i d e h l = absurd (omega arith)
place_at text (s ∷ ss) [] i d e h l = absurd h
place_at text (s ∷ ss) (r ∷ rs) zero d e h l = h.0
place_at text (s ∷ ss) (r ∷ rs) (suc i) d e h l = place_at text ss rs i d e h.1 (omega arith)

-- one more row is formed
pub row_formed : {X : Type 0} (f : X → List ℕ) (xs news : List X) (x : X) (rs : List (List ℕ)) (i : ℕ) → map f xs ≡ take i rs → i < length rs → f x ≡ get_or rs i [] → news ≡ xs ++ x ∷ [] → map f news ≡ take (i + 1) rs
row_formed f xs news x rs i h l e g = ap (map f) g ∙ map-append f xs (x ∷ []) ∙ ap (λ ys. ys ++ f x ∷ []) h ∙ ap (λ y. take i rs ++ y ∷ []) e ∙ sym (take_more rs i [] l)
