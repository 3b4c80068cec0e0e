-- The pieces of a line, one after another, are the line.
use Rattle.std.proofs.Common.{◌≡◌, ℕ, zero, suc, ◌+◌, ◌-◌, ◌≤◌, ◌<◌, Bool, false, List, [], ◌∷◌, ◌++◌, length, map, take, drop, replicate, arith, refl, sym, ap, ◌∙◌, append_assoc}
use Rattle.std.specs.List.{concat, sum_by, flat_map, prefix_len}
use Rattle.std.specs.Str.{encode_utf8_all}
use Rattle.std.proofs.lemmas.List.{append-nil, length-append, take-append-drop, length-replicate, length-take, length-drop, length-take-le, take-take}
use Rattle.std.proofs.lemmas.List.Concat.{flat_map-append}
use Rattle.std.proofs.lemmas.List.Folds.{length-prefix_len}
use Rattle.std.proofs.lemmas.List.Sums.{sum_by-cons}
use Rattle.std.proofs.lemmas.Str.{encodes-append}
use Rattle.std.proofs.Math.Seq.{take-add}
use Rattle.minus_text.specs.Cuts.{cuts, cuts_up_to}
use Rattle.minus_text.specs.Units.{units}
use Rattle.minus_text.specs.Runs.{AreRuns}
use Rattle.minus_text.specs.TheRuns.{the_runs}
use Rattle.minus_text.specs.Fronts.{fits_front, front_rule}
use Rattle.minus_text.specs.Pieces.{Piece, is_space, body_len, word_len, fronts, with_spaces, word_pieces, pieces, piece_text}
use Rattle.minus_text.specs.Hyphens.{part_len_after, parts}
use Rattle.minus_text.specs.Rows.{run_text, PiecesJoin}
use Rattle.minus_text.specs.MeasuredPieces.{measure, size}
use Rattle.minus_text.proofs.CutsLaws.{cuts_join}
use Rattle.minus_text.proofs.UnitsLaws.{units_join}
use Rattle.minus_text.proofs.FrontsLaws.{concat-append}
use Rattle.minus_text.proofs.WordsLaws.{part_rule, word_rule, prefix_len-take, take_spaces, spaces_encode}

-- runs of units, one after another, are the text of the units
pub runs_join : (fits : List (List ℕ) → Bool) (us : List (List ℕ)) (runs : List (List (List ℕ))) → AreRuns fits us runs → flat_map concat runs ≡ concat us
runs_join fits us [] h = sym (ap concat h)
runs_join fits us (run ∷ runs) h = ap (λ xs. concat run ++ xs) (runs_join fits h.0 runs h.3) ∙ sym (concat-append run h.0) ∙ sym (ap concat h.1)

fronts_join : (cols : ℕ) (part : List ℕ) → flat_map concat (fronts cols part) ≡ part
fronts_join cols part = runs_join (fits_front cols) (units part) (fronts cols part) (the_runs (fits_front cols) (front_rule cols) (units part)).are ∙ units_join part

all_fronts_join : (cols : ℕ) (ps : List (List ℕ)) → flat_map concat (flat_map (fronts cols) ps) ≡ concat ps
all_fronts_join cols [] = refl
all_fronts_join cols (p ∷ ps) = flat_map-append concat (fronts cols p) (flat_map (fronts cols) ps) ∙ ap (λ xs. xs ++ flat_map concat (flat_map (fronts cols) ps)) (fronts_join cols p) ∙ ap (λ xs. p ++ xs) (all_fronts_join cols ps)

spaces_text : (bs : List (List (List ℕ))) (n : ℕ) → flat_map piece_text (with_spaces bs n) ≡ flat_map concat bs ++ replicate n 32
spaces_text [] n = append-nil (replicate n 32)
spaces_text (b ∷ []) n = append-nil (concat b ++ replicate n 32) ∙ ap (λ xs. xs ++ replicate n 32) (sym (append-nil (concat b)))
spaces_text (b ∷ c ∷ bs) n = ap (λ xs. xs ++ flat_map piece_text (with_spaces (c ∷ bs) n)) (append-nil (concat b)) ∙ ap (λ xs. concat b ++ xs) (spaces_text (c ∷ bs) n) ∙ sym (append_assoc (concat b) (flat_map concat (c ∷ bs)) (replicate n 32))

-- the text of a word's pieces
word_text : (cols : ℕ) (w : List ℕ) → flat_map piece_text (word_pieces cols w) ≡ take (body_len w) w ++ replicate (length w - body_len w) 32
word_text cols w =
    let b : List ℕ = take (body_len w) w in
    spaces_text (flat_map (fronts cols) (parts b)) (length w - body_len w)
    ∙ ap (λ xs. xs ++ replicate (length w - body_len w) 32) (all_fronts_join cols (parts b) ∙ cuts_join (part_len_after false) part_rule b)

prefix_len-le : (p : ℕ → Bool) (xs : List ℕ) → prefix_len p xs ≤ length xs
prefix_len-le p xs = omega (arith, length-prefix_len p xs, length-take (prefix_len p xs) xs)

-- a word is its body and its spaces
pub word_is : (cs : List ℕ) → (let w : List ℕ = take (word_len cs) cs in take (body_len w) w ++ replicate (length w - body_len w) 32 ≡ w)
word_is cs =
    let n : ℕ = body_len cs in
    let m : ℕ = prefix_len is_space (drop n cs) in
    let w : List ℕ = take (n + m) cs in
    let split : w ≡ take n cs ++ take m (drop n cs) = take-add n m cs in
    let inside : body_len w ≡ n = prefix_len-take _ cs (n + m) (omega arith) in
    let l1 : n ≤ length cs = prefix_len-le _ cs in
    let l2 : m ≤ length (drop n cs) = prefix_len-le is_space (drop n cs) in
    let a : length (take n cs) ≡ n = length-take-le n cs l1 in
    let b : length (take m (drop n cs)) ≡ m = length-take-le m (drop n cs) l2 in
    let len : length w ≡ n + m = omega (arith, ap length split, length-append (take n cs) (take m (drop n cs))) in
    let spaces : length w - body_len w ≡ m = omega arith in
    let front : take n w ≡ take n cs = take-take n (n + m) cs (omega arith) in
    ap (λ k. take k w ++ replicate (length w - body_len w) 32) inside ∙ ap (λ k. take n w ++ replicate k 32) spaces ∙ ap (λ xs. xs ++ replicate m 32) front
    ∙ ap (λ xs. take n cs ++ xs) (sym (take_spaces (drop n cs))) ∙ sym split

words_join : (cols n : ℕ) (cs : List ℕ) → length cs ≤ n → flat_map piece_text (flat_map (word_pieces cols) (cuts_up_to n word_len cs)) ≡ cs
words_join cols zero [] l = refl
words_join cols zero (c ∷ cs) l = absurd (omega arith)
words_join cols (suc n) [] l = refl
words_join cols (suc n) (c ∷ cs) l =
    let whole : List ℕ = c ∷ cs in
    let w : List ℕ = take (word_len whole) whole in
    let some : 0 < word_len whole = word_rule c cs in
    let less = length-drop (word_len whole) whole in
    flat_map-append piece_text (word_pieces cols w) (flat_map (word_pieces cols) (cuts_up_to n word_len (drop (word_len whole) whole)))
    ∙ ap (λ xs. xs ++ flat_map piece_text (flat_map (word_pieces cols) (cuts_up_to n word_len (drop (word_len whole) whole)))) (word_text cols w ∙ word_is whole)
    ∙ ap (λ xs. w ++ xs) (words_join cols n (drop (word_len whole) whole) (omega arith)) ∙ take-append-drop (word_len whole) whole

pub pieces_join_lem : PiecesJoin
unfolding pieces cuts
pieces_join_lem cols line = words_join cols (length line) line (omega arith)

-- the bytes of a piece
pub piece_size : (p : Piece) → size (measure p) ≡ length (encode_utf8_all (piece_text p))
piece_size p =
    let two = encodes-append (concat p.body) (replicate p.spaces 32) in
    let blank = spaces_encode p.spaces in
    omega (arith, ap length two, ap length blank, length-append (encode_utf8_all (concat p.body)) (encode_utf8_all (replicate p.spaces 32)), length-replicate {A = ℕ} p.spaces 32)

-- the bytes of pieces
pub pieces_size : (ps : List Piece) → sum_by size (map measure ps) ≡ length (encode_utf8_all (run_text ps))
pieces_size [] = refl
pieces_size (p ∷ ps) =
    omega (arith, sum_by-cons size (measure p) (map measure ps), pieces_size ps, piece_size p, ap length (encodes-append (piece_text p) (run_text ps)), length-append (encode_utf8_all (piece_text p)) (encode_utf8_all (run_text ps)))
