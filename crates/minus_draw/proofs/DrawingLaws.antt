-- Bytes of operations, added one after another.
use Rattle.std.proofs.Common.{◌≡◌, ℕ, zero, suc, refl, arith, ◌+◌, ◌<◌, List, [], ◌∷◌, ◌++◌, length, map, take, get_or, sym, ap, ◌∙◌}
use Rattle.std.specs.List.{flat_map}
use Rattle.std.proofs.lemmas.List.{map_more, length-map, length-take-le}
use Rattle.std.proofs.lemmas.List.Concat.{flat_map-append}
use Rattle.minus_term.specs.Append.{rows_anew}
use Rattle.minus_term.specs.Operations.{GoTo, ClearRow, Put}
use Rattle.minus_term.specs.Written.{written_all}
use Rattle.minus_term.specs.FullRedraw.{row_ops}
use Rattle.minus_term.proofs.WrittenLaws.{ops_added}

-- one more row
pub row_added : (old a b : List ℕ) (rows : List (List ℕ)) (row : List ℕ) → a ≡ old ++ written_all (flat_map row_ops rows) → b ≡ a ++ written_all (row_ops row) → b ≡ old ++ written_all (flat_map row_ops (rows ++ row ∷ []))
row_added old a b rows row e f =
    ops_added old a b (flat_map row_ops rows) (row_ops row) e f ∙ ap (λ ops. old ++ written_all ops) (sym (flat_map-append row_ops rows (row ∷ [])))

-- ---- rows of the page that are made blank

-- one more text
anew_more : (i : ℕ) (ts : List (List ℕ)) (t : List ℕ) → rows_anew i (ts ++ t ∷ []) 0 ≡ rows_anew i ts 0 ++ (GoTo 0 (i + length ts) ∷ ClearRow ∷ Put t ∷ [])
anew_more i [] t = let e : i + 0 ≡ i = omega arith in rw e refl
anew_more i (s ∷ ts) t = let e : i + length (s ∷ ts) ≡ i + 1 + length ts = omega arith in rw e (ap (λ ops. GoTo 0 i ∷ ClearRow ∷ Put s ∷ ops) (anew_more (i + 1) ts t))

-- one more blank row
blanks_more : (i n : ℕ) → rows_anew i [] (n + 1) ≡ rows_anew i [] n ++ (GoTo 0 (i + n) ∷ ClearRow ∷ [])
blanks_more i zero = let e : i + 0 ≡ i = omega arith in rw e refl
blanks_more i (suc n) = let e : i + suc n ≡ i + 1 + n = omega arith in let s : suc n + 1 ≡ suc (n + 1) = omega arith in rw (e, s) (ap (λ ops. GoTo 0 i ∷ ClearRow ∷ ops) (blanks_more (i + 1) n))

-- the texts first, and then the blank rows
anew_parts : (i : ℕ) (ts : List (List ℕ)) (n : ℕ) → rows_anew i ts n ≡ rows_anew i ts 0 ++ rows_anew (i + length ts) [] n
anew_parts i [] n = let e : i + 0 ≡ i = omega arith in rw e refl
anew_parts i (t ∷ ts) n = let e : i + length (t ∷ ts) ≡ i + 1 + length ts = omega arith in rw e (ap (λ ops. GoTo 0 i ∷ ClearRow ∷ Put t ∷ ops) (anew_parts (i + 1) ts n))

-- one more text of a list
pub anew_next : {X : Type 0} (f : X → List ℕ) (xs : List X) (first i : ℕ) (d : X) (old a b : List ℕ) → i < length xs → a ≡ old ++ written_all (rows_anew first (map f (take i xs)) 0) → b ≡ a ++ written_all (GoTo 0 (first + i) ∷ ClearRow ∷ Put (f (get_or xs i d)) ∷ [])
    → b ≡ old ++ written_all (rows_anew first (map f (take (i + 1) xs)) 0)
anew_next f xs first i d old a b l e g =
    let done : List (List ℕ) = map f (take i xs) in
    let count : length done ≡ i = length-map (take i xs) f ∙ length-take-le i xs (omega arith) in
    ops_added old a b (rows_anew first done 0) (GoTo 0 (first + i) ∷ ClearRow ∷ Put (f (get_or xs i d)) ∷ []) e g
    ∙ ap (λ (n : ℕ). old ++ written_all (rows_anew first done 0 ++ (GoTo 0 (first + n) ∷ ClearRow ∷ Put (f (get_or xs i d)) ∷ []))) (sym count)
    ∙ ap (λ ops. old ++ written_all ops) (sym (anew_more first done (f (get_or xs i d))))
    ∙ ap (λ ts. old ++ written_all (rows_anew first ts 0)) (sym (map_more f xs i d l))

-- one more blank row of some
pub blank_next : (first i : ℕ) (old a b : List ℕ) → a ≡ old ++ written_all (rows_anew first [] i) → b ≡ a ++ written_all (GoTo 0 (first + i) ∷ ClearRow ∷ []) → b ≡ old ++ written_all (rows_anew first [] (i + 1))
blank_next first i old a b e g = ops_added old a b (rows_anew first [] i) (GoTo 0 (first + i) ∷ ClearRow ∷ []) e g ∙ ap (λ ops. old ++ written_all ops) (sym (blanks_more first i))

-- the texts, and the blank rows after them
pub anew_added : (old a b : List ℕ) (first blanks : ℕ) (texts : List (List ℕ)) → a ≡ old ++ written_all (rows_anew first texts 0) → b ≡ a ++ written_all (rows_anew (first + length texts) [] blanks) → b ≡ old ++ written_all (rows_anew first texts blanks)
anew_added old a b first blanks texts e g = ops_added old a b (rows_anew first texts 0) (rows_anew (first + length texts) [] blanks) e g ∙ ap (λ ops. old ++ written_all ops) (sym (anew_parts first texts blanks))
