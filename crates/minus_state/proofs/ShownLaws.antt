-- The rows of text on a page.
use Rattle.std.proofs.Common.{◌≡◌, ℕ, zero, suc, ◌+◌, ◌<◌, ◌≤◌, min, List, [], ◌∷◌, ◌++◌, length, take, drop, get_or, Option, Some, None, refl, sym, ap, ◌∙◌, arith}
use Rattle.std.specs.List.{slice_get}
use Rattle.minus_state.specs.ShownRow.{before_rows}
use Rattle.std.proofs.lemmas.List.{take_more, get_or-drop, length-drop, length-take, drop-append-le, take_min, drop_min}

get_some : {X : Type 0} (xs : List X) (i : ℕ) (x d : X) → Some x ≡ slice_get xs i → get_or xs i d ≡ x
get_some [] i x d e = cc
get_some (y ∷ xs) zero x d e = cc
get_some (y ∷ xs) (suc i) x d e = get_some xs i x d e

-- there is a row below the count
pub row_there : {X : Type 0} (xs : List X) (i : ℕ) → i < length xs → None ≡ slice_get xs i → ⊥
row_there [] i l e = omega arith
row_there (x ∷ xs) zero l e = cc
row_there (x ∷ xs) (suc i) l e = row_there xs i (omega arith) e

-- one more row from one on
pub more_from : (n i : ℕ) (xs news rows : List (List ℕ)) (row : List ℕ) → n ≤ i → i < length rows → get_or rows i [] ≡ row → xs ≡ drop n (take i rows) → news ≡ xs ++ row ∷ [] → news ≡ drop n (take (i + 1) rows)
more_from n i xs news rows row l there is h e =
    let count : length (take i rows) ≡ i = omega (arith, length-take i rows) in
    e ∙ ap (λ ts. ts ++ row ∷ []) h ∙ sym (ap (drop n) (take_more rows i [] there ∙ ap (λ r. take i rows ++ r ∷ []) is) ∙ drop-append-le n (take i rows) (row ∷ []) (omega (arith, l, count)))

-- one more row that is there, as it was put at the end
pub shown_next : (rows : List (List ℕ)) (mark n i : ℕ) (olds news : List (List ℕ)) (o : Option (List ℕ)) → n ≤ i → mark + i < length rows → olds ≡ drop n (take i (drop mark rows)) → o ≡ slice_get rows (mark + i) → news ≡ olds ++ before_rows o []
    → news ≡ drop n (take (i + 1) (drop mark rows))
shown_next rows mark n i olds news None l there h e g = absurd (row_there rows (mark + i) there e)
shown_next rows mark n i olds news (Some x) l there h e g =
    let left : i < length (drop mark rows) = omega (arith, there, length-drop mark rows) in
    let is : get_or (drop mark rows) i [] ≡ x = get_or-drop mark rows i [] ∙ get_some rows (mark + i) x [] e in
    more_from n i olds news (drop mark rows) x l left is h g

front_of_front : {X : Type 0} (n k : ℕ) (xs : List X) → n ≤ k → take n (take k xs) ≡ take n xs
front_of_front zero k xs l = refl
front_of_front (suc n) zero xs l = absurd (omega (arith, l))
front_of_front (suc n) (suc k) [] l = refl
front_of_front (suc n) (suc k) (x ∷ xs) l = ap (λ ys. x ∷ ys) (front_of_front n k xs (omega (arith, l)))

-- the rows that are shown from one on and before another
pub shown_part : {X : Type 0} (xs : List X) (k first end n start i : ℕ) → n ≡ min (length (take k xs)) end → start ≡ min first n → i ≡ n → drop start (take i xs) ≡ drop first (take end (take k xs))
shown_part xs k first end n start i e s h =
    let page = take k xs in
    let within : n ≤ k = omega (arith, e, length-take k xs) in
    let least : n ≡ min end (length page) = omega (arith, e) in
    let least_first : start ≡ min first (length (take end page)) = omega (arith, e, s, length-take end page) in
    ap (λ j. drop start (take j xs)) h
    ∙ ap (drop start) (sym (front_of_front n k xs within) ∙ ap (λ j. take j page) least ∙ take_min end page)
    ∙ ap (λ j. drop j (take end page)) least_first ∙ drop_min first (take end page)
