-- The stored rows of a document: what stands before each row, and the row.
use Rattle.std.proofs.Common.{◌≡◌, ℕ, zero, suc, ◌+◌, ◌-◌, ◌<◌, ◌≤◌, Bool, true, false, eqb, List, [], ◌∷◌, ◌++◌, length, map, get_or, option_map, Some, None, refl, sym, ap, ◌∙◌, arith}
use Rattle.std.specs.List.{slice_get}
use Rattle.std.specs.Str.Lines.{lines}
use Rattle.std.proofs.lemmas.Bool.{ne_eqb, eq-eqb}
use Rattle.std.proofs.lemmas.List.{append-nil, length-map}
use Rattle.std.proofs.lemmas.Option.{slice_get-map}
use Rattle.minus_text.specs.declared.layout.Wrap.{Wrap}
use Rattle.minus_text.specs.NumberPrefix.{is_on, prefix}
use Rattle.minus_text.specs.Layouts.{own_rows}
use Rattle.minus_text.specs.LineMaps.{IsLineOfRow}
use Rattle.minus_text.specs.Document.{Document, rows_of_lines, first_rows, rows_of, line_map, line_count, wrap_in, stored_line, stored_lines, stored_rows, IsPrefixOf}
use Rattle.minus_text.proofs.FormatResultLaws.{same_part}
use Rattle.minus_text.proofs.PendingLaws.{get_behind}

-- ---- rows with nothing before them

stored_line_off : (count k : ℕ) (rows : List (List ℕ)) → stored_line false count k rows ≡ rows
stored_line_off count k [] = refl
stored_line_off count k (row ∷ more) = ap (λ rs. row ∷ rs) (same more)
  where
    same : (rs : List (List ℕ)) → map (λ r. prefix false count k false ++ r) rs ≡ rs
    same [] = refl
    same (r ∷ rs) = ap (λ xs. r ∷ xs) (same rs)

stored_lines_off : (wrap : Wrap) (count k : ℕ) (ls : List (List ℕ)) → stored_lines wrap false count k ls ≡ rows_of_lines wrap ls
stored_lines_off wrap count k [] = refl
stored_lines_off wrap count k (x ∷ xs) =
    ap (λ rs. rs ++ stored_lines wrap false count (k + 1) xs) (stored_line_off count k (own_rows wrap x)) ∙ ap (λ rs. own_rows wrap x ++ rs) (stored_lines_off wrap count (k + 1) xs)

-- where numbers are off the stored rows are the rows
pub stored_off : (d : Document) → is_on d.layout.numbers ≡ false → stored_rows d ≡ rows_of d
unfolding stored_rows rows_of
stored_off d off = ap (λ (b : Bool). stored_lines (wrap_in d) b (line_count d) 1 (lines d.text)) off ∙ stored_lines_off (wrap_in d) (line_count d) 1 (lines d.text)

-- ---- as many as rows

pub length-stored_line : (on : Bool) (count k : ℕ) (rows : List (List ℕ)) → length (stored_line on count k rows) ≡ length rows
length-stored_line on count k [] = refl
length-stored_line on count k (row ∷ more) = ap suc (length-map more (λ r. prefix on count k false ++ r))

pub none_alike : {X Y : Type 0} (xs : List X) (ys : List Y) (i : ℕ) → length xs ≡ length ys → slice_get xs i ≡ None → slice_get ys i ≡ None
none_alike xs [] i l e = refl
none_alike [] (y ∷ ys) i l e = absurd (omega arith)
none_alike (x ∷ xs) (y ∷ ys) zero l e = absurd cc
none_alike (x ∷ xs) (y ∷ ys) (suc i) l e = none_alike xs ys i (omega arith) e

-- ---- a row with its number

pub at_front : {X : Type 0} (xs ys : List X) (i : ℕ) → i < length xs → slice_get (xs ++ ys) i ≡ slice_get xs i
at_front [] ys i l = absurd (omega arith)
at_front (x ∷ xs) ys zero l = refl
at_front (x ∷ xs) ys (suc i) l = at_front xs ys i (omega arith)

pub some_within : {X : Type 0} (xs : List X) (i : ℕ) (x : X) → slice_get xs i ≡ Some x → i < length xs
some_within [] i x e = absurd cc
some_within (y ∷ xs) zero x e = omega arith
some_within (y ∷ xs) (suc i) x e = let more = some_within xs i x e in omega arith

-- in its line
pub row_in_line : (on : Bool) (count k : ℕ) (rows : List (List ℕ)) (i : ℕ) (row : List ℕ) → slice_get rows i ≡ Some row → slice_get (stored_line on count k rows) i ≡ Some (prefix on count k (eqb i 0) ++ row)
row_in_line on count k [] i row e = absurd cc
row_in_line on count k (r ∷ rs) zero row e =
    let same : r ≡ row = cc in
    let first : eqb 0 0 ≡ true = eq-eqb 0 0 refl in
    rw (same, first) refl
row_in_line on count k (r ∷ rs) (suc i) row e =
    let other : eqb (suc i) 0 ≡ false = ne_eqb (suc i) 0 (λ z. omega arith) in
    rw other (slice_get-map (λ r. prefix on count k false ++ r) rs i ∙ ap (option_map (λ r. prefix on count k false ++ r)) e)

-- no line begins before the first
pub first_rows-least : (wrap : Wrap) (n : ℕ) (ls : List (List ℕ)) (j : ℕ) → j < length (first_rows wrap n ls) → n ≤ get_or (first_rows wrap n ls) j 0
first_rows-least wrap n [] j l = absurd (omega arith)
first_rows-least wrap n (x ∷ xs) zero l = omega arith
first_rows-least wrap n (x ∷ xs) (suc j) l = let more = first_rows-least wrap (n + length (own_rows wrap x)) xs j (omega arith) in omega arith

-- the row of the first line, if the line after it begins later
pub in_first : (wrap : Wrap) (n : ℕ) (x : List ℕ) (xs : List (List ℕ)) (i : ℕ) (row : List ℕ) → slice_get (rows_of_lines wrap (x ∷ xs)) i ≡ Some row → IsLineOfRow (first_rows wrap n (x ∷ xs)) (n + i) 0 → i < length (own_rows wrap x)
in_first wrap n x [] i row e h = omega (arith, some_within (own_rows wrap x ++ []) i row e, ap length (append-nil (own_rows wrap x)))
in_first wrap n x (y ∷ xs) i row e h = let before = h.ends (omega arith) in omega arith

row_stored : (wrap : Wrap) (on : Bool) (count k n : ℕ) (ls : List (List ℕ)) (i line : ℕ) (row : List ℕ) → slice_get (rows_of_lines wrap ls) i ≡ Some row → IsLineOfRow (first_rows wrap n ls) (n + i) line
    → slice_get (stored_lines wrap on count k ls) i ≡ Some (prefix on count (k + line) (eqb (get_or (first_rows wrap n ls) line 0) (n + i)) ++ row)
row_stored wrap on count k n [] i line row e h = absurd cc
row_stored wrap on count k n (x ∷ xs) i zero row e h =
    let rows : List (List ℕ) = own_rows wrap x in
    let lt : i < length rows = in_first wrap n x xs i row e h in
    let here : slice_get rows i ≡ Some row = sym (at_front rows (rows_of_lines wrap xs) i lt) ∙ e in
    let same : k ≡ k + 0 = omega arith in
    let first : eqb n (n + i) ≡ eqb i 0 = same_part n i (n + i) refl in
    at_front (stored_line on count k rows) (stored_lines wrap on count (k + 1) xs) i (omega (arith, lt, length-stored_line on count k rows)) ∙ row_in_line on count k rows i row here
    ∙ ap (λ m. Some (prefix on count m (eqb i 0) ++ row)) same ∙ ap (λ (b : Bool). Some (prefix on count (k + 0) b ++ row)) (sym first)
row_stored wrap on count k n (x ∷ xs) i (suc line) row e h =
    let rows : List (List ℕ) = own_rows wrap x in
    let m : ℕ = length rows in
    let within : suc line < length (first_rows wrap n (x ∷ xs)) = h.within in
    let begins : get_or (first_rows wrap (n + m) xs) line 0 ≤ n + i = h.begins (omega arith) in
    let least = first_rows-least wrap (n + m) xs line (omega arith) in
    let past : m ≤ i = omega (arith, begins, least) in
    let there : slice_get (rows_of_lines wrap xs) (i - m) ≡ Some row = sym (get_behind rows (rows_of_lines wrap xs) i past) ∙ e in
    let sum : (n + m) + (i - m) ≡ n + i = omega (arith, past) in
    let more : IsLineOfRow (first_rows wrap (n + m) xs) ((n + m) + (i - m)) line = record {
      within = omega arith;
      begins = λ l. omega (arith, begins, sum);
      ends = λ l. let e : suc line + 1 ≡ suc (line + 1) = omega arith in let next = h.ends (omega arith) in omega (arith, rw e at next, sum);
    } in
    let ih = row_stored wrap on count (k + 1) (n + m) xs (i - m) line row there more in
    let many : length (stored_line on count k rows) ≡ m = length-stored_line on count k rows in
    let number : (k + 1) + line ≡ k + suc line = omega arith in
    get_behind (stored_line on count k rows) (stored_lines wrap on count (k + 1) xs) i (omega (arith, past, many)) ∙ ap (λ l. slice_get (stored_lines wrap on count (k + 1) xs) (i - l)) many ∙ ih
    ∙ ap (λ l. Some (prefix on count l (eqb (get_or (first_rows wrap (n + m) xs) line 0) ((n + m) + (i - m))) ++ row)) number
    ∙ ap (λ l. Some (prefix on count (k + suc line) (eqb (get_or (first_rows wrap (n + m) xs) line 0) l) ++ row)) sum

-- the stored row with a number, from the line that it belongs to
pub stored_row : (d : Document) (entries : List ℕ) (i line : ℕ) (first : Bool) (row : List ℕ) → entries ≡ line_map d → IsLineOfRow entries i line → first ≡ eqb (get_or entries line 0) i → slice_get (rows_of d) i ≡ Some row
    → slice_get (stored_rows d) i ≡ Some (prefix (is_on d.layout.numbers) (line_count d) (line + 1) first ++ row)
unfolding rows_of line_map stored_rows
stored_row d entries i line first row m h f e =
    let z : 0 + i ≡ i = omega arith in
    let is : IsLineOfRow (first_rows (wrap_in d) 0 (lines d.text)) (0 + i) line = rw (z, ← m) h in
    let number : 1 + line ≡ line + 1 = omega arith in
    let same : eqb (get_or (first_rows (wrap_in d) 0 (lines d.text)) line 0) (0 + i) ≡ first = ap (λ j. eqb (get_or (first_rows (wrap_in d) 0 (lines d.text)) line 0) j) z ∙ ap (λ es. eqb (get_or es line 0) i) (sym m) ∙ sym f in
    row_stored (wrap_in d) (is_on d.layout.numbers) (line_count d) 1 0 (lines d.text) i line row e is
    ∙ ap (λ l. Some (prefix (is_on d.layout.numbers) (line_count d) l (eqb (get_or (first_rows (wrap_in d) 0 (lines d.text)) line 0) (0 + i)) ++ row)) number
    ∙ ap (λ (b : Bool). Some (prefix (is_on d.layout.numbers) (line_count d) (line + 1) b ++ row)) same

-- what stands before a row, from the line that it belongs to
pub prefix_of_line : (d : Document) (entries : List ℕ) (i line : ℕ) (on : Bool) (count : ℕ) (first : Bool) → on ≡ is_on d.layout.numbers → count ≡ line_count d → entries ≡ line_map d → IsLineOfRow entries i line → first ≡ eqb (get_or entries line 0) i
    → IsPrefixOf d i (prefix on count (line + 1) first)
prefix_of_line d entries i line on count first o n m h f = λ row e. rw (o, n) (stored_row d entries i line first row m h f e)

-- without a line there is no row
pub no_line : (d : Document) (i : ℕ) (row : List ℕ) → line_map d ≡ [] → slice_get (rows_of d) i ≡ Some row → ⊥
unfolding rows_of line_map
no_line d i row m e = go (lines d.text) m e
  where
    go : (ls : List (List ℕ)) → first_rows (wrap_in d) 0 ls ≡ [] → slice_get (rows_of_lines (wrap_in d) ls) i ≡ Some row → ⊥
    go [] f g = absurd cc
    go (x ∷ xs) f g = absurd (let z : suc (length (first_rows (wrap_in d) (0 + length (own_rows (wrap_in d) x)) xs)) ≡ 0 = ap length f in omega arith)
