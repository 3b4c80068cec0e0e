-- The rows of a block, and what is formed of it.
use Rattle.std.proofs.Common.{◌≡◌, ℕ, zero, suc, ◌+◌, ◌-◌, ◌^◌, ◌<◌, ◌≤◌, Bool, false, eqb, List, [], ◌∷◌, ◌++◌, length, map, take, get_or, Option, Some, None, option_map, refl, sym, subst, ap, ◌∙◌, arith, inl, inr}
use Rattle.std.specs.List.{slice_get}
use Rattle.std.specs.Str.{IsUtf8}
use Rattle.std.specs.Str.Lines.{lines}
use Rattle.std.specs.Cmp.{nat_cmp_is}
use Rattle.std.specs.Ordering.{nat_cmp}
use Rattle.std.specs.declared.cmp.Ordering.TheVariants.{Greater}
use Rattle.std.specs.BTreeSet.{insert_key}
use Rattle.std.proofs.lemmas.Bool.{cases_Bool}
use Rattle.std.proofs.lemmas.List.{append-nil, length-append, length-map, map-append, length-take-le}
use Rattle.std.proofs.lemmas.Option.{slice_get-get_or, slice_get-map}
use Rattle.regex.specs.Patterns.{Re}
use Rattle.minus_text.specs.declared.layout.Wrap.{Wrap}
use Rattle.minus_text.specs.declared.layout.Layout.{Layout}
use Rattle.minus_text.specs.declared.formed.Formed.{Formed}
use Rattle.minus_text.specs.declared.screen.FormatResult.{FormatResult}
use Rattle.minus_text.specs.NumberPrefix.{is_on, prefix}
use Rattle.minus_text.specs.Lines.{unfinished_line}
use Rattle.minus_text.specs.Layouts.{own_rows, wrap_of}
use Rattle.minus_text.specs.LineMaps.{IsLineOfRow}
use Rattle.minus_text.specs.Document.{rows_of_lines, first_rows, open_rows, stored_line}
use Rattle.minus_text.specs.Fragments.{Fragment, rows_in}
use Rattle.minus_text.specs.Kept.{IsRestart, IsPrepared, IsFormOf}
use Rattle.minus_text.specs.Highlight.{line_matches}
use Rattle.minus_text.specs.Found.{RowMatches, found_in_row, found_in_rows, found_by}
use Rattle.minus_text.specs.FoundBy.{found_in_some}
use Rattle.minus_text.specs.Pending.{Pending}
use Rattle.minus_text.specs.Searched.{shown_for}
use Rattle.minus_text.specs.Blocks.{Block, stored_lines_for, all_lines, fragment_of, block_rows, matching_rows, TellsBlock, IsBlockFormed, IsPrefixIn, one, keys_noted, keys_with}
use Rattle.minus_text.proofs.LineLaws.{told_rows}
use Rattle.minus_text.proofs.ScreenLaws.{restart_anew, form-unfinished}
use Rattle.minus_text.proofs.FormatResultLaws.{same_part}
use Rattle.minus_text.proofs.PendingLaws.{get_behind}
use Rattle.minus_text.proofs.DocumentLaws.{length-first_rows}
use Rattle.minus_text.proofs.FoundByLaws.{one_more_row}
use Rattle.minus_text.proofs.StoredLaws.{length-stored_line, none_alike, at_front, row_in_line, in_first, first_rows-least}

-- ---- as many as rows

length-shown : (term : Option Re) (on : Bool) (count k : ℕ) (wrap : Wrap) (x : List ℕ) → length (stored_line on count k (map (shown_for term) (own_rows wrap x))) ≡ length (own_rows wrap x)
length-shown term on count k wrap x = length-stored_line on count k (map (shown_for term) (own_rows wrap x)) ∙ length-map (own_rows wrap x) (shown_for term)

length-stored_lines_for : (term : Option Re) (wrap : Wrap) (on : Bool) (count k : ℕ) (ls : List (List ℕ)) → length (stored_lines_for term wrap on count k ls) ≡ length (rows_of_lines wrap ls)
length-stored_lines_for term wrap on count k [] = refl
length-stored_lines_for term wrap on count k (x ∷ xs) =
    omega (arith, length-append (stored_line on count k (map (shown_for term) (own_rows wrap x))) (stored_lines_for term wrap on count (k + 1) xs), length-append (own_rows wrap x) (rows_of_lines wrap xs), length-shown term on count k wrap x, length-stored_lines_for term wrap on count (k + 1) xs)

pub length-block_rows : (term : Option Re) (b : Block) → length (block_rows term b) ≡ length (rows_in (fragment_of b))
unfolding block_rows rows_in
length-block_rows term b = length-stored_lines_for term (fragment_of b).wrap (is_on b.layout.numbers) (all_lines b) (b.lines_before + 1) (lines b.text)

-- past the last row there is none
pub none_shown : (term : Option Re) (b : Block) (i : ℕ) → slice_get (rows_in (fragment_of b)) i ≡ None → slice_get (block_rows term b) i ≡ None
none_shown term b i e = none_alike (rows_in (fragment_of b)) (block_rows term b) i (sym (length-block_rows term b)) e

-- ---- a row with its number

row_shown : (term : Option Re) (wrap : Wrap) (on : Bool) (count k n : ℕ) (ls : List (List ℕ)) (i line : ℕ) (row : List ℕ) → slice_get (rows_of_lines wrap ls) i ≡ Some row → IsLineOfRow (first_rows wrap n ls) (n + i) line
    → slice_get (stored_lines_for term wrap on count k ls) i ≡ Some (prefix on count (k + line) (eqb (get_or (first_rows wrap n ls) line 0) (n + i)) ++ shown_for term row)
row_shown term wrap on count k n [] i line row e h = absurd cc
row_shown term wrap on count k n (x ∷ xs) i zero row e h =
    let rows : List (List ℕ) = own_rows wrap x in
    let shown : List (List ℕ) = map (shown_for term) rows in
    let lt : i < length rows = in_first wrap n x xs i row e h in
    let here : slice_get shown i ≡ Some (shown_for term row) = slice_get-map (shown_for term) rows i ∙ ap (option_map (shown_for term)) (sym (at_front rows (rows_of_lines wrap xs) i lt) ∙ e) in
    let same : k ≡ k + 0 = omega arith in
    let first : eqb n (n + i) ≡ eqb i 0 = same_part n i (n + i) refl in
    at_front (stored_line on count k shown) (stored_lines_for term wrap on count (k + 1) xs) i (omega (arith, lt, length-shown term on count k wrap x)) ∙ row_in_line on count k shown i (shown_for term row) here
    ∙ ap (λ m. Some (prefix on count m (eqb i 0) ++ shown_for term row)) same ∙ ap (λ (b : Bool). Some (prefix on count (k + 0) b ++ shown_for term row)) (sym first)
row_shown term wrap on count k n (x ∷ xs) i (suc line) row e h =
    let rows : List (List ℕ) = own_rows wrap x in
    let shown : List (List ℕ) = map (shown_for term) rows in
    let m : ℕ = length rows in
    let within : suc line < length (first_rows wrap n (x ∷ xs)) = h.within in
    let begins : get_or (first_rows wrap (n + m) xs) line 0 ≤ n + i = h.begins (omega arith) in
    let least = first_rows-least wrap (n + m) xs line (omega arith) in
    let past : m ≤ i = omega (arith, begins, least) in
    let there : slice_get (rows_of_lines wrap xs) (i - m) ≡ Some row = sym (get_behind rows (rows_of_lines wrap xs) i past) ∙ e in
    let sum : (n + m) + (i - m) ≡ n + i = omega (arith, past) in
    let more : IsLineOfRow (first_rows wrap (n + m) xs) ((n + m) + (i - m)) line = record {
      within = omega arith;
      begins = λ l. omega (arith, begins, sum);
      ends = λ l. let e : suc line + 1 ≡ suc (line + 1) = omega arith in let next = h.ends (omega arith) in omega (arith, rw e at next, sum);
    } in
    let ih = row_shown term wrap on count (k + 1) (n + m) xs (i - m) line row there more in
    let many : length (stored_line on count k shown) ≡ m = length-shown term on count k wrap x in
    let number : (k + 1) + line ≡ k + suc line = omega arith in
    get_behind (stored_line on count k shown) (stored_lines_for term wrap on count (k + 1) xs) i (omega (arith, past, many)) ∙ ap (λ l. slice_get (stored_lines_for term wrap on count (k + 1) xs) (i - l)) many ∙ ih
    ∙ ap (λ l. Some (prefix on count l (eqb (get_or (first_rows wrap (n + m) xs) line 0) ((n + m) + (i - m))) ++ shown_for term row)) number
    ∙ ap (λ l. Some (prefix on count (k + suc line) (eqb (get_or (first_rows wrap (n + m) xs) line 0) l) ++ shown_for term row)) sum

-- what stands before a row is that of its line
pub prefix_in : (b : Block) (entries : List ℕ) (i row line count number : ℕ) (on first : Bool) → entries ≡ first_rows (fragment_of b).wrap b.first_row (lines b.text) → row ≡ b.first_row + i → IsLineOfRow entries row line
    → on ≡ is_on b.layout.numbers → count ≡ all_lines b → number ≡ (b.lines_before + line) + 1 → first ≡ eqb (get_or entries line 0) row → IsPrefixIn b i (prefix on count number first)
unfolding block_rows rows_in
prefix_in b entries i row line count number on first m r h o c k f = λ text e term.
    let wrap : Wrap = (fragment_of b).wrap in
    let is : IsLineOfRow (first_rows wrap b.first_row (lines b.text)) (b.first_row + i) line = rw (← m, ← r) h in
    let same : (b.lines_before + 1) + line ≡ number = omega (arith, k) in
    let begins : eqb (get_or (first_rows wrap b.first_row (lines b.text)) line 0) (b.first_row + i) ≡ first = ap (λ j. eqb (get_or (first_rows wrap b.first_row (lines b.text)) line 0) j) (sym r) ∙ ap (λ es. eqb (get_or es line 0) row) (sym m) ∙ sym f in
    row_shown term wrap (is_on b.layout.numbers) (all_lines b) (b.lines_before + 1) b.first_row (lines b.text) i line text e is
    ∙ ap (λ l. Some (prefix (is_on b.layout.numbers) (all_lines b) l (eqb (get_or (first_rows wrap b.first_row (lines b.text)) line 0) (b.first_row + i)) ++ shown_for term text)) same
    ∙ ap (λ (x : Bool). Some (prefix (is_on b.layout.numbers) (all_lines b) number x ++ shown_for term text)) begins
    ∙ ap (λ n. Some (prefix (is_on b.layout.numbers) n number first ++ shown_for term text)) (sym c)
    ∙ ap (λ (x : Bool). Some (prefix x count number first ++ shown_for term text)) (sym o)

-- without a line there is no row
pub no_line_in : (b : Block) (before : List ℕ) (entries : List ℕ) (i : ℕ) → entries ≡ first_rows (fragment_of b).wrap b.first_row (lines b.text) → entries ≡ [] → IsPrefixIn b i before
unfolding rows_in
no_line_in b before entries i m none = λ text e term. absurd (go (lines b.text) (sym m ∙ none) e)
  where
    go : (ls : List (List ℕ)) → first_rows (fragment_of b).wrap b.first_row ls ≡ [] → {text : List ℕ} → slice_get (rows_of_lines (fragment_of b).wrap ls) i ≡ Some text → ⊥
    go [] f g = absurd cc
    go (x ∷ xs) f g = absurd (let z : suc (length (first_rows (fragment_of b).wrap (b.first_row + length (own_rows (fragment_of b).wrap x)) xs)) ≡ 0 = ap length f in omega arith)

-- ---- one row more

pub rows_more : {X : Type 0} (xs : List X) (i : ℕ) → take (i + 1) xs ≡ take i xs ++ one (slice_get xs i)
rows_more [] zero = refl
rows_more [] (suc i) = let e : suc i + 1 ≡ suc (i + 1) = omega arith in rw e refl
rows_more (x ∷ xs) zero = refl
rows_more (x ∷ xs) (suc i) = let e : suc i + 1 ≡ suc (i + 1) = omega arith in rw e (ap (λ l. x ∷ l) (rows_more xs i))

past : (x k : ℕ) → x < k → nat_cmp k x ≡ Greater
past x k h = sym (nat_cmp_is k x Greater h)

-- a row past all that were found goes last
insert_past : (re : Re) (at : ℕ) (rows : List (List ℕ)) (k : ℕ) → at + length rows ≤ k → insert_key nat_cmp (map (λ (f : RowMatches). f.row) (found_in_rows re at rows)) k ≡ map (λ (f : RowMatches). f.row) (found_in_rows re at rows) ++ k ∷ []
insert_past re at [] k h = refl
insert_past re at (row ∷ rows) k h =
    let rest = insert_past re (at + 1) rows k (omega (arith, h)) in
    elim (cases_Bool (line_matches re row)) [ inl e ↦ rw (e, past at k (omega (arith, h))) (ap (λ ys. at ∷ ys) rest) | inr e ↦ rw e rest ]

pub keys_more : (term : Option Re) (first i n : ℕ) (rows : List (List ℕ)) (old new : List ℕ) → n ≡ first + i → i < length rows → old ≡ map (λ (f : RowMatches). f.row) (found_by term first (take i rows)) → new ≡ keys_with term n (slice_get rows i) old
    → new ≡ map (λ (f : RowMatches). f.row) (found_by term first (take (i + 1) rows))
keys_more None first i n rows old new is more so_far h = let row : slice_get rows i ≡ Some (get_or rows i []) = slice_get-get_or rows i [] more in rw row at h ∙ so_far
keys_more (Some re) first i n rows old new is more so_far h =
    let row : List ℕ = get_or rows i [] in
    let here : slice_get rows i ≡ Some row = slice_get-get_or rows i [] more in
    let found : List RowMatches = found_in_rows re first (take i rows) in
    let grown : found ++ found_in_some re n (Some row) ≡ found_in_rows re first (take (i + 1) rows) = one_more_row re first i n rows found _ (Some row) is more refl (sym here) refl in
    let size : length (take i rows) ≡ i = length-take-le i rows (omega (arith, more)) in
    let last = insert_past re first (take i rows) n (omega (arith, size, is)) in
    let noted : new ≡ keys_noted (line_matches re row) n (map (λ (f : RowMatches). f.row) found) = h ∙ ap (λ o. keys_with (Some re) n o old) here ∙ ap (λ ks. keys_noted (line_matches re row) n ks) so_far in
    let all : keys_noted (line_matches re row) n (map (λ (f : RowMatches). f.row) found) ≡ map (λ (f : RowMatches). f.row) (found ++ found_in_row re n row) =
    elim (cases_Bool (line_matches re row)) [
      | inl e ↦ rw e (last ∙ sym (map-append (λ (f : RowMatches). f.row) found _))
      | inr e ↦ rw e (ap (map (λ (f : RowMatches). f.row)) (sym (append-nil found)))
    ] in
    noted ∙ all ∙ ap (map (λ (f : RowMatches). f.row)) grown

-- ---- what is formed

-- a text that follows no line begins to form anywhere
pub fresh_restart : (wrap : Wrap) (n : ℕ) → IsRestart wrap [] (record { finished = record { lines = 0; rows = n; bytes = 0; longest = 0 }; rows = 0; bytes = 0; border = record { bytes = 0; columns = 0 } })
fresh_restart wrap n = let h = (restart_anew [] (record { keeps = false; wrap = wrap }) refl).restarts in record { text = h.text; one_line = h.one_line; goes_on = h.goes_on; measured = h.measured; behind = h.behind }

-- what is formed of it so
pub fresh_form : (wrap : Wrap) (n : ℕ) (text tail : List ℕ) (f : Formed) → IsUtf8 text → tail ≡ text → IsPrepared wrap tail (record { finished = record { lines = 0; rows = n; bytes = 0; longest = 0 }; rows = 0; bytes = 0; border = record { bytes = 0; columns = 0 } }) f
    → IsFormOf wrap [] text (record { finished = record { lines = 0; rows = n; bytes = 0; longest = 0 }; rows = 0; bytes = 0; border = record { bytes = 0; columns = 0 } }) f
fresh_form wrap n text tail f u e h = h.its_form [] text (fresh_restart wrap n) u e

pub block_formed : (p : Pending) (layout : Layout) (before unfinished longest n : ℕ) (wrap : Wrap) (text : List ℕ) (f : Formed) → p.tail ≡ record { text = text; wrap = wrap } → p.kept_rows ≡ n → p.first_rows ≡ f.first_rows
    → wrap ≡ wrap_of layout (before + length (lines text)) → IsFormOf wrap [] text (record { finished = record { lines = 0; rows = n; bytes = 0; longest = 0 }; rows = 0; bytes = 0; border = record { bytes = 0; columns = 0 } }) f
    → unfinished ≡ (n + length f.rows.items) - f.finished.rows → longest ≡ f.longest → before < 2 ^ 63 → IsBlockFormed p layout before unfinished longest
block_formed p layout before unfinished longest n wrap text f t k m w h u l few =
    let z : 0 + length f.rows.items ≡ length f.rows.items = omega arith in
    let left = rw z at (form-unfinished wrap [] text _ f h).1 in
    record {
      its_wrap = rw t w;
      its_map = m ∙ h.its_map ∙ rw (t, k) refl;
      its_unfinished = u ∙ left ∙ rw t refl;
      its_longest = l ∙ h.its_longest ∙ rw t refl;
      few_before = few;
    }

-- what it tells
pub tells_block : (p : Pending) (layout : Layout) (before unfinished longest : ℕ) (r : FormatResult) (term : Option Re) (clean : Bool) (d : Block) → IsBlockFormed p layout before unfinished longest
    → (let b : Block = record { text = p.tail.text; layout = layout; lines_before = before; first_row = p.kept_rows } in b) ≡ d → r.lines_formatted ≡ length p.first_rows → r.rows_formatted ≡ length (rows_in p.tail) → r.num_unterminated ≡ unfinished
    → r.append_search_idx.keys ≡ matching_rows term d → r.lines_to_row_map ≡ p.first_rows → r.max_line_length ≡ longest → r.clean_append ≡ clean → TellsBlock r term d clean
tells_block p layout before unfinished longest r term clean d h v el er eu es em ew ec =
    let b : Block = record { text = p.tail.text; layout = layout; lines_before = before; first_row = p.kept_rows } in
    let tail : p.tail ≡ fragment_of b = ap (λ w. let f : Fragment = record { text = p.tail.text; wrap = w } in f) h.its_wrap in
    let map_is : p.first_rows ≡ first_rows (fragment_of b).wrap p.kept_rows (lines p.tail.text) = h.its_map ∙ ap (λ w. first_rows w p.kept_rows (lines p.tail.text)) h.its_wrap in
    let told : TellsBlock r term b clean = record {
      lines_told = el ∙ ap length map_is ∙ length-first_rows (fragment_of b).wrap p.kept_rows (lines p.tail.text);
      rows_told = er ∙ ap (λ f. length (rows_in f)) tail;
      unfinished_told = eu ∙ h.its_unfinished ∙ ap (λ w. length (open_rows w (unfinished_line p.tail.text))) h.its_wrap;
      matches_told = subst (λ (x : Block). r.append_search_idx.keys ≡ matching_rows term x) (sym v) es ∙ sym (told_rows term p.kept_rows (fragment_of b));
      map_told = em ∙ map_is;
      longest_told = ew ∙ h.its_longest;
      clean_told = ec;
    } in
    subst (λ (x : Block). TellsBlock r term x clean) v told
