-- The stored rows of a text that goes on: those of its finished lines stay where its numbers take the same columns.
use Rattle.std.proofs.Common.{◌≡◌, ℕ, zero, suc, ◌+◌, ◌-◌, ◌<◌, ◌≤◌, Bool, true, false, eqb, List, [], ◌∷◌, ◌++◌, length, map, take, drop, replicate, chars, codes, encode_utf8_all, Option, None, Some, refl, sym, ap, ap₂, ◌∙◌, arith, append_assoc, length-append, inl, inr}
use Rattle.std.specs.Fmt.{decimal}
use Rattle.std.specs.List.{slice_get, flat_map}
use Rattle.std.specs.Option.{unwrap_or}
use Rattle.std.specs.Str.Lines.{lines}
use Rattle.std.proofs.lemmas.Bool.{cases_Bool, and_parts, eqb-true}
use Rattle.std.proofs.lemmas.List.{append-nil, take_at, length-map, length-take-le, length-drop}
use Rattle.std.proofs.lemmas.List.Concat.{flat_map-append}
use Rattle.regex.specs.Patterns.{Re}
use Rattle.minus_text.specs.declared.layout.Wrap.{Wrap}
use Rattle.minus_text.specs.declared.layout.Wrap.TheVariants.{At, Off}
use Rattle.minus_text.specs.declared.line_numbers.LineNumbers.{LineNumbers}
use Rattle.minus_text.specs.NumberPrefix.{is_on, padding, number_prefix, prefix, prefix_columns}
use Rattle.minus_text.specs.Layouts.{own_rows, own_places, margin}
use Rattle.minus_text.specs.Pieces.{Piece}
use Rattle.minus_text.specs.Rows.{line_rows, line_places, line_runs, places, run_text, row_text}
use Rattle.minus_text.specs.Styles.{style_at}
use Rattle.minus_text.specs.CarriedStyles.{line_styles, style_with, carried_style}
use Rattle.minus_text.specs.Lines.{finished_lines, unfinished_line}
use Rattle.minus_text.specs.Document.{Document, rows_of, rows_of_lines, open_rows, unfinished_rows, line_count, pushed, wrap_in, margin_in, stored_line, stored_lines, stored_rows, keeps_rows, plan_of, first_formed, IsPrefixOf}
use Rattle.minus_text.specs.Fragments.{Fragment, rows_in}
use Rattle.minus_text.specs.Found.{RowMatches, found_of_row, marked, Ascend}
use Rattle.minus_text.specs.Finds.{found_in, finds}
use Rattle.minus_text.specs.FormatResults.{formed_by}
use Rattle.minus_text.specs.Searched.{put_row, put_rows, stored_with, stored_rows_for}
use Rattle.minus_text.proofs.DocumentLaws.{length-rows_of_lines}
use Rattle.minus_text.proofs.PushedLaws.{lines_pushed, keeps_wrap, rows_kept}
use Rattle.minus_text.proofs.StoredLaws.{at_front}
use Rattle.minus_text.proofs.SearchedLaws.{length-put, length-with}
use Rattle.minus_text.proofs.FoundInLaws.{rows_ascend}
use Rattle.minus_text.proofs.FindsLaws.{lines_ascend}
use Rattle.minus_text.proofs.FindsGoOnLaws.{goes_on_from_line}
use Rattle.minus_text.proofs.ViewLaws.{found_staying}

-- ---- what stands before rows hangs on the columns that numbers take

number_alike : (m n line : ℕ) → padding m ≡ padding n → number_prefix m line ≡ number_prefix n line
unfolding number_prefix
number_alike m n line e = ap (λ (p : ℕ). replicate (p - length (decimal line) - 1) 32 ++ (27 ∷ codes "[1m") ++ decimal line ++ codes "." ++ (27 ∷ codes "[0m") ++ codes " ") e

on_alike : (m n line : ℕ) (first : Bool) → padding m ≡ padding n → prefix true m line first ≡ prefix true n line first
on_alike m n line true e = number_alike m n line e
on_alike m n line false e = ap (λ (p : ℕ). replicate (p + 1) 32) e

padding_alike : (numbers : LineNumbers) (m n : ℕ) → is_on numbers ≡ true → margin numbers m ≡ margin numbers n → padding m ≡ padding n
padding_alike numbers m n on e = let both : padding m + 1 + 1 ≡ padding n + 1 + 1 = rw on at e in omega (arith, both)

pub prefix_alike : (numbers : LineNumbers) (m n line : ℕ) (first : Bool) → margin numbers m ≡ margin numbers n → prefix (is_on numbers) m line first ≡ prefix (is_on numbers) n line first
prefix_alike numbers m n line first e = elim (cases_Bool (is_on numbers)) [
  | inl on ↦ let same : padding m ≡ padding n = padding_alike numbers m n on e in rw on (on_alike m n line first same)
  | inr off ↦ rw off refl
]

pub columns_alike : (numbers : LineNumbers) (m n : ℕ) → margin numbers m ≡ margin numbers n → prefix_columns (is_on numbers) m ≡ prefix_columns (is_on numbers) n
columns_alike numbers m n e = elim (cases_Bool (is_on numbers)) [
  | inl on ↦ let same : padding m ≡ padding n = padding_alike numbers m n on e in rw on (ap (λ (p : ℕ). p + 1) same)
  | inr off ↦ rw off refl
]

line_alike : (on : Bool) (m n k : ℕ) (rows : List (List ℕ)) → ((first : Bool) → prefix on m k first ≡ prefix on n k first) → stored_line on m k rows ≡ stored_line on n k rows
line_alike on m n k [] h = refl
line_alike on m n k (row ∷ more) h =
    ap (λ (p : List ℕ). (p ++ row) ∷ map (λ r. prefix on m k false ++ r) more) (h true) ∙ ap (λ (p : List ℕ). (prefix on n k true ++ row) ∷ map (λ r. p ++ r) more) (h false)

lines_alike : (wrap : Wrap) (on : Bool) (m n k : ℕ) (ls rows : List (List ℕ)) → ((line : ℕ) (first : Bool) → prefix on m line first ≡ prefix on n line first) → stored_with wrap on m k ls rows ≡ stored_with wrap on n k ls rows
lines_alike wrap on m n k [] rows h = refl
lines_alike wrap on m n k (x ∷ xs) rows h =
    let size = length (own_rows wrap x) in
    ap (λ rs. rs ++ stored_with wrap on m (k + 1) xs (drop size rows)) (line_alike on m n k (take size rows) (h k))
    ∙ ap (λ rs. stored_line on n k (take size rows) ++ rs) (lines_alike wrap on m n (k + 1) xs (drop size rows) h)

-- ---- the finished lines come first

lines_front : (wrap : Wrap) (on : Bool) (count k : ℕ) (xs ys rows : List (List ℕ)) → (rest : List (List ℕ)) × (stored_with wrap on count k (xs ++ ys) rows ≡ stored_with wrap on count k xs rows ++ rest)
lines_front wrap on count k [] ys rows = (stored_with wrap on count k ys rows, refl)
lines_front wrap on count k (x ∷ xs) ys rows =
    let size = length (own_rows wrap x) in
    let here : List (List ℕ) = stored_line on count k (take size rows) in
    let more = lines_front wrap on count (k + 1) xs ys (drop size rows) in
    (more.0, ap (λ rs. here ++ rs) more.1 ∙ sym (append_assoc here (stored_with wrap on count (k + 1) xs (drop size rows)) more.0))

take_front : {X : Type 0} (n : ℕ) (xs ys : List X) → n ≤ length xs → take n (xs ++ ys) ≡ take n xs
take_front zero xs ys le = refl
take_front (suc n) [] ys le = absurd (omega (arith, le))
take_front (suc n) (x ∷ xs) ys le = ap (λ l. x ∷ l) (take_front n xs ys (omega (arith, le)))

drop_front : {X : Type 0} (n : ℕ) (xs ys : List X) → n ≤ length xs → drop n (xs ++ ys) ≡ drop n xs ++ ys
drop_front zero xs ys le = refl
drop_front (suc n) [] ys le = absurd (omega (arith, le))
drop_front (suc n) (x ∷ xs) ys le = drop_front n xs ys (omega (arith, le))

-- rows behind those of the lines are not asked for
rows_alone : (wrap : Wrap) (on : Bool) (count k : ℕ) (ls front more : List (List ℕ)) → length (rows_of_lines wrap ls) ≤ length front → stored_with wrap on count k ls (front ++ more) ≡ stored_with wrap on count k ls front
rows_alone wrap on count k [] front more le = refl
rows_alone wrap on count k (x ∷ xs) front more le =
    let size = length (own_rows wrap x) in
    let all = length-append (own_rows wrap x) (rows_of_lines wrap xs) in
    let few : size ≤ length front = omega (arith, le, all) in
    ap₂ (λ a b. stored_line on count k a ++ stored_with wrap on count (k + 1) xs b) (take_front size front more few) (drop_front size front more few)
    ∙ ap (λ rs. stored_line on count k (take size front) ++ rs) (rows_alone wrap on count (k + 1) xs (drop size front) more (omega (arith, length-drop size front, le, all)))

put_both : (found : List RowMatches) (d : Document) (n : ℕ) (xs ys : List (List ℕ)) → put_rows found d n (xs ++ ys) ≡ put_rows found d n xs ++ put_rows found d (n + length xs) ys
put_both found d n [] ys = let z : n ≡ n + 0 = omega arith in ap (λ k. put_rows found d k ys) z
put_both found d n (x ∷ xs) ys =
    let size : (n + 1) + length xs ≡ n + length (x ∷ xs) = omega arith in
    ap (λ l. put_row found d n x ∷ l) (put_both found d (n + 1) xs ys ∙ ap (λ k. put_rows found d (n + 1) xs ++ put_rows found d k ys) size)

put_alike : (f g : List RowMatches) (d e : Document) (n : ℕ) (rows : List (List ℕ)) → ((i : ℕ) (row : List ℕ) → i < n + length rows → put_row f d i row ≡ put_row g e i row) → put_rows f d n rows ≡ put_rows g e n rows
put_alike f g d e n [] h = refl
put_alike f g d e n (x ∷ xs) h = ap₂ (λ a b. a ∷ b) (h n x (omega arith)) (put_alike f g d e (n + 1) xs (λ i row lt. h i row (omega (arith, lt))))

-- the stored rows of the first lines, of which these are the rows
module _ (wrap : Wrap) (on : Bool) (count n : ℕ) (found : List RowMatches) (d : Document) (text piece : List ℕ) (is : n ≡ length (rows_of_lines wrap (finished_lines text))) where
  abbrev closed : List (List ℕ)
  closed = finished_lines text

  stored_front : take n (stored_with wrap on count 1 (lines (text ++ piece)) (put_rows found d 0 (rows_of_lines wrap (lines (text ++ piece))))) ≡ stored_with wrap on count 1 closed (put_rows found d 0 (rows_of_lines wrap closed))
  stored_front =
      let later : List (List ℕ) = lines (unfinished_line text ++ piece) in
      let front = rows_of_lines wrap closed in
      let rest = put_rows found d (0 + length front) (rows_of_lines wrap later) in
      let rows : put_rows found d 0 (rows_of_lines wrap (lines (text ++ piece))) ≡ put_rows found d 0 front ++ rest =
      ap (λ ls. put_rows found d 0 (rows_of_lines wrap ls)) (lines_pushed text piece) ∙ ap (put_rows found d 0) (flat_map-append (own_rows wrap) closed later) ∙ put_both found d 0 front (rows_of_lines wrap later) in
      let size = length-put found d 0 front in
      let split = lines_front wrap on count 1 closed later (put_rows found d 0 front ++ rest) in
      let alone = rows_alone wrap on count 1 closed (put_rows found d 0 front) rest (omega (arith, size)) in
      let long : length (stored_with wrap on count 1 closed (put_rows found d 0 front)) ≡ n = length-with wrap on count 1 closed (put_rows found d 0 front) (omega (arith, size)) ∙ sym is in
      ap₂ (λ ls rs. take n (stored_with wrap on count 1 ls rs)) (lines_pushed text piece) rows ∙ ap (take n) (split.1 ∙ ap (λ l. l ++ split.0) alone)
      ∙ take_at (stored_with wrap on count 1 closed (put_rows found d 0 front)) split.0 n long

-- what is found in the rows that stay
finds_ascend : (term : Option Re) (d : Document) → Ascend 0 (finds term d)
unfolding rows_of
finds_ascend None d = tt
finds_ascend (Some re) d = elim (cases_Bool d.layout.match_lines) [
  | inl t ↦ rw t (lines_ascend re (wrap_in d) 0 (lines d.text))
  | inr f ↦ rw f (rows_ascend re 0 (rows_of d))
]

fragment_ascends : (term : Option Re) (by_lines : Bool) (n : ℕ) (f : Fragment) → Ascend n (found_in term by_lines n f)
fragment_ascends None by_lines n f = tt
fragment_ascends (Some re) true n f = lines_ascend re f.wrap n (lines f.text)
fragment_ascends (Some re) false n f = rows_ascend re n (rows_in f)

pub found_stays : (term : Option Re) (d : Document) (piece : List ℕ) (numbers : LineNumbers) (cols i : ℕ) → i < first_formed d (plan_of d piece numbers cols) → found_of_row i (finds term d) ≡ found_of_row i (finds term (pushed d piece numbers cols))
found_stays term d piece numbers cols i lt =
    let plan = plan_of d piece numbers cols in
    let n = first_formed d plan in
    let f = formed_by d.text piece plan in
    found_staying n i 0 (finds term d) (found_in term d.layout.match_lines n f) lt (finds_ascend term d) (fragment_ascends term d.layout.match_lines n f)
    ∙ ap (found_of_row i) (goes_on_from_line term d piece numbers cols)

-- and the styles that are carried to them
length-own : (wrap : Wrap) (line : List ℕ) → length (own_places wrap line) ≡ length (own_rows wrap line)
unfolding line_rows line_places
length-own Off line = refl
length-own (At cols) line = elim (cases_Bool (eqb (length (chars line)) 0)) [
  | inl t ↦ rw t refl
  | inr f ↦ rw f (each 0 (line_runs cols line) ∙ sym (length-map (line_runs cols line) (λ run. encode_utf8_all (row_text run))))
]
  where
    each : (at : ℕ) (runs : List (List Piece)) → length (places at runs) ≡ length runs
    each at [] = refl
    each at (run ∷ runs) = ap suc (each (at + length (encode_utf8_all (run_text run))) runs)

length-styles : (wrap : Wrap) (ls : List (List ℕ)) → length (flat_map (line_styles true wrap) ls) ≡ length (rows_of_lines wrap ls)
length-styles wrap [] = refl
length-styles wrap (x ∷ xs) =
    let here = length-map (own_places wrap x) (λ s. style_at x s.start) ∙ length-own wrap x in
    omega (arith, here, length-append (line_styles true wrap x) (flat_map (line_styles true wrap) xs), length-append (own_rows wrap x) (rows_of_lines wrap xs), length-styles wrap xs)

front_style : (d : Document) (wrap : Wrap) (text piece : List ℕ) (i : ℕ) → i < length (rows_of_lines wrap (finished_lines text))
    → style_with (flat_map (line_styles true wrap) (lines (text ++ piece))) i ≡ style_with (flat_map (line_styles true wrap) (finished_lines text)) i
front_style d wrap text piece i lt =
    let styles = flat_map (line_styles true wrap) (finished_lines text) in
    let size = length-styles wrap (finished_lines text) in
    ap (λ ls. style_with (flat_map (line_styles true wrap) ls) i) (lines_pushed text piece)
    ∙ ap (λ ss. style_with ss i) (flat_map-append (line_styles true wrap) (finished_lines text) (lines (unfinished_line text ++ piece)))
    ∙ ap (λ o. unwrap_or o []) (at_front styles (flat_map (line_styles true wrap) (lines (unfinished_line text ++ piece))) i (omega (arith, lt, size)))

style_stays : (d : Document) (piece : List ℕ) (numbers : LineNumbers) (cols i : ℕ) → keeps_rows d piece numbers cols ≡ true → i < length (rows_of_lines (wrap_in d) (finished_lines d.text))
    → carried_style d i ≡ carried_style (pushed d piece numbers cols) i
style_stays d piece numbers cols i e lt = elim (cases_Bool d.layout.carry_style) [
  | inl on ↦
      rw on (ap (λ t. style_with (flat_map (line_styles true (wrap_in d)) (lines t)) i) (sym (append-nil d.text))
      ∙ front_style d (wrap_in d) d.text [] i lt ∙ sym (front_style d (wrap_in d) d.text piece i lt)
      ∙ ap (λ (w : Wrap). style_with (flat_map (line_styles true w) (lines (d.text ++ piece))) i) (sym (keeps_wrap d piece numbers cols e)))
  | inr off ↦ rw off refl
]

-- the first rows of a push that keeps rows, as they are stored
pub stored_kept : (term : Option Re) (d : Document) (piece : List ℕ) → keeps_rows d piece d.layout.numbers d.layout.cols ≡ true
    → take (length (rows_of d) - unfinished_rows d) (stored_rows_for term d) ≡ take (length (rows_of d) - unfinished_rows d) (stored_rows_for term (pushed d piece d.layout.numbers d.layout.cols))
unfolding rows_of unfinished_rows stored_rows_for
stored_kept term d piece e =
    let after : Document = pushed d piece d.layout.numbers d.layout.cols in
    let on : Bool = is_on d.layout.numbers in
    let w : Wrap = wrap_in d in
    let f = finds term d in
    let g = finds term after in
    let n : ℕ = length (rows_of_lines w (lines d.text)) - length (open_rows w (unfinished_line d.text)) in
    let counts = length-rows_of_lines d.text w in
    let first : n ≡ length (rows_of_lines w (finished_lines d.text)) = omega (arith, counts) in
    let at : first_formed d (plan_of d piece d.layout.numbers d.layout.cols) ≡ n = rw e refl in
    let both = and_parts (eqb d.layout.cols d.layout.cols) (eqb (margin_in after) (margin_in d)) e in
    let margins : margin_in after ≡ margin_in d = eqb-true (margin_in after) (margin_in d) both.1 in
    let front = rows_of_lines w (finished_lines d.text) in
    let same_put : put_rows f d 0 front ≡ put_rows g after 0 front =
    put_alike f g d after 0 front (λ i row lt.
    ap₂ (λ s o. s ++ marked o row) (style_stays d piece d.layout.numbers d.layout.cols i e (omega (arith, lt))) (found_stays term d piece d.layout.numbers d.layout.cols i (omega (arith, at, first, lt)))) in
    let alike = lines_alike w on (line_count d) (line_count after) 1 (finished_lines d.text) (put_rows g after 0 front) (λ line h. prefix_alike d.layout.numbers (line_count d) (line_count after) line h (sym margins)) in
    ap (λ t. take n (stored_with w on (line_count d) 1 (lines t) (put_rows f d 0 (rows_of_lines w (lines t))))) (sym (append-nil d.text))
    ∙ stored_front w on (line_count d) n f d d.text [] first
    ∙ ap (stored_with w on (line_count d) 1 (finished_lines d.text)) same_put
    ∙ alike
    ∙ sym (stored_front w on (line_count after) n g after d.text piece first)
    ∙ ap (λ (v : Wrap). take n (stored_with v on (line_count after) 1 (lines (d.text ++ piece)) (put_rows g after 0 (rows_of_lines v (lines (d.text ++ piece)))))) (sym (keeps_wrap d piece d.layout.numbers d.layout.cols e))

-- and as they are
pub rows_stay : (d : Document) (piece : List ℕ) → keeps_rows d piece d.layout.numbers d.layout.cols ≡ true
    → take (length (rows_of d) - unfinished_rows d) (rows_of d) ≡ take (length (rows_of d) - unfinished_rows d) (rows_of (pushed d piece d.layout.numbers d.layout.cols))
rows_stay d piece e =
    let n : ℕ = length (rows_of d) - unfinished_rows d in
    let more : List (List ℕ) = rows_in (record { text = unfinished_line d.text ++ piece; wrap = wrap_in d }) in
    let count : length (take n (rows_of d)) ≡ n = length-take-le n (rows_of d) (omega arith) in
    sym (ap (take n) (rows_kept d piece d.layout.numbers d.layout.cols e) ∙ take_at (take n (rows_of d)) more n count)

-- the columns that its numbers take
pub margin_kept : (d : Document) (piece : List ℕ) → keeps_rows d piece d.layout.numbers d.layout.cols ≡ true → margin_in (pushed d piece d.layout.numbers d.layout.cols) ≡ margin_in d
margin_kept d piece e =
    let after : Document = pushed d piece d.layout.numbers d.layout.cols in
    eqb-true (margin_in after) (margin_in d) (and_parts (eqb d.layout.cols d.layout.cols) (eqb (margin_in after) (margin_in d)) e).1

-- without numbers they are the rows, and nothing stands before one
own_lines : (wrap : Wrap) (count k : ℕ) (ls : List (List ℕ)) → stored_lines wrap false count k ls ≡ rows_of_lines wrap ls
own_lines wrap count k [] = refl
own_lines wrap count k (x ∷ xs) = ap (λ rs. rs ++ stored_lines wrap false count (k + 1) xs) (own_line count k (own_rows wrap x)) ∙ ap (λ rs. own_rows wrap x ++ rs) (own_lines wrap count (k + 1) xs)
  where
    same : (m l : ℕ) (rs : List (List ℕ)) → map (λ r. prefix false m l false ++ r) rs ≡ rs
    same m l [] = refl
    same m l (r ∷ rs) = ap (λ ys. r ∷ ys) (same m l rs)

    own_line : (m l : ℕ) (rs : List (List ℕ)) → stored_line false m l rs ≡ rs
    own_line m l [] = refl
    own_line m l (r ∷ rs) = ap (λ ys. r ∷ ys) (same m l rs)

stored_off : (d : Document) → is_on d.layout.numbers ≡ false → stored_rows d ≡ rows_of d
unfolding rows_of stored_rows
stored_off d off = ap (λ (b : Bool). stored_lines (wrap_in d) b (line_count d) 1 (lines d.text)) off ∙ own_lines (wrap_in d) (line_count d) 1 (lines d.text)

pub nothing_before : (d : Document) (i : ℕ) → is_on d.layout.numbers ≡ false → IsPrefixOf d i []
nothing_before d i off = λ row e. ap (λ rs. slice_get rs i) (stored_off d off) ∙ e
