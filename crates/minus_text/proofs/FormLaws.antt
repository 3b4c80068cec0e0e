-- What is formed of a text, line by line.
use Rattle.std.proofs.Common.{◌≡◌, ℕ, zero, suc, ◌+◌, ◌<◌, ◌≤◌, Bool, true, false, eqb, cond, List, [], ◌∷◌, ◌++◌, length, map, max, get_or, refl, sym, ap, ◌∙◌, arith, append_assoc}
use Rattle.std.specs.List.{sum_by}
use Rattle.std.specs.List.Sorted.{IsStrictlyIncreasing}
use Rattle.std.specs.Str.Lines.{strip_carriage_return}
use Rattle.std.proofs.lemmas.List.{append-nil, length-append, map-append}
use Rattle.std.proofs.lemmas.List.Sums.{sum_by-append}
use Rattle.minus_text.specs.declared.rows.Span.{Span}
use Rattle.minus_text.specs.declared.formed.Finished.{Finished}
use Rattle.minus_text.specs.declared.formed.Formed.{Formed}
use Rattle.minus_text.specs.declared.formed.Forming.{Forming}
use Rattle.minus_text.specs.declared.layout.Wrap.{Wrap}
use Rattle.minus_text.specs.Layouts.{own_rows}
use Rattle.minus_text.specs.Rows.{IsPlace, ArePlaces}
use Rattle.minus_text.specs.Units.{columns}
use Rattle.minus_text.specs.Lines.{Cut, cut, whole, finished_lines, unfinished_line}
use Rattle.minus_text.specs.Document.{rows_of_lines, first_rows, longest_of}
use Rattle.minus_text.specs.Kept.{bytes_of, line_stored, closed_stored, Reaches}
use Rattle.minus_text.specs.Forms.{IsFormOfLines}
use Rattle.minus_text.proofs.DocumentLaws.{length-rows_of_lines-append, first_rows-append, first_rows-ascend, longest_of-append, lines_closed, lines_open}

-- there are as many places as rows
pub length-places : (text : List ℕ) (ss : List Span) (rs : List (List ℕ)) → ArePlaces text ss rs → length ss ≡ length rs
length-places text [] [] h = refl
length-places text [] (r ∷ rs) h = absurd h
length-places text (s ∷ ss) [] h = absurd h
length-places text (s ∷ ss) (r ∷ rs) h = ap suc (length-places text ss rs h.1)

-- a place ends within its text
pub place_within : (text : List ℕ) (ss : List Span) (rs : List (List ℕ)) (i : ℕ) (d : Span) → ArePlaces text ss rs → i < length ss → ((get_or ss i d).start ≤ (get_or ss i d).end) × ((get_or ss i d).end ≤ length text)
place_within text [] rs i d h l = absurd (omega arith)
place_within text (s ∷ ss) [] i d h l = absurd h
place_within text (s ∷ ss) (r ∷ rs) zero d h l = let one : IsPlace text s r = h.0 in (one.ordered, one.end.0)
place_within text (s ∷ ss) (r ∷ rs) (suc i) d h l = place_within text ss rs i d h.1 (omega arith)

-- what is formed of the finished lines of a text behind others, and what is left of it
pub record IsFormOfFinished (old : Forming) (rows : List Span) (firsts : List ℕ) (greatest : ℕ) (place : Finished) (rest text : List ℕ) (from : Finished) (wrap : Wrap) : Type 0 where
  pub its_rows : rows ≡ old.rows.items ++ closed_stored wrap from.bytes (cut text).closed
  pub its_count : length rows ≡ length old.rows.items + length (rows_of_lines wrap (finished_lines text))
  pub its_map : firsts ≡ old.first_rows.items ++ first_rows wrap from.rows (finished_lines text)
  pub its_longest : greatest ≡ max old.longest (longest_of (finished_lines text))
  pub its_line : place.lines ≡ from.lines + length (cut text).closed
  pub its_row : place.rows ≡ from.rows + length (rows_of_lines wrap (finished_lines text))
  pub its_byte : place.bytes ≡ from.bytes + sum_by bytes_of (cut text).closed
  pub its_rest : rest ≡ unfinished_line text

-- with no newline left they are all there
pub all_finished : (old : Forming) (kept : ℕ) (rows : List Span) (firsts : List ℕ) (greatest : ℕ) (place : Finished) (rest text : List ℕ) (from : Finished) (wrap : Wrap)
    → cut rest ≡ whole rest
    → rows ++ closed_stored wrap place.bytes (cut rest).closed ≡ old.rows.items ++ closed_stored wrap from.bytes (cut text).closed
    → length rows + length (rows_of_lines wrap (finished_lines rest)) ≡ length old.rows.items + length (rows_of_lines wrap (finished_lines text))
    → firsts ++ first_rows wrap place.rows (finished_lines rest) ≡ old.first_rows.items ++ first_rows wrap from.rows (finished_lines text)
    → place.rows ≡ kept + length rows
    → from.rows ≡ kept + length old.rows.items
    → max greatest (longest_of (finished_lines rest)) ≡ max old.longest (longest_of (finished_lines text))
    → place.lines + length (cut rest).closed ≡ from.lines + length (cut text).closed
    → place.bytes + sum_by bytes_of (cut rest).closed ≡ from.bytes + sum_by bytes_of (cut text).closed
    → (cut rest).open_line ≡ (cut text).open_line
    → IsFormOfFinished old rows firsts greatest place rest text from wrap
all_finished old kept rows firsts greatest place rest text from wrap e stored count starts reached began widest line at open_line =
    let none : (cut rest).closed ≡ [] = ap (λ (c : Cut). c.closed) e in
    let count0 = rw none at count in
    let widest0 = rw none at widest in
    let line0 = rw none at line in
    let at0 = rw none at at in
    record {
      its_rows = sym (append-nil rows) ∙ (rw none at stored);
      its_count = omega (arith, count0);
      its_map = sym (append-nil firsts) ∙ (rw none at starts);
      its_longest = omega (arith, widest0);
      its_line = omega (arith, line0);
      its_row = omega (arith, count0, reached, began);
      its_byte = omega (arith, at0);
      its_rest = ap (λ (c : Cut). c.open_line) (sym e) ∙ open_line;
    }

-- how far the finished lines go
form_reaches : (old : Forming) (rows : List Span) (firsts : List ℕ) (greatest : ℕ) (place : Finished) (rest text : List ℕ) (from : Finished) (wrap : Wrap) (widest : ℕ)
    → IsFormOfFinished old rows firsts greatest place rest text from wrap → old.longest ≤ from.longest → widest ≡ max from.longest greatest
    → Reaches wrap from (cut text).closed (record { lines = place.lines; rows = place.rows; bytes = place.bytes; longest = widest })
form_reaches old rows firsts greatest place rest text from wrap widest h few e = record {
  by_lines = h.its_line;
  by_rows = h.its_row;
  by_bytes = h.its_byte;
  longest_line = omega (arith, e, h.its_longest, few);
}

-- what is formed where nothing follows the last newline
pub form_closed : (old : Forming) (rows : List Span) (firsts : List ℕ) (greatest : ℕ) (place : Finished) (rest text : List ℕ) (from : Finished) (wrap : Wrap) (widest : ℕ) (f : Formed)
    → IsFormOfFinished old rows firsts greatest place rest text from wrap → old.longest ≤ from.longest → widest ≡ max from.longest greatest → eqb (length rest) 0 ≡ true
    → f.rows.items ≡ rows → f.first_rows ≡ firsts → f.longest ≡ greatest → f.finished ≡ record { lines = place.lines; rows = place.rows; bytes = place.bytes; longest = widest } → f.border ≡ record { bytes = 0; columns = 0 }
    → IsFormOfLines wrap old text from f
form_closed old rows firsts greatest place rest text from wrap widest f h few e none fr ff fl fp fb =
    let empty : eqb (length (unfinished_line text)) 0 ≡ true = rw h.its_rest at none in
    let all = lines_closed text empty in
    let closed : List Span = closed_stored wrap from.bytes (cut text).closed in
    record {
      its_rows = fr ∙ h.its_rows ∙ ap (λ rs. old.rows.items ++ rs) (sym (append-nil closed) ∙ ap (λ (b : Bool). closed ++ cond b [] (line_stored wrap (from.bytes + sum_by bytes_of (cut text).closed) (cut text).open_line)) (sym empty));
      its_count = ap length fr ∙ h.its_count ∙ ap (λ ls. length old.rows.items + length (rows_of_lines wrap ls)) (sym all);
      its_map = ff ∙ h.its_map ∙ ap (λ ls. old.first_rows.items ++ first_rows wrap from.rows ls) (sym all);
      its_finish = rw fp (form_reaches old rows firsts greatest place rest text from wrap widest h few e);
      its_longest = fl ∙ h.its_longest ∙ ap (λ ls. max old.longest (longest_of ls)) (sym all);
      its_border = fb;
    }

-- what is formed where something follows it
pub form_open : (old : Forming) (rows : List Span) (firsts : List ℕ) (greatest : ℕ) (place : Finished) (rest text : List ℕ) (from : Finished) (wrap : Wrap) (widest : ℕ) (f : Formed)
    → IsFormOfFinished old rows firsts greatest place rest text from wrap → old.longest ≤ from.longest → widest ≡ max from.longest greatest → eqb (length rest) 0 ≡ false
    → f.rows.items ≡ rows ++ line_stored wrap place.bytes rest → length f.rows.items ≡ length rows + length (own_rows wrap rest)
    → f.first_rows ≡ firsts ++ place.rows ∷ [] → f.longest ≡ max greatest (columns rest) → f.finished ≡ record { lines = place.lines; rows = place.rows; bytes = place.bytes; longest = widest } → f.border ≡ record { bytes = 0; columns = 0 }
    → IsFormOfLines wrap old text from f
form_open old rows firsts greatest place rest text from wrap widest f h few e some fr fc ff fl fp fb =
    let o : List ℕ = (cut text).open_line in
    let filled : eqb (length (unfinished_line text)) 0 ≡ false = rw h.its_rest at some in
    let all = lines_open text filled in
    let front : List (List ℕ) = finished_lines text in
    let rest_is : rest ≡ o = h.its_rest in
    let last : length (rows_of_lines wrap (o ∷ [])) ≡ length (own_rows wrap o) = ap length (append-nil (own_rows wrap o)) in
    let both = length-rows_of_lines-append wrap front (o ∷ []) in
    let widths = longest_of-append front (o ∷ []) in
    let closed : List Span = closed_stored wrap from.bytes (cut text).closed in
    let at : ℕ = from.bytes + sum_by bytes_of (cut text).closed in
    let count : length f.rows.items ≡ length rows + length (own_rows wrap o) = fc ∙ ap (λ x. length rows + length (own_rows wrap x)) rest_is in
    let long : f.longest ≡ max greatest (columns o) = fl ∙ ap (λ x. max greatest (columns x)) rest_is in
    record {
      its_rows = fr ∙ ap (λ rs. rs ++ line_stored wrap place.bytes rest) h.its_rows ∙ ap (λ n. (old.rows.items ++ closed) ++ line_stored wrap n rest) h.its_byte ∙ ap (λ x. (old.rows.items ++ closed) ++ line_stored wrap at x) rest_is
          ∙ append_assoc old.rows.items closed (line_stored wrap at o) ∙ ap (λ (b : Bool). old.rows.items ++ (closed ++ cond b [] (line_stored wrap at o))) (sym filled);
      its_count = rw all (omega (arith, count, h.its_count, both, last));
      its_map = ff ∙ ap (λ ns. ns ++ place.rows ∷ []) h.its_map ∙ ap (λ n. (old.first_rows.items ++ first_rows wrap from.rows front) ++ n ∷ []) h.its_row ∙ append_assoc old.first_rows.items (first_rows wrap from.rows front) ((from.rows + length (rows_of_lines wrap front)) ∷ [])
          ∙ ap (λ ns. old.first_rows.items ++ ns) (sym (first_rows-append wrap from.rows front (o ∷ [])) ∙ ap (first_rows wrap from.rows) (sym all));
      its_finish = rw fp (form_reaches old rows firsts greatest place rest text from wrap widest h few e);
      its_longest = rw all (omega (arith, long, h.its_longest, widths));
      its_border = fb;
    }

-- a place behind a place
pub Reaches-trans : (wrap : Wrap) (from mid to : Finished) (xs ys : List (List ℕ)) → Reaches wrap from xs mid → Reaches wrap mid ys to → Reaches wrap from (xs ++ ys) to
Reaches-trans wrap from mid to xs ys h k =
    let both : map strip_carriage_return (xs ++ ys) ≡ map strip_carriage_return xs ++ map strip_carriage_return ys = map-append strip_carriage_return xs ys in
    record {
      by_lines = omega (arith, h.by_lines, k.by_lines, length-append xs ys);
      by_rows = rw both (omega (arith, h.by_rows, k.by_rows, length-rows_of_lines-append wrap (map strip_carriage_return xs) (map strip_carriage_return ys)));
      by_bytes = omega (arith, h.by_bytes, k.by_bytes, sum_by-append bytes_of xs ys);
      longest_line = rw both (omega (arith, h.longest_line, k.longest_line, longest_of-append (map strip_carriage_return xs) (map strip_carriage_return ys)));
    }

-- the first rows of lines behind one that is before them
pub behind_ascends : (wrap : Wrap) (row n : ℕ) (ls : List (List ℕ)) → row < n → IsStrictlyIncreasing (row ∷ first_rows wrap n ls)
behind_ascends wrap row n [] l k m = absurd (omega arith)
behind_ascends wrap row n (x ∷ ls) l zero m = omega arith
behind_ascends wrap row n (x ∷ ls) l (suc k) m = let e : suc k + 1 ≡ suc (k + 1) = omega arith in rw e (first_rows-ascend wrap n (x ∷ ls) k (omega arith))
