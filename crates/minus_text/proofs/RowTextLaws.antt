-- The text of a row is the part of the text at its place.
use Rattle.std.proofs.Common.{◌≡◌, ℕ, ◌+◌, ◌-◌, ◌≤◌, eqb, List, [], ◌∷◌, ◌++◌, length, map, option_map, Option, Some, None, refl, sym, subst, ap, ◌∙◌, arith, inl, inr}
use Rattle.std.specs.List.{slice_get, slice_range, sum_by}
use Rattle.std.specs.Str.{IsUtf8, IsCharBoundary}
use Rattle.std.specs.Str.Lines.{lines, strip_carriage_return}
use Rattle.std.proofs.lemmas.Bool.{cases_Bool}
use Rattle.std.proofs.lemmas.Option.{slice_get-map, slice_get_past}
use Rattle.std.proofs.lemmas.List.{length-map, map-append}
use Rattle.minus_text.specs.declared.rows.Span.{Span}
use Rattle.minus_text.specs.declared.formed.Finished.{Finished}
use Rattle.minus_text.specs.declared.formed.Border.{Border}
use Rattle.minus_text.specs.declared.layout.Wrap.{Wrap}
use Rattle.minus_text.specs.Layouts.{own_places, wrap_of}
use Rattle.minus_text.specs.Rows.{IsPlace, ArePlaces}
use Rattle.minus_text.specs.Lines.{Cut, cut}
use Rattle.minus_text.specs.declared.layout.Layout.{Layout}
use Rattle.minus_text.specs.Document.{Document, rows_of, rows_of_lines}
use Rattle.minus_text.specs.Fragments.{Fragment, rows_in}
use Rattle.minus_text.specs.Kept.{moved, line_stored, closed_stored, open_stored, stored_from, bytes_of, IsFormed}
use Rattle.minus_text.proofs.FormLaws.{length-places}
use Rattle.minus_text.proofs.PlacesLaws.{stored_some, stored_none, stored-are}
use Rattle.minus_text.proofs.SeamLaws.{moved_twice}

-- what a stored row with a number is
pub record IsRowAt (text : List ℕ) (d : Fragment) (i : ℕ) (r : Span) : Type 0 where
  pub ordered : r.start ≤ r.end
  pub start : IsCharBoundary text r.start
  pub end : IsCharBoundary text r.end
  pub value : slice_get (rows_in d) i ≡ Some (slice_range text r.start r.end)

row_at : (text : List ℕ) (wrap : Wrap) (rows : List Span) (d : Fragment) (i : ℕ) (r : Span) → (let e : Fragment = record { text = text; wrap = wrap } in e) ≡ d → rows ≡ stored_from wrap 0 (cut text) → IsUtf8 text → slice_get rows i ≡ Some r → IsRowAt text d i r
unfolding rows_in
row_at text wrap rows d i r v h u e =
    let are : ArePlaces text rows (rows_of_lines wrap (lines text)) = rw h (stored-are text wrap u) in
    let found = stored_some text rows (rows_of_lines wrap (lines text)) i r are e in
    let place : IsPlace text r found.0 = found.2 in
    let is : slice_get (rows_of_lines wrap (lines text)) i ≡ Some (slice_range text r.start r.end) = found.1 ∙ ap (λ t. Some t) (sym place.value) in
    record {
      ordered = place.ordered;
      start = place.start;
      end = place.end;
      value = subst (λ (x : Fragment). slice_get (rows_in x) i ≡ Some (slice_range text r.start r.end)) v is;
    }

no_row_at : (text : List ℕ) (wrap : Wrap) (rows : List Span) (d : Fragment) (i : ℕ) → (let e : Fragment = record { text = text; wrap = wrap } in e) ≡ d → rows ≡ stored_from wrap 0 (cut text) → IsUtf8 text → slice_get rows i ≡ None → slice_get (rows_in d) i ≡ None
unfolding rows_in
no_row_at text wrap rows d i v h u e =
    let are : ArePlaces text rows (rows_of_lines wrap (lines text)) = rw h (stored-are text wrap u) in
    subst (λ (x : Fragment). slice_get (rows_in x) i ≡ None) v (stored_none text rows (rows_of_lines wrap (lines text)) i are e)

-- the row of a screen with a number
pub record IsRowOf (text : List ℕ) (d : Document) (i : ℕ) (r : Span) : Type 0 where
  pub ordered : r.start ≤ r.end
  pub start : IsCharBoundary text r.start
  pub end : IsCharBoundary text r.end
  pub value : slice_get (rows_of d) i ≡ Some (slice_range text r.start r.end)

pub row_here : (text : List ℕ) (layout : Layout) (rows : List Span) (firsts : List ℕ) (finished : Finished) (n : ℕ) (b : Border) (d : Document) (i : ℕ) (r : Span)
    → (let e : Document = record { text = text; layout = layout } in e) ≡ d → IsFormed text (wrap_of layout (length (lines text))) rows firsts finished n b → IsUtf8 text → slice_get rows i ≡ Some r → IsRowOf text d i r
unfolding rows_of rows_in
row_here text layout rows firsts finished n b d i r v h u e =
    let wrap : Wrap = wrap_of layout (length (lines text)) in
    let row = row_at text wrap rows (record { text = text; wrap = wrap }) i r refl h.its_rows u e in
    record {
      ordered = row.ordered;
      start = row.start;
      end = row.end;
      value = subst (λ (x : Document). slice_get (rows_of x) i ≡ Some (slice_range text r.start r.end)) v row.value;
    }

pub no_row : (text : List ℕ) (layout : Layout) (rows : List Span) (firsts : List ℕ) (finished : Finished) (n : ℕ) (b : Border) (d : Document) (i : ℕ)
    → (let e : Document = record { text = text; layout = layout } in e) ≡ d → IsFormed text (wrap_of layout (length (lines text))) rows firsts finished n b → IsUtf8 text → slice_get rows i ≡ None → slice_get (rows_of d) i ≡ None
unfolding rows_of rows_in
no_row text layout rows firsts finished n b d i v h u e =
    let wrap : Wrap = wrap_of layout (length (lines text)) in
    subst (λ (x : Document). slice_get (rows_of x) i ≡ None) v (no_row_at text wrap rows (record { text = text; wrap = wrap }) i refl h.its_rows u e)

-- ---- rows whose places are counted from before their text

line_moved : (wrap : Wrap) (n at : ℕ) (line : List ℕ) → line_stored wrap (n + at) line ≡ map (moved n) (line_stored wrap at line)
line_moved wrap n at line = sym (moved_twice n at (own_places wrap line))

closed_moved : (wrap : Wrap) (n at : ℕ) (xs : List (List ℕ)) → closed_stored wrap (n + at) xs ≡ map (moved n) (closed_stored wrap at xs)
closed_moved wrap n at [] = refl
closed_moved wrap n at (x ∷ xs) =
    let e : (n + at) + bytes_of x ≡ n + (at + bytes_of x) = omega arith in
    ap (λ rs. rs ++ closed_stored wrap ((n + at) + bytes_of x) xs) (line_moved wrap n at (strip_carriage_return x))
    ∙ ap (λ m. map (moved n) (line_stored wrap at (strip_carriage_return x)) ++ closed_stored wrap m xs) e ∙ ap (λ rs. map (moved n) (line_stored wrap at (strip_carriage_return x)) ++ rs) (closed_moved wrap n (at + bytes_of x) xs)
    ∙ sym (map-append (moved n) (line_stored wrap at (strip_carriage_return x)) (closed_stored wrap (at + bytes_of x) xs))

open_moved : (wrap : Wrap) (n at : ℕ) (line : List ℕ) → open_stored wrap (n + at) line ≡ map (moved n) (open_stored wrap at line)
open_moved wrap n at line = elim (cases_Bool (eqb (length line) 0)) [
  | inl t ↦ rw t refl
  | inr f ↦ rw f (line_moved wrap n at line)
]

pub stored_moved : (wrap : Wrap) (n : ℕ) (c : Cut) → stored_from wrap n c ≡ map (moved n) (stored_from wrap 0 c)
stored_moved wrap n c =
    let z : n ≡ n + 0 = omega arith in
    let e : n + sum_by bytes_of c.closed ≡ n + (0 + sum_by bytes_of c.closed) = omega arith in
    ap (λ m. closed_stored wrap m c.closed ++ open_stored wrap (n + sum_by bytes_of c.closed) c.open_line) z ∙ ap (λ m. closed_stored wrap (n + 0) c.closed ++ open_stored wrap m c.open_line) e
    ∙ ap (λ rs. rs ++ open_stored wrap (n + (0 + sum_by bytes_of c.closed)) c.open_line) (closed_moved wrap n 0 c.closed)
    ∙ ap (λ rs. map (moved n) (closed_stored wrap 0 c.closed) ++ rs) (open_moved wrap n (0 + sum_by bytes_of c.closed) c.open_line)
    ∙ sym (map-append (moved n) (closed_stored wrap 0 c.closed) (open_stored wrap (0 + sum_by bytes_of c.closed) c.open_line))

-- a row of a prepared push, in its tail
pub record IsTailRow (tail : List ℕ) (d : Fragment) (n i : ℕ) (r : Span) : Type 0 where
  pub begins : n ≤ r.start
  pub ends : n ≤ r.end
  pub row : IsRowAt tail d i (record { start = r.start - n; end = r.end - n })

pub tail_row : (tail : List ℕ) (wrap : Wrap) (n : ℕ) (rows : List Span) (d : Fragment) (i : ℕ) (r : Span) → (let e : Fragment = record { text = tail; wrap = wrap } in e) ≡ d → rows ≡ stored_from wrap n (cut tail) → IsUtf8 tail → slice_get rows i ≡ Some r → IsTailRow tail d n i r
tail_row tail wrap n rows d i r v h u e = go (slice_get inner i) refl
  where
    inner : List Span
    inner = stored_from wrap 0 (cut tail)

    there : slice_get rows i ≡ option_map (moved n) (slice_get inner i)
    there = ap (λ rs. slice_get rs i) (h ∙ stored_moved wrap n (cut tail)) ∙ slice_get-map (moved n) inner i

    go : (o : Option Span) → slice_get inner i ≡ o → IsTailRow tail d n i r
    go None f = let none : Some r ≡ None = sym e ∙ there ∙ ap (option_map (moved n)) f in absurd cc
    go (Some s) f =
        let both : Some r ≡ Some (moved n s) = sym e ∙ there ∙ ap (option_map (moved n)) f in
        let is : r ≡ moved n s = cc in
        let start : (n + s.start) - n ≡ s.start = omega arith in
        let end : (n + s.end) - n ≡ s.end = omega arith in
        rw is (record { begins = omega arith; ends = omega arith; row = rw (start, end) (row_at tail wrap inner d i s v refl u f) })

pub no_tail_row : (tail : List ℕ) (wrap : Wrap) (n : ℕ) (rows : List Span) (d : Fragment) (i : ℕ) → (let e : Fragment = record { text = tail; wrap = wrap } in e) ≡ d → rows ≡ stored_from wrap n (cut tail) → IsUtf8 tail → length rows ≤ i → slice_get (rows_in d) i ≡ None
no_tail_row tail wrap n rows d i v h u l =
    let inner : List Span = stored_from wrap 0 (cut tail) in
    let many : length rows ≡ length inner = ap length (h ∙ stored_moved wrap n (cut tail)) ∙ length-map inner (moved n) in
    no_row_at tail wrap inner d i v refl u (slice_get_past inner i (omega arith))

-- how many there are
pub tail_rows : (tail : List ℕ) (wrap : Wrap) (n : ℕ) (rows : List Span) (d : Fragment) → (let e : Fragment = record { text = tail; wrap = wrap } in e) ≡ d → rows ≡ stored_from wrap n (cut tail) → IsUtf8 tail → length rows ≡ length (rows_in d)
unfolding rows_in
tail_rows tail wrap n rows d v h u =
    let inner : List Span = stored_from wrap 0 (cut tail) in
    subst (λ (x : Fragment). length rows ≡ length (rows_in x)) v (ap length (h ∙ stored_moved wrap n (cut tail)) ∙ length-map inner (moved n) ∙ length-places tail inner (rows_of_lines wrap (lines tail)) (stored-are tail wrap u))
