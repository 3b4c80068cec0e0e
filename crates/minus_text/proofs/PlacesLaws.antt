-- The stored rows of a text are places in it, and give the rows of its lines.
use Rattle.std.proofs.Common.{◌≡◌, ℕ, zero, suc, ◌+◌, ◌-◌, ◌<◌, ◌≤◌, eqb, List, [], ◌∷◌, ◌++◌, length, map, take, drop, get_or, Some, None, refl, sym, subst, ap, ◌∙◌, arith, append_assoc, inl, inr}
use Rattle.std.specs.List.{sum_by, slice_get}
use Rattle.std.specs.Str.{IsUtf8, IsCharBoundary}
use Rattle.std.specs.Str.Lines.{lines, strip_carriage_return}
use Rattle.std.proofs.lemmas.Bool.{cases_Bool, eqb-true, cases_lt}
use Rattle.std.proofs.lemmas.List.{length-append, get_or_append_left, get_or-append_right, take_at, drop_at, take-append-drop, append-nil, get_or-drop, drop-drop, length-drop, drop-append-le, take-append-le}
use Rattle.std.proofs.lemmas.List.Concat.{flat_map-append}
use Rattle.std.proofs.lemmas.Str.{IsCharBoundary-after_ascii, IsCharBoundary-before_ascii, IsCharBoundary-from_rest, IsUtf8-take, IsUtf8-drop}
use Rattle.minus_text.specs.declared.rows.Span.{Span}
use Rattle.minus_text.specs.declared.layout.Wrap.{Wrap}
use Rattle.minus_text.specs.Layouts.{own_rows, own_places}
use Rattle.minus_text.specs.Rows.{IsPlace, ArePlaces}
use Rattle.minus_text.specs.Lines.{Cut, cut, onto, finished_lines, unfinished_line}
use Rattle.minus_text.specs.Document.{rows_of_lines}
use Rattle.minus_text.specs.Kept.{moved, line_stored, closed_stored, stored_from, bytes_of}
use Rattle.minus_text.proofs.LayoutLaws.{own_places-are}
use Rattle.minus_text.proofs.LinesLaws.{open_at, open_boundary}
use Rattle.minus_text.proofs.DocumentLaws.{lines_closed, lines_open}

-- the places of some rows, and then those of others
pub ArePlaces-append : (text : List ℕ) (xs ys : List Span) (ts us : List (List ℕ)) → ArePlaces text xs ts → ArePlaces text ys us → ArePlaces text (xs ++ ys) (ts ++ us)
ArePlaces-append text [] ys [] us h k = k
ArePlaces-append text [] ys (t ∷ ts) us h k = absurd h
ArePlaces-append text (x ∷ xs) ys [] us h k = absurd h
ArePlaces-append text (x ∷ xs) ys (t ∷ ts) us h k = (h.0, ArePlaces-append text xs ys ts us h.1 k)

-- the row at a number, if there is one
pub stored_some : (text : List ℕ) (rs : List Span) (ts : List (List ℕ)) (i : ℕ) (r : Span) → ArePlaces text rs ts → slice_get rs i ≡ Some r → (t : List ℕ) × (slice_get ts i ≡ Some t) × IsPlace text r t
stored_some text [] [] i r h e = absurd cc
stored_some text [] (t ∷ ts) i r h e = absurd h
stored_some text (x ∷ rs) [] i r h e = absurd h
stored_some text (x ∷ rs) (t ∷ ts) zero r h e = let same : x ≡ r = cc in (t, refl, subst (λ (y : Span). IsPlace text y t) same h.0)
stored_some text (x ∷ rs) (t ∷ ts) (suc i) r h e = stored_some text rs ts i r h.1 e

pub stored_none : (text : List ℕ) (rs : List Span) (ts : List (List ℕ)) (i : ℕ) → ArePlaces text rs ts → slice_get rs i ≡ None → slice_get ts i ≡ None
stored_none text [] [] i h e = refl
stored_none text [] (t ∷ ts) i h e = absurd h
stored_none text (x ∷ rs) [] i h e = absurd h
stored_none text (x ∷ rs) (t ∷ ts) zero h e = absurd cc
stored_none text (x ∷ rs) (t ∷ ts) (suc i) h e = stored_none text rs ts i h.1 e

-- a front that ASCII follows is cut where it is cut alone
front_boundary : (x rest : List ℕ) (j : ℕ) → (0 < length rest → get_or rest 0 0 < 128) → IsCharBoundary x j → IsCharBoundary (x ++ rest) j
front_boundary x rest j a h =
    let len : length (x ++ rest) ≡ length x + length rest = length-append x rest in
    let le : j ≤ length x = h.0 in
    elim (cases_lt j (length x)) [
      | inl l ↦ (omega arith, λ m g. let e : get_or (x ++ rest) j 0 ≡ get_or x j 0 = get_or_append_left x rest 0 j l in rw e (h.1 l (rw e at g)))
      | inr e ↦ (
        omega arith,
        λ m g.
            let k : get_or (x ++ rest) j 0 ≡ get_or rest (j - length x) 0 = get_or-append_right x rest (length x) j 0 refl e in
            let z : j - length x ≡ 0 = omega arith in
            let k2 : get_or (x ++ rest) j 0 ≡ get_or rest 0 0 = rw z at k in
            let small : get_or rest 0 0 < 128 = a (omega arith) in
            absurd (omega arith),
      )
    ]

-- a place in a front of what stands behind a place, as a place in the whole
moved_place : (text x rest row : List ℕ) (at : ℕ) (s : Span) → at ≤ length text → drop at text ≡ x ++ rest → (0 < length rest → get_or rest 0 0 < 128) → IsPlace x s row
    → IsPlace text (record { start = at + s.start; end = at + s.end }) row
moved_place text x rest row at s le e a one =
    let ordered : s.start ≤ s.end = one.ordered in
    let within : s.end ≤ length x = one.end.0 in
    let b : IsCharBoundary (drop at text) s.start = rw e (front_boundary x rest s.start a one.start) in
    let f : IsCharBoundary (drop at text) s.end = rw e (front_boundary x rest s.end a one.end) in
    let size : (at + s.end) - (at + s.start) ≡ s.end - s.start = omega arith in
    let left : length (drop s.start x) ≡ length x - s.start = length-drop s.start x in
    record {
      ordered = omega arith;
      start = IsCharBoundary-from_rest text at s.start le b;
      end = IsCharBoundary-from_rest text at s.end le f;
      value = rw size (ap (take (s.end - s.start)) (sym (drop-drop s.start at text) ∙ ap (drop s.start) e ∙ drop-append-le s.start x rest (omega arith))
          ∙ take-append-le (s.end - s.start) (drop s.start x) rest (omega arith) ∙ one.value);
    }

moved_places : (text x rest : List ℕ) (at : ℕ) (ss : List Span) (rs : List (List ℕ)) → at ≤ length text → drop at text ≡ x ++ rest → (0 < length rest → get_or rest 0 0 < 128) → ArePlaces x ss rs → ArePlaces text (map (moved at) ss) rs
moved_places text x rest at [] [] le e a h = tt
moved_places text x rest at [] (r ∷ rs) le e a h = absurd h
moved_places text x rest at (s ∷ ss) [] le e a h = absurd h
moved_places text x rest at (s ∷ ss) (r ∷ rs) le e a h = (moved_place text x rest r at s le e a h.0, moved_places text x rest at ss rs le e a h.1)

line_stored-are : (text x rest : List ℕ) (wrap : Wrap) (at : ℕ) → at ≤ length text → drop at text ≡ x ++ rest → (0 < length rest → get_or rest 0 0 < 128) → IsUtf8 x → ArePlaces text (line_stored wrap at x) (own_rows wrap x)
line_stored-are text x rest wrap at le e a u = moved_places text x rest at (own_places wrap x) (own_rows wrap x) le e a (own_places-are wrap x u)

-- a line without its carriage return
pub stripped : (x : List ℕ) → IsUtf8 x → (rest : List ℕ) × (x ≡ strip_carriage_return x ++ rest) × (0 < length rest → get_or rest 0 0 < 128) × IsUtf8 (strip_carriage_return x)
stripped x u = elim (cases_Bool (eqb (get_or x (length x - 1) 0) 13)) [
  | inl e ↦
      let n : ℕ = length x - 1 in
      let is : get_or x n 0 ≡ 13 = eqb-true (get_or x n 0) 13 e in
      let back : strip_carriage_return x ≡ take n x = rw e refl in
      let lt : n < length x = some x is in
      let at0 : get_or (drop n x) 0 0 ≡ 13 = get_or-drop n x 0 0 ∙ ap (λ m. get_or x m 0) (let z : n + 0 ≡ n = omega arith in z) ∙ is in
      (drop n x, rw back (sym (take-append-drop n x)), (λ l. omega arith), rw back (IsUtf8-take x n u (IsCharBoundary-before_ascii x n lt (omega arith))))
  | inr e ↦ let back : strip_carriage_return x ≡ x = rw e refl in ([], rw back (sym (append-nil x)), (λ l. absurd (omega arith)), rw back u)
]
  where
    some : (x : List ℕ) → get_or x (length x - 1) 0 ≡ 13 → length x - 1 < length x
    some [] h = absurd (omega arith)
    some (b ∷ x) h = omega arith

-- closed lines and what follows them, as one text
abbrev pub joined : List (List ℕ) → List ℕ → List ℕ
joined [] o = o
joined (x ∷ xs) o = x ++ 10 ∷ joined xs o

pub cut_joined : (bs : List ℕ) → bs ≡ joined (cut bs).closed (cut bs).open_line
cut_joined [] = refl
cut_joined (b ∷ bs) = elim (cases_Bool (eqb b 10)) [
  | inl t ↦ let e : b ≡ 10 = eqb-true b 10 t in rw t (ap (λ x. x ∷ bs) e ∙ ap (λ xs. 10 ∷ xs) (cut_joined bs))
  | inr f ↦ rw f (ap (λ xs. b ∷ xs) (cut_joined bs) ∙ onto_joined b (cut bs).closed (cut bs).open_line)
]
  where
    onto_joined : (b : ℕ) (c : List (List ℕ)) (o : List ℕ) → b ∷ joined c o ≡ joined (onto b c o).closed (onto b c o).open_line
    onto_joined b [] o = refl
    onto_joined b (x ∷ c) o = refl

-- the two sides of a newline
pub sides : (x more : List ℕ) → IsUtf8 (x ++ 10 ∷ more) → IsUtf8 x × IsUtf8 more
sides x more u =
    let all : List ℕ = x ++ 10 ∷ more in
    let len : length all ≡ length x + suc (length more) = length-append x (10 ∷ more) in
    let here : get_or all (length x) 0 ≡ 10 = get_or-append_right x (10 ∷ more) (length x) (length x) 0 refl (omega arith) ∙ ap (λ m. get_or (10 ∷ more) m 0) (let z : length x - length x ≡ 0 = omega arith in z) in
    let b = IsCharBoundary-before_ascii all (length x) (omega arith) (omega arith) in
    let a = IsCharBoundary-after_ascii all (length x) u (omega arith) (omega arith) in
    let t : take (length x) all ≡ x = take_at x (10 ∷ more) (length x) refl in
    let d : drop (length x + 1) all ≡ more = sym (drop-drop 1 (length x) all) ∙ ap (drop 1) (drop_at x (10 ∷ more) (length x) refl) in
    (rw t at (IsUtf8-take all (length x) u b), rw d at (IsUtf8-drop all (length x + 1) u a))

small_head : (xs ys : List ℕ) → (0 < length xs → get_or xs 0 0 < 128) → get_or ys 0 0 < 128 → get_or (xs ++ ys) 0 0 < 128
small_head [] ys h k = k
small_head (x ∷ xs) ys h k = h (omega arith)

closed_stored-are : (text : List ℕ) (wrap : Wrap) (at : ℕ) (xs : List (List ℕ)) (o : List ℕ) → at ≤ length text → drop at text ≡ joined xs o → IsUtf8 (joined xs o)
    → ArePlaces text (closed_stored wrap at xs) (rows_of_lines wrap (map strip_carriage_return xs))
closed_stored-are text wrap at [] o le e u = tt
closed_stored-are text wrap at (x ∷ xs) o le e u =
    let more : List ℕ = joined xs o in
    let both = sides x more u in
    let w = stripped x both.0 in
    let here : drop at text ≡ strip_carriage_return x ++ (w.0 ++ 10 ∷ more) = e ∙ ap (λ y. y ++ 10 ∷ more) w.1 ∙ append_assoc (strip_carriage_return x) w.0 (10 ∷ more) in
    let len : length text - at ≡ length x + suc (length more) = sym (length-drop at text) ∙ ap length e ∙ length-append x (10 ∷ more) in
    let one : length x + 1 ≡ suc (length x) = omega arith in
    let next : drop (at + bytes_of x) text ≡ more = sym (drop-drop (length x + 1) at text) ∙ ap (drop (length x + 1)) e ∙ sym (drop-drop 1 (length x) (x ++ 10 ∷ more)) ∙ ap (drop 1) (drop_at x (10 ∷ more) (length x) refl) in
    ArePlaces-append text (line_stored wrap at (strip_carriage_return x)) (closed_stored wrap (at + bytes_of x) xs) (own_rows wrap (strip_carriage_return x)) (rows_of_lines wrap (map strip_carriage_return xs))
    (line_stored-are text (strip_carriage_return x) (w.0 ++ 10 ∷ more) wrap at le here (λ _. small_head w.0 (10 ∷ more) w.2 (omega arith)) w.3)
    (closed_stored-are text wrap (at + bytes_of x) xs o (omega arith) next both.1)

-- the stored rows of the finished lines
pub finished-are : (text : List ℕ) (wrap : Wrap) → IsUtf8 text → ArePlaces text (closed_stored wrap 0 (cut text).closed) (rows_of_lines wrap (finished_lines text))
finished-are text wrap u = closed_stored-are text wrap 0 (cut text).closed (cut text).open_line (omega arith) (cut_joined text) (rw (cut_joined text) at u)

-- the stored rows of a text
pub stored-are : (text : List ℕ) (wrap : Wrap) → IsUtf8 text → ArePlaces text (stored_from wrap 0 (cut text)) (rows_of_lines wrap (lines text))
stored-are text wrap u =
    let c : Cut = cut text in
    let h = open_at text in
    let at : ℕ = sum_by bytes_of c.closed in
    let z : 0 + sum_by bytes_of c.closed ≡ sum_by bytes_of c.closed = omega arith in
    let nil : text ++ [] ≡ text = append-nil text in
    let b : IsCharBoundary text at = rw nil at (open_boundary text [] (rw nil u)) in
    let uo : IsUtf8 c.open_line = rw h.rest at (IsUtf8-drop text at u b) in
    let front = finished-are text wrap u in
    elim (cases_Bool (eqb (length (unfinished_line text)) 0)) [
      | inl none ↦ rw (lines_closed text none, none, append-nil (closed_stored wrap 0 c.closed)) front
      | inr some ↦
          let last = line_stored-are text c.open_line [] wrap at h.within (h.rest ∙ sym (append-nil c.open_line)) (λ l. absurd (omega arith)) uo in
          rw (lines_open text some, some, z, flat_map-append (own_rows wrap) (finished_lines text) (c.open_line ∷ []))
          (ArePlaces-append text (closed_stored wrap 0 c.closed) (line_stored wrap at c.open_line) (rows_of_lines wrap (finished_lines text)) (own_rows wrap c.open_line ++ []) front (rw (append-nil (own_rows wrap c.open_line)) last))
    ]
