-- The place of a row in the text is its place in its line, behind where the line begins.
use Rattle.std.proofs.Common.{◌≡◌, ℕ, zero, suc, ◌+◌, ◌-◌, ◌<◌, ◌≤◌, eqb, List, [], ◌∷◌, ◌++◌, length, map, take, Option, option_map, Some, None, refl, sym, ap, ◌∙◌, arith, inl, inr}
use Rattle.std.specs.List.{slice_get, sum_by}
use Rattle.std.specs.Str.Lines.{strip_carriage_return}
use Rattle.std.proofs.lemmas.Bool.{cases_Bool, cases_lt}
use Rattle.std.proofs.lemmas.Option.{slice_get-map}
use Rattle.std.proofs.lemmas.List.{length-append, length-map, take_all}
use Rattle.std.proofs.lemmas.List.Sums.{sum_by-cons}
use Rattle.minus_text.specs.declared.rows.Span.{Span}
use Rattle.minus_text.specs.declared.layout.Wrap.{Wrap}
use Rattle.minus_text.specs.Lines.{Cut, cut, finished_lines}
use Rattle.minus_text.specs.Layouts.{own_places}
use Rattle.minus_text.specs.Document.{wrap_in}
use Rattle.minus_text.specs.Kept.{moved, bytes_of, line_stored, closed_stored, open_stored}
use Rattle.minus_text.specs.LinePlaces.{row_places}
use Rattle.minus_text.specs.LineParts.{line_start}
use Rattle.minus_text.specs.RowHomes.{RowHome, line_homes, homes_from, open_homes, row_homes, RowsStandInLines}
use Rattle.minus_text.proofs.PendingLaws.{get_behind}

some_of_map : {X Y : Type 0} (f : X → Y) (o : Option X) (y : Y) → option_map f o ≡ Some y → (x : X) × (o ≡ Some x) × (f x ≡ y)
some_of_map f None y e = absurd cc
some_of_map f (Some x) y e = (x, refl, cc)

get_front : {X : Type 0} (xs ys : List X) (i : ℕ) → i < length xs → slice_get (xs ++ ys) i ≡ slice_get xs i
get_front [] ys i l = absurd (omega (arith, l))
get_front (x ∷ xs) ys zero l = refl
get_front (x ∷ xs) ys (suc i) l = get_front xs ys i (omega (arith, l))

-- a row of a line
record IsLineHome (wrap : Wrap) (at k : ℕ) (line : List ℕ) (i : ℕ) (s : Span) : Type 0 where
  place : Span
  is : slice_get (line_homes wrap k line) i ≡ Some (let h : RowHome = record { line = k; place = place } in h)
  start : s.start ≡ at + place.start
  end : s.end ≡ at + place.end

line_home : (wrap : Wrap) (at k : ℕ) (line : List ℕ) (i : ℕ) (s : Span) → slice_get (line_stored wrap at line) i ≡ Some s → IsLineHome wrap at k line i s
line_home wrap at k line i s e =
    let found = some_of_map (moved at) (slice_get (own_places wrap line) i) s (sym (slice_get-map (moved at) (own_places wrap line) i) ∙ e) in
    let mark : Span → RowHome = λ p. record { line = k; place = p } in
    record {
      place = found.0;
      is = slice_get-map mark (own_places wrap line) i ∙ ap (option_map mark) found.1;
      start = sym (ap (λ (r : Span). r.start) found.2);
      end = sym (ap (λ (r : Span). r.end) found.2);
    }

alike : (wrap : Wrap) (at k : ℕ) (line : List ℕ) → length (line_stored wrap at line) ≡ length (line_homes wrap k line)
alike wrap at k line = length-map (own_places wrap line) (moved at) ∙ sym (length-map (own_places wrap line) (λ p. let h : RowHome = record { line = k; place = p } in h))

all_alike : (wrap : Wrap) (at k : ℕ) (xs : List (List ℕ)) → length (closed_stored wrap at xs) ≡ length (homes_from wrap k (map strip_carriage_return xs))
all_alike wrap at k [] = refl
all_alike wrap at k (x ∷ xs) =
    let own : List ℕ = strip_carriage_return x in
    omega (arith, length-append (line_stored wrap at own) (closed_stored wrap (at + bytes_of x) xs), length-append (line_homes wrap k own) (homes_from wrap (k + 1) (map strip_carriage_return xs)), alike wrap at k own, all_alike wrap (at + bytes_of x) (k + 1) xs)

-- a row of lines that a newline ends
record IsHome (wrap : Wrap) (at k : ℕ) (xs : List (List ℕ)) (i : ℕ) (s : Span) : Type 0 where
  home : RowHome
  is : slice_get (homes_from wrap k (map strip_carriage_return xs)) i ≡ Some home
  low : k ≤ home.line
  start : s.start ≡ (at + sum_by bytes_of (take (home.line - k) xs)) + home.place.start
  end : s.end ≡ (at + sum_by bytes_of (take (home.line - k) xs)) + home.place.end

closed_home : (wrap : Wrap) (at k : ℕ) (xs : List (List ℕ)) (i : ℕ) (s : Span) → slice_get (closed_stored wrap at xs) i ≡ Some s → IsHome wrap at k xs i s
closed_home wrap at k [] i s e = absurd cc
closed_home wrap at k (x ∷ xs) i s e =
    let own : List ℕ = strip_carriage_return x in
    let here : List Span = line_stored wrap at own in
    let more : List Span = closed_stored wrap (at + bytes_of x) xs in
    let homes : List RowHome = line_homes wrap k own in
    let others : List RowHome = homes_from wrap (k + 1) (map strip_carriage_return xs) in
    let size : length here ≡ length homes = alike wrap at k own in
    elim (cases_lt i (length here)) [
      | inl l ↦
          let h = line_home wrap at k own i s (sym (get_front here more i l) ∙ e) in
          let z : k - k ≡ 0 = omega arith in
          let none : sum_by bytes_of (take (k - k) (x ∷ xs)) ≡ 0 = rw z refl in
          let first : RowHome = record { line = k; place = h.place } in
          record {
            home = first;
            is = get_front homes others i (omega (arith, l, size)) ∙ h.is;
            low = omega arith;
            start = omega (arith, h.start, none);
            end = omega (arith, h.end, none);
          }
      | inr g ↦
          let ih = closed_home wrap (at + bytes_of x) (k + 1) xs (i - length here) s (sym (get_behind here more i g) ∙ e) in
          let low = ih.low in
          let next : ih.home.line - k ≡ suc (ih.home.line - (k + 1)) = omega (arith, low) in
          let bytes : sum_by bytes_of (take (ih.home.line - k) (x ∷ xs)) ≡ bytes_of x + sum_by bytes_of (take (ih.home.line - (k + 1)) xs) =
          ap (λ n. sum_by bytes_of (take n (x ∷ xs))) next ∙ sum_by-cons bytes_of x (take (ih.home.line - (k + 1)) xs) in
          record {
            home = ih.home;
            is = get_behind homes others i (omega (arith, g, size)) ∙ ap (λ n. slice_get others (i - n)) (sym size) ∙ ih.is;
            low = omega (arith, low);
            start = omega (arith, ih.start, bytes);
            end = omega (arith, ih.end, bytes);
          }
    ]

pub rows_stand : RowsStandInLines
unfolding row_places row_homes
rows_stand d i s e =
    let wrap : Wrap = wrap_in d in
    let c : Cut = cut d.text in
    let sum : ℕ = 0 + sum_by bytes_of c.closed in
    let here : List Span = closed_stored wrap 0 c.closed in
    let more : List Span = open_stored wrap sum c.open_line in
    let k : ℕ = length (finished_lines d.text) in
    let homes : List RowHome = homes_from wrap 0 (finished_lines d.text) in
    let others : List RowHome = open_homes wrap k c.open_line in
    let size : length here ≡ length homes = all_alike wrap 0 0 c.closed in
    elim (cases_lt i (length here)) [
      | inl l ↦
          let h = closed_home wrap 0 0 c.closed i s (sym (get_front here more i l) ∙ e) in
          let z : h.home.line - 0 ≡ h.home.line = omega arith in
          let bytes : sum_by bytes_of (take (h.home.line - 0) c.closed) ≡ line_start d.text h.home.line = ap (λ n. sum_by bytes_of (take n c.closed)) z in
          (h.home, get_front homes others i (omega (arith, l, size)) ∙ h.is, omega (arith, h.start, bytes), omega (arith, h.end, bytes))
      | inr g ↦
          let there : slice_get more (i - length here) ≡ Some s = sym (get_behind here more i g) ∙ e in
          let all : line_start d.text k ≡ sum_by bytes_of c.closed = ap (sum_by bytes_of) (take_all k c.closed (omega (arith, length-map c.closed strip_carriage_return))) in
          elim (cases_Bool (eqb (length c.open_line) 0)) [
            | inl t ↦ let none : slice_get {X = Span} [] (i - length here) ≡ Some s = rw t at there in absurd cc
            | inr f ↦
                let line : slice_get (line_stored wrap sum c.open_line) (i - length here) ≡ Some s = rw f at there in
                let h = line_home wrap sum k c.open_line (i - length here) s line in
                let last : RowHome = record { line = k; place = h.place } in
                let opened : others ≡ line_homes wrap k c.open_line = rw f refl in
                (last, get_behind homes others i (omega (arith, g, size)) ∙ ap (λ n. slice_get others (i - n)) (sym size) ∙ ap (λ hs. slice_get hs (i - length here)) opened ∙ h.is, omega (arith, h.start, all), omega (arith, h.end, all))
          ]
    ]
