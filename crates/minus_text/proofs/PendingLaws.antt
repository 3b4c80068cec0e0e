-- The rows that a push would leave.
use Rattle.std.proofs.Common.{◌≡◌, ℕ, ◌+◌, ◌-◌, ◌≤◌, ◌<◌, zero, suc, Bool, true, cond, eqb, List, [], ◌∷◌, ◌++◌, length, map, take, drop, refl, sym, ap, ◌∙◌, arith, append_assoc, inl, inr}
use Rattle.std.specs.List.{slice_get}
use Rattle.std.specs.Str.{IsUtf8}
use Rattle.std.specs.Str.Lines.{lines, strip_carriage_return}
use Rattle.std.proofs.Math.Seq.{take-append-add}
use Rattle.std.proofs.lemmas.Bool.{cases_Bool}
use Rattle.std.proofs.lemmas.List.{append-nil, length-append, length-map, length-take-le, take_at}
use Rattle.std.proofs.lemmas.List.Concat.{flat_map-append}
use Rattle.minus_text.specs.declared.formed.Restart.{Restart}
use Rattle.minus_text.specs.declared.formed.Formed.{Formed}
use Rattle.minus_text.specs.declared.layout.Wrap.{Wrap}
use Rattle.minus_text.specs.declared.line_numbers.LineNumbers.{LineNumbers}
use Rattle.minus_text.specs.declared.formed.Plan.{Plan}
use Rattle.minus_text.specs.Layouts.{own_rows}
use Rattle.minus_text.specs.Lines.{Cut, cut, whole, behind, finished_lines, unfinished_line}
use Rattle.minus_text.specs.Document.{Document, first_rows, line_map, line_count, rows_of, rows_of_lines, open_rows, unfinished_rows, pushed, wrap_in, plan_of, formed_text, first_formed}
use Rattle.minus_text.specs.Fragments.{rows_in}
use Rattle.minus_text.specs.Kept.{Reaches, IsFormOf, IsRestart, IsRestartOf, at_start, line_going_on, piece_behind}
use Rattle.minus_text.specs.PushedPlaces.{PlacesGoOn}
use Rattle.minus_text.specs.Pending.{Pending, IsPending, IsAtLine, BeginsWithLine}
use Rattle.minus_text.proofs.LinesLaws.{lines-cut}
use Rattle.minus_text.proofs.DocumentLaws.{length-rows_of_lines, length-first_rows, first_rows-append}
use Rattle.minus_text.proofs.PlacesLaws.{joined, cut_joined, sides}
use Rattle.minus_text.proofs.PreparedLaws.{front_cut, whole_append, whole_drop}
use Rattle.minus_text.proofs.PushedLaws.{lines_pushed, keeps_wrap}

-- ---- the rows of a line that goes on, and of the lines behind it

-- the lines of a cut
abbrev lines_of : Cut → List (List ℕ)
lines_of c = map strip_carriage_return c.closed ++ cond (eqb (length c.open_line) 0) [] (c.open_line ∷ [])

open_lines : (wrap : Wrap) (text : List ℕ) → rows_of_lines wrap (cond (eqb (length text) 0) [] (text ∷ [])) ≡ open_rows wrap text
open_lines wrap text = elim (cases_Bool (eqb (length text) 0)) [ inl t ↦ rw t refl | inr f ↦ rw f (append-nil (own_rows wrap text)) ]

rows_on : (wrap : Wrap) (line piece : List ℕ) (start : Restart) (closed : List (List ℕ)) (o : List ℕ) → IsRestart wrap line start → IsUtf8 (line ++ piece) → (let c : Cut = record { closed = closed; open_line = o } in cut piece ≡ c)
    → rows_of_lines wrap (lines (line ++ piece)) ≡ take start.rows (open_rows wrap line) ++ rows_of_lines wrap (lines (drop start.bytes line ++ piece))
rows_on wrap line piece start [] o r u e =
    let same : o ≡ piece = open_is piece o e in
    let one : cut piece ≡ whole piece = e ∙ ap (λ x. let c : Cut = record { closed = []; open_line = x } in c) same in
    let all : cut (line ++ piece) ≡ whole (line ++ piece) = whole_append line piece r.one_line one in
    let tail : cut (drop start.bytes line ++ piece) ≡ whole (drop start.bytes line ++ piece) = whole_append (drop start.bytes line) piece (whole_drop start.bytes line r.one_line) one in
    ap (rows_of_lines wrap) (lines-cut (line ++ piece) ∙ ap lines_of all) ∙ open_lines wrap (line ++ piece) ∙ r.goes_on.open_go_on piece u
    ∙ ap (λ rs. take start.rows (open_rows wrap line) ++ rs) (sym (ap (rows_of_lines wrap) (lines-cut (drop start.bytes line ++ piece) ∙ ap lines_of tail) ∙ open_lines wrap (drop start.bytes line ++ piece)))
  where
    open_is : (piece o : List ℕ) → (let c : Cut = record { closed = []; open_line = o } in cut piece ≡ c) → o ≡ piece
    open_is piece o e = sym (cut_joined piece ∙ ap (λ (c : Cut). joined c.closed c.open_line) e)
rows_on wrap line piece start (p ∷ closed) o r u e =
    let more : Cut = record { closed = closed; open_line = o } in
    let all : cut (line ++ piece) ≡ behind (line ++ p) more = front_cut line piece p more r.one_line e in
    let tail : cut (drop start.bytes line ++ piece) ≡ behind (drop start.bytes line ++ p) more = front_cut (drop start.bytes line) piece p more (whole_drop start.bytes line r.one_line) e in
    let split : line ++ piece ≡ (line ++ p) ++ 10 ∷ joined closed o = ap (λ xs. line ++ xs) (cut_joined piece ∙ ap (λ (c : Cut). joined c.closed c.open_line) e) ∙ sym (append_assoc line p (10 ∷ joined closed o)) in
    let v : IsUtf8 (line ++ p) = (sides (line ++ p) (joined closed o) (rw split at u)).0 in
    ap (rows_of_lines wrap) (lines-cut (line ++ piece) ∙ ap lines_of all) ∙ ap (λ rs. rs ++ rows_of_lines wrap (lines_of more)) (r.goes_on.ended_go_on p v)
    ∙ append_assoc (take start.rows (open_rows wrap line)) (own_rows wrap (strip_carriage_return (drop start.bytes line ++ p))) (rows_of_lines wrap (lines_of more))
    ∙ ap (λ rs. take start.rows (open_rows wrap line) ++ rs) (sym (ap (rows_of_lines wrap) (lines-cut (drop start.bytes line ++ piece) ∙ ap lines_of tail)))

pub rows_go_on : (wrap : Wrap) (line piece : List ℕ) (start : Restart) → IsRestart wrap line start → IsUtf8 (line ++ piece)
    → rows_of_lines wrap (lines (line ++ piece)) ≡ take start.rows (open_rows wrap line) ++ rows_of_lines wrap (lines (drop start.bytes line ++ piece))
rows_go_on wrap line piece start r u = rows_on wrap line piece start (cut piece).closed (cut piece).open_line r u refl

-- ---- the rows of a document that goes on

-- the rows of a text: those of its finished lines, and the unfinished ones
rows_split : (text : List ℕ) (wrap : Wrap) → rows_of_lines wrap (lines text) ≡ rows_of_lines wrap (finished_lines text) ++ open_rows wrap (unfinished_line text)
rows_split text wrap = ap (rows_of_lines wrap) (lines-cut text) ∙ flat_map-append (own_rows wrap) (finished_lines text) (cond (eqb (length (unfinished_line text)) 0) [] (unfinished_line text ∷ [])) ∙ ap (λ rs. rows_of_lines wrap (finished_lines text) ++ rs) (open_lines wrap (unfinished_line text))

-- so a push leaves those before the restart, and those formed from there
going_on : (text piece tail : List ℕ) (wrap : Wrap) (start : Restart) → IsRestart wrap (unfinished_line text) start → IsUtf8 (unfinished_line text ++ piece) → tail ≡ drop start.bytes (unfinished_line text) ++ piece
    → start.finished.rows ≡ 0 + length (rows_of_lines wrap (finished_lines text))
    → (rows_of_lines wrap (lines (text ++ piece)) ≡ take (start.finished.rows + start.rows) (rows_of_lines wrap (lines text)) ++ rows_of_lines wrap (lines tail)) × (start.finished.rows + start.rows ≤ length (rows_of_lines wrap (lines text)))
going_on text piece tail wrap start r u t first =
    let front : List (List ℕ) = rows_of_lines wrap (finished_lines text) in
    let o : List ℕ = unfinished_line text in
    let kept : start.finished.rows + start.rows ≡ length front + start.rows = omega arith in
    let few : start.rows ≤ length (open_rows wrap o) = r.goes_on.few in
    let taken : take (start.finished.rows + start.rows) (rows_of_lines wrap (lines text)) ≡ front ++ take start.rows (open_rows wrap o) =
    ap (take (start.finished.rows + start.rows)) (rows_split text wrap) ∙ ap (λ n. take n (front ++ open_rows wrap o)) kept ∙ take-append-add front (open_rows wrap o) start.rows in (
      ap (rows_of_lines wrap) (lines_pushed text piece) ∙ flat_map-append (own_rows wrap) (finished_lines text) (lines (o ++ piece)) ∙ ap (λ rs. front ++ rs) (rows_go_on wrap o piece start r u)
          ∙ sym (append_assoc front (take start.rows (open_rows wrap o)) (rows_of_lines wrap (lines (drop start.bytes o ++ piece)))) ∙ ap (λ rs. rs ++ rows_of_lines wrap (lines (drop start.bytes o ++ piece))) (sym taken)
          ∙ ap (λ x. take (start.finished.rows + start.rows) (rows_of_lines wrap (lines text)) ++ rows_of_lines wrap (lines x)) (sym t),
      omega (arith, few, first, ap length (rows_split text wrap), length-append front (open_rows wrap o)),
    )

-- a push that keeps the rows wraps as before
pub plan_keeps : (d : Document) (piece : List ℕ) (numbers : LineNumbers) (cols : ℕ) (plan : Plan) → plan ≡ plan_of d piece numbers cols → plan.keeps ≡ true → plan.wrap ≡ wrap_in d
plan_keeps d piece numbers cols plan is e = ap (λ (p : Plan). p.wrap) is ∙ keeps_wrap d piece numbers cols (sym (ap (λ (p : Plan). p.keeps) is) ∙ e)

-- the first rows of the lines that a push leaves: those that stay, and those that are formed
entries_after : (d : Document) (piece : List ℕ) (plan : Plan) (start : Restart) (f : Formed) → (plan.keeps ≡ true → plan.wrap ≡ wrap_in d) → IsRestartOf d.text plan start → IsFormOf plan.wrap (line_going_on d.text plan) (piece_behind d.text plan piece) start f
    → (first_rows plan.wrap 0 (lines (d.text ++ piece)) ≡ take start.finished.lines (line_map d) ++ f.first_rows) × (start.finished.lines ≤ length (line_map d))
unfolding line_map
entries_after d piece plan start f w k formed = elim (cases_Bool plan.keeps) [
  | inl t ↦
      let same : plan.wrap ≡ wrap_in d = w t in
      let reach : Reaches plan.wrap at_start (cut d.text).closed start.finished = rw t at k.reaches in
      let its : f.first_rows ≡ first_rows plan.wrap start.finished.rows (lines (unfinished_line d.text ++ piece)) = rw t at formed.its_map in
      let front : List (List ℕ) = finished_lines d.text in
      let tail : List (List ℕ) = cond (eqb (length (unfinished_line d.text)) 0) [] (unfinished_line d.text ∷ []) in
      let last : List ℕ = first_rows (wrap_in d) (0 + length (rows_of_lines (wrap_in d) front)) tail in
      let old : first_rows (wrap_in d) 0 (lines d.text) ≡ first_rows (wrap_in d) 0 front ++ last = ap (first_rows (wrap_in d) 0) (lines-cut d.text) ∙ first_rows-append (wrap_in d) 0 front tail in
      let count : length (first_rows (wrap_in d) 0 front) ≡ start.finished.lines = omega (arith, length-first_rows (wrap_in d) 0 front, length-map (cut d.text).closed strip_carriage_return, reach.by_lines) in
      let taken : take start.finished.lines (first_rows (wrap_in d) 0 (lines d.text)) ≡ first_rows (wrap_in d) 0 front = ap (take start.finished.lines) old ∙ take_at (first_rows (wrap_in d) 0 front) last start.finished.lines count in (
        ap (first_rows plan.wrap 0) (lines_pushed d.text piece) ∙ first_rows-append plan.wrap 0 front (lines (unfinished_line d.text ++ piece))
            ∙ ap (λ m. first_rows plan.wrap 0 front ++ first_rows plan.wrap m (lines (unfinished_line d.text ++ piece))) (sym reach.by_rows) ∙ ap (λ ns. first_rows plan.wrap 0 front ++ ns) (sym its)
            ∙ ap (λ v. first_rows v 0 front ++ f.first_rows) same ∙ ap (λ ns. ns ++ f.first_rows) (sym taken),
        omega (arith, count, ap length old, length-append (first_rows (wrap_in d) 0 front) last),
      )
  | inr e ↦
      let reach : Reaches plan.wrap at_start [] start.finished = rw e at k.reaches in
      let its : f.first_rows ≡ first_rows plan.wrap start.finished.rows (lines (d.text ++ piece)) = rw e at formed.its_map in
      let none : start.finished.lines ≡ 0 = omega (arith, reach.by_lines) in
      let row : start.finished.rows ≡ 0 = omega (arith, reach.by_rows) in (
        ap (λ m. first_rows plan.wrap m (lines (d.text ++ piece))) (sym row) ∙ sym its ∙ ap (λ m. take m (first_rows (wrap_in d) 0 (lines d.text)) ++ f.first_rows) (sym none),
        omega (arith, none),
      )
]

-- the line map of the document that a push leaves
map_after : (d : Document) (piece : List ℕ) (numbers : LineNumbers) (cols : ℕ) (plan : Plan) (entries : List ℕ) → plan ≡ plan_of d piece numbers cols → entries ≡ first_rows plan.wrap 0 (lines (d.text ++ piece)) → line_map (pushed d piece numbers cols) ≡ entries
unfolding line_map
map_after d piece numbers cols plan entries is m = ap (λ (p : Plan). first_rows p.wrap 0 (lines (d.text ++ piece))) (sym is) ∙ sym m

-- the rows behind which a push forms
pub first_is : (d : Document) (plan : Plan) (start : Restart) → (plan.keeps ≡ true → plan.wrap ≡ wrap_in d) → IsRestartOf d.text plan start → start.finished.rows ≡ first_formed d plan
unfolding rows_of unfinished_rows
first_is d plan start w k = elim (cases_Bool plan.keeps) [
  | inl t ↦
      let same : plan.wrap ≡ wrap_in d = w t in
      let reach = rw same at (rw t at k.reaches) in
      let all = length-rows_of_lines d.text (wrap_in d) in
      rw t (omega (arith, reach.by_rows, all))
  | inr f ↦
      let reach = rw f at k.reaches in
      rw f (omega (arith, reach.by_rows))
]

-- where forming goes on at a line's start, what is formed is whole lines
module _ (d : Document) (piece tail : List ℕ) (numbers : LineNumbers) (cols : ℕ) (start : Restart) (plan : Plan) (is : plan ≡ plan_of d piece numbers cols) (k : IsRestartOf d.text plan start)
    (t : tail ≡ drop start.bytes (line_going_on d.text plan) ++ piece_behind d.text plan piece) (at : IsAtLine start) where
  from_line_text : tail ≡ formed_text d.text piece plan
  from_line_text = t ∙ ap (λ n. drop n (line_going_on d.text plan) ++ piece_behind d.text plan piece) at.no_bytes ∙ elim (cases_Bool plan.keeps) [
    | inl e ↦ rw e refl
    | inr f ↦ rw f refl
  ]

  from_line_first : start.finished.rows + start.rows ≡ first_formed d plan
  from_line_first = let first = first_is d plan start (plan_keeps d piece numbers cols plan is) k in omega (arith, at.no_rows, first)

  begins_with_line : (p : Pending) → p.kept_rows ≡ start.finished.rows + start.rows → p.tail.text ≡ tail → p.tail.wrap ≡ plan.wrap → BeginsWithLine d (plan_of d piece numbers cols) piece p
  begins_with_line p a b c = record {
    first = a ∙ from_line_first ∙ ap (first_formed d) is;
    its_text = b ∙ from_line_text ∙ ap (formed_text d.text piece) is;
    its_wrap = c ∙ ap (λ (q : Plan). q.wrap) is;
  }

-- what is formed beside a document is pending
pub prepared_pending : (d : Document) (piece tail : List ℕ) (numbers : LineNumbers) (cols : ℕ) (by_lines : Bool) (start : Restart) (plan : Plan) → plan ≡ plan_of d piece numbers cols → IsRestartOf d.text plan start
    → IsUtf8 (line_going_on d.text plan ++ piece_behind d.text plan piece) → tail ≡ drop start.bytes (line_going_on d.text plan) ++ piece_behind d.text plan piece
    → (f : Formed) → IsFormOf plan.wrap (line_going_on d.text plan) (piece_behind d.text plan piece) start f
    → PlacesGoOn d (pushed d piece numbers cols) piece (start.finished.rows + start.rows) start (record { text = tail; wrap = plan.wrap })
    → (by_lines ≡ true → IsAtLine start)
    → IsPending d piece numbers cols (record { kept_rows = start.finished.rows + start.rows; kept_lines = start.finished.lines; first_rows = f.first_rows; start = start; tail = record { text = tail; wrap = plan.wrap }; numbers = numbers; cols = cols; match_lines = by_lines })
unfolding rows_of rows_in
prepared_pending d piece tail numbers cols by_lines start plan is k u t f formed places line_start =
    let p : Pending = record { kept_rows = start.finished.rows + start.rows; kept_lines = start.finished.lines; first_rows = f.first_rows; start = start; tail = record { text = tail; wrap = plan.wrap }; numbers = numbers; cols = cols; match_lines = by_lines } in
    let entries = entries_after d piece plan start f (plan_keeps d piece numbers cols plan is) k formed in
    elim (cases_Bool plan.keeps) [
      | inl e ↦
          let same : plan.wrap ≡ wrap_in d = plan_keeps d piece numbers cols plan is e in
          let reach : Reaches plan.wrap at_start (cut d.text).closed start.finished = rw e at k.reaches in
          let r : IsRestart plan.wrap (unfinished_line d.text) start = rw e at k.restarts in
          let first : start.finished.rows ≡ 0 + length (rows_of_lines plan.wrap (finished_lines d.text)) = reach.by_rows in
          let on = going_on d.text piece tail plan.wrap start r (rw e at u) (rw e at t) first in
          let taken : take (start.finished.rows + start.rows) (rows_of_lines plan.wrap (lines d.text)) ≡ take (start.finished.rows + start.rows) (rows_of_lines (wrap_in d) (lines d.text)) = ap (λ w. take (start.finished.rows + start.rows) (rows_of_lines w (lines d.text))) same in
          record {
            rows = ap (λ (p : Plan). rows_of_lines p.wrap (lines (d.text ++ piece))) (sym is) ∙ on.0 ∙ ap (λ rs. rs ++ rows_of_lines plan.wrap (lines tail)) taken;
            few = omega (arith, on.1, ap (λ w. length (rows_of_lines w (lines d.text))) same);
            map = map_after d piece numbers cols plan (take start.finished.lines (line_map d) ++ f.first_rows) is (sym entries.0);
            few_lines = entries.1;
            places = places;
            its_numbers = refl;
            its_cols = refl;
            its_lines = λ on. begins_with_line d piece tail numbers cols start plan is k t (line_start on) p refl refl refl;
          }
      | inr f0 ↦
          let reach : Reaches plan.wrap at_start [] start.finished = rw f0 at k.reaches in
          let r : IsRestart plan.wrap [] start = rw f0 at k.restarts in
          let few : start.rows ≤ 0 = r.goes_on.few in
          let at : start.bytes ≤ 0 = r.goes_on.boundary.0 in
          let zero_bytes : start.bytes ≡ 0 = omega arith in
          let none : start.finished.rows + start.rows ≡ 0 = omega (arith, few, reach.by_rows) in
          let t0 : tail ≡ drop start.bytes [] ++ (d.text ++ piece) = rw f0 at t in
          let all : tail ≡ d.text ++ piece = t0 ∙ ap (λ n. drop n [] ++ (d.text ++ piece)) zero_bytes in
          record {
            rows = ap (λ (p : Plan). rows_of_lines p.wrap (lines (d.text ++ piece))) (sym is) ∙ ap (λ x. rows_of_lines plan.wrap (lines x)) (sym all) ∙ ap (λ n. take n (rows_of_lines (wrap_in d) (lines d.text)) ++ rows_of_lines plan.wrap (lines tail)) (sym none);
            few = omega (arith, none);
            map = map_after d piece numbers cols plan (take start.finished.lines (line_map d) ++ f.first_rows) is (sym entries.0);
            few_lines = entries.1;
            places = places;
            its_numbers = refl;
            its_cols = refl;
            its_lines = λ on. begins_with_line d piece tail numbers cols start plan is k t (line_start on) p refl refl refl;
          }
    ]

-- how many lines a push leaves
pub lines_pending : (d : Document) (piece : List ℕ) (numbers : LineNumbers) (cols : ℕ) (p : Pending) → IsPending d piece numbers cols p → line_count (pushed d piece numbers cols) ≡ p.kept_lines + length p.first_rows
unfolding line_map
lines_pending d piece numbers cols p h =
    let all = length-first_rows (wrap_in (pushed d piece numbers cols)) 0 (lines (d.text ++ piece)) in
    let kept = length-take-le p.kept_lines (line_map d) h.few_lines in
    omega (arith, all, ap length h.map, length-append (take p.kept_lines (line_map d)) p.first_rows, kept)

-- ---- a row after a push

pub get_front : {X : Type 0} (xs ys : List X) (n i : ℕ) → i < n → n ≤ length xs → slice_get (take n xs ++ ys) i ≡ slice_get xs i
get_front xs ys zero i l w = absurd (omega arith)
get_front [] ys (suc n) i l w = absurd (omega arith)
get_front (x ∷ xs) ys (suc n) zero l w = refl
get_front (x ∷ xs) ys (suc n) (suc i) l w = get_front xs ys n i (omega arith) (omega arith)

pub get_behind : {X : Type 0} (xs ys : List X) (i : ℕ) → length xs ≤ i → slice_get (xs ++ ys) i ≡ slice_get ys (i - length xs)
get_behind [] ys i l = let z : i - 0 ≡ i = omega arith in rw z refl
get_behind (x ∷ xs) ys zero l = absurd (omega arith)
get_behind (x ∷ xs) ys (suc i) l = let z : suc i - suc (length xs) ≡ i - length xs = omega arith in rw z (get_behind xs ys i (omega arith))

-- a row that stays, and a row that is formed
pub row_staying : (d : Document) (piece : List ℕ) (numbers : LineNumbers) (cols : ℕ) (p : Pending) (i : ℕ) → IsPending d piece numbers cols p → i < p.kept_rows → slice_get (rows_of (pushed d piece numbers cols)) i ≡ slice_get (rows_of d) i
row_staying d piece numbers cols p i h l = ap (λ rs. slice_get rs i) h.rows ∙ get_front (rows_of d) (rows_in p.tail) p.kept_rows i l h.few

pub row_forming : (d : Document) (piece : List ℕ) (numbers : LineNumbers) (cols : ℕ) (p : Pending) (i : ℕ) → IsPending d piece numbers cols p → p.kept_rows ≤ i → slice_get (rows_of (pushed d piece numbers cols)) i ≡ slice_get (rows_in p.tail) (i - p.kept_rows)
row_forming d piece numbers cols p i h l =
    let len : length (take p.kept_rows (rows_of d)) ≡ p.kept_rows = length-take-le p.kept_rows (rows_of d) h.few in
    let at : i - length (take p.kept_rows (rows_of d)) ≡ i - p.kept_rows = omega arith in
    ap (λ rs. slice_get rs i) h.rows ∙ get_behind (take p.kept_rows (rows_of d)) (rows_in p.tail) i (omega arith) ∙ ap (slice_get (rows_in p.tail)) at

-- how many rows there are after a push
pub count_after : (d : Document) (piece : List ℕ) (numbers : LineNumbers) (cols : ℕ) (p : Pending) → IsPending d piece numbers cols p → length (rows_of (pushed d piece numbers cols)) ≡ p.kept_rows + length (rows_in p.tail)
count_after d piece numbers cols p h = ap length h.rows ∙ length-append (take p.kept_rows (rows_of d)) (rows_in p.tail) ∙ (let l = length-take-le p.kept_rows (rows_of d) h.few in omega arith)
