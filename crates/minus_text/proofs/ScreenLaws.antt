-- What is kept beside a text, and what a push leaves.
use Rattle.std.proofs.Common.{◌≡◌, ℕ, ◌+◌, ◌-◌, ◌≤◌, Bool, true, false, not, eqb, cond, List, [], ◌∷◌, ◌++◌, length, map, max, take, drop, refl, sym, subst, ap, ◌∙◌, arith, append_assoc, inl, inr}
use Rattle.std.specs.List.{sum_by, All}
use Rattle.std.specs.List.Sorted.{IsStrictlyIncreasing}
use Rattle.std.specs.Str.{IsUtf8, IsCharBoundary}
use Rattle.std.specs.Str.Lines.{lines, strip_carriage_return}
use Rattle.std.proofs.Math.Seq.{take-append-add}
use Rattle.std.proofs.lemmas.Bool.{cases_Bool}
use Rattle.std.proofs.lemmas.Str.{IsCharBoundary-from_rest, IsUtf8-nil, IsUtf8-append}
use Rattle.std.proofs.lemmas.List.{append-nil, length-append, length-map, length-take-le, map-append, take_at, drop_at, drop-drop, drop-append-le}
use Rattle.std.proofs.lemmas.List.Elements.{All-map}
use Rattle.std.proofs.lemmas.List.Sums.{sum_by-append, sum_by-cons}
use Rattle.minus_text.specs.declared.rows.Span.{Span}
use Rattle.minus_text.specs.declared.formed.Finished.{Finished}
use Rattle.minus_text.specs.declared.formed.Border.{Border}
use Rattle.minus_text.specs.declared.formed.Restart.{Restart}
use Rattle.minus_text.specs.declared.formed.Formed.{Formed}
use Rattle.minus_text.specs.declared.layout.Wrap.{Wrap}
use Rattle.minus_text.specs.declared.layout.Layout.{Layout}
use Rattle.minus_text.specs.declared.formed.Plan.{Plan}
use Rattle.minus_text.specs.Layouts.{own_places, wrap_of}
use Rattle.minus_text.specs.Lines.{Cut, cut, whole, finished_lines, unfinished_line}
use Rattle.minus_text.specs.Document.{Document, rows_of_lines, first_rows, longest_of, rows_of, line_map, line_count, longest, unfinished_rows, open_rows}
use Rattle.minus_text.specs.Kept.{moved, bytes_of, line_stored, closed_stored, open_stored, stored_from, Reaches, GoesOn, IsRestart, IsFormOf, IsFormed, IsPrepared, IsRestartOf, kept_lines, line_going_on, piece_behind, at_start}
use Rattle.minus_text.proofs.LinesLaws.{cut-append, lines-cut, open_at, lines-le-bytes}
use Rattle.minus_text.proofs.DocumentLaws.{length-rows_of_lines-append, length-rows_of_lines, first_rows-append, length-first_rows, first_rows-ascend, longest_of-append}
use Rattle.minus_text.proofs.FormLaws.{length-places, Reaches-trans}
use Rattle.minus_text.proofs.PlacesLaws.{finished-are}
use Rattle.minus_text.proofs.PreparedLaws.{no_border, open_utf8, grown_boundary}
use Rattle.minus_text.proofs.SeamLaws.{start_goes_on}

-- what is kept, as what the document has
pub formed-rows : (text : List ℕ) (layout : Layout) (rows : List Span) (firsts : List ℕ) (finished : Finished) (n : ℕ) (b : Border) (d : Document) → (let e : Document = record { text = text; layout = layout } in e) ≡ d → IsFormed text (wrap_of layout (length (lines text))) rows firsts finished n b → length rows ≡ length (rows_of d)
unfolding rows_of
formed-rows text layout rows firsts finished n b d v h = subst (λ (x : Document). length rows ≡ length (rows_of x)) v h.its_count

pub formed-map : (text : List ℕ) (layout : Layout) (rows : List Span) (firsts : List ℕ) (finished : Finished) (n : ℕ) (b : Border) (d : Document) → (let e : Document = record { text = text; layout = layout } in e) ≡ d → IsFormed text (wrap_of layout (length (lines text))) rows firsts finished n b → firsts ≡ line_map d
unfolding line_map
formed-map text layout rows firsts finished n b d v h = subst (λ (x : Document). firsts ≡ line_map x) v h.its_map

pub formed-lines : (text : List ℕ) (layout : Layout) (rows : List Span) (firsts : List ℕ) (finished : Finished) (n : ℕ) (b : Border) (d : Document) → (let e : Document = record { text = text; layout = layout } in e) ≡ d → IsFormed text (wrap_of layout (length (lines text))) rows firsts finished n b → length firsts ≡ line_count d
formed-lines text layout rows firsts finished n b d v h = subst (λ (x : Document). length firsts ≡ line_count x) v (ap length h.its_map ∙ length-first_rows (wrap_of layout (length (lines text))) 0 (lines text))

pub formed-longest : (text : List ℕ) (layout : Layout) (rows : List Span) (firsts : List ℕ) (finished : Finished) (n : ℕ) (b : Border) (d : Document) → (let e : Document = record { text = text; layout = layout } in e) ≡ d → IsFormed text (wrap_of layout (length (lines text))) rows firsts finished n b → n ≡ longest d
unfolding longest
formed-longest text layout rows firsts finished n b d v h = subst (λ (x : Document). n ≡ longest x) v h.its_longest

pub formed-unfinished : (text : List ℕ) (layout : Layout) (rows : List Span) (firsts : List ℕ) (finished : Finished) (n : ℕ) (b : Border) (d : Document) → (let e : Document = record { text = text; layout = layout } in e) ≡ d → IsFormed text (wrap_of layout (length (lines text))) rows firsts finished n b
    → (finished.rows ≤ length rows) × (length rows - finished.rows ≡ unfinished_rows d)
unfolding unfinished_rows
formed-unfinished text layout rows firsts finished n b d v h =
    let wrap : Wrap = wrap_of layout (length (lines text)) in
    let all = length-rows_of_lines text wrap in
    let here : length rows - finished.rows ≡ length (open_rows wrap (unfinished_line text)) = omega (arith, all, h.its_count, h.its_finish.by_rows) in
    (omega (arith, h.its_count, h.its_finish.by_rows), subst (λ (x : Document). length rows - finished.rows ≡ unfinished_rows x) v here)

-- ---- where a push begins

-- the unfinished line has no newline
same_cut : (c : Cut) (o : List ℕ) → c.closed ≡ [] → c.open_line ≡ o → c ≡ whole o
same_cut c o e f = ap (λ ls. let r : Cut = record { closed = ls; open_line = c.open_line } in r) e ∙ ap (λ l. let r : Cut = record { closed = []; open_line = l } in r) f

pub open_whole : (text : List ℕ) → cut (unfinished_line text) ≡ whole (unfinished_line text)
open_whole text =
    let o : List ℕ = (cut text).open_line in
    let nil : o ++ [] ≡ o = append-nil o in
    let again : cut text ≡ record { closed = (cut text).closed ++ (cut o).closed; open_line = (cut o).open_line } = rw nil at (ap cut (sym (append-nil text)) ∙ cut-append text []) in
    let size : length (cut text).closed ≡ length (cut text).closed + length (cut o).closed = ap (λ (c : Cut). length c.closed) again ∙ length-append (cut text).closed (cut o).closed in
    same_cut (cut o) o (none (cut o).closed (omega arith)) (sym (ap (λ (c : Cut). c.open_line) again))
  where
    none : (xs : List (List ℕ)) → length xs ≡ 0 → xs ≡ []
    none [] e = refl
    none (x ∷ xs) e = absurd (omega arith)

-- the rows that are kept: those of the finished lines, and the unfinished ones
pub rows_are : (text : List ℕ) (wrap : Wrap) (rows : List Span) (firsts : List ℕ) (finished : Finished) (n : ℕ) (b : Border) → IsUtf8 text → IsFormed text wrap rows firsts finished n b
    → (rows ≡ closed_stored wrap 0 (cut text).closed ++ open_stored wrap finished.bytes (unfinished_line text)) × (length (closed_stored wrap 0 (cut text).closed) ≡ finished.rows)
rows_are text wrap rows firsts finished n b u h =
    let byte : 0 + sum_by bytes_of (cut text).closed ≡ finished.bytes = omega (arith, h.its_finish.by_bytes) in
    let many = length-places text (closed_stored wrap 0 (cut text).closed) (rows_of_lines wrap (finished_lines text)) (finished-are text wrap u) in
    (h.its_rows ∙ ap (λ m. closed_stored wrap 0 (cut text).closed ++ open_stored wrap m (unfinished_line text)) byte, omega (arith, many, h.its_finish.by_rows))

pub rows_left : (text : List ℕ) (wrap : Wrap) (rows : List Span) (firsts : List ℕ) (finished : Finished) (n : ℕ) (b : Border) → IsUtf8 text → IsFormed text wrap rows firsts finished n b
    → drop finished.rows rows ≡ open_stored wrap finished.bytes (unfinished_line text)
rows_left text wrap rows firsts finished n b u h =
    let are = rows_are text wrap rows firsts finished n b u h in
    ap (drop finished.rows) are.0 ∙ drop_at (closed_stored wrap 0 (cut text).closed) (open_stored wrap finished.bytes (unfinished_line text)) finished.rows are.1

-- no row begins before its line
pub open_behind : (wrap : Wrap) (base : ℕ) (line : List ℕ) → All (λ r. base ≤ r.start) (open_stored wrap base line)
open_behind wrap base line = elim (cases_Bool (eqb (length line) 0)) [
  | inl t ↦ rw t (λ k d l. absurd (omega arith))
  | inr f ↦ rw f (All-map (λ r. base ≤ r.start) (moved base) (own_places wrap line) (λ k d l. omega arith))
]

-- how far finished lines go
pub finished_at : (text : List ℕ) (wrap : Wrap) (rows : List Span) (firsts : List ℕ) (finished : Finished) (n : ℕ) (b : Border) → IsUtf8 text → IsFormed text wrap rows firsts finished n b
    → (finished.bytes ≤ length text) × (drop finished.bytes text ≡ unfinished_line text) × (finished.lines ≤ length text) × (finished.rows + length (open_rows wrap (unfinished_line text)) ≡ length rows)
finished_at text wrap rows firsts finished n b u h =
    let o = open_at text in
    let byte : finished.bytes ≡ sum_by bytes_of (cut text).closed = omega (arith, h.its_finish.by_bytes) in
    let within : sum_by bytes_of (cut text).closed ≤ length text = o.within in
    let few = lines-le-bytes (cut text).closed in
    (omega arith, rw byte o.rest, omega (arith, h.its_finish.by_lines), omega (arith, h.its_finish.by_rows, h.its_count, length-rows_of_lines text wrap))

pub is_so : (b : Bool) → not b ≡ false → b ≡ true
is_so true e = refl
is_so false e = sym e

pub is_not : (b : Bool) → not b ≡ true → b ≡ false
is_not true e = sym e
is_not false e = refl

-- a push goes on in the unfinished line
pub restart_same : (text : List ℕ) (wrap : Wrap) (rows : List Span) (firsts : List ℕ) (finished : Finished) (n : ℕ) (b : Border) (start : Restart) (plan : Plan) → IsUtf8 text → IsFormed text wrap rows firsts finished n b → plan.keeps ≡ true → plan.wrap ≡ wrap
    → start.finished ≡ finished → start.border ≡ b → GoesOn wrap (unfinished_line text) start.rows start.bytes → start.bytes ≤ b.bytes → IsRestartOf text plan start
restart_same text wrap rows firsts finished n b start plan u h kept same ef eb g le = record {
  reaches = rw (kept, same, ef) h.its_finish;
  restarts = rw (kept, same) (record { text = open_utf8 text u; one_line = open_whole text; goes_on = g; measured = rw eb h.its_border; behind = rw eb le });
}

-- or forms all again
pub restart_anew : (text : List ℕ) (plan : Plan) → plan.keeps ≡ false → IsRestartOf text plan (record { finished = at_start; rows = 0; bytes = 0; border = record { bytes = 0; columns = 0 } })
restart_anew text plan f = record {
  reaches = rw f (record { by_lines = refl; by_rows = refl; by_bytes = refl; longest_line = refl });
  restarts = rw f (record { text = IsUtf8-nil; one_line = refl; goes_on = start_goes_on plan.wrap [] IsUtf8-nil; measured = no_border [] IsUtf8-nil; behind = omega arith });
}

-- where it begins is a place of the text
pub restart_place : (text : List ℕ) (wrap : Wrap) (rows : List Span) (firsts : List ℕ) (finished : Finished) (n : ℕ) (b : Border) (bytes kept : ℕ) → IsUtf8 text → IsFormed text wrap rows firsts finished n b → GoesOn wrap (unfinished_line text) kept bytes
    → IsCharBoundary text (finished.bytes + bytes) × (finished.rows + kept ≤ length rows)
restart_place text wrap rows firsts finished n b bytes kept u h g =
    let at = finished_at text wrap rows firsts finished n b u h in
    let few : kept ≤ length (open_rows wrap (unfinished_line text)) = g.few in
    (IsCharBoundary-from_rest text finished.bytes bytes at.0 (rw at.1 g.boundary), omega (arith, few, at.3))

-- ---- what stays in a push, and what it goes on

pub record IsFront (text piece : List ℕ) (wrap : Wrap) (rows : List Span) (firsts : List ℕ) (start : Restart) (front : List (List ℕ)) (line more : List ℕ) : Type 0 where
  pub its_cut : cut (text ++ piece) ≡ record { closed = front ++ (cut (line ++ more)).closed; open_line = (cut (line ++ more)).open_line }
  pub its_rows : take (start.finished.rows + start.rows) rows ≡ closed_stored wrap 0 front ++ take start.rows (open_stored wrap start.finished.bytes line)
  pub its_map : take start.finished.lines firsts ≡ first_rows wrap 0 (map strip_carriage_return front)
  pub its_reach : Reaches wrap at_start front start.finished
  pub its_tail : drop (start.finished.bytes + start.bytes) text ++ piece ≡ drop start.bytes line ++ more
  pub few : start.finished.rows + start.rows ≤ length rows

front_same : (text piece : List ℕ) (wrap : Wrap) (rows : List Span) (firsts : List ℕ) (finished : Finished) (n : ℕ) (b : Border) (start : Restart) → IsUtf8 text → IsFormed text wrap rows firsts finished n b → Reaches wrap at_start (cut text).closed start.finished
    → IsRestart wrap (unfinished_line text) start → IsFront text piece wrap rows firsts start (cut text).closed (unfinished_line text) piece
front_same text piece wrap rows firsts finished n b start u h reach r =
    let c : Cut = cut text in
    let are = rows_are text wrap rows firsts finished n b u h in
    let at = finished_at text wrap rows firsts finished n b u h in
    let row : length (closed_stored wrap 0 c.closed) ≡ start.finished.rows = omega (arith, are.1, h.its_finish.by_rows, reach.by_rows) in
    let byte : finished.bytes ≡ start.finished.bytes = omega (arith, h.its_finish.by_bytes, reach.by_bytes) in
    let stripped : length (finished_lines text) ≡ length c.closed = length-map c.closed strip_carriage_return in
    let firsts_len : length (first_rows wrap 0 (finished_lines text)) ≡ start.finished.lines = omega (arith, length-first_rows wrap 0 (finished_lines text), stripped, reach.by_lines) in
    let tail : List (List ℕ) = cond (eqb (length (unfinished_line text)) 0) [] (unfinished_line text ∷ []) in
    let map_is : firsts ≡ first_rows wrap 0 (finished_lines text) ++ first_rows wrap (0 + length (rows_of_lines wrap (finished_lines text))) tail = h.its_map ∙ ap (first_rows wrap 0) (lines-cut text) ∙ first_rows-append wrap 0 (finished_lines text) tail in
    let kept : start.rows ≤ length (open_rows wrap (unfinished_line text)) = r.goes_on.few in
    record {
      its_cut = cut-append text piece;
      its_rows = ap (take (start.finished.rows + start.rows)) are.0 ∙ ap (λ m. take (m + start.rows) (closed_stored wrap 0 c.closed ++ open_stored wrap finished.bytes (unfinished_line text))) (sym row)
          ∙ take-append-add (closed_stored wrap 0 c.closed) (open_stored wrap finished.bytes (unfinished_line text)) start.rows
          ∙ ap (λ m. closed_stored wrap 0 c.closed ++ take start.rows (open_stored wrap m (unfinished_line text))) byte;
      its_map = rw map_is (take_at (first_rows wrap 0 (finished_lines text)) (first_rows wrap (0 + length (rows_of_lines wrap (finished_lines text))) tail) start.finished.lines firsts_len);
      its_reach = reach;
      its_tail = ap (λ xs. xs ++ piece) (sym (drop-drop start.bytes start.finished.bytes text) ∙ ap (drop start.bytes) (ap (λ m. drop m text) (sym byte) ∙ at.1));
      few = omega (arith, kept, at.3, row, are.1);
    }

front_anew : (text piece : List ℕ) (wrap : Wrap) (rows : List Span) (firsts : List ℕ) (start : Restart) → Reaches wrap at_start [] start.finished → IsRestart wrap [] start → IsFront text piece wrap rows firsts start [] [] (text ++ piece)
front_anew text piece wrap rows firsts start reach r =
    let kept : start.rows ≡ 0 = let few : start.rows ≤ 0 = r.goes_on.few in omega arith in
    let at : start.bytes ≡ 0 = let few : start.bytes ≤ 0 = r.goes_on.boundary.0 in omega arith in
    let row : start.finished.rows ≡ 0 = omega (arith, reach.by_rows) in
    let byte : start.finished.bytes ≡ 0 = omega (arith, reach.by_bytes) in
    let line : start.finished.lines ≡ 0 = omega (arith, reach.by_lines) in
    let none : start.finished.rows + start.rows ≡ 0 = omega arith in
    let first : start.finished.bytes + start.bytes ≡ 0 = omega arith in
    record {
      its_cut = refl;
      its_rows = ap (λ m. take m rows) none ∙ sym (ap (λ m. take m (open_stored wrap start.finished.bytes [])) kept);
      its_map = ap (λ m. take m firsts) line;
      its_reach = reach;
      its_tail = ap (λ m. drop m text ++ piece) first ∙ sym (ap (λ m. drop m [] ++ (text ++ piece)) at);
      few = omega arith;
    }

pub front_is : (text piece : List ℕ) (wrap : Wrap) (rows : List Span) (firsts : List ℕ) (finished : Finished) (n : ℕ) (b : Border) (start : Restart) (plan : Plan) → IsUtf8 text → IsFormed text wrap rows firsts finished n b → (plan.keeps ≡ true → plan.wrap ≡ wrap) → IsRestartOf text plan start
    → IsFront text piece plan.wrap rows firsts start (kept_lines text plan) (line_going_on text plan) (piece_behind text plan piece)
front_is text piece wrap rows firsts finished n b start plan u h w k = elim (cases_Bool plan.keeps) [
  | inl t ↦
      let same : plan.wrap ≡ wrap = w t in
      let is : IsFormed text plan.wrap rows firsts finished n b = rw same h in
      let reach : Reaches plan.wrap at_start (cut text).closed start.finished = rw t at k.reaches in
      let r : IsRestart plan.wrap (unfinished_line text) start = rw t at k.restarts in
      rw t (front_same text piece plan.wrap rows firsts finished n b start u is reach r)
  | inr f ↦
      let reach : Reaches plan.wrap at_start [] start.finished = rw f at k.reaches in
      let r : IsRestart plan.wrap [] start = rw f at k.restarts in
      rw f (front_anew text piece plan.wrap rows firsts start reach r)
]

-- what is formed begins in the line that goes on
pub push_start : (text : List ℕ) (plan : Plan) (start : Restart) (piece : List ℕ) → IsUtf8 text → IsUtf8 piece → IsRestartOf text plan start
    → IsUtf8 (line_going_on text plan ++ piece_behind text plan piece) × (drop (start.finished.bytes + start.bytes) text ++ piece ≡ drop start.bytes (line_going_on text plan) ++ piece_behind text plan piece)
push_start text plan start piece u v k = elim (cases_Bool plan.keeps) [
  | inl t ↦
      let reach : Reaches plan.wrap at_start (cut text).closed start.finished = rw t at k.reaches in
      let byte : start.finished.bytes ≡ sum_by bytes_of (cut text).closed = omega (arith, reach.by_bytes) in
      let rest : drop start.finished.bytes text ≡ unfinished_line text = rw byte (open_at text).rest in
      rw t (IsUtf8-append (unfinished_line text) piece (open_utf8 text u) v, ap (λ xs. xs ++ piece) (sym (drop-drop start.bytes start.finished.bytes text) ∙ ap (drop start.bytes) rest))
  | inr f ↦
      let reach : Reaches plan.wrap at_start [] start.finished = rw f at k.reaches in
      let r : IsRestart plan.wrap [] start = rw f at k.restarts in
      let at : start.bytes ≡ 0 = let few : start.bytes ≤ 0 = r.goes_on.boundary.0 in omega arith in
      let first : start.finished.bytes + start.bytes ≡ 0 = omega (arith, reach.by_bytes) in
      rw f (IsUtf8-append text piece u v, ap (λ m. drop m text ++ piece) first ∙ sym (ap (λ m. drop m [] ++ (text ++ piece)) at))
]

-- the tail of a text that went on begins at a character
pub pushed_tail : (text piece all : List ℕ) (start : Restart) (plan : Plan) → all ≡ text ++ piece → IsUtf8 text → IsUtf8 piece → IsCharBoundary text (start.finished.bytes + start.bytes) → IsRestartOf text plan start
    → IsCharBoundary all (start.finished.bytes + start.bytes) × (drop (start.finished.bytes + start.bytes) all ≡ drop start.bytes (line_going_on text plan) ++ piece_behind text plan piece)
pushed_tail text piece all start plan e u w b k =
    let at : ℕ = start.finished.bytes + start.bytes in
    (rw e (grown_boundary text piece at u (IsUtf8-append text piece u w) b), ap (drop at) e ∙ drop-append-le at text piece b.0 ∙ (push_start text plan start piece u w k).1)

-- ---- what a push leaves

closed_stored-append : (wrap : Wrap) (at : ℕ) (xs ys : List (List ℕ)) → closed_stored wrap at (xs ++ ys) ≡ closed_stored wrap at xs ++ closed_stored wrap (at + sum_by bytes_of xs) ys
closed_stored-append wrap at [] ys = let f : at + 0 ≡ at = omega arith in rw f refl
closed_stored-append wrap at (x ∷ xs) ys =
    let f : (at + bytes_of x) + sum_by bytes_of xs ≡ at + sum_by bytes_of (x ∷ xs) = omega (arith, sum_by-cons bytes_of x xs) in
    let ih = closed_stored-append wrap (at + bytes_of x) xs ys in
    rw (← f) (ap (λ rs. line_stored wrap at (strip_carriage_return x) ++ rs) ih ∙ sym (append_assoc (line_stored wrap at (strip_carriage_return x)) (closed_stored wrap (at + bytes_of x) xs) (closed_stored wrap ((at + bytes_of x) + sum_by bytes_of xs) ys)))

-- the lines of a text whose cut has a front
pub lines_front : (text joined : List ℕ) (front : List (List ℕ)) → cut text ≡ record { closed = front ++ (cut joined).closed; open_line = (cut joined).open_line } → lines text ≡ map strip_carriage_return front ++ lines joined
lines_front text joined front e =
    let more : Cut = cut joined in
    let tail : List (List ℕ) = cond (eqb (length more.open_line) 0) [] (more.open_line ∷ []) in
    lines-cut text
    ∙ ap (λ (c : Cut). map strip_carriage_return c.closed ++ cond (eqb (length c.open_line) 0) [] (c.open_line ∷ [])) e
    ∙ ap (λ ls. ls ++ tail) (map-append strip_carriage_return front more.closed)
    ∙ append_assoc (map strip_carriage_return front) (map strip_carriage_return more.closed) tail
    ∙ ap (λ ls. map strip_carriage_return front ++ ls) (sym (lines-cut joined))

stored_split : (wrap : Wrap) (front : List (List ℕ)) (c : Cut) → stored_from wrap 0 (record { closed = front ++ c.closed; open_line = c.open_line }) ≡ closed_stored wrap 0 front ++ stored_from wrap (0 + sum_by bytes_of front) c
stored_split wrap front c =
    let bytes : 0 + sum_by bytes_of (front ++ c.closed) ≡ (0 + sum_by bytes_of front) + sum_by bytes_of c.closed = omega (arith, sum_by-append bytes_of front c.closed) in
    ap (λ rs. rs ++ open_stored wrap (0 + sum_by bytes_of (front ++ c.closed)) c.open_line) (closed_stored-append wrap 0 front c.closed)
    ∙ append_assoc (closed_stored wrap 0 front) (closed_stored wrap (0 + sum_by bytes_of front) c.closed) (open_stored wrap (0 + sum_by bytes_of (front ++ c.closed)) c.open_line)
    ∙ ap (λ m. closed_stored wrap 0 front ++ (closed_stored wrap (0 + sum_by bytes_of front) c.closed ++ open_stored wrap m c.open_line)) bytes

-- what a push leaves is formed of the text that went on
pub push_formed : (text piece all : List ℕ) (wrap : Wrap) (rows news : List Span) (firsts first_news : List ℕ) (start : Restart) (front : List (List ℕ)) (line more : List ℕ) (f : Formed) (widest : ℕ)
    → IsFront text piece wrap rows firsts start front line more → all ≡ text ++ piece → IsFormOf wrap line more start f
    → news ≡ take (start.finished.rows + start.rows) rows ++ f.rows.items → first_news ≡ take start.finished.lines firsts ++ f.first_rows → widest ≡ max start.finished.longest f.longest
    → IsFormed all wrap news first_news f.finished widest f.border
push_formed text piece all wrap rows news firsts first_news start front line more f widest h ea k en em ew =
    let joined : List ℕ = line ++ more in
    let c : Cut = cut joined in
    let stripped : List (List ℕ) = map strip_carriage_return front in
    let cuts : cut all ≡ record { closed = front ++ c.closed; open_line = c.open_line } = ap cut ea ∙ h.its_cut in
    let all_lines : lines all ≡ stripped ++ lines joined = lines_front all joined front cuts in
    let byte : start.finished.bytes ≡ 0 + sum_by bytes_of front = h.its_reach.by_bytes in
    let row : start.finished.rows ≡ 0 + length (rows_of_lines wrap stripped) = h.its_reach.by_rows in
    let wide : start.finished.longest ≡ longest_of stripped = omega (arith, h.its_reach.longest_line) in
    let taken : length (take (start.finished.rows + start.rows) rows) ≡ start.finished.rows + start.rows = length-take-le (start.finished.rows + start.rows) rows h.few in
    record {
      its_rows = en ∙ ap (λ rs. rs ++ f.rows.items) h.its_rows ∙ append_assoc (closed_stored wrap 0 front) (take start.rows (open_stored wrap start.finished.bytes line)) f.rows.items
          ∙ ap (λ rs. closed_stored wrap 0 front ++ rs) (sym k.its_rows ∙ ap (λ m. stored_from wrap m c) byte) ∙ sym (stored_split wrap front c) ∙ ap (stored_from wrap 0) (sym cuts);
      its_count = rw all_lines (omega (arith, ap length en, length-append (take (start.finished.rows + start.rows) rows) f.rows.items, taken, row, k.its_count, length-rows_of_lines-append wrap stripped (lines joined)));
      its_map = em ∙ rw (h.its_map, k.its_map) (ap (λ m. first_rows wrap 0 stripped ++ first_rows wrap m (lines joined)) row ∙ sym (first_rows-append wrap 0 stripped (lines joined)) ∙ ap (first_rows wrap 0) (sym all_lines));
      its_finish = rw (ap (λ (x : Cut). x.closed) cuts) (Reaches-trans wrap at_start start.finished f.finished front c.closed h.its_reach k.its_finish);
      its_longest = rw all_lines (omega (arith, ew, wide, k.its_longest, longest_of-append stripped (lines joined)));
      its_border = rw (ap (λ (x : Cut). x.open_line) cuts) k.its_border;
    }

pub formed-ascends : (text : List ℕ) (wrap : Wrap) (rows : List Span) (firsts : List ℕ) (finished : Finished) (n : ℕ) (b : Border) → IsFormed text wrap rows firsts finished n b → IsStrictlyIncreasing firsts
formed-ascends text wrap rows firsts finished n b h = let e : firsts ≡ first_rows wrap 0 (lines text) = h.its_map in rw e (first_rows-ascend wrap 0 (lines text))

-- how many rows are unfinished of what a push formed
pub form-unfinished : (wrap : Wrap) (line piece : List ℕ) (start : Restart) (f : Formed) → IsFormOf wrap line piece start f
    → (f.finished.rows ≤ start.finished.rows + (start.rows + length f.rows.items)) × ((start.finished.rows + (start.rows + length f.rows.items)) - f.finished.rows ≡ length (open_rows wrap (unfinished_line (line ++ piece))))
form-unfinished wrap line piece start f h =
    let all = length-rows_of_lines (line ++ piece) wrap in
    (omega (arith, all, h.its_count, h.its_finish.by_rows), omega (arith, all, h.its_count, h.its_finish.by_rows))

-- ---- a text formed whole

-- before its first line
abbrev pub from_start : Restart
from_start = record { finished = at_start; rows = 0; bytes = 0; border = record { bytes = 0; columns = 0 } }

pub start_restarts : (wrap : Wrap) → IsRestart wrap [] from_start
start_restarts wrap = record { text = IsUtf8-nil; one_line = refl; goes_on = start_goes_on wrap [] IsUtf8-nil; measured = no_border [] IsUtf8-nil; behind = omega arith }

pub whole_form : (text : List ℕ) (wrap : Wrap) (f : Formed) → IsUtf8 text → IsPrepared wrap text from_start f → IsFormOf wrap [] text from_start f
whole_form text wrap f u p = p.its_form [] text (start_restarts wrap) u refl

-- what is formed of a whole text is what is kept beside it
pub whole_formed : (text : List ℕ) (wrap : Wrap) (rows : List Span) (firsts : List ℕ) (f : Formed) → IsFormOf wrap [] text from_start f → rows ≡ f.rows.items → firsts ≡ f.first_rows → IsFormed text wrap rows firsts f.finished f.longest f.border
whole_formed text wrap rows firsts f k er em =
    let reach : Reaches wrap at_start [] at_start = record { by_lines = refl; by_rows = refl; by_bytes = refl; longest_line = refl } in
    push_formed [] text text wrap [] rows [] firsts from_start [] [] text f f.longest (front_anew [] text wrap [] [] from_start reach (start_restarts wrap)) refl k er em (omega arith)
