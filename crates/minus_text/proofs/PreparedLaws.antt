-- What is formed of a text that goes on in an unfinished line.
use Rattle.std.proofs.Common.{◌≡◌, ℕ, zero, suc, ◌+◌, ◌-◌, ◌<◌, ◌≤◌, Bool, true, false, eqb, cond, List, [], ◌∷◌, ◌++◌, length, map, max, take, drop, get_or, refl, sym, ap, ◌∙◌, arith, append_assoc, inl, inr}
use Rattle.std.specs.List.{sum_by}
use Rattle.std.specs.Str.{IsUtf8, IsCharBoundary}
use Rattle.std.specs.Str.Lines.{lines, strip_carriage_return}
use Rattle.std.proofs.lemmas.Bool.{cases_Bool, ne_eqb}
use Rattle.std.proofs.lemmas.List.{append-nil, length-append, length-drop, length-take, length-take-le, drop-drop, drop-append-le, take-append-le, take-append-drop, drop_all}
use Rattle.std.proofs.lemmas.List.Sums.{sum_by-cons}
use Rattle.std.proofs.lemmas.Str.{IsCharBoundary-start, IsCharBoundary-from_take, IsCharBoundary-from_drop, IsUtf8-take, IsUtf8-drop, IsUtf8-nil}
use Rattle.minus_text.specs.declared.formed.Finished.{Finished}
use Rattle.minus_text.specs.declared.formed.Border.{Border}
use Rattle.minus_text.specs.declared.formed.Restart.{Restart}
use Rattle.minus_text.specs.declared.formed.Formed.{Formed}
use Rattle.minus_text.specs.declared.formed.Forming.{Forming}
use Rattle.minus_text.specs.Units.{columns}
use Rattle.minus_text.specs.declared.layout.Wrap.{Wrap}
use Rattle.minus_text.specs.Layouts.{own_rows}
use Rattle.minus_text.specs.Lines.{Cut, onto, cut, whole, behind, unfinished_line}
use Rattle.minus_text.specs.Document.{rows_of_lines, first_rows, longest_of, open_rows}
use Rattle.minus_text.specs.Kept.{line_stored, closed_stored, open_stored, stored_from, bytes_of, Reaches, IsBorder, IsRestart, IsFormOf, IsPrepared}
use Rattle.minus_text.specs.Forms.{IsBegun, IsFormOfLines}
use Rattle.minus_text.proofs.LinesLaws.{lines-cut, open_at, open_boundary}
use Rattle.minus_text.proofs.FewColumnsLaws.{columns_few}
use Rattle.minus_text.proofs.PlacesLaws.{joined, cut_joined, sides, stripped}
use Rattle.minus_text.proofs.FormLaws.{Reaches-trans}

-- ---- texts with no newline

whole_cons : (b : ℕ) (xs : List ℕ) → cut (b ∷ xs) ≡ whole (b ∷ xs) → (eqb b 10 ≡ false) × (cut xs ≡ whole xs)
whole_cons b xs e = elim (cases_Bool (eqb b 10)) [
  | inl t ↦
      let one : cut (b ∷ xs) ≡ record { closed = [] ∷ (cut xs).closed; open_line = (cut xs).open_line } = rw t refl in
      let none : [] ∷ (cut xs).closed ≡ [] = ap (λ (c : Cut). c.closed) (sym one ∙ e) in
      absurd (let z : suc (length (cut xs).closed) ≡ 0 = ap length none in omega arith)
  | inr f ↦
      let one : cut (b ∷ xs) ≡ onto b (cut xs).closed (cut xs).open_line = rw f refl in
      (f, inside b xs (cut xs).closed (cut xs).open_line (sym one ∙ e))
]
  where
    inside : (b : ℕ) (xs : List ℕ) (c : List (List ℕ)) (o : List ℕ) → onto b c o ≡ whole (b ∷ xs) → (let r : Cut = record { closed = c; open_line = o } in r) ≡ whole xs
    inside b xs [] o e = let same : o ≡ xs = ap (drop 1) (ap (λ (c : Cut). c.open_line) e) in rw same refl
    inside b xs (x ∷ c) o e = let none : (b ∷ x) ∷ c ≡ [] = ap (λ (c : Cut). c.closed) e in absurd (let z : suc (length c) ≡ 0 = ap length none in omega arith)

pub whole_more : (b : ℕ) (xs : List ℕ) → eqb b 10 ≡ false → cut xs ≡ whole xs → cut (b ∷ xs) ≡ whole (b ∷ xs)
whole_more b xs f e = rw (f, e) refl

pub whole_append : (xs ys : List ℕ) → cut xs ≡ whole xs → cut ys ≡ whole ys → cut (xs ++ ys) ≡ whole (xs ++ ys)
whole_append [] ys h k = k
whole_append (b ∷ xs) ys h k = let one = whole_cons b xs h in whole_more b (xs ++ ys) one.0 (whole_append xs ys one.1 k)

pub whole_front : (xs ys : List ℕ) → cut (xs ++ ys) ≡ whole (xs ++ ys) → cut xs ≡ whole xs
whole_front [] ys h = refl
whole_front (b ∷ xs) ys h = let one = whole_cons b (xs ++ ys) h in whole_more b xs one.0 (whole_front xs ys one.1)

pub whole_behind : (xs ys : List ℕ) → cut (xs ++ ys) ≡ whole (xs ++ ys) → cut ys ≡ whole ys
whole_behind [] ys h = h
whole_behind (b ∷ xs) ys h = whole_behind xs ys (whole_cons b (xs ++ ys) h).1

pub whole_drop : (n : ℕ) (xs : List ℕ) → cut xs ≡ whole xs → cut (drop n xs) ≡ whole (drop n xs)
whole_drop zero xs h = h
whole_drop (suc n) [] h = h
whole_drop (suc n) (b ∷ xs) h = whole_drop n xs (whole_cons b xs h).1

-- the first line of a text that goes on behind one with no newline
pub first_goes_on : (ys piece first : List ℕ) (c : Cut) → cut ys ≡ whole ys → cut (ys ++ piece) ≡ behind first c → (p : List ℕ) × (first ≡ ys ++ p) × (cut piece ≡ behind p c)
first_goes_on [] piece first c h e = (first, refl, e)
first_goes_on (b ∷ ys) piece first c h e =
    let one = whole_cons b ys h in
    let is : onto b (cut (ys ++ piece)).closed (cut (ys ++ piece)).open_line ≡ behind first c = sym (rw (one.0) refl) ∙ e in
    inside b (cut (ys ++ piece)).closed (cut (ys ++ piece)).open_line is (λ f k. first_goes_on ys piece f c one.1 k)
  where
    inside : (b : ℕ) (cs : List (List ℕ)) (o : List ℕ) → onto b cs o ≡ behind first c → ((f : List ℕ) → (let r : Cut = record { closed = cs; open_line = o } in r) ≡ behind f c → (p : List ℕ) × (f ≡ ys ++ p) × (cut piece ≡ behind p c))
        → (p : List ℕ) × (first ≡ b ∷ (ys ++ p)) × (cut piece ≡ behind p c)
    inside b [] o e go = absurd (let z : 0 ≡ suc (length c.closed) = ap (λ (x : Cut). length x.closed) e in omega arith)
    inside b (x ∷ cs) o e go =
        let closes : (b ∷ x) ∷ cs ≡ first ∷ c.closed = ap (λ (r : Cut). r.closed) e in
        let opens : o ≡ c.open_line = ap (λ (r : Cut). r.open_line) e in
        let more : cs ≡ c.closed = ap (drop 1) closes in
        let head : b ∷ x ≡ first = cc in
        let found = go x (rw (more, opens) refl) in
        (found.0, sym head ∙ ap (λ xs. b ∷ xs) found.1, found.2)

pub front_cut : (xs ys first : List ℕ) (c : Cut) → cut xs ≡ whole xs → cut ys ≡ behind first c → cut (xs ++ ys) ≡ behind (xs ++ first) c
front_cut [] ys first c h e = e
front_cut (b ∷ xs) ys first c h e =
    let one = whole_cons b xs h in
    rw (one.0, front_cut xs ys first c one.1 e) refl

-- ---- lines and what is stored of them

pub lines_behind : (text first : List ℕ) (more : List ℕ) → cut text ≡ behind first (cut more) → lines text ≡ strip_carriage_return first ∷ lines more
lines_behind text first more e =
    lines-cut text ∙ ap (λ (c : Cut). map strip_carriage_return c.closed ++ cond (eqb (length c.open_line) 0) [] (c.open_line ∷ [])) e
    ∙ ap (λ ls. strip_carriage_return first ∷ ls) (sym (lines-cut more))

pub lines_whole : (text : List ℕ) → cut text ≡ whole text → 0 < length text → lines text ≡ text ∷ []
lines_whole text e some =
    let other : eqb (length text) 0 ≡ false = ne_eqb (length text) 0 (λ z. omega arith) in
    lines-cut text ∙ ap (λ (c : Cut). map strip_carriage_return c.closed ++ cond (eqb (length c.open_line) 0) [] (c.open_line ∷ [])) e ∙ ap (λ (b : Bool). cond b [] (text ∷ [])) other

stored_behind : (wrap : Wrap) (at : ℕ) (first : List ℕ) (c : Cut) → stored_from wrap at (behind first c) ≡ line_stored wrap at (strip_carriage_return first) ++ stored_from wrap (at + bytes_of first) c
stored_behind wrap at first c =
    let bytes : at + sum_by bytes_of (first ∷ c.closed) ≡ (at + bytes_of first) + sum_by bytes_of c.closed = omega (arith, sum_by-cons bytes_of first c.closed) in
    append_assoc (line_stored wrap at (strip_carriage_return first)) (closed_stored wrap (at + bytes_of first) c.closed) (open_stored wrap (at + sum_by bytes_of (first ∷ c.closed)) c.open_line)
    ∙ ap (λ n. line_stored wrap at (strip_carriage_return first) ++ (closed_stored wrap (at + bytes_of first) c.closed ++ open_stored wrap n c.open_line)) bytes

stored_whole : (wrap : Wrap) (at : ℕ) (text : List ℕ) → cut text ≡ whole text → stored_from wrap at (cut text) ≡ open_stored wrap at text
stored_whole wrap at text e = let z : at + 0 ≡ at = omega arith in ap (stored_from wrap at) e ∙ ap (λ n. open_stored wrap n text) z

open_some : (wrap : Wrap) (at : ℕ) (text : List ℕ) → 0 < length text → (open_stored wrap at text ≡ line_stored wrap at text) × (open_rows wrap text ≡ own_rows wrap text)
open_some wrap at text some = let other : eqb (length text) 0 ≡ false = ne_eqb (length text) 0 (λ z. omega arith) in (rw other refl, rw other refl)

-- ---- the carriage return of what is left of a line

strip_yes : (xs : List ℕ) → eqb (get_or xs (length xs - 1) 0) 13 ≡ true → strip_carriage_return xs ≡ take (length xs - 1) xs
strip_yes xs e = rw e refl

strip_no : (xs : List ℕ) → eqb (get_or xs (length xs - 1) 0) 13 ≡ false → strip_carriage_return xs ≡ xs
strip_no xs e = rw e refl

pub strip_cons : (b : ℕ) (xs : List ℕ) → 0 < length xs → strip_carriage_return (b ∷ xs) ≡ b ∷ strip_carriage_return xs
strip_cons b [] some = absurd (omega arith)
strip_cons b (x ∷ xs) some =
    let far : length (b ∷ x ∷ xs) - 1 ≡ suc (length xs) = omega arith in
    let near : length (x ∷ xs) - 1 ≡ length xs = omega arith in
    elim (cases_Bool (eqb (get_or (x ∷ xs) (length (x ∷ xs) - 1) 0) 13)) [
      | inl t ↦
          let last : eqb (get_or (b ∷ x ∷ xs) (length (b ∷ x ∷ xs) - 1) 0) 13 ≡ true = rw far (rw near at t) in
          strip_yes (b ∷ x ∷ xs) last ∙ ap (λ n. take n (b ∷ x ∷ xs)) far ∙ ap (λ n. b ∷ take n (x ∷ xs)) (sym near) ∙ ap (λ ys. b ∷ ys) (sym (strip_yes (x ∷ xs) t))
      | inr f ↦
          let last : eqb (get_or (b ∷ x ∷ xs) (length (b ∷ x ∷ xs) - 1) 0) 13 ≡ false = rw far (rw near at f) in
          strip_no (b ∷ x ∷ xs) last ∙ ap (λ ys. b ∷ ys) (sym (strip_no (x ∷ xs) f))
    ]

pub strip_drop : (n : ℕ) (xs : List ℕ) → drop n (strip_carriage_return xs) ≡ strip_carriage_return (drop n xs)
strip_drop zero xs = refl
strip_drop (suc n) [] = refl
strip_drop (suc n) (b ∷ []) = elim (cases_Bool (eqb b 13)) [
  | inl t ↦ ap (drop (suc n)) (strip_yes (b ∷ []) t) ∙ ap strip_carriage_return (sym (drop_all n [] (omega arith)))
  | inr f ↦ ap (drop (suc n)) (strip_no (b ∷ []) f) ∙ drop_all n [] (omega arith) ∙ ap strip_carriage_return (sym (drop_all n [] (omega arith)))
]
strip_drop (suc n) (b ∷ x ∷ xs) = ap (drop (suc n)) (strip_cons b (x ∷ xs) (omega arith)) ∙ strip_drop n (x ∷ xs)

-- ---- borders

pub no_border : (line : List ℕ) → IsUtf8 line → IsBorder line (record { bytes = 0; columns = 0 })
no_border line u = record {
  within = omega arith;
  boundary = IsCharBoundary-start line u;
  adds = λ more v. omega arith;
  keeps = λ more. refl;
}

-- a place of a front is one of the whole
pub grown_boundary : (xs ys : List ℕ) (at : ℕ) → IsUtf8 xs → IsUtf8 (xs ++ ys) → IsCharBoundary xs at → IsCharBoundary (xs ++ ys) at
grown_boundary xs ys at u v h =
    let few : at ≤ length xs = h.0 in
    IsCharBoundary-from_take (xs ++ ys) at v (omega (arith, few, length-append xs ys)) (rw (take-append-le at xs ys few) (IsUtf8-take xs at u h))

-- what follows a place of a front
pub left_of_front : (xs ys : List ℕ) (at : ℕ) → IsUtf8 xs → IsUtf8 (xs ++ ys) → IsCharBoundary xs at → IsUtf8 (drop at xs ++ ys)
left_of_front xs ys at u v h = rw (drop-append-le at xs ys h.0) at (IsUtf8-drop (xs ++ ys) at v (grown_boundary xs ys at u v h))

split_on : (line more : List ℕ) (n : ℕ) → take n line ++ (drop n line ++ more) ≡ line ++ more
split_on line more n = sym (append_assoc (take n line) (drop n line) more) ∙ ap (λ xs. xs ++ more) (take-append-drop n line)

-- the columns of a line that goes on: of what is measured, and of the rest
pub columns_on : (line more : List ℕ) (border : Border) → IsUtf8 line → IsUtf8 (line ++ more) → IsBorder line border → columns (line ++ more) ≡ border.columns + columns (drop border.bytes line ++ more)
columns_on line more border u v h = ap columns (sym (split_on line more border.bytes)) ∙ h.adds (drop border.bytes line ++ more) (left_of_front line more border.bytes u v h.boundary)

pub columns_ended : (line more : List ℕ) (border : Border) → IsUtf8 line → IsUtf8 (line ++ more) → IsBorder line border
    → columns (strip_carriage_return (line ++ more)) ≡ border.columns + columns (strip_carriage_return (drop border.bytes line ++ more))
columns_ended line more border u v h =
    let left : IsUtf8 (strip_carriage_return (drop border.bytes line ++ more)) = (stripped (drop border.bytes line ++ more) (left_of_front line more border.bytes u v h.boundary)).3 in
    ap (λ xs. columns (strip_carriage_return xs)) (sym (split_on line more border.bytes)) ∙ ap columns (h.keeps (drop border.bytes line ++ more)) ∙ h.adds (strip_carriage_return (drop border.bytes line ++ more)) left

-- a border has no more columns than bytes
pub border_few : (line : List ℕ) (border : Border) → IsUtf8 line → IsBorder line border → border.columns ≤ border.bytes
border_few line border u h =
    let one = h.adds [] IsUtf8-nil in
    let nil = append-nil (take border.bytes line) in
    let len : length (take border.bytes line) ≡ border.bytes = length-take-le border.bytes line h.within in
    omega (arith, one, ap columns nil, columns_few (take border.bytes line) (IsUtf8-take line border.bytes u h.boundary), len)

-- what is left of a line behind a restart, and behind a border that is no earlier
pub left_twice : (line more : List ℕ) (at to : ℕ) → at ≤ to → to ≤ length line → drop (to - at) (drop at line ++ more) ≡ drop to line ++ more
left_twice line more at to le within =
    let e : at + (to - at) ≡ to = omega arith in
    drop-append-le (to - at) (drop at line) more (omega (arith, length-drop at line)) ∙ ap (λ xs. xs ++ more) (drop-drop (to - at) at line ∙ ap (λ n. drop n line) e)

-- the border's place in what is left of a line, and its columns, which are few
pub rest_boundary : (wrap : Wrap) (text : List ℕ) (start : Restart) (line piece : List ℕ) → IsRestart wrap line start → IsUtf8 (line ++ piece) → text ≡ drop start.bytes line ++ piece → IsCharBoundary text (start.border.bytes - start.bytes)
rest_boundary wrap text start line piece r u t =
    let within : start.border.bytes ≤ length line = r.measured.within in
    let le : start.bytes ≤ start.border.bytes = r.behind in
    let left : drop (start.border.bytes - start.bytes) text ≡ drop start.border.bytes line ++ piece = ap (drop (start.border.bytes - start.bytes)) t ∙ left_twice line piece start.bytes start.border.bytes le within in
    let size : length text ≡ (length line - start.bytes) + length piece = ap length t ∙ length-append (drop start.bytes line) piece ∙ ap (λ n. n + length piece) (length-drop start.bytes line) in
    IsCharBoundary-from_drop text (start.border.bytes - start.bytes) (omega arith) (rw left (left_of_front line piece start.border.bytes r.text u r.measured.boundary))

pub rest_few : (wrap : Wrap) (text : List ℕ) (start : Restart) (line piece : List ℕ) → IsRestart wrap line start → IsUtf8 (line ++ piece) → text ≡ drop start.bytes line ++ piece
    → start.border.columns + (length text - (start.border.bytes - start.bytes)) ≤ start.bytes + length text
rest_few wrap text start line piece r u t =
    let within : start.border.bytes ≤ length line = r.measured.within in
    let le : start.bytes ≤ start.border.bytes = r.behind in
    let size : length text ≡ (length line - start.bytes) + length piece = ap length t ∙ length-append (drop start.bytes line) piece ∙ ap (λ n. n + length piece) (length-drop start.bytes line) in
    omega (arith, border_few line start.border r.text r.measured, within, le, size)

-- ---- what is formed of a text that no newline ends

pub unfinished_prepared : (wrap : Wrap) (text : List ℕ) (start : Restart) (g : Forming) (f : Formed) → cut text ≡ whole text → 0 < length text → IsBegun wrap text start g
    → f.rows.items ≡ g.rows.items → f.first_rows ≡ g.first_rows.items → f.finished ≡ start.finished
    → ((line piece : List ℕ) → IsRestart wrap line start → IsUtf8 (line ++ piece) → text ≡ drop start.bytes line ++ piece → IsBorder (line ++ piece) f.border) → f.longest ≡ g.longest → IsPrepared wrap text start f
unfinished_prepared wrap text start g f e some h fr ff fp fb fl =
    let at : ℕ = start.finished.bytes + start.bytes in
    record {
      its_rows = fr ∙ h.its_rows ∙ sym (open_some wrap at text some).0 ∙ sym (stored_whole wrap at text e);
      its_form = λ line piece r u t. formed line piece r u t;
    }
  where
    formed : (line piece : List ℕ) → IsRestart wrap line start → IsUtf8 (line ++ piece) → text ≡ drop start.bytes line ++ piece → IsFormOf wrap line piece start f
    formed line piece r u t =
        let at : ℕ = start.finished.bytes + start.bytes in
        let all : List ℕ = line ++ piece in
        let tail : cut piece ≡ whole piece = whole_behind (drop start.bytes line) piece (rw t at e) in
        let is : cut all ≡ whole all = whole_append line piece r.one_line tail in
        let few : start.rows ≤ length (open_rows wrap line) = r.goes_on.few in
        let within : start.bytes ≤ length line = r.goes_on.boundary.0 in
        let size : length text ≡ (length line - start.bytes) + length piece = ap length t ∙ length-append (drop start.bytes line) piece ∙ ap (λ n. n + length piece) (length-drop start.bytes line) in
        let many : 0 < length all = omega (arith, some, size, within, length-append line piece) in
        let its_lines : lines all ≡ all ∷ [] = lines_whole all is many in
        let rest : drop (start.border.bytes - start.bytes) text ≡ drop start.border.bytes line ++ piece = ap (drop (start.border.bytes - start.bytes)) t ∙ left_twice line piece start.bytes start.border.bytes r.behind r.measured.within in
        let rows : own_rows wrap all ≡ take start.rows (open_rows wrap line) ++ own_rows wrap text =
        sym (open_some wrap 0 all many).1 ∙ r.goes_on.open_go_on piece u ∙ ap (λ x. take start.rows (open_rows wrap line) ++ open_rows wrap x) (sym t) ∙ ap (λ rs. take start.rows (open_rows wrap line) ++ rs) (open_some wrap 0 text some).1 in
        record {
          its_rows = stored_whole wrap start.finished.bytes all is ∙ r.goes_on.open_places start.finished.bytes piece u ∙ ap (λ x. take start.rows (open_stored wrap start.finished.bytes line) ++ open_stored wrap at x) (sym t)
              ∙ ap (λ rs. take start.rows (open_stored wrap start.finished.bytes line) ++ rs) ((open_some wrap at text some).0 ∙ sym (fr ∙ h.its_rows));
          its_count = ap (λ ls. length (rows_of_lines wrap ls)) its_lines ∙ ap length (append-nil (own_rows wrap all) ∙ rows) ∙ length-append (take start.rows (open_rows wrap line)) (own_rows wrap text)
              ∙ (let l = length-take-le start.rows (open_rows wrap line) few in omega (arith, l, h.its_count, ap length fr));
          its_map = ff ∙ h.its_map ∙ ap (first_rows wrap start.finished.rows) (sym its_lines);
          its_finish = rw (fp, ap (λ (c : Cut). c.closed) is) (record { by_lines = omega arith; by_rows = omega arith; by_bytes = omega arith; longest_line = omega arith });
          its_longest = fl ∙ h.its_longest ∙ ap (λ x. start.border.columns + columns x) rest ∙ sym (columns_on line piece start.border r.text u r.measured) ∙ (let z : columns all ≡ longest_of (all ∷ []) = omega arith in z) ∙ ap longest_of (sym its_lines);
          its_border = rw (ap (λ (c : Cut). c.open_line) is) (fb line piece r u t);
        }

-- nothing is formed of no text
pub nothing_prepared : (wrap : Wrap) (text : List ℕ) (start : Restart) (f : Formed) → length text ≡ 0 → f.rows.items ≡ [] → f.first_rows ≡ [] → f.finished ≡ start.finished → f.border ≡ start.border → f.longest ≡ 0 → IsPrepared wrap text start f
nothing_prepared wrap (b ∷ text) start f e fr ff fp fb fl = absurd (omega arith)
nothing_prepared wrap [] start f e fr ff fp fb fl = record {
  its_rows = fr;
  its_form = λ line piece r u t. formed line piece r u t;
}
  where
    none : (line piece : List ℕ) → IsRestart wrap line start → [] ≡ drop start.bytes line ++ piece → (line ≡ []) × (piece ≡ [])
    none [] piece r t = (refl, ap (λ xs. xs) (behind start.bytes piece t))
      where
        behind : (n : ℕ) (piece : List ℕ) → [] ≡ drop n [] ++ piece → piece ≡ []
        behind n piece t = sym (t ∙ ap (λ xs. xs ++ piece) (drop_all n [] (omega arith)))
    none (b ∷ line) piece r t =
        let left : start.bytes < length (b ∷ line) = r.goes_on.some_left (omega arith) in
        absurd (omega (arith, left, ap length t, length-append (drop start.bytes (b ∷ line)) piece, length-drop start.bytes (b ∷ line)))

    formed : (line piece : List ℕ) → IsRestart wrap line start → IsUtf8 (line ++ piece) → [] ≡ drop start.bytes line ++ piece → IsFormOf wrap line piece start f
    formed line piece r u t =
        let n = none line piece r t in
        let k : IsRestart wrap [] start = rw n.0 at r in
        let rows : start.rows ≡ 0 = let few : start.rows ≤ 0 = k.goes_on.few in omega arith in
        rw (n.0, n.1) (record {
          its_rows = rw (rows, fr) refl;
          its_count = rw (rows, fr) refl;
          its_map = ff;
          its_finish = rw fp (record { by_lines = omega arith; by_rows = omega arith; by_bytes = omega arith; longest_line = omega arith });
          its_longest = fl;
          its_border = rw fb k.measured;
        })

-- ---- what is formed of a text that has a newline

-- what follows the last newline is a text
pub open_utf8 : (text : List ℕ) → IsUtf8 text → IsUtf8 (unfinished_line text)
open_utf8 text u =
    let nil : text ++ [] ≡ text = append-nil text in
    let b = open_boundary text [] (rw nil u) in
    rw (open_at text).rest at (IsUtf8-drop text (sum_by bytes_of (cut text).closed) u (rw nil at b))

-- its first line
pub ended_is : (wrap : Wrap) (text first more : List ℕ) (start : Restart) (line piece : List ℕ) → cut text ≡ behind first (cut more) → IsRestart wrap line start → IsUtf8 (line ++ piece) → text ≡ drop start.bytes line ++ piece
    → (p : List ℕ) × (first ≡ drop start.bytes line ++ p) × IsUtf8 (line ++ p)
ended_is wrap text first more start line piece e r u t =
    let found = first_goes_on (drop start.bytes line) piece first (cut more) (whole_drop start.bytes line r.one_line) (rw t at e) in
    let p : List ℕ = found.0 in
    let behind_it : List ℕ = joined (cut more).closed (cut more).open_line in
    let piece_is : piece ≡ p ++ 10 ∷ behind_it = cut_joined piece ∙ ap (λ (c : Cut). joined c.closed c.open_line) found.2 in
    let split : line ++ piece ≡ (line ++ p) ++ 10 ∷ behind_it = ap (λ xs. line ++ xs) piece_is ∙ sym (append_assoc line p (10 ∷ behind_it)) in
    (p, found.1, (sides (line ++ p) behind_it (rw split at u)).0)

-- the border's place in it without its carriage return, and its columns
pub ended_boundary : (wrap : Wrap) (first : List ℕ) (start : Restart) (line p : List ℕ) → IsRestart wrap line start → IsUtf8 (line ++ p) → first ≡ drop start.bytes line ++ p
    → IsCharBoundary (strip_carriage_return first) (start.border.bytes - start.bytes) × (start.border.columns + (length (strip_carriage_return first) - (start.border.bytes - start.bytes)) ≤ start.bytes + length (strip_carriage_return first))
ended_boundary wrap first start line p r u e =
    let within : start.border.bytes ≤ length line = r.measured.within in
    let le : start.bytes ≤ start.border.bytes = r.behind in
    let text : List ℕ = strip_carriage_return first in
    let left : drop (start.border.bytes - start.bytes) text ≡ strip_carriage_return (drop start.border.bytes line ++ p) =
    strip_drop (start.border.bytes - start.bytes) first ∙ ap (λ xs. strip_carriage_return (drop (start.border.bytes - start.bytes) xs)) e ∙ ap strip_carriage_return (left_twice line p start.bytes start.border.bytes le within) in
    let whole_line : strip_carriage_return (line ++ p) ≡ take start.border.bytes line ++ strip_carriage_return (drop start.border.bytes line ++ p) = ap strip_carriage_return (sym (split_on line p start.border.bytes)) ∙ r.measured.keeps (drop start.border.bytes line ++ p) in
    let behind_it : text ≡ drop start.bytes (strip_carriage_return (line ++ p)) = ap strip_carriage_return (e ∙ sym (drop-append-le start.bytes line p (omega arith))) ∙ sym (strip_drop start.bytes (line ++ p)) in
    let size : length text ≡ length (strip_carriage_return (line ++ p)) - start.bytes = ap length behind_it ∙ length-drop start.bytes (strip_carriage_return (line ++ p)) in
    let taken : length (take start.border.bytes line) ≡ start.border.bytes = length-take-le start.border.bytes line within in
    let most = ap length whole_line ∙ length-append (take start.border.bytes line) (strip_carriage_return (drop start.border.bytes line ++ p)) in
    let room : start.border.bytes - start.bytes ≤ length text = omega (arith, size, most, taken) in (
      IsCharBoundary-from_drop text (start.border.bytes - start.bytes) room (rw left (stripped (drop start.border.bytes line ++ p) (left_of_front line p start.border.bytes r.text u r.measured.boundary)).3),
      omega (arith, border_few line start.border r.text r.measured, room, le),
    )

-- it is no longer than it was
pub strip_few : (xs : List ℕ) → length (strip_carriage_return xs) ≤ length xs
strip_few xs = elim (cases_Bool (eqb (get_or xs (length xs - 1) 0) 13)) [
  | inl t ↦ omega (arith, ap length (strip_yes xs t), length-take (length xs - 1) xs)
  | inr f ↦ omega (arith, ap length (strip_no xs f))
]

-- what is formed of it, and of the lines behind it
pub ended_prepared : (wrap : Wrap) (text first more : List ℕ) (start : Restart) (g : Forming) (place : Finished) (f : Formed) → cut text ≡ behind first (cut more) → IsBegun wrap (strip_carriage_return first) start g → IsFormOfLines wrap g more place f
    → place.lines ≡ start.finished.lines + 1 → place.rows ≡ (start.finished.rows + start.rows) + length g.rows.items → place.bytes ≡ ((start.finished.bytes + start.bytes) + length first) + 1 → place.longest ≡ max start.finished.longest g.longest
    → IsPrepared wrap text start f
ended_prepared wrap text first more start g place f e h k pl pr pb pw =
    let at : ℕ = start.finished.bytes + start.bytes in
    let next : place.bytes ≡ at + bytes_of first = omega (arith, pb) in
    record {
      its_rows = k.its_rows ∙ ap (λ rs. rs ++ stored_from wrap place.bytes (cut more)) h.its_rows ∙ ap (λ n. line_stored wrap at (strip_carriage_return first) ++ stored_from wrap n (cut more)) next
          ∙ sym (stored_behind wrap at first (cut more)) ∙ ap (stored_from wrap at) (sym e);
      its_form = λ line piece r u t. formed line piece r u t;
    }
  where
    formed : (line piece : List ℕ) → IsRestart wrap line start → IsUtf8 (line ++ piece) → text ≡ drop start.bytes line ++ piece → IsFormOf wrap line piece start f
    formed line piece r u t =
        let at : ℕ = start.finished.bytes + start.bytes in
        let all : List ℕ = line ++ piece in
        let found = first_goes_on (drop start.bytes line) piece first (cut more) (whole_drop start.bytes line r.one_line) (rw t at e) in
        let p : List ℕ = found.0 in
        let first_is : first ≡ drop start.bytes line ++ p = found.1 in
        let is : cut all ≡ behind (line ++ p) (cut more) = front_cut line piece p (cut more) r.one_line found.2 in
        let piece_is : piece ≡ p ++ 10 ∷ joined (cut more).closed (cut more).open_line = cut_joined piece ∙ ap (λ (c : Cut). joined c.closed c.open_line) found.2 in
        let split : all ≡ (line ++ p) ++ 10 ∷ joined (cut more).closed (cut more).open_line = ap (λ xs. line ++ xs) piece_is ∙ sym (append_assoc line p (10 ∷ joined (cut more).closed (cut more).open_line)) in
        let v : IsUtf8 (line ++ p) = (sides (line ++ p) (joined (cut more).closed (cut more).open_line) (rw split at u)).0 in
        let its_lines : lines all ≡ strip_carriage_return (line ++ p) ∷ lines more = lines_behind all (line ++ p) more is in
        let few : start.rows ≤ length (open_rows wrap line) = r.goes_on.few in
        let within : start.bytes ≤ length line = r.goes_on.boundary.0 in
        let size : length first ≡ (length line - start.bytes) + length p = ap length first_is ∙ length-append (drop start.bytes line) p ∙ ap (λ n. n + length p) (length-drop start.bytes line) in
        let next : place.bytes ≡ start.finished.bytes + bytes_of (line ++ p) = omega (arith, pb, size, within, length-append line p) in
        let kept : length (take start.rows (open_rows wrap line)) ≡ start.rows = length-take-le start.rows (open_rows wrap line) few in
        let rows : own_rows wrap (strip_carriage_return (line ++ p)) ≡ take start.rows (open_rows wrap line) ++ own_rows wrap (strip_carriage_return first) =
        r.goes_on.ended_go_on p v ∙ ap (λ x. take start.rows (open_rows wrap line) ++ own_rows wrap (strip_carriage_return x)) (sym first_is) in
        let count : length (own_rows wrap (strip_carriage_return (line ++ p))) ≡ start.rows + length g.rows.items =
        ap length rows ∙ length-append (take start.rows (open_rows wrap line)) (own_rows wrap (strip_carriage_return first)) ∙ omega (arith, kept, h.its_count) in
        let rest : drop (start.border.bytes - start.bytes) (strip_carriage_return first) ≡ strip_carriage_return (drop start.border.bytes line ++ p) =
        strip_drop (start.border.bytes - start.bytes) first ∙ ap (λ x. strip_carriage_return (drop (start.border.bytes - start.bytes) x)) first_is ∙ ap strip_carriage_return (left_twice line p start.bytes start.border.bytes r.behind r.measured.within) in
        let wide : columns (strip_carriage_return (line ++ p)) ≡ g.longest = columns_ended line p start.border r.text v r.measured ∙ ap (λ x. start.border.columns + columns x) (sym rest) ∙ sym h.its_longest in
        let placed : Reaches wrap start.finished ((line ++ p) ∷ []) place = record {
          by_lines = omega (arith, pl);
          by_rows = omega (arith, pr, count, ap length (append-nil (own_rows wrap (strip_carriage_return (line ++ p)))));
          by_bytes = omega (arith, next, sum_by-cons bytes_of (line ++ p) []);
          longest_line = omega (arith, pw, wide);
        } in
        let open_text : IsUtf8 (unfinished_line all) = open_utf8 all u in
        record {
          its_rows = ap (stored_from wrap start.finished.bytes) is ∙ stored_behind wrap start.finished.bytes (line ++ p) (cut more)
              ∙ ap (λ rs. rs ++ stored_from wrap (start.finished.bytes + bytes_of (line ++ p)) (cut more)) (r.goes_on.ended_places start.finished.bytes p v ∙ ap (λ x. take start.rows (open_stored wrap start.finished.bytes line) ++ line_stored wrap at (strip_carriage_return x)) (sym first_is))
              ∙ append_assoc (take start.rows (open_stored wrap start.finished.bytes line)) (line_stored wrap at (strip_carriage_return first)) (stored_from wrap (start.finished.bytes + bytes_of (line ++ p)) (cut more))
              ∙ ap (λ n. take start.rows (open_stored wrap start.finished.bytes line) ++ (line_stored wrap at (strip_carriage_return first) ++ stored_from wrap n (cut more))) (sym next)
              ∙ ap (λ rs. take start.rows (open_stored wrap start.finished.bytes line) ++ rs) (ap (λ rs. rs ++ stored_from wrap place.bytes (cut more)) (sym h.its_rows) ∙ sym k.its_rows);
          its_count = ap (λ ls. length (rows_of_lines wrap ls)) its_lines ∙ length-append (own_rows wrap (strip_carriage_return (line ++ p))) (rows_of_lines wrap (lines more)) ∙ omega (arith, count, k.its_count);
          its_map = k.its_map ∙ ap (λ ns. ns ++ first_rows wrap place.rows (lines more)) h.its_map
              ∙ ap (λ n. start.finished.rows ∷ first_rows wrap n (lines more)) (let z : place.rows ≡ start.finished.rows + length (own_rows wrap (strip_carriage_return (line ++ p))) = omega (arith, pr, count) in z) ∙ ap (first_rows wrap start.finished.rows) (sym its_lines);
          its_finish = rw (ap (λ (c : Cut). c.closed) is) (Reaches-trans wrap start.finished place f.finished ((line ++ p) ∷ []) (cut more).closed placed k.its_finish);
          its_longest = k.its_longest ∙ (let z : max g.longest (longest_of (lines more)) ≡ longest_of (strip_carriage_return (line ++ p) ∷ lines more) = omega (arith, wide) in z) ∙ ap longest_of (sym its_lines);
          its_border = rw k.its_border (no_border (unfinished_line all) open_text);
        }
