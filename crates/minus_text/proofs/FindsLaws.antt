-- What is found in lines, one part of them behind another.
use Rattle.std.proofs.Common.{inl, inr, ◌≡◌, ℕ, suc, ◌+◌, ◌<◌, ◌≤◌, ◌==◌, true, false, nat_le, List, [], ◌∷◌, ◌++◌, length, take, drop, refl, sym, ap, ◌∙◌, arith, append_assoc, chars, length-append}
use Rattle.std.specs.List.{position_or_len}
use Rattle.std.specs.Str.{encode_utf8_all}
use Rattle.std.specs.Str.Lines.{lines}
use Rattle.std.proofs.lemmas.Bool.{cases_Bool}
use Rattle.std.proofs.lemmas.List.{append-nil, length-map}
use Rattle.regex.specs.Patterns.{Re}
use Rattle.minus_text.specs.declared.rows.Span.{Span}
use Rattle.minus_text.specs.declared.layout.Wrap.{Wrap}
use Rattle.minus_text.specs.declared.layout.Wrap.TheVariants.{At, Off}
use Rattle.minus_text.specs.Layouts.{own_rows, own_places}
use Rattle.minus_text.specs.Lines.{finished_lines, unfinished_line}
use Rattle.minus_text.specs.Pieces.{Piece}
use Rattle.minus_text.specs.Rows.{line_places, line_rows, line_runs, places, row_text, run_text}
use Rattle.minus_text.specs.Document.{rows_of_lines}
use Rattle.minus_text.specs.Escapes.{escape_places}
use Rattle.minus_text.specs.Highlight.{line_match_places}
use Rattle.minus_text.specs.Found.{RowMatches, found_above, found_from, Ascend}
use Rattle.minus_text.specs.FindsStand.{LineFindsAscend}
use Rattle.minus_text.proofs.FoundInLaws.{weaker}
use Rattle.minus_text.specs.LineFinds.{outside_before, Stretch, first_start, parts_in, finds_in_row, finds_in_rows, finds_in_line, finds_in_lines}
use Rattle.minus_text.proofs.DocumentLaws.{lines_closed, lines_open}

-- entries with rows from one on, up to but without another
Within : {X : Type 0} → (X → ℕ) → ℕ → ℕ → List X → Type 0
Within row a b [] = Unit {0}
Within row a b (x ∷ xs) = (a ≤ row x) × (row x < b) × Within row a b xs

From : {X : Type 0} → (X → ℕ) → ℕ → List X → Type 0
From row a [] = Unit {0}
From row a (x ∷ xs) = (a ≤ row x) × From row a xs

all_behind : {X : Type 0} (row : X → ℕ) (n : ℕ) (ys : List X) → From row n ys → take (position_or_len (λ x. nat_le n (row x)) ys) ys ≡ []
unfolding From
all_behind row n [] h = refl
all_behind row n (y ∷ ys) h = let t : nat_le n (row y) ≡ true = grind (arith, h.0) in rw t refl

all_from : {X : Type 0} (row : X → ℕ) (n : ℕ) (ys : List X) → From row n ys → drop (position_or_len (λ x. nat_le n (row x)) ys) ys ≡ ys
unfolding From
all_from row n [] h = refl
all_from row n (y ∷ ys) h = let t : nat_le n (row y) ≡ true = grind (arith, h.0) in rw t refl

front_alone : {X : Type 0} (row : X → ℕ) (a n : ℕ) (xs ys : List X) → Within row a n xs → From row n ys → take (position_or_len (λ x. nat_le n (row x)) (xs ++ ys)) (xs ++ ys) ≡ xs
unfolding Within
front_alone row a n [] ys h b = all_behind row n ys b
front_alone row a n (x ∷ xs) ys h b =
    let f : nat_le n (row x) ≡ false = grind (arith, h.1) in
    let one : 1 + position_or_len (λ z. nat_le n (row z)) (xs ++ ys) ≡ suc (position_or_len (λ z. nat_le n (row z)) (xs ++ ys)) = omega arith in
    rw (f, one) (ap (λ l. x ∷ l) (front_alone row a n xs ys h.2 b))

within_append : {X : Type 0} (row : X → ℕ) (a b : ℕ) (xs ys : List X) → Within row a b xs → Within row a b ys → Within row a b (xs ++ ys)
unfolding Within
within_append row a b [] ys h k = k
within_append row a b (x ∷ xs) ys h k = (h.0, h.1, within_append row a b xs ys h.2 k)

within_wider : {X : Type 0} (row : X → ℕ) (a b c d : ℕ) (xs : List X) → c ≤ a → b ≤ d → Within row a b xs → Within row c d xs
unfolding Within
within_wider row a b c d [] le up h = tt
within_wider row a b c d (x ∷ xs) le up h = let l = h.0 in let u = h.1 in (omega (arith, le, l), omega (arith, up, u), within_wider row a b c d xs le up h.2)

from_within : {X : Type 0} (row : X → ℕ) (a b : ℕ) (xs : List X) → Within row a b xs → From row a xs
unfolding Within From
from_within row a b [] h = tt
from_within row a b (x ∷ xs) h = (h.0, from_within row a b xs h.2)

-- what is found lies in rows from one on, up to but without another
Lie : ℕ → ℕ → List RowMatches → Type 0
Lie a b found = Within (λ (r : RowMatches). r.row) a b found

lie_both : (a b c d : ℕ) (f g : List RowMatches) → a ≤ b → b ≤ c → c ≡ d → Lie a b f → Lie b c g → Lie a d (f ++ g)
unfolding Lie
lie_both a b c d f g le up is hf hg =
    within_append _ a d f g (within_wider _ a b a d f (omega arith) (omega (arith, up, is)) hf) (within_wider _ b c a d g le (omega (arith, is)) hg)

row_lies : (n : ℕ) (es ms : List (ℕ × ℕ)) (s : Span) (r : Stretch) → Lie n (n + 1) (finds_in_row n es ms s r)
unfolding Lie Within
row_lies n es ms s r = elim (cases_Bool (length (parts_in r ms) == 0)) [
  | inl none ↦ rw none tt
  | inr some ↦ rw some (omega arith, omega arith, tt)
]

nothing_lies : (a b : ℕ) → Lie a b []
unfolding Lie Within
nothing_lies a b = tt

rows_lie : (n : ℕ) (es ms : List (ℕ × ℕ)) (ss : List Span) → Lie n (n + length ss) (finds_in_rows n es ms ss)
rows_lie n es ms [] = nothing_lies n (n + 0)
rows_lie n es ms (s ∷ ss) =
    let r : Stretch = record { start = outside_before 0 es s.start; end = outside_before 0 es s.end; next = first_start es ss } in
    let size : (n + 1) + length ss ≡ n + length (s ∷ ss) = omega arith in
    lie_both n (n + 1) ((n + 1) + length ss) (n + length (s ∷ ss)) (finds_in_row n es ms s r) (finds_in_rows (n + 1) es ms ss)
    (omega arith) (omega arith) size (row_lies n es ms s r) (rows_lie (n + 1) es ms ss)

-- a line has as many places as rows
places_many : (at : ℕ) (runs : List (List Piece)) → length (places at runs) ≡ length runs
places_many at [] = refl
places_many at (run ∷ runs) = ap suc (places_many (at + length (encode_utf8_all (run_text run))) runs)

line_many : (cols : ℕ) (line : List ℕ) → length (line_places cols line) ≡ length (line_rows cols line)
unfolding line_places line_rows
line_many cols line = elim (cases_Bool (length (chars line) == 0)) [
  | inl none ↦ rw none refl
  | inr some ↦ rw some (places_many 0 (line_runs cols line) ∙ sym (length-map (line_runs cols line) (λ run. encode_utf8_all (row_text run))))
]

pub as_many : (wrap : Wrap) (line : List ℕ) → length (own_places wrap line) ≡ length (own_rows wrap line)
as_many (At cols) line = line_many cols line
as_many Off line = refl

line_lies : (re : Re) (wrap : Wrap) (n : ℕ) (line : List ℕ) → Lie n (n + length (own_rows wrap line)) (finds_in_line re wrap n line)
line_lies re wrap n line = rw (sym (as_many wrap line)) (rows_lie n (escape_places line) (line_match_places re line) (own_places wrap line))

lines_lie : (re : Re) (wrap : Wrap) (n : ℕ) (ls : List (List ℕ)) → Lie n (n + length (rows_of_lines wrap ls)) (finds_in_lines re wrap n ls)
lines_lie re wrap n [] = nothing_lies n (n + 0)
lines_lie re wrap n (line ∷ more) =
    let k = length (own_rows wrap line) in
    let size : (n + k) + length (rows_of_lines wrap more) ≡ n + length (rows_of_lines wrap (line ∷ more)) = omega (arith, length-append (own_rows wrap line) (rows_of_lines wrap more)) in
    lie_both n (n + k) ((n + k) + length (rows_of_lines wrap more)) (n + length (rows_of_lines wrap (line ∷ more))) (finds_in_line re wrap n line) (finds_in_lines re wrap (n + k) more)
    (omega arith) (omega arith) size (line_lies re wrap n line) (lines_lie re wrap (n + k) more)

pub finds_append : (re : Re) (wrap : Wrap) (n : ℕ) (xs ys : List (List ℕ))
    → finds_in_lines re wrap n (xs ++ ys) ≡ finds_in_lines re wrap n xs ++ finds_in_lines re wrap (n + length (rows_of_lines wrap xs)) ys
finds_append re wrap n [] ys = let z : n ≡ n + 0 = omega arith in ap (λ k. finds_in_lines re wrap k ys) z
finds_append re wrap n (x ∷ xs) ys =
    let k = length (own_rows wrap x) in
    let size : (n + k) + length (rows_of_lines wrap xs) ≡ n + length (rows_of_lines wrap (x ∷ xs)) = omega (arith, length-append (own_rows wrap x) (rows_of_lines wrap xs)) in
    ap (λ l. finds_in_line re wrap n x ++ l) (finds_append re wrap (n + k) xs ys ∙ ap (λ j. finds_in_lines re wrap (n + k) xs ++ finds_in_lines re wrap j ys) size)
    ∙ sym (append_assoc (finds_in_line re wrap n x) (finds_in_lines re wrap (n + k) xs) (finds_in_lines re wrap (n + length (rows_of_lines wrap (x ∷ xs))) ys))

pub above_front : (re : Re) (wrap : Wrap) (n : ℕ) (xs ys : List (List ℕ)) → n ≡ length (rows_of_lines wrap xs)
    → found_above n (finds_in_lines re wrap 0 (xs ++ ys)) ≡ finds_in_lines re wrap 0 xs
unfolding Lie
above_front re wrap n xs ys is =
    let front = finds_in_lines re wrap 0 xs in
    let rest = finds_in_lines re wrap (0 + length (rows_of_lines wrap xs)) ys in
    let at : 0 + length (rows_of_lines wrap xs) ≡ n = omega (arith, is) in
    let hf : Lie 0 n front = rw (sym at) (lines_lie re wrap 0 xs) in
    let hr : Lie (0 + length (rows_of_lines wrap xs)) _ rest = lines_lie re wrap (0 + length (rows_of_lines wrap xs)) ys in
    let behind : From (λ (r : RowMatches). r.row) n rest = rw (sym at) (from_within _ _ _ rest hr) in
    ap (found_above n) (finds_append re wrap 0 xs ys) ∙ front_alone (λ (r : RowMatches). r.row) 0 n front rest hf behind

-- the finished lines come first
pub open_part : (text : List ℕ) → (o : List (List ℕ)) × (lines text ≡ finished_lines text ++ o)
open_part text = elim (cases_Bool (length (unfinished_line text) == 0)) [
  | inl none ↦ ([], lines_closed text none ∙ sym (append-nil (finished_lines text)))
  | inr some ↦ (unfinished_line text ∷ [], lines_open text some)
]

-- and what is found from that line on is what is found in the lines behind
front_away : {X : Type 0} (row : X → ℕ) (a n : ℕ) (xs ys : List X) → Within row a n xs → From row n ys → drop (position_or_len (λ x. nat_le n (row x)) (xs ++ ys)) (xs ++ ys) ≡ ys
unfolding Within
front_away row a n [] ys h b = all_from row n ys b
front_away row a n (x ∷ xs) ys h b =
    let f : nat_le n (row x) ≡ false = grind (arith, h.1) in
    let one : 1 + position_or_len (λ z. nat_le n (row z)) (xs ++ ys) ≡ suc (position_or_len (λ z. nat_le n (row z)) (xs ++ ys)) = omega arith in
    rw (f, one) (front_away row a n xs ys h.2 b)

pub from_front : (re : Re) (wrap : Wrap) (n : ℕ) (xs ys : List (List ℕ)) → n ≡ length (rows_of_lines wrap xs)
    → found_from n (finds_in_lines re wrap 0 (xs ++ ys)) ≡ finds_in_lines re wrap n ys
unfolding Lie
from_front re wrap n xs ys is =
    let front = finds_in_lines re wrap 0 xs in
    let rest = finds_in_lines re wrap (0 + length (rows_of_lines wrap xs)) ys in
    let at : 0 + length (rows_of_lines wrap xs) ≡ n = omega (arith, is) in
    let hf : Lie 0 n front = rw (sym at) (lines_lie re wrap 0 xs) in
    let hr : Lie (0 + length (rows_of_lines wrap xs)) _ rest = lines_lie re wrap (0 + length (rows_of_lines wrap xs)) ys in
    let behind : From (λ (r : RowMatches). r.row) n rest = rw (sym at) (from_within _ _ _ rest hr) in
    ap (found_from n) (finds_append re wrap 0 xs ys) ∙ front_away (λ (r : RowMatches). r.row) 0 n front rest hf behind ∙ ap (λ k. finds_in_lines re wrap k ys) at

-- ---- rows ascend

rows_go_up : (n : ℕ) (es ms : List (ℕ × ℕ)) (ss : List Span) → Ascend n (finds_in_rows n es ms ss)
rows_go_up n es ms [] = tt
rows_go_up n es ms (s ∷ ss) =
    let r : Stretch = record { start = outside_before 0 es s.start; end = outside_before 0 es s.end; next = first_start es ss } in
    let more = rows_go_up (n + 1) es ms ss in
    elim (cases_Bool (length (parts_in r ms) == 0)) [
      | inl none ↦ rw none (weaker n (n + 1) (finds_in_rows (n + 1) es ms ss) (omega arith) more)
      | inr some ↦ rw some (omega arith, more)
    ]

up_append : (m n b : ℕ) (xs ys : List RowMatches) → m ≤ b → Ascend m xs → Within (λ (r : RowMatches). r.row) n b xs → Ascend b ys → Ascend m (xs ++ ys)
unfolding Within
up_append m n b [] ys le h w k = weaker m b ys le k
up_append m n b (x ∷ xs) ys le h w k = let low = w.1 in (h.0, up_append (x.row + 1) n b xs ys (omega (arith, low)) h.1 w.2 k)

pub lines_ascend : LineFindsAscend
unfolding Lie
lines_ascend re wrap n [] = tt
lines_ascend re wrap n (line ∷ more) =
    let k = length (own_rows wrap line) in
    up_append n n (n + k) (finds_in_line re wrap n line) (finds_in_lines re wrap (n + k) more) (omega arith)
    (rows_go_up n (escape_places line) (line_match_places re line) (own_places wrap line)) (line_lies re wrap n line) (lines_ascend re wrap (n + k) more)

-- the rows of what is found in a line are its own
abbrev pub Below : ℕ → List RowMatches → Type 0
Below b [] = Unit {0}
Below b (r ∷ rs) = (r.row < b) × Below b rs

below : (a b : ℕ) (found : List RowMatches) → Lie a b found → Below b found
unfolding Lie Within
below a b [] h = tt
below a b (r ∷ rs) h = (h.1, below a b rs h.2)

pub line_below : (re : Re) (wrap : Wrap) (n : ℕ) (line : List ℕ) → Below (n + length (own_rows wrap line)) (finds_in_line re wrap n line)
line_below re wrap n line = below n (n + length (own_rows wrap line)) (finds_in_line re wrap n line) (line_lies re wrap n line)

pub lines_below : (re : Re) (wrap : Wrap) (n : ℕ) (ls : List (List ℕ)) → Below (n + length (rows_of_lines wrap ls)) (finds_in_lines re wrap n ls)
lines_below re wrap n ls = below n (n + length (rows_of_lines wrap ls)) (finds_in_lines re wrap n ls) (lines_lie re wrap n ls)

pub line_ascends : (re : Re) (wrap : Wrap) (n : ℕ) (line : List ℕ) → Ascend n (finds_in_line re wrap n line)
line_ascends re wrap n line = rows_go_up n (escape_places line) (line_match_places re line) (own_places wrap line)
