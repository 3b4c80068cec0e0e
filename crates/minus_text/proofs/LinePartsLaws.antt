-- The part of a text between two places in its lines.
use Rattle.std.proofs.Common.{◌≡◌, ℕ, zero, suc, ◌+◌, ◌-◌, ◌<◌, ◌≤◌, false, eqb, List, [], ◌∷◌, ◌++◌, length, map, take, drop, get_or, refl, sym, ap, ◌∙◌, arith, inl, inr}
use Rattle.std.specs.List.{slice_range, sum_by}
use Rattle.std.specs.Str.Lines.{strip_carriage_return}
use Rattle.std.proofs.lemmas.Bool.{cases_Bool, cases_lt}
use Rattle.std.proofs.lemmas.List.{append-nil, length-append, length-map, length-take, length-drop, drop_all, drop-take, drop-drop, drop-map, take-append-le, drop-append-le, take-append-drop, get_or-drop}
use Rattle.std.proofs.lemmas.List.Sums.{sum_by-cons}
use Rattle.minus_text.specs.Lines.{Cut, onto, cut, whole, behind}
use Rattle.minus_text.specs.Kept.{bytes_of}
use Rattle.minus_text.specs.LinePlaces.{with_newlines, joined_lines}
use Rattle.minus_text.specs.LineParts.{line_start, lines_up_to, part_of_lines, PartsAreOfLines}
use Rattle.minus_text.proofs.PlacesLaws.{joined, cut_joined}
use Rattle.minus_text.proofs.PreparedLaws.{strip_drop}
use Rattle.minus_text.proofs.LinePlacesLaws.{joined_first, joined_last}

-- a text without a newline, and texts without one
abbrev pub Plain : List ℕ → Type 0
Plain [] = Unit {0}
Plain (b ∷ bs) = (eqb b 10 ≡ false) × Plain bs

abbrev pub AllPlain : List (List ℕ) → Type 0
AllPlain [] = Unit {0}
AllPlain (x ∷ xs) = Plain x × AllPlain xs

plain_take : (n : ℕ) (x : List ℕ) → Plain x → Plain (take n x)
plain_take zero [] p = tt
plain_take (suc n) [] p = tt
plain_take zero (b ∷ x) p = tt
plain_take (suc n) (b ∷ x) p = (p.0, plain_take n x p.1)

plain_drop : (n : ℕ) (x : List ℕ) → Plain x → Plain (drop n x)
plain_drop zero [] p = tt
plain_drop (suc n) [] p = tt
plain_drop zero (b ∷ x) p = p
plain_drop (suc n) (b ∷ x) p = plain_drop n x p.1

all_plain_take : (n : ℕ) (xs : List (List ℕ)) → AllPlain xs → AllPlain (take n xs)
all_plain_take zero [] p = tt
all_plain_take (suc n) [] p = tt
all_plain_take zero (x ∷ xs) p = tt
all_plain_take (suc n) (x ∷ xs) p = (p.0, all_plain_take n xs p.1)

all_plain_drop : (n : ℕ) (xs : List (List ℕ)) → AllPlain xs → AllPlain (drop n xs)
all_plain_drop zero [] p = tt
all_plain_drop (suc n) [] p = tt
all_plain_drop zero (x ∷ xs) p = p
all_plain_drop (suc n) (x ∷ xs) p = all_plain_drop n xs p.1

-- the lines of a cut text have no newline
onto_plain : (b : ℕ) (c : List (List ℕ)) (o : List ℕ) → eqb b 10 ≡ false → AllPlain c → Plain o → AllPlain (onto b c o).closed × Plain (onto b c o).open_line
onto_plain b [] o e p q = (tt, (e, q))
onto_plain b (x ∷ c) o e p q = (((e, p.0), p.1), q)

cut_plain : (bs : List ℕ) → AllPlain (cut bs).closed × Plain (cut bs).open_line
cut_plain [] = (tt, tt)
cut_plain (b ∷ bs) = elim (cases_Bool (eqb b 10)) [
  | inl t ↦ let more = cut_plain bs in rw t ((tt, more.0), more.1)
  | inr f ↦ let more = cut_plain bs in rw f (onto_plain b (cut bs).closed (cut bs).open_line f more.0 more.1)
]

cut_line : (x more : List ℕ) → Plain x → cut (x ++ 10 ∷ more) ≡ behind x (cut more)
cut_line [] more p = refl
cut_line (b ∷ x) more p = rw (p.0, cut_line x more p.1) refl

cut_whole : (x : List ℕ) → Plain x → cut x ≡ whole x
cut_whole [] p = refl
cut_whole (b ∷ x) p = rw (p.0, cut_whole x p.1) refl

-- the lines of such lines joined again
lines_joined : (xs : List (List ℕ)) (o : List ℕ) → AllPlain xs → Plain o → joined_lines (joined xs o) ≡ with_newlines (map strip_carriage_return xs) o
lines_joined [] o p q = joined_last o (cut_whole o q)
lines_joined (x ∷ xs) o p q = joined_first (x ++ 10 ∷ joined xs o) x (joined xs o) (cut_line x (joined xs o) p.0) ∙ ap (λ bs. strip_carriage_return x ++ 10 ∷ bs) (lines_joined xs o p.1 q)

-- a line is itself without its carriage return, and the rest
strip_split : (x : List ℕ) → (rest : List ℕ) × (x ≡ strip_carriage_return x ++ rest)
strip_split x = elim (cases_Bool (eqb (get_or x (length x - 1) 0) 13)) [
  | inl t ↦ rw t (drop (length x - 1) x, sym (take-append-drop (length x - 1) x))
  | inr f ↦ rw f ([], sym (append-nil x))
]

strip_short : (x : List ℕ) → length (strip_carriage_return x) ≤ length x
strip_short x = let s = strip_split x in omega (arith, ap length s.1, length-append (strip_carriage_return x) s.0)

take_of_stripped : (n : ℕ) (x : List ℕ) → n ≤ length (strip_carriage_return x) → take n x ≡ take n (strip_carriage_return x)
take_of_stripped n x l = let s = strip_split x in ap (take n) s.1 ∙ take-append-le n (strip_carriage_return x) s.0 l

-- past a line and its newline
take_past : (x more : List ℕ) (n m : ℕ) → m ≡ length x + suc n → take m (x ++ 10 ∷ more) ≡ x ++ 10 ∷ take n more
take_past [] more n m e = let f : m ≡ suc n = omega (arith, e) in rw f refl
take_past (b ∷ x) more n zero e = absurd (omega (arith, e))
take_past (b ∷ x) more n (suc m) e = ap (λ bs. b ∷ bs) (take_past x more n m (omega (arith, e)))

drop_past : (x more : List ℕ) (n m : ℕ) → m ≡ length x + suc n → drop m (x ++ 10 ∷ more) ≡ drop n more
drop_past [] more n m e = let f : m ≡ suc n = omega (arith, e) in rw f refl
drop_past (b ∷ x) more n zero e = absurd (omega (arith, e))
drop_past (b ∷ x) more n (suc m) e = drop_past x more n m (omega (arith, e))

-- a front of joined lines up to a place in a line
pub record IsFront (xs : List (List ℕ)) (o : List ℕ) (k to : ℕ) : Type 0 where
  pub last : List ℕ
  pub plain : Plain last
  pub front : take (sum_by bytes_of (take k xs) + to) (joined xs o) ≡ joined (take k xs) last
  pub lines : with_newlines (map strip_carriage_return (take k xs)) last ≡ lines_up_to (map strip_carriage_return xs ++ o ∷ []) k to

up_to : (xs : List (List ℕ)) (o : List ℕ) (k to : ℕ) → AllPlain xs → Plain o → k ≤ length xs → to ≤ length (get_or (map strip_carriage_return xs ++ o ∷ []) k []) → IsFront xs o k to
up_to [] o zero to p q l m = let z : 0 + to ≡ to = omega arith in record { last = take to o; plain = plain_take to o q; front = rw z refl; lines = refl }
up_to [] o (suc k) to p q l m = absurd (omega (arith, l))
up_to (x ∷ xs) o zero to p q l m =
    let z : 0 + to ≡ to = omega arith in
    let short = strip_short x in
    record {
      last = take to x;
      plain = plain_take to x p.0;
      front = rw z (take-append-le to x (10 ∷ joined xs o) (omega (arith, m, short)));
      lines = take_of_stripped to x m;
    }
up_to (x ∷ xs) o (suc k) to p q l m =
    let ih = up_to xs o k to p.1 q (omega (arith, l)) m in
    let size = sum_by-cons bytes_of x (take k xs) in
    record {
      last = ih.last;
      plain = ih.plain;
      front = take_past x (joined xs o) (sum_by bytes_of (take k xs) + to) (sum_by bytes_of (x ∷ take k xs) + to) (omega (arith, size)) ∙ ap (λ bs. x ++ 10 ∷ bs) ih.front;
      lines = ap (λ bs. strip_carriage_return x ++ 10 ∷ bs) ih.lines;
    }

-- what follows a place in the first line
behind_place : (from : ℕ) (xs : List (List ℕ)) (o : List ℕ) → AllPlain xs → Plain o → (0 < length xs → from ≤ length (strip_carriage_return (get_or xs 0 []))) → joined_lines (drop from (joined xs o)) ≡ drop from (with_newlines (map strip_carriage_return xs) o)
behind_place from [] o p q l = joined_last (drop from o) (cut_whole (drop from o) (plain_drop from o q))
behind_place from (x ∷ xs) o p q l =
    let own : List ℕ = strip_carriage_return x in
    let within : from ≤ length own = l (omega arith) in
    let short = strip_short x in
    let rest : List ℕ = joined xs o in
    ap joined_lines (drop-append-le from x (10 ∷ rest) (omega (arith, within, short))) ∙ joined_first (drop from x ++ 10 ∷ rest) (drop from x) rest (cut_line (drop from x) rest (plain_drop from x p.0))
    ∙ ap (λ bs. bs ++ 10 ∷ joined_lines rest) (sym (strip_drop from x)) ∙ sym (drop-append-le from own (10 ∷ joined_lines rest) within)
    ∙ ap (λ bs. drop from (own ++ 10 ∷ bs)) (lines_joined xs o p.1 q)

-- from a line on
from_line : (xs : List (List ℕ)) (o : List ℕ) (j : ℕ) → j ≤ length xs → drop (sum_by bytes_of (take j xs)) (joined xs o) ≡ joined (drop j xs) o
from_line [] o zero l = refl
from_line [] o (suc j) l = absurd (omega (arith, l))
from_line (x ∷ xs) o zero l = refl
from_line (x ∷ xs) o (suc j) l =
    drop_past x (joined xs o) (sum_by bytes_of (take j xs)) (sum_by bytes_of (x ∷ take j xs)) (omega (arith, sum_by-cons bytes_of x (take j xs))) ∙ from_line xs o j (omega (arith, l))

no_bytes : (n : ℕ) → sum_by bytes_of (take n []) ≡ 0
no_bytes zero = refl
no_bytes (suc n) = refl

start_behind : (xs : List (List ℕ)) (j k : ℕ) → j ≤ k → sum_by bytes_of (take k xs) ≡ sum_by bytes_of (take j xs) + sum_by bytes_of (take (k - j) (drop j xs))
start_behind [] zero k l = omega (arith, no_bytes k, no_bytes 0, no_bytes (k - 0))
start_behind [] (suc j) k l = omega (arith, no_bytes k, no_bytes (suc j), no_bytes (k - suc j))
start_behind (x ∷ xs) zero k l = let e : k - 0 ≡ k = omega arith in rw e (omega arith)
start_behind (x ∷ xs) (suc j) zero l = absurd (omega (arith, l))
start_behind (x ∷ xs) (suc j) (suc k) l =
    let e : suc k - suc j ≡ k - j = omega arith in
    rw e (omega (arith, sum_by-cons bytes_of x (take k xs), sum_by-cons bytes_of x (take j xs), start_behind xs j k (omega (arith, l))))

-- a part of a text may be cut at its end first
cut_end_first : (text : List ℕ) (a b : ℕ) → take (b - a) (drop a text) ≡ drop a (take b text)
cut_end_first text a b = elim (cases_lt b a) [
  | inl l ↦ let z : b - a ≡ 0 = omega arith in rw z (sym (drop_all a (take b text) (omega (arith, length-take b text))))
  | inr g ↦ let e : b ≡ a + (b - a) = omega arith in sym (ap (λ n. drop a (take n text)) e ∙ drop-take a (b - a) text)
]

first_behind : (xs : List (List ℕ)) (o : List ℕ) (j : ℕ) → j < length xs → get_or (map strip_carriage_return xs ++ o ∷ []) j [] ≡ strip_carriage_return (get_or (drop j xs) 0 [])
first_behind [] o j l = absurd (omega (arith, l))
first_behind (x ∷ xs) o zero l = refl
first_behind (x ∷ xs) o (suc j) l = first_behind xs o j (omega (arith, l))

first_of_some : (xs : List (List ℕ)) (n : ℕ) → 0 < length (take n xs) → (get_or (take n xs) 0 [] ≡ get_or xs 0 []) × (0 < length xs)
first_of_some [] zero l = absurd (omega (arith, l))
first_of_some [] (suc n) l = absurd (omega (arith, l))
first_of_some (x ∷ xs) zero l = absurd (omega (arith, l))
first_of_some (x ∷ xs) (suc n) l = (refl, omega arith)

part : (xs : List (List ℕ)) (o : List ℕ) (j from k to : ℕ) → AllPlain xs → Plain o → j ≤ k → k ≤ length xs → (let all : List (List ℕ) = map strip_carriage_return xs ++ o ∷ [] in (from ≤ length (get_or all j [])) × (to ≤ length (get_or all k [])))
    → joined_lines (slice_range (joined xs o) (sum_by bytes_of (take j xs) + from) (sum_by bytes_of (take k xs) + to)) ≡ part_of_lines (map strip_carriage_return xs ++ o ∷ []) j from k to
part xs o j from k to p q jk kl h =
    let all : List (List ℕ) = map strip_carriage_return xs ++ o ∷ [] in
    let rest : List (List ℕ) = drop j xs in
    let n : ℕ = sum_by bytes_of (take (k - j) rest) + to in
    let start : ℕ = sum_by bytes_of (take j xs) in
    let behind : ℕ = sum_by bytes_of (take k xs) in
    let before : drop j all ≡ map strip_carriage_return rest ++ o ∷ [] = drop-append-le j (map strip_carriage_return xs) (o ∷ []) (omega (arith, jk, kl, length-map xs strip_carriage_return)) ∙ ap (λ ls. ls ++ o ∷ []) (drop-map strip_carriage_return j xs) in
    let sum : j + (k - j) ≡ k = omega (arith, jk) in
    let there : get_or all k [] ≡ get_or (map strip_carriage_return rest ++ o ∷ []) (k - j) [] = ap (λ i. get_or all i []) (sym sum) ∙ sym (get_or-drop j all (k - j) []) ∙ ap (λ ls. get_or ls (k - j) []) before in
    let front = up_to rest o (k - j) to (all_plain_drop j xs p) q (omega (arith, jk, kl, length-drop j xs)) (rw there at h.1) in
    let size : (behind + to) - (start + from) ≡ n - from = omega (arith, start_behind xs j k jk) in
    let text : slice_range (joined xs o) (start + from) (behind + to) ≡ drop from (joined (take (k - j) rest) front.last) =
    ap (λ m. take m (drop (start + from) (joined xs o))) size ∙ ap (take (n - from)) (sym (drop-drop from start (joined xs o)) ∙ ap (drop from) (from_line xs o j (omega (arith, jk, kl)))) ∙ cut_end_first (joined rest o) from n ∙ ap (drop from) front.front in
    let first : 0 < length (take (k - j) rest) → from ≤ length (strip_carriage_return (get_or (take (k - j) rest) 0 [])) = λ l.
    let some = first_of_some rest (k - j) l in
    let inside : j < length xs = omega (arith, some.1, length-drop j xs) in
    rw some.0 (rw (first_behind xs o j inside) at h.0) in
    ap joined_lines text ∙ behind_place from (take (k - j) rest) front.last (all_plain_take (k - j) rest (all_plain_drop j xs p)) front.plain first ∙ ap (drop from) (front.lines ∙ ap (λ ls. lines_up_to ls (k - j) to) (sym before))

pub parts_are : PartsAreOfLines
parts_are text j from k to jk kl f t =
    let c : Cut = cut text in
    let plain = cut_plain text in
    let last : k ≤ length c.closed = omega (arith, kl, length-append (map strip_carriage_return c.closed) (c.open_line ∷ []), length-map c.closed strip_carriage_return) in
    ap (λ bs. joined_lines (slice_range bs (line_start text j + from) (line_start text k + to))) (cut_joined text) ∙ part c.closed c.open_line j from k to plain.0 plain.1 jk last (f, t)
