-- A line of a text among what is kept of the text: where it begins, its rows, and what follows it.
use Rattle.std.proofs.Common.{inl, inr, ◌≡◌, ℕ, zero, suc, ◌+◌, ◌-◌, ◌<◌, ◌≤◌, ◌==◌, false, nat_lt, List, [], ◌∷◌, ◌++◌, map, length, take, drop, get_or, refl, sym, ap, ap₂, subst, ◌∙◌, arith, length-append}
use Rattle.std.specs.List.{position_or_len}
use Rattle.std.specs.Str.{IsUtf8, IsCharBoundary}
use Rattle.std.specs.Str.Lines.{lines, strip_carriage_return}
use Rattle.std.proofs.lemmas.Bool.{cases_Bool, cases_lt, eqb-true}
use Rattle.std.proofs.lemmas.List.{drop-drop, length-drop, drop_at, get_or-drop, length-take-le, take_all}
use Rattle.std.proofs.lemmas.List.Sums.{prefix_len-le-length}
use Rattle.std.proofs.lemmas.List.Concat.{flat_map-append}
use Rattle.std.proofs.lemmas.Str.{IsCharBoundary-start, IsCharBoundary-after_ascii}
use Rattle.minus_text.specs.declared.rows.Span.{Span}
use Rattle.minus_text.specs.declared.layout.Wrap.{Wrap}
use Rattle.minus_text.specs.Lines.{cut, whole, behind}
use Rattle.minus_text.specs.Layouts.{own_rows}
use Rattle.minus_text.specs.Kept.{moved, line_stored, stored_from}
use Rattle.minus_text.specs.Document.{first_rows, rows_of_lines}
use Rattle.regex.specs.Patterns.{Re}
use Rattle.minus_text.specs.Found.{ArePlaced}
use Rattle.minus_text.specs.LineFinds.{finds_in_line}
use Rattle.minus_text.specs.LineSplits.{lines_of, rows_end}
use Rattle.minus_text.proofs.FindsLaws.{line_below, line_ascends}
use Rattle.minus_text.proofs.PlacedFindsLaws.{front_placed, back_placed}
use Rattle.minus_text.proofs.DocumentLaws.{length-first_rows}
use Rattle.minus_text.proofs.LinesLaws.{nl, position_no, position_yes, cut_at_newline, cut_none, lines-cut}
use Rattle.minus_text.proofs.LineFindsLaws.{from_start}
use Rattle.minus_text.proofs.TextFindsLaws.{stored_first, rows_many, open_own, ends, own_is, end_within}

-- ---- a text from one of its lines on

-- what stands from the line with a number on: where that begins in the text, and the rows and first rows from there on
pub record FromLine (wrap : Wrap) (at n : ℕ) (text : List ℕ) (k first : ℕ) : Type 0 where
  pub place : ℕ
  pub within : place ≤ length text
  pub after : 0 < place → get_or text (place - 1) 0 ≡ 10
  pub low : n ≤ first
  pub few : first - n ≤ length (stored_from wrap at (cut text))
  pub its_rows : drop (first - n) (stored_from wrap at (cut text)) ≡ stored_from wrap (at + place) (cut (drop place text))
  pub its_firsts : drop k (first_rows wrap n (lines_of (cut text))) ≡ first_rows wrap first (lines_of (cut (drop place text)))
  pub its_lines : drop k (lines_of (cut text)) ≡ lines_of (cut (drop place text))

newline_there : (bs : List ℕ) → position_or_len nl bs < length bs → get_or bs (position_or_len nl bs) 0 ≡ 10
newline_there [] lt = absurd (omega (arith, lt))
newline_there (b ∷ bs) lt = elim (cases_Bool (b == 10)) [
  | inl t ↦ let here : position_or_len nl (b ∷ bs) ≡ 0 = position_yes b bs t in rw here (eqb-true b 10 t)
  | inr f ↦
      let later : position_or_len nl (b ∷ bs) ≡ suc (position_or_len nl bs) = position_no b bs f in
      rw later (newline_there bs (omega (arith, lt, later)))
]

-- a text with a second line is cut at a newline
two_lines : (text : List ℕ) → 1 < length (lines_of (cut text)) → position_or_len nl text < length text
two_lines text many = elim (cases_lt (position_or_len nl text) (length text)) [
  | inl lt ↦ lt
  | inr ge ↦
      let few : position_or_len nl text ≤ length text = prefix_len-le-length _ text in
      let none : position_or_len nl text ≡ length text = omega (arith, ge, few) in
      absurd (one_at_most text (rw (cut_none text none) at many))
]
  where
    one_at_most : (rest : List ℕ) → 1 < length (lines_of (whole rest)) → ⊥
    one_at_most rest h = elim (cases_Bool (length rest == 0)) [
      | inl z ↦ let few : 1 < 0 = rw z at h in omega (arith, few)
      | inr s ↦ let few : 1 < 1 = rw s at h in omega (arith, few)
    ]

first_one : (wrap : Wrap) (n : ℕ) (ls : List (List ℕ)) → 0 < length ls → get_or (first_rows wrap n ls) 0 0 ≡ n
first_one wrap n [] some = absurd (omega (arith, some))
first_one wrap n (l ∷ ls) some = refl

pub from_line : (wrap : Wrap) (k at n : ℕ) (text : List ℕ) → k < length (lines_of (cut text)) → FromLine wrap at n text k (get_or (first_rows wrap n (lines_of (cut text))) k 0)
from_line wrap zero at n text lt =
    let first = first_one wrap n (lines_of (cut text)) lt in
    let z : at ≡ at + 0 = omega arith in
    let none : n - n ≡ 0 = omega arith in
    subst (FromLine wrap at n text 0) (sym first) (record {
      place = 0;
      within = omega arith;
      after = λ l. absurd (omega (arith, l));
      low = omega arith;
      few = omega arith;
      its_rows = ap (λ j. drop j (stored_from wrap at (cut text))) none ∙ ap (λ b. stored_from wrap b (cut text)) z;
      its_firsts = refl;
      its_lines = refl;
    })
from_line wrap (suc k) at n text lt =
    let p = position_or_len nl text in
    let here : p < length text = two_lines text (omega (arith, lt)) in
    let line = take p text in
    let rest = drop (p + 1) text in
    let is : cut text ≡ behind line (cut rest) = cut_at_newline text p here refl in
    let own = length (own_rows wrap (strip_carriage_return line)) in
    let size : length line ≡ p = length-take-le p text (omega (arith, here)) in
    let many : k < length (lines_of (cut rest)) = (let all : suc k < suc (length (lines_of (cut rest))) = rw is at lt in omega (arith, all)) in
    let h = from_line wrap k (at + (length line + 1)) (n + own) rest many in
    let first = get_or (first_rows wrap (n + own) (lines_of (cut rest))) k 0 in
    let stored : stored_from wrap at (cut text) ≡ line_stored wrap at (strip_carriage_return line) ++ stored_from wrap (at + (length line + 1)) (cut rest) =
    ap (stored_from wrap at) is ∙ stored_first wrap at line (cut rest) in
    let mine = rows_many wrap at (strip_carriage_return line) in
    let low = h.low in
    let down : own + (first - (n + own)) ≡ first - n = omega (arith, low) in
    let skip : drop ((p + 1) + h.place) text ≡ drop h.place rest = sym (drop-drop h.place (p + 1) text) in
    let sum : (at + (length line + 1)) + h.place ≡ at + ((p + 1) + h.place) = omega (arith, size) in
    let long = length-drop (p + 1) text in
    let inside = h.within in
    let fewer = h.few in
    let value : get_or (first_rows wrap n (lines_of (cut text))) (suc k) 0 ≡ first = ap (λ c. get_or (first_rows wrap n (lines_of c)) (suc k) 0) is in
    subst (FromLine wrap at n text (suc k)) (sym value) (record {
      place = (p + 1) + h.place;
      within = omega (arith, inside, long, here);
      after = λ l. after_rest text h.place here h.after;
      low = omega (arith, low);
      few = omega (arith, fewer, low, mine, ap length stored, length-append (line_stored wrap at (strip_carriage_return line)) (stored_from wrap (at + (length line + 1)) (cut rest)));
      its_rows = ap (λ j. drop j (stored_from wrap at (cut text))) (sym down) ∙ sym (drop-drop (first - (n + own)) own (stored_from wrap at (cut text)))
          ∙ ap (λ l. drop (first - (n + own)) (drop own l)) stored ∙ ap (drop (first - (n + own))) (drop_at (line_stored wrap at (strip_carriage_return line)) (stored_from wrap (at + (length line + 1)) (cut rest)) own mine)
          ∙ h.its_rows ∙ ap (λ b. stored_from wrap b (cut (drop h.place rest))) sum ∙ ap (λ t. stored_from wrap (at + ((p + 1) + h.place)) (cut t)) (sym skip);
      its_firsts = ap (λ c. drop (suc k) (first_rows wrap n (lines_of c))) is ∙ h.its_firsts ∙ ap (λ t. first_rows wrap first (lines_of (cut t))) (sym skip);
      its_lines = ap (λ c. drop (suc k) (lines_of c)) is ∙ h.its_lines ∙ ap (λ t. lines_of (cut t)) (sym skip);
    })
  where
    after_rest : (text : List ℕ) (b : ℕ) → position_or_len nl text < length text → (0 < b → get_or (drop (position_or_len nl text + 1) text) (b - 1) 0 ≡ 10) → get_or text (((position_or_len nl text + 1) + b) - 1) 0 ≡ 10
    after_rest text zero lt h = let z : ((position_or_len nl text + 1) + 0) - 1 ≡ position_or_len nl text = omega arith in rw z (newline_there text lt)
    after_rest text (suc b) lt h =
        let z : (position_or_len nl text + 1) + (suc b - 1) ≡ ((position_or_len nl text + 1) + suc b) - 1 = omega arith in
        ap (λ j. get_or text j 0) (sym z) ∙ sym (get_or-drop (position_or_len nl text + 1) text (suc b - 1) 0) ∙ h (omega arith)

-- ---- the first row of a text, and its first line

first_row : (wrap : Wrap) (at : ℕ) (line : List ℕ) → (s : Span) × (ss : List Span) × (line_stored wrap at line ≡ s ∷ ss) × (s.start ≡ at)
first_row wrap at line =
    let h = from_start wrap line in
    let begins : at + h.first.start ≡ at = (let z = h.start in omega (arith, z)) in
    (moved at h.first, map (moved at) h.more, ap (map (moved at)) h.all, begins)

pub full_text : (text : List ℕ) → 0 < length (lines_of (whole text)) → (length text == 0) ≡ false
full_text text some = elim (cases_Bool (length text == 0)) [
  | inl z ↦ let none : 0 < 0 = rw z at some in absurd (omega (arith, none))
  | inr s ↦ s
]

pub record FirstRow (wrap : Wrap) (at : ℕ) (text : List ℕ) : Type 0 where
  pub row : Span
  pub more : List Span
  pub all : stored_from wrap at (cut text) ≡ row ∷ more
  pub start : row.start ≡ at

pub row_there : (wrap : Wrap) (at : ℕ) (text : List ℕ) → 0 < length (lines_of (cut text)) → FirstRow wrap at text
row_there wrap at text some = elim (cases_lt (position_or_len nl text) (length text)) [
  | inl lt ↦
      let line = take (position_or_len nl text) text in
      let rest = cut (drop (position_or_len nl text + 1) text) in
      let h = first_row wrap at (strip_carriage_return line) in
      let later = stored_from wrap (at + (length line + 1)) rest in
      record {
        row = h.0;
        more = h.1 ++ later;
        all = ap (stored_from wrap at) (cut_at_newline text (position_or_len nl text) lt refl) ∙ stored_first wrap at line rest ∙ ap (λ l. l ++ later) h.2;
        start = h.3;
      }
  | inr ge ↦
      let few : position_or_len nl text ≤ length text = prefix_len-le-length _ text in
      let none : position_or_len nl text ≡ length text = omega (arith, ge, few) in
      let is : cut text ≡ whole text = cut_none text none in
      let h = first_row wrap at text in
      let full : (length text == 0) ≡ false = full_text text (rw is at some) in
      record {
        row = h.0;
        more = h.1;
        all = ap (stored_from wrap at) is ∙ open_own wrap at text full ∙ h.2;
        start = h.3;
      }
]

-- where a line begins, no character is cut
pub line_boundary : (text : List ℕ) (place : ℕ) → IsUtf8 text → place ≤ length text → (0 < place → get_or text (place - 1) 0 ≡ 10) → IsCharBoundary text place
line_boundary text place u within after = elim (cases_lt 0 place) [
  | inl some ↦
      let byte = after some in
      let k = IsCharBoundary-after_ascii text (place - 1) u (omega (arith, within, some)) (omega (arith, byte)) in
      let e : (place - 1) + 1 ≡ place = omega (arith, some) in
      rw e at k
  | inr none ↦ let e : place ≡ 0 = omega (arith, none) in rw e (IsCharBoundary-start text u)
]

-- ---- the rows of lines

-- the number of the first row of a line is that of the rows of the lines above it
pub first_is : (wrap : Wrap) (n k : ℕ) (ls : List (List ℕ)) → k < length ls → get_or (first_rows wrap n ls) k 0 ≡ n + length (rows_of_lines wrap (take k ls))
first_is wrap n k [] lt = absurd (omega (arith, lt))
first_is wrap n zero (l ∷ ls) lt = omega arith
first_is wrap n (suc k) (l ∷ ls) lt =
    let later = first_is wrap (n + length (own_rows wrap l)) k ls (omega (arith, lt)) in
    omega (arith, later, length-append (own_rows wrap l) (rows_of_lines wrap (take k ls)))

pub line_split : (k : ℕ) (ls : List (List ℕ)) → k < length ls → ls ≡ take k ls ++ get_or ls k [] ∷ drop (k + 1) ls
line_split k [] lt = absurd (omega (arith, lt))
line_split zero (l ∷ ls) lt = refl
line_split (suc k) (l ∷ ls) lt = let one : suc k + 1 ≡ suc (k + 1) = omega arith in rw one (ap (λ r. l ∷ r) (line_split k ls (omega (arith, lt))))

pub rows_split : (wrap : Wrap) (k : ℕ) (ls : List (List ℕ)) → k < length ls
    → rows_of_lines wrap ls ≡ rows_of_lines wrap (take k ls) ++ (own_rows wrap (get_or ls k []) ++ rows_of_lines wrap (drop (k + 1) ls))
rows_split wrap k ls lt = ap (rows_of_lines wrap) (line_split k ls lt) ∙ flat_map-append (own_rows wrap) (take k ls) (get_or ls k [] ∷ drop (k + 1) ls)

-- what is found in a line stands in the rows of all
pub placed_in_text : (re : Re) (wrap : Wrap) (k : ℕ) (ls : List (List ℕ)) → k < length ls
    → ArePlaced (get_or (first_rows wrap 0 ls) k 0) (own_rows wrap (get_or ls k [])) (finds_in_line re wrap (get_or (first_rows wrap 0 ls) k 0) (get_or ls k []))
    → ArePlaced 0 (rows_of_lines wrap ls) (finds_in_line re wrap (get_or (first_rows wrap 0 ls) k 0) (get_or ls k []))
placed_in_text re wrap k ls lt h =
    let n = get_or (first_rows wrap 0 ls) k 0 in
    let line = get_or ls k [] in
    let found = finds_in_line re wrap n line in
    let front = rows_of_lines wrap (take k ls) in
    let later = rows_of_lines wrap (drop (k + 1) ls) in
    let at : n ≡ 0 + length front = first_is wrap 0 k ls lt in
    let own = front_placed n (own_rows wrap line) later found (line_below re wrap n line) h in
    let all = back_placed 0 n n front (own_rows wrap line ++ later) found at (omega arith) (line_ascends re wrap n line) own in
    subst (λ rows. ArePlaced 0 rows found) (sym (rows_split wrap k ls lt)) all

-- ---- a line by its number

-- a line, from where it begins on
pub record LineAt (wrap : Wrap) (text : List ℕ) (rows : List Span) (firsts : List ℕ) (k first base : ℕ) : Type 0 where
  pub in_rows : first < length rows
  pub within : base ≤ length text
  pub boundary : IsCharBoundary text base
  pub its_rows : drop first rows ≡ stored_from wrap base (cut (drop base text))
  pub its_firsts : drop k firsts ≡ first_rows wrap (0 + first) (lines_of (cut (drop base text)))
  pub some : 0 < length (lines_of (cut (drop base text)))
  pub its_line : get_or (lines text) k [] ≡ get_or (lines_of (cut (drop base text))) 0 []

pub line_at : (wrap : Wrap) (text : List ℕ) (rows : List Span) (firsts : List ℕ) (k first base : ℕ) (d : Span) → IsUtf8 text → rows ≡ stored_from wrap 0 (cut text) → firsts ≡ first_rows wrap 0 (lines text) → k < length firsts
    → first ≡ get_or firsts k 0 → base ≡ (get_or rows first d).start → LineAt wrap text rows firsts k first base
line_at wrap text rows firsts k first base d u is_rows is_firsts lt at start =
    let is : lines text ≡ lines_of (cut text) = lines-cut text in
    let many : k < length (lines_of (cut text)) = omega (arith, lt, ap length is_firsts, length-first_rows wrap 0 (lines text), ap length is) in
    let h = from_line wrap k 0 0 text many in
    let value : first ≡ get_or (first_rows wrap 0 (lines_of (cut text))) k 0 = at ∙ ap (λ l. get_or l k 0) is_firsts ∙ ap (λ ls. get_or (first_rows wrap 0 ls) k 0) is in
    let none : get_or (first_rows wrap 0 (lines_of (cut text))) k 0 - 0 ≡ first = omega (arith, value) in
    let rest = drop h.place text in
    let left : drop first rows ≡ stored_from wrap (0 + h.place) (cut rest) = ap₂ (λ j l. drop j l) (sym none) is_rows ∙ h.its_rows in
    let some : 0 < length (lines_of (cut rest)) = omega (arith, many, ap length h.its_lines, length-drop k (lines_of (cut text))) in
    let r = row_there wrap (0 + h.place) rest some in
    let all : drop first rows ≡ r.row ∷ r.more = left ∙ r.all in
    let inside : first < length rows = omega (arith, ap length all, length-drop first rows) in
    let head : get_or rows first d ≡ r.row = (let z : first + 0 ≡ first = omega arith in ap (λ j. get_or rows j d) (sym z) ∙ sym (get_or-drop first rows 0 d) ∙ ap (λ l. get_or l 0 d) all) in
    let begins = r.start in
    let place : h.place ≡ base = omega (arith, start, ap (λ (s : Span). s.start) head, begins) in
    let sum : 0 + h.place ≡ base = omega (arith, place) in
    let there : 0 + first ≡ first = omega arith in
    let near = h.within in
    record {
      in_rows = inside;
      within = omega (arith, near, place);
      boundary = subst (IsCharBoundary text) place (line_boundary text h.place u near h.after);
      its_rows = left ∙ ap₂ (λ b t. stored_from wrap b (cut t)) sum (ap (λ b. drop b text) place);
      its_firsts = ap (drop k) (is_firsts ∙ ap (first_rows wrap 0) is) ∙ h.its_firsts ∙ ap₂ (λ n b. first_rows wrap n (lines_of (cut (drop b text)))) (sym value ∙ sym there) place;
      some = subst (λ b. 0 < length (lines_of (cut (drop b text)))) place some;
      its_line = ap (λ ls. get_or ls k []) is ∙ (let z : k + 0 ≡ k = omega arith in ap (λ j. get_or (lines_of (cut text)) j []) (sym z)) ∙ sym (get_or-drop k (lines_of (cut text)) 0 []) ∙ ap (λ l. get_or l 0 []) h.its_lines
          ∙ ap (λ b. get_or (lines_of (cut (drop b text))) 0 []) place;
    }

-- where the rows of a line end, and which they are
pub rows_at : (wrap : Wrap) (text : List ℕ) (rows : List Span) (firsts : List ℕ) (k first base end : ℕ) → LineAt wrap text rows firsts k first base → end ≡ rows_end firsts (k + 1) 0 (length rows)
    → (first ≤ end) × (end ≤ length rows) × (take (end - first) (drop first rows) ≡ line_stored wrap base (get_or (lines_of (cut (drop base text))) 0 []))
rows_at wrap text rows firsts k first base end h is = elim (cases_lt (position_or_len nl (drop base text)) (length (drop base text))) [
  | inl lt ↦
      let rest = drop base text in
      let p = position_or_len nl rest in
      let line = take p rest in
      let c = cut (drop (p + 1) rest) in
      let split : cut rest ≡ behind line c = cut_at_newline rest p lt refl in
      let inside = h.in_rows in
      let few : first ≤ length rows = omega (arith, inside) in
      let e : end ≡ first + length (own_rows wrap (strip_carriage_return line)) = is ∙ ends wrap rows firsts 0 base first k line rest c split h.its_rows few h.its_firsts in (
        omega (arith, e),
        end_within wrap rows firsts 0 base first k line rest c split h.its_rows few h.its_firsts end e,
        own_is wrap rows firsts 0 base first k line rest c split h.its_rows few h.its_firsts end e ∙ ap (λ q. line_stored wrap base (get_or (lines_of q) 0 [])) (sym split),
      )
  | inr ge ↦
      let rest = drop base text in
      let few : position_or_len nl rest ≤ length rest = prefix_len-le-length _ rest in
      let none : position_or_len nl rest ≡ length rest = omega (arith, ge, few) in
      let one : cut rest ≡ whole rest = cut_none rest none in
      let full : (length rest == 0) ≡ false = full_text rest (rw one at h.some) in
      let single : length (lines_of (whole rest)) ≡ 1 = rw full refl in
      let last : length (drop k firsts) ≡ 1 = ap length h.its_firsts ∙ length-first_rows wrap (0 + first) (lines_of (cut rest)) ∙ ap (λ q. length (lines_of q)) one ∙ single in
      let past : nat_lt (k + 1) (length firsts) ≡ false = (let size = length-drop k firsts in grind (arith, size, last)) in
      let e : end ≡ length rows = is ∙ rw past refl in
      let inside = h.in_rows in
      let all : take (end - first) (drop first rows) ≡ drop first rows = take_all (end - first) (drop first rows) (omega (arith, e, length-drop first rows)) in
      let head : get_or (lines_of (whole rest)) 0 [] ≡ rest = rw full refl in (
        omega (arith, e, inside),
        omega (arith, e),
        all ∙ h.its_rows ∙ ap (stored_from wrap base) one ∙ open_own wrap base rest full ∙ ap (line_stored wrap base) (sym head ∙ ap (λ q. get_or (lines_of q) 0 []) (sym one)),
      )
]
