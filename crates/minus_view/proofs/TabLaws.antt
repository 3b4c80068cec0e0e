-- Laws of the marks of tabs.
use Rattle.std.proofs.Common.{ℕ, ◌≡◌, ◌<◌, ◌≤◌, ◌+◌, ◌-◌, ◌==◌, ◌++◌, List, [], ◌∷◌, Bool, true, false, Option, Some, None, not, eqb, refl, ap, sym, ◌∙◌, arith, length, subst, take, drop, if◌then◌else◌, replicate, zero, suc, get_or, inl, inr, ◌⊎◌}
use Rattle.std.specs.List.{list_all, position_or_len, before_first, after_first, prefix_len}
use Rattle.std.specs.Option.{option_and_then, option_map, unwrap_or, MatchOption}
use Rattle.std.specs.Prelude.{◌≢◌}
use Rattle.std.specs.Borrow.{Bor}
use Rattle.std.specs.Int.{is_in_range}
use Rattle.std.proofs.lemmas.Bool.{and_parts, cases_Bool, eqb-true}
use Rattle.std.proofs.lemmas.Bool.Decides.{nat_tests}
use Rattle.std.proofs.lemmas.List.{append_assoc, append-nil, get_or-drop, length-drop, take_all}
use Rattle.std.proofs.lemmas.Str.{IsCharBoundary-after_ascii}
use Rattle.std.specs.Str.{IsUtf8, IsCharBoundary}
use Rattle.std.proofs.lemmas.List.Sums.{prefix_len-le-length, prefix_len_passes, prefix_len_stops, split_at_first}
use Rattle.std.proofs.Math.Seq.{drop-cons}
use Rattle.minus_view.specs.declared.tab_marks.Tab.{Tab}
use Rattle.minus_view.specs.Prepared.{expanded, is_text, MarksAreTakenOut}
use Rattle.minus_view.specs.TabColumns.{next_column, tab_len}
use Rattle.minus_view.specs.TabMarks.{tab_mark, tab_text, past, past_mark, mark_len, len_behind, unmarked, unmarked_behind, tab_places, tabs_behind, begun_tab, ended_tab, has_tab, with_tabs}
use Rattle.minus_view.proofs.PlainLaws.{front_passes}

-- what follows a byte
pub past_is : (c : ℕ) (bytes rest : List ℕ) → past c bytes ≡ Some rest → bytes ≡ c ∷ rest
past_is c [] rest h = absurd (cc)
past_is c (b ∷ bytes) rest h = elim (cases_Bool (eqb b c)) [
  | inl t ↦ let k = rw t at h in rw (eqb-true b c t) (ap (λ xs. c ∷ xs) (cc))
  | inr f ↦ let k = rw f at h in absurd (cc)
]

-- a byte stands there, or it does not
pub past_here : (c : ℕ) (bytes rest : List ℕ) → bytes ≡ c ∷ rest → Some rest ≡ past c bytes
past_here c bytes rest h = rw h (grind (arith, nat_tests))

pub past_none : (c : ℕ) (bytes : List ℕ) → ((rest : List ℕ) → bytes ≡ c ∷ rest → ⊥) → None ≡ past c bytes
past_none c [] h = refl
past_none c (b ∷ bytes) h = elim (cases_Bool (eqb b c)) [
  | inl t ↦ absurd (h bytes (ap (λ x. x ∷ bytes) (eqb-true b c t)))
  | inr f ↦ rw f refl
]

-- the two marks, behind their `ESC`
mark_is : (numbers rest : List ℕ) (o : Option (List ℕ)) → past 58 numbers ≡ o → past 109 (unwrap_or o numbers) ≡ Some rest
    → (numbers ≡ 109 ∷ rest) ⊎ (numbers ≡ 58 ∷ 109 ∷ rest)
mark_is numbers rest None e h = inl (past_is 109 numbers rest h)
mark_is numbers rest (Some end) e h = inr (past_is 58 numbers end e ∙ ap (λ xs. 58 ∷ xs) (past_is 109 end rest h))

mark_from : (bytes rest : List ℕ) (o : Option (List ℕ)) → past 91 bytes ≡ o
    → option_and_then (λ numbers. past 109 (unwrap_or (past 58 numbers) numbers)) o ≡ Some rest
    → (bytes ≡ 91 ∷ 109 ∷ rest) ⊎ (bytes ≡ 91 ∷ 58 ∷ 109 ∷ rest)
mark_from bytes rest None e h = absurd (cc)
mark_from bytes rest (Some numbers) e h =
    let front = past_is 91 bytes numbers e in
    elim (mark_is numbers rest (past 58 numbers) refl h) [
      | inl k ↦ inl (front ∙ ap (λ xs. 91 ∷ xs) k)
      | inr k ↦ inr (front ∙ ap (λ xs. 91 ∷ xs) k)
    ]

-- it has some bytes, and the rest stands behind them
pub record IsMark (bytes rest : List ℕ) : Type 0 where
  pub some : (mark_len bytes == 0) ≡ false
  pub rest_is : drop (mark_len bytes) bytes ≡ rest
  pub shorter : length rest < length bytes

pub mark_at : (bytes rest : List ℕ) → past_mark bytes ≡ Some rest → IsMark bytes rest
mark_at bytes rest h =
    let len = ap (len_behind bytes) h in
    elim (mark_from bytes rest (past 91 bytes) refl h) [
      | inl e ↦
          let size = ap length e in
          let two : mark_len bytes ≡ 2 = len ∙ omega (arith, size) in
          record {
            some = ap (λ n. n == 0) two;
            rest_is = ap (λ n. drop n bytes) two ∙ ap (drop 2) e;
            shorter = omega (arith, size);
          }
      | inr e ↦
          let size = ap length e in
          let three : mark_len bytes ≡ 3 = len ∙ omega (arith, size) in
          record {
            some = ap (λ n. n == 0) three;
            rest_is = ap (λ n. drop n bytes) three ∙ ap (drop 3) e;
            shorter = omega (arith, size);
          }
    ]

-- bytes are skipped
unmarked_skip : (k : ℕ) (bytes : List ℕ) → unmarked_behind k bytes ≡ unmarked (drop k bytes)
unmarked_skip zero bytes = refl
unmarked_skip (suc k) [] = refl
unmarked_skip (suc k) (b ∷ bytes) = unmarked_skip k bytes

tabs_skip : (place : ℕ) (begun : Option ℕ) (k : ℕ) (bytes : List ℕ) → tabs_behind place begun k bytes ≡ tab_places place begun (drop k bytes)
tabs_skip place begun zero bytes = refl
tabs_skip place begun (suc k) [] = refl
tabs_skip place begun (suc k) (b ∷ bytes) = tabs_skip place begun k bytes

-- a mark
pub unmarked_mark : (bytes rest : List ℕ) → past_mark bytes ≡ Some rest → unmarked (27 ∷ bytes) ≡ unmarked rest
unmarked_mark bytes rest h =
    let mark = mark_at bytes rest h in
    ap (λ t. if t then 27 ∷ unmarked bytes else unmarked_behind (mark_len bytes) bytes) mark.some
    ∙ unmarked_skip (mark_len bytes) bytes ∙ ap unmarked mark.rest_is

pub tabs_mark : (place : ℕ) (begun : Option ℕ) (bytes rest : List ℕ) → past_mark bytes ≡ Some rest
    → tab_places place begun (27 ∷ bytes) ≡ ended_tab begun place ++ tab_places place (begun_tab begun place) rest
tabs_mark place begun bytes rest h =
    let mark = mark_at bytes rest h in
    let next = begun_tab begun place in
    ap (λ t. if t then tab_places (place + 1) begun bytes else ended_tab begun place ++ tabs_behind place next (mark_len bytes) bytes) mark.some
    ∙ ap (λ ts. ended_tab begun place ++ ts) (tabs_skip place next (mark_len bytes) bytes ∙ ap (tab_places place next) mark.rest_is)

-- an `ESC` without a mark
pub unmarked_escape : (bytes : List ℕ) → past_mark bytes ≡ None → unmarked (27 ∷ bytes) ≡ 27 ∷ unmarked bytes
unmarked_escape bytes h = ap (λ o. if len_behind bytes o == 0 then 27 ∷ unmarked bytes else unmarked_behind (len_behind bytes o) bytes) h

pub tabs_escape : (place : ℕ) (begun : Option ℕ) (bytes : List ℕ) → past_mark bytes ≡ None
    → tab_places place begun (27 ∷ bytes) ≡ tab_places (place + 1) begun bytes
tabs_escape place begun bytes h =
    let next = begun_tab begun place in
    ap (λ o. if len_behind bytes o == 0 then tab_places (place + 1) begun bytes
    else ended_tab begun place ++ tabs_behind place next (len_behind bytes o) bytes) h

-- bytes that are no `ESC`
abbrev pub no_escape : ℕ → Bool
no_escape b = not (eqb b 27)

other_byte : (b : ℕ) → no_escape b ≡ true → eqb b 27 ≡ false
other_byte b h = grind (arith, nat_tests)

pub unmarked_front : (front rest : List ℕ) → list_all no_escape front ≡ true → unmarked (front ++ rest) ≡ front ++ unmarked rest
unmarked_front [] rest h = refl
unmarked_front (b ∷ front) rest h =
    let parts = and_parts (no_escape b) (list_all no_escape front) h in
    let f = other_byte b parts.0 in
    ap (λ t. if (if t then mark_len (front ++ rest) else 0) == 0 then b ∷ unmarked (front ++ rest)
    else unmarked_behind (if t then mark_len (front ++ rest) else 0) (front ++ rest)) f
    ∙ ap (λ xs. b ∷ xs) (unmarked_front front rest parts.1)

pub tabs_front : (place : ℕ) (begun : Option ℕ) (front rest : List ℕ) → list_all no_escape front ≡ true
    → tab_places place begun (front ++ rest) ≡ tab_places (place + length front) begun rest
tabs_front place begun [] rest h = ap (λ n. tab_places n begun rest) (omega arith)
tabs_front place begun (b ∷ front) rest h =
    let parts = and_parts (no_escape b) (list_all no_escape front) h in
    let f = other_byte b parts.0 in
    let next = begun_tab begun place in
    ap (λ t. if (if t then mark_len (front ++ rest) else 0) == 0 then tab_places (place + 1) begun (front ++ rest)
    else ended_tab begun place ++ tabs_behind place next (if t then mark_len (front ++ rest) else 0) (front ++ rest)) f
    ∙ tabs_front (place + 1) begun front rest parts.1
    ∙ ap (λ n. tab_places n begun rest) (omega arith)

-- a text is what stands before its first `ESC`, and what follows
abbrev pub is_escape : ℕ → Bool
is_escape b = eqb b 27

pub record IsCut (bytes front behind : List ℕ) : Type 0 where
  pub all : bytes ≡ front ++ 27 ∷ behind
  pub plain : list_all no_escape front ≡ true

not_false : (t : Bool) → not t ≡ false → t ≡ true
not_false true h = refl
not_false false h = absurd (cc)

pub cut_at_escape : (bytes front behind : List ℕ) → front ≡ before_first is_escape bytes → behind ≡ after_first is_escape bytes
    → position_or_len is_escape bytes < length bytes → IsCut bytes front behind
cut_at_escape bytes front behind f b some =
    let split = split_at_first is_escape bytes 0 some in
    let here = eqb-true (get_or bytes (position_or_len is_escape bytes) 0) 27 (not_false _ (prefix_len_stops no_escape bytes 0 some)) in
    record {
      all = split ∙ ap (λ x. before_first is_escape bytes ++ x ∷ after_first is_escape bytes) here
          ∙ ap (λ xs. xs ++ 27 ∷ after_first is_escape bytes) (sym f) ∙ ap (λ xs. front ++ 27 ∷ xs) (sym b);
      plain = ap (list_all no_escape) f ∙ front_passes no_escape bytes;
    }

pub no_escape_left : (bytes : List ℕ) → position_or_len is_escape bytes ≡ length bytes → list_all no_escape bytes ≡ true
no_escape_left bytes h =
    sym (ap (list_all no_escape) (take_all (position_or_len is_escape bytes) bytes (omega (arith, h)))) ∙ front_passes no_escape bytes

pub unmarked_all : (bytes : List ℕ) → list_all no_escape bytes ≡ true → unmarked bytes ≡ bytes
unmarked_all bytes h = ap unmarked (sym (append-nil bytes)) ∙ unmarked_front bytes [] h ∙ append-nil bytes

pub tabs_none : (place : ℕ) (begun : Option ℕ) (bytes : List ℕ) → list_all no_escape bytes ≡ true → tab_places place begun bytes ≡ []
tabs_none place begun bytes h = ap (tab_places place begun) (sym (append-nil bytes)) ∙ tabs_front place begun bytes [] h

-- a text is read on behind a mark
pub text_past_mark : (whole plain rest front behind more now : List ℕ) → unmarked whole ≡ plain ++ unmarked rest → IsCut rest front behind
    → past_mark behind ≡ Some more → now ≡ plain ++ front → unmarked whole ≡ now ++ unmarked more
text_past_mark whole plain rest front behind more now was cut mark is =
    was ∙ ap (λ xs. plain ++ xs) (ap unmarked cut.all ∙ unmarked_front front (27 ∷ behind) cut.plain ∙ ap (λ xs. front ++ xs) (unmarked_mark behind more mark))
    ∙ sym (append_assoc plain front (unmarked more)) ∙ ap (λ xs. xs ++ unmarked more) (sym is)

pub tabs_past_mark : (whole rest front behind more : List ℕ) (tabs next : List Tab) (begun opened : Option ℕ) (place now : ℕ)
    → tab_places 0 None whole ≡ tabs ++ tab_places place begun rest → IsCut rest front behind → past_mark behind ≡ Some more
    → now ≡ place + length front → opened ≡ begun_tab begun now → next ≡ tabs ++ ended_tab begun now
    → tab_places 0 None whole ≡ next ++ tab_places now opened more
tabs_past_mark whole rest front behind more tabs next begun opened place now was cut mark at turn put =
    let read = ap (tab_places place begun) cut.all ∙ tabs_front place begun front (27 ∷ behind) cut.plain
    ∙ ap (λ n. tab_places n begun (27 ∷ behind)) (sym at) ∙ tabs_mark now begun behind more mark in
    was ∙ ap (λ ts. tabs ++ ts) (read ∙ ap (λ o. ended_tab begun now ++ tab_places now o more) (sym turn))
    ∙ sym (append_assoc tabs (ended_tab begun now) (tab_places now opened more)) ∙ ap (λ ts. ts ++ tab_places now opened more) (sym put)

-- a text is read on behind an `ESC` without a mark
pub text_past_escape : (whole plain rest front behind now : List ℕ) → unmarked whole ≡ plain ++ unmarked rest → IsCut rest front behind
    → past_mark behind ≡ None → now ≡ (plain ++ front) ++ 27 ∷ [] → unmarked whole ≡ now ++ unmarked behind
text_past_escape whole plain rest front behind now was cut none is =
    was ∙ ap (λ xs. plain ++ xs) (ap unmarked cut.all ∙ unmarked_front front (27 ∷ behind) cut.plain ∙ ap (λ xs. front ++ xs) (unmarked_escape behind none))
    ∙ sym (append_assoc plain front (27 ∷ unmarked behind)) ∙ sym (append_assoc (plain ++ front) (27 ∷ []) (unmarked behind))
    ∙ ap (λ xs. xs ++ unmarked behind) (sym is)

pub tabs_past_escape : (whole rest front behind : List ℕ) (tabs : List Tab) (begun : Option ℕ) (place now : ℕ)
    → tab_places 0 None whole ≡ tabs ++ tab_places place begun rest → IsCut rest front behind → past_mark behind ≡ None
    → now ≡ (place + length front) + 1 → tab_places 0 None whole ≡ tabs ++ tab_places now begun behind
tabs_past_escape whole rest front behind tabs begun place now was cut none at =
    was ∙ ap (λ ts. tabs ++ ts) (ap (tab_places place begun) cut.all ∙ tabs_front place begun front (27 ∷ behind) cut.plain
    ∙ tabs_escape (place + length front) begun behind none ∙ ap (λ n. tab_places n begun behind) (sym at))

one_more : (i : ℕ) (tabs : List Tab) (d : Tab) → i < length tabs → drop i tabs ≡ get_or tabs i d ∷ drop (i + 1) tabs
one_more i tabs d some =
    let count : suc i ≡ i + 1 = omega arith in
    drop-cons tabs i d some ∙ ap (λ n. get_or tabs i d ∷ drop n tabs) count

-- a text that does not have a tab is gone on with, and one that has it behind it
pub without_tab : (out : List ℕ) (place i : ℕ) (text : List ℕ) (tabs : List Tab) (d : Tab) → i < length tabs → has_tab place text (get_or tabs i d) ≡ false
    → out ++ with_tabs place text (drop i tabs) ≡ out ++ with_tabs place text (drop (i + 1) tabs)
without_tab out place i text tabs d some h =
    let tab = get_or tabs i d in
    let more = drop (i + 1) tabs in
    ap (λ xs. out ++ xs) (ap (with_tabs place text) (one_more i tabs d some)
    ∙ ap (λ t. if t then take (tab.start - place) text ++ 9 ∷ with_tabs tab.end (drop (tab.end - place) text) more else with_tabs place text more) h)

pub behind_tab : (out front now behind : List ℕ) (place i : ℕ) (text : List ℕ) (tabs : List Tab) (d : Tab) → i < length tabs
    → has_tab place text (get_or tabs i d) ≡ true → front ≡ take ((get_or tabs i d).start - place) text
    → behind ≡ drop ((get_or tabs i d).end - place) text → now ≡ (out ++ front) ++ 9 ∷ []
    → now ++ with_tabs (get_or tabs i d).end behind (drop (i + 1) tabs) ≡ out ++ with_tabs place text (drop i tabs)
behind_tab out front now behind place i text tabs d some h f b is =
    let tab = get_or tabs i d in
    let more = drop (i + 1) tabs in
    let rest = with_tabs tab.end behind more in
    let one : with_tabs place text (drop i tabs) ≡ front ++ 9 ∷ rest =
    ap (with_tabs place text) (one_more i tabs d some)
    ∙ ap (λ t. if t then take (tab.start - place) text ++ 9 ∷ with_tabs tab.end (drop (tab.end - place) text) more else with_tabs place text more) h
    ∙ ap (λ xs. xs ++ 9 ∷ with_tabs tab.end (drop (tab.end - place) text) more) (sym f)
    ∙ ap (λ xs. front ++ 9 ∷ with_tabs tab.end xs more) (sym b) in
    ap (λ xs. xs ++ rest) is ∙ append_assoc (out ++ front) (9 ∷ []) rest ∙ append_assoc out front (9 ∷ rest) ∙ ap (λ xs. out ++ xs) (sym one)

-- what stripping a character answers
pub past_stripped : (c : ℕ) (bytes : List ℕ) (r : Option (Bor (List ℕ))) → MatchOption r ((rest : List ℕ) → bytes ≢ c ∷ rest) (λ x. bytes ≡ c ∷ x.now)
    → option_map (λ s. s.now) r ≡ past c bytes
past_stripped c bytes None h = past_none c bytes h
past_stripped c bytes (Some x) h = past_here c bytes x.now h

-- a text may be cut behind spaces in it
pub behind_spaces : (text : List ℕ) (start end count : ℕ) → IsUtf8 text → start < end → start < length text
    → count ≡ prefix_len (is_in_range 32 32) (drop start text) → end - start ≤ count → IsCharBoundary text end
behind_spaces text start end count utf8 some within is h =
    let at = end - start - 1 in
    let few = prefix_len-le-length (is_in_range 32 32) (drop start text) in
    let size = length-drop start text in
    let space = prefix_len_passes (is_in_range 32 32) (drop start text) at 0 (omega (arith, some, is, h)) in
    let byte = get_or-drop start text at 0 in
    let place : start + at ≡ end - 1 = omega (arith, some) in
    let low : get_or text (end - 1) 0 < 128 = subst (λ (n : ℕ). get_or text n 0 < 128) place (subst (λ (b : ℕ). b < 128) byte (space_small (get_or (drop start text) at 0) space)) in
    subst (λ (n : ℕ). IsCharBoundary text n) (omega (arith, some)) (IsCharBoundary-after_ascii text (end - 1) utf8 (omega (arith, some, within, few, size, is, h)) low)
  where
    space_small : (b : ℕ) → is_in_range 32 32 b ≡ true → b < 128
    space_small b h = grind (arith, nat_tests)

-- spaces begin no mark
pub spaces_plain : (n : ℕ) → list_all no_escape (replicate n 32) ≡ true
spaces_plain zero = refl
spaces_plain (suc n) = spaces_plain n

pub behind_mark : (bytes : List ℕ) → past_mark (91 ∷ 109 ∷ bytes) ≡ Some bytes
behind_mark bytes = refl

-- what stands for a tab, before some bytes
pub marked_tab : (n : ℕ) (bytes : List ℕ) → tab_text true n ++ bytes ≡ 27 ∷ 91 ∷ 109 ∷ (replicate n 32 ++ (27 ∷ 91 ∷ 109 ∷ bytes))
marked_tab n bytes = ap (λ xs. 27 ∷ 91 ∷ 109 ∷ xs) (append_assoc (replicate n 32) tab_mark bytes)

unmarked_tab : (n : ℕ) (bytes : List ℕ) → unmarked (tab_text true n ++ bytes) ≡ replicate n 32 ++ unmarked bytes
unmarked_tab n bytes =
    ap unmarked (marked_tab n bytes)
    ∙ unmarked_mark (91 ∷ 109 ∷ (replicate n 32 ++ (27 ∷ 91 ∷ 109 ∷ bytes))) (replicate n 32 ++ (27 ∷ 91 ∷ 109 ∷ bytes)) (behind_mark (replicate n 32 ++ (27 ∷ 91 ∷ 109 ∷ bytes)))
    ∙ unmarked_front (replicate n 32) (27 ∷ 91 ∷ 109 ∷ bytes) (spaces_plain n)
    ∙ ap (λ xs. replicate n 32 ++ xs) (unmarked_mark (91 ∷ 109 ∷ bytes) bytes (behind_mark bytes))

pub text_plain : (b : ℕ) → is_text b ≡ true → eqb b 27 ≡ false
text_plain b h = grind (arith, nat_tests)

unmarked_byte : (b : ℕ) (bytes : List ℕ) → is_text b ≡ true → unmarked (b ∷ bytes) ≡ b ∷ unmarked bytes
unmarked_byte b bytes h =
    ap (λ t. if (if t then mark_len bytes else 0) == 0 then b ∷ unmarked bytes
    else unmarked_behind (if t then mark_len bytes else 0) bytes) (text_plain b h)

pub marks_are_taken_out : MarksAreTakenOut
marks_are_taken_out tabs col [] text = refl
marks_are_taken_out tabs col (b ∷ bytes) text =
    let parts = and_parts (is_text b) (list_all is_text bytes) text in
    let more = marks_are_taken_out tabs (next_column tabs col b) bytes parts.1 in
    go (b == 9) refl parts.0 more
  where
    go : (t : Bool) → (b == 9) ≡ t → is_text b ≡ true
        → unmarked (expanded true tabs (next_column tabs col b) bytes) ≡ expanded false tabs (next_column tabs col b) bytes
        → unmarked (if t then tab_text true (tab_len tabs col) ++ expanded true tabs (next_column tabs col b) bytes
        else b ∷ expanded true tabs (next_column tabs col b) bytes)
        ≡ (if t then tab_text false (tab_len tabs col) ++ expanded false tabs (next_column tabs col b) bytes
        else b ∷ expanded false tabs (next_column tabs col b) bytes)
    go true e h more = unmarked_tab (tab_len tabs col) (expanded true tabs (next_column tabs col b) bytes) ∙ ap (λ xs. replicate (tab_len tabs col) 32 ++ xs) more
    go false e h more = unmarked_byte b (expanded true tabs (next_column tabs col b) bytes) h ∙ ap (λ xs. b ∷ xs) more
