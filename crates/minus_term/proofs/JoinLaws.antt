-- How many texts one list of operations after another puts.
use Rattle.std.proofs.Common.{◌≡◌, ℕ, ◌+◌, ◌≤◌, ◌&&◌, ◌||◌, not, if◌then◌else◌, Bool, true, false, List, [], ◌∷◌, ◌++◌, length, Option, None, Some, refl, sym, arith, inl, inr}
use Rattle.std.proofs.lemmas.Bool.{cases_Bool}
use Rattle.minus_term.specs.Operations.{Op, ClearAll, ClearRow, GoTo, Return, NextRow, Put, ScrollUp, ScrollDown, ShowCursor, HideCursor}
use Rattle.minus_term.specs.PlayedScreen.{PlayedScreen, play, play_all, Below, IsBelow}
use Rattle.minus_term.specs.Puts.{puts, put_of, is_put, is_still, scrolls, is_in_last_row, may_be_in_last_row}
use Rattle.minus_term.proofs.PlayLaws.{length_below, play_below}

both_left : (x y : Bool) → (x && y) ≡ true → x ≡ true
both_left true y e = refl
both_left false y e = e

both_right : (x y : Bool) → (x && y) ≡ true → y ≡ true
both_right true y e = e
both_right false y e = absurd (cc)

neither_left : (x y : Bool) → not (x || y) ≡ true → x ≡ false
neither_left true y e = absurd (cc)
neither_left false y e = refl

neither_right : (x y : Bool) → not (x || y) ≡ true → y ≡ false
neither_right true y e = absurd (cc)
neither_right false true e = absurd (cc)
neither_right false false e = refl

pub few_of : (op : Op) (rest : List Op) (s : PlayedScreen) → put_of op rest s ≤ 1
few_of op rest s = elim (cases_Bool (is_put op)) [
  | inl e ↦ elim (cases_Bool (is_in_last_row (length s.texts) s.row && is_still rest (play op s))) [
    | inl f ↦ rw (e, f) (omega arith)
    | inr f ↦ rw (e, f) (omega arith)
  ]
  | inr e ↦ rw e (omega arith)
]

-- what puts nothing and does not scroll counts nothing, whatever follows
still_skips : (xs ys : List Op) (s : PlayedScreen) → is_still xs s ≡ true → puts (xs ++ ys) s ≡ puts ys (play_all xs s)
still_skips [] ys s h = refl
still_skips (op ∷ ops) ys s h =
    let quiet = both_left (not (is_put op || scrolls op s)) (is_still ops (play op s)) h in
    let none : is_put op ≡ false = neither_left (is_put op) (scrolls op s) quiet in
    let more = still_skips ops ys (play op s) (both_right (not (is_put op || scrolls op s)) (is_still ops (play op s)) h) in
    rw none (omega (arith, more))

-- the last text of the first list, which is not counted at its end, is one more
pub puts_join : (xs ys : List Op) (s : PlayedScreen) → puts (xs ++ ys) s ≤ puts xs s + 1 + puts ys (play_all xs s)
puts_join [] ys s = omega arith
puts_join (op ∷ ops) ys s = let more = puts_join ops ys (play op s) in elim (cases_Bool (is_put op)) [
  | inl e ↦ (let few = few_of op (ops ++ ys) s in elim (cases_Bool (is_in_last_row (length s.texts) s.row && is_still ops (play op s))) [
    | inl f ↦ (let skip = still_skips ops ys (play op s) (both_right (is_in_last_row (length s.texts) s.row) (is_still ops (play op s)) f) in omega (arith, few, skip))
    | inr f ↦ (let one : put_of op ops s ≡ 1 = rw (e, f) refl in omega (arith, few, one, more))
  ])
  | inr e ↦ rw e (omega (arith, more))
]

in_last : (m n : ℕ) (o p : Option ℕ) → m ≡ n → Below o p → is_in_last_row m o ≡ true → is_in_last_row n p ≡ true
in_last m n None p e h k = absurd (cc)
in_last m n (Some r) p e h k = rw (h, sym e) k

not_last : (m n : ℕ) (o p : Option ℕ) → m ≡ n → Below o p → may_be_in_last_row m o ≡ false → may_be_in_last_row n p ≡ false
not_last m n None p e h k = absurd (cc)
not_last m n (Some r) p e h k = rw (h, sym e) k

scrolls_below : (op : Op) (s t : PlayedScreen) → IsBelow s t → scrolls op s ≡ false → scrolls op t ≡ false
scrolls_below ClearAll s t h e = refl
scrolls_below ClearRow s t h e = refl
scrolls_below (GoTo x y) s t h e = refl
scrolls_below Return s t h e = refl
scrolls_below NextRow s t h e = not_last (length s.texts) (length t.texts) s.row t.row (length_below s.texts t.texts h.texts) h.row e
scrolls_below (Put text) s t h e = refl
scrolls_below (ScrollUp n) s t h e = e
scrolls_below (ScrollDown n) s t h e = e
scrolls_below ShowCursor s t h e = refl
scrolls_below HideCursor s t h e = refl

still_below : (ops : List Op) (s t : PlayedScreen) → IsBelow s t → is_still ops s ≡ true → is_still ops t ≡ true
still_below [] s t h e = refl
still_below (op ∷ ops) s t h e =
    let quiet = both_left (not (is_put op || scrolls op s)) (is_still ops (play op s)) e in
    let none : is_put op ≡ false = neither_left (is_put op) (scrolls op s) quiet in
    let same : scrolls op t ≡ false = scrolls_below op s t h (neither_right (is_put op) (scrolls op s) quiet) in
    let more : is_still ops (play op t) ≡ true = still_below ops (play op s) (play op t) (play_below op s t h) (both_right (not (is_put op || scrolls op s)) (is_still ops (play op s)) e) in
    rw (none, same, more) refl

-- where more is known of the screen, no more texts are counted
pub puts_below : (ops : List Op) (s t : PlayedScreen) → IsBelow s t → puts ops t ≤ puts ops s
puts_below [] s t h = omega arith
puts_below (op ∷ ops) s t h = let more = puts_below ops (play op s) (play op t) (play_below op s t h) in elim (cases_Bool (is_put op)) [
  | inl e ↦ elim (cases_Bool (is_in_last_row (length s.texts) s.row && is_still ops (play op s))) [
    | inl f ↦ (
        let last : is_in_last_row (length t.texts) t.row ≡ true = in_last (length s.texts) (length t.texts) s.row t.row (length_below s.texts t.texts h.texts) h.row (both_left (is_in_last_row (length s.texts) s.row) (is_still ops (play op s)) f) in
        let still : is_still ops (play op t) ≡ true = still_below ops (play op s) (play op t) (play_below op s t h) (both_right (is_in_last_row (length s.texts) s.row) (is_still ops (play op s)) f) in
        let none : put_of op ops t ≡ 0 = rw (e, last, still) refl in
        omega (arith, none, more)
        )
    | inr f ↦ (let few = few_of op ops t in let one : put_of op ops s ≡ 1 = rw (e, f) refl in omega (arith, few, one, more))
  ]
  | inr e ↦ rw e (omega (arith, more))
]

-- how many operations put a text
abbrev put_count : List Op → ℕ
put_count [] = 0
put_count (op ∷ ops) = (if is_put op then 1 else 0) + put_count ops

puts_counted : (ops : List Op) (s : PlayedScreen) → puts ops s ≤ put_count ops
puts_counted [] s = omega arith
puts_counted (op ∷ ops) s = let more = puts_counted ops (play op s) in elim (cases_Bool (is_put op)) [
  | inl e ↦ (let few = few_of op ops s in let one : put_count (op ∷ ops) ≡ 1 + put_count ops = rw e refl in omega (arith, few, one, more))
  | inr e ↦ rw e (omega (arith, more))
]

still_counted : (ops : List Op) (s : PlayedScreen) → is_still ops s ≡ true → put_count ops ≡ 0
still_counted [] s h = refl
still_counted (op ∷ ops) s h =
    let quiet = both_left (not (is_put op || scrolls op s)) (is_still ops (play op s)) h in
    let none : is_put op ≡ false = neither_left (is_put op) (scrolls op s) quiet in
    let more = still_counted ops (play op s) (both_right (not (is_put op || scrolls op s)) (is_still ops (play op s)) h) in
    rw none (omega (arith, more))

counted_puts : (ops : List Op) (s : PlayedScreen) → put_count ops ≤ puts ops s + 1
counted_puts [] s = omega arith
counted_puts (op ∷ ops) s = let more = counted_puts ops (play op s) in elim (cases_Bool (is_put op)) [
  | inl e ↦ elim (cases_Bool (is_in_last_row (length s.texts) s.row && is_still ops (play op s))) [
    | inl f ↦ (let none = still_counted ops (play op s) (both_right (is_in_last_row (length s.texts) s.row) (is_still ops (play op s)) f) in let one : put_count (op ∷ ops) ≡ 1 + put_count ops = rw e refl in omega (arith, none, one))
    | inr f ↦ (let put : put_of op ops s ≡ 1 = rw (e, f) refl in let one : put_count (op ∷ ops) ≡ 1 + put_count ops = rw e refl in omega (arith, put, one, more))
  ]
  | inr e ↦ rw e (omega (arith, more))
]

puts_split : (xs ys : List Op) (s : PlayedScreen) → puts (xs ++ ys) s ≤ put_count xs + puts ys (play_all xs s)
puts_split [] ys s = omega arith
puts_split (op ∷ ops) ys s = let more = puts_split ops ys (play op s) in elim (cases_Bool (is_put op)) [
  | inl e ↦ (let few = few_of op (ops ++ ys) s in let one : put_count (op ∷ ops) ≡ 1 + put_count ops = rw e refl in omega (arith, few, one, more))
  | inr e ↦ rw e (omega (arith, more))
]

-- one list after another puts no more than both, and one more, whatever screen the first one's count starts from
pub puts_join_any : (xs ys : List Op) (s t : PlayedScreen) → puts (xs ++ ys) s ≤ puts xs t + 1 + puts ys (play_all xs s)
puts_join_any xs ys s t = omega (arith, puts_split xs ys s, counted_puts xs t)
