-- What is known of a screen stays known as operations are played.
use Rattle.std.proofs.Common.{◌≡◌, ℕ, zero, suc, ◌+◌, ◌-◌, leb, min, List, [], ◌∷◌, ◌++◌, length, map, take, drop, replicate, set, get_or, Option, Some, None, refl, sym, ap, ◌∙◌, arith, inl, inr}
use Rattle.std.specs.Option.{IfSome, option_map}
use Rattle.std.proofs.lemmas.Bool.{cases_Bool}
use Rattle.std.proofs.lemmas.Option.{IfSome_then}
use Rattle.std.proofs.lemmas.List.{length-replicate, length-set, length-append, length-drop, length-take}
use Rattle.minus_term.specs.Operations.{Op, ClearAll, ClearRow, GoTo, Return, NextRow, Put, ScrollUp, ScrollDown, ShowCursor, HideCursor}
use Rattle.minus_term.specs.PlayedScreen.{ShownPage, PlayedScreen, blank, unknown_texts, unknown_screen, screen_of, cleared_row, put_text, scrolled_up, scrolled_down, next_texts, next_row, play, play_all, Below, AllBelow, IsBelow, Shows, Draws, PlayIsMonotone, UnknownStandsForAll}

-- the texts of a screen's rows, where they are known
abbrev pub Texts : Type 0
Texts = List (Option (List ℕ))

-- a list of operations after another is played from where that one led
pub play_all-append : (xs ys : List Op) (s : PlayedScreen) → play_all (xs ++ ys) s ≡ play_all ys (play_all xs s)
play_all-append [] ys s = refl
play_all-append (x ∷ xs) ys s = play_all-append xs ys (play x s)

pub Below-refl : {A : Type 0} (o : Option A) → Below o o
Below-refl None = tt
Below-refl (Some x) = refl

pub AllBelow-refl : (xs : Texts) → AllBelow xs xs
AllBelow-refl [] = tt
AllBelow-refl (x ∷ xs) = (Below-refl x, AllBelow-refl xs)

pub length_below : (xs ys : Texts) → AllBelow xs ys → length xs ≡ length ys
length_below [] [] h = refl
length_below [] (y ∷ ys) h = absurd h
length_below (x ∷ xs) [] h = absurd h
length_below (x ∷ xs) (y ∷ ys) h = ap suc (length_below xs ys h.1)

unknown_texts_below : (xs ys : Texts) → length xs ≡ length ys → AllBelow (unknown_texts xs) ys
unknown_texts_below [] [] e = tt
unknown_texts_below [] (y ∷ ys) e = absurd (omega arith)
unknown_texts_below (x ∷ xs) [] e = absurd (omega arith)
unknown_texts_below (x ∷ xs) (y ∷ ys) e = (tt, unknown_texts_below xs ys (omega arith))

set_below : (xs ys : Texts) (i : ℕ) (o p : Option (List ℕ)) → AllBelow xs ys → Below o p → AllBelow (set xs i o) (set ys i p)
set_below [] [] i o p h k = tt
set_below [] (y ∷ ys) i o p h k = absurd h
set_below (x ∷ xs) [] i o p h k = absurd h
set_below (x ∷ xs) (y ∷ ys) zero o p h k = (k, h.1)
set_below (x ∷ xs) (y ∷ ys) (suc i) o p h k = (h.0, set_below xs ys i o p h.1 k)

get_below : (xs ys : Texts) (i : ℕ) → AllBelow xs ys → Below (get_or xs i None) (get_or ys i None)
get_below [] [] i h = tt
get_below [] (y ∷ ys) i h = absurd h
get_below (x ∷ xs) [] i h = absurd h
get_below (x ∷ xs) (y ∷ ys) zero h = h.0
get_below (x ∷ xs) (y ∷ ys) (suc i) h = get_below xs ys i h.1

map_below : {A B : Type 0} (f : A → B) (o p : Option A) → Below o p → Below (option_map f o) (option_map f p)
map_below f None p h = tt
map_below f (Some x) p h = ap (option_map f) h

append_below : (xs ys us vs : Texts) → AllBelow xs ys → AllBelow us vs → AllBelow (xs ++ us) (ys ++ vs)
append_below [] [] us vs h k = k
append_below [] (y ∷ ys) us vs h k = absurd h
append_below (x ∷ xs) [] us vs h k = absurd h
append_below (x ∷ xs) (y ∷ ys) us vs h k = (h.0, append_below xs ys us vs h.1 k)

drop_below : (n : ℕ) (xs ys : Texts) → AllBelow xs ys → AllBelow (drop n xs) (drop n ys)
drop_below zero xs ys h = h
drop_below (suc n) [] [] h = tt
drop_below (suc n) [] (y ∷ ys) h = absurd h
drop_below (suc n) (x ∷ xs) [] h = absurd h
drop_below (suc n) (x ∷ xs) (y ∷ ys) h = drop_below n xs ys h.1

take_below : (n : ℕ) (xs ys : Texts) → AllBelow xs ys → AllBelow (take n xs) (take n ys)
take_below zero xs ys h = tt
take_below (suc n) [] [] h = tt
take_below (suc n) [] (y ∷ ys) h = absurd h
take_below (suc n) (x ∷ xs) [] h = absurd h
take_below (suc n) (x ∷ xs) (y ∷ ys) h = (h.0, take_below n xs ys h.1)

scrolled_up_below : (n : ℕ) (xs ys : Texts) → AllBelow xs ys → AllBelow (scrolled_up n xs) (scrolled_up n ys)
scrolled_up_below n xs ys h = rw (length_below xs ys h) (append_below (drop n xs) (drop n ys) (replicate (min n (length ys)) blank) (replicate (min n (length ys)) blank) (drop_below n xs ys h) (AllBelow-refl (replicate (min n (length ys)) blank)))

scrolled_down_below : (n : ℕ) (xs ys : Texts) → AllBelow xs ys → AllBelow (scrolled_down n xs) (scrolled_down n ys)
scrolled_down_below n xs ys h = rw (length_below xs ys h) (append_below (replicate (min n (length ys)) blank) (replicate (min n (length ys)) blank) (take (length ys - n) xs) (take (length ys - n) ys) (AllBelow-refl (replicate (min n (length ys)) blank)) (take_below (length ys - n) xs ys h))

length_cleared : (ys : Texts) (q : Option ℕ) → length (cleared_row ys q) ≡ length ys
length_cleared ys None = length-replicate (length ys) None
length_cleared ys (Some q) = length-set ys q blank

length_put : (text : List ℕ) (ys : Texts) (q : Option ℕ) → length (put_text text ys q) ≡ length ys
length_put text ys None = length-replicate (length ys) None
length_put text ys (Some q) = length-set ys q (option_map (λ held. held ++ text) (get_or ys q None))

length_scrolled_up : (n : ℕ) (ys : Texts) → length (scrolled_up n ys) ≡ length ys
length_scrolled_up n ys = omega (arith, length-append (drop n ys) (replicate (min n (length ys)) blank), length-drop n ys, length-replicate (min n (length ys)) blank)

length_scrolled_down : (n : ℕ) (ys : Texts) → length (scrolled_down n ys) ≡ length ys
length_scrolled_down n ys = omega (arith, length-append (replicate (min n (length ys)) blank) (take (length ys - n) ys), length-take (length ys - n) ys, length-replicate (min n (length ys)) blank)

length_next : (ys : Texts) (q : Option ℕ) → length (next_texts ys q) ≡ length ys
length_next ys None = length-replicate (length ys) None
length_next ys (Some q) = elim (cases_Bool (leb (length ys) (q + 1))) [
  | inl e ↦ rw e (length_scrolled_up 1 ys)
  | inr e ↦ rw e refl
]

cleared_below : (xs ys : Texts) (r q : Option ℕ) → AllBelow xs ys → Below r q → AllBelow (cleared_row xs r) (cleared_row ys q)
cleared_below xs ys None q h k = unknown_texts_below xs (cleared_row ys q) (length_below xs ys h ∙ sym (length_cleared ys q))
cleared_below xs ys (Some a) q h k = rw k (set_below xs ys a blank blank h refl)

put_below : (text : List ℕ) (xs ys : Texts) (r q : Option ℕ) → AllBelow xs ys → Below r q → AllBelow (put_text text xs r) (put_text text ys q)
put_below text xs ys None q h k = unknown_texts_below xs (put_text text ys q) (length_below xs ys h ∙ sym (length_put text ys q))
put_below text xs ys (Some a) q h k =
    let grown : List ℕ → List ℕ = λ (held : List ℕ). held ++ text in
    rw k (set_below xs ys a (option_map grown (get_or xs a None)) (option_map grown (get_or ys a None)) h (map_below grown (get_or xs a None) (get_or ys a None) (get_below xs ys a h)))

next_texts_below : (xs ys : Texts) (r q : Option ℕ) → AllBelow xs ys → Below r q → AllBelow (next_texts xs r) (next_texts ys q)
next_texts_below xs ys None q h k = unknown_texts_below xs (next_texts ys q) (length_below xs ys h ∙ sym (length_next ys q))
next_texts_below xs ys (Some a) q h k =
    let same : leb (length xs) (a + 1) ≡ leb (length ys) (a + 1) = ap (λ n. leb n (a + 1)) (length_below xs ys h) in
    rw k (elim (cases_Bool (leb (length ys) (a + 1))) [
      | inl e ↦ rw (same ∙ e, e) (scrolled_up_below 1 xs ys h)
      | inr e ↦ rw (same ∙ e, e) h
    ])

next_row_below : (m n : ℕ) (r q : Option ℕ) → m ≡ n → Below r q → Below (next_row m r) (next_row n q)
next_row_below m n None q e k = tt
next_row_below m n (Some a) q e k = rw (k, e) (Below-refl (next_row n (Some a)))

pub play_below : (op : Op) (s t : PlayedScreen) → IsBelow s t → IsBelow (play op s) (play op t)
play_below ClearAll s t h = rw (length_below s.texts t.texts h.texts) (record { texts = AllBelow-refl (replicate (length t.texts) blank); row = h.row; column = h.column })
play_below ClearRow s t h = record { texts = cleared_below s.texts t.texts s.row t.row h.texts h.row; row = h.row; column = h.column }
play_below (GoTo x y) s t h = rw (length_below s.texts t.texts h.texts) (record { texts = h.texts; row = refl; column = refl })
play_below Return s t h = record { texts = h.texts; row = h.row; column = refl }
play_below NextRow s t h = record { texts = next_texts_below s.texts t.texts s.row t.row h.texts h.row; row = next_row_below (length s.texts) (length t.texts) s.row t.row (length_below s.texts t.texts h.texts) h.row; column = h.column }
play_below (Put text) s t h = record { texts = put_below text s.texts t.texts s.row t.row h.texts h.row; row = h.row; column = tt }
play_below (ScrollUp n) s t h = record { texts = scrolled_up_below n s.texts t.texts h.texts; row = h.row; column = h.column }
play_below (ScrollDown n) s t h = record { texts = scrolled_down_below n s.texts t.texts h.texts; row = h.row; column = h.column }
play_below ShowCursor s t h = h
play_below HideCursor s t h = h

pub play_is_monotone_lem : PlayIsMonotone
play_is_monotone_lem [] s t h = h
play_is_monotone_lem (op ∷ ops) s t h = play_is_monotone_lem ops (play op s) (play op t) (play_below op s t h)

-- a screen keeps its number of rows
pub length-play : (op : Op) (s : PlayedScreen) → length (play op s).texts ≡ length s.texts
length-play ClearAll s = length-replicate (length s.texts) blank
length-play ClearRow s = length_cleared s.texts s.row
length-play (GoTo x y) s = refl
length-play Return s = refl
length-play NextRow s = length_next s.texts s.row
length-play (Put text) s = length_put text s.texts s.row
length-play (ScrollUp n) s = length_scrolled_up n s.texts
length-play (ScrollDown n) s = length_scrolled_down n s.texts
length-play ShowCursor s = refl
length-play HideCursor s = refl

pub length-play_all : (ops : List Op) (s : PlayedScreen) → length (play_all ops s).texts ≡ length s.texts
length-play_all [] s = refl
length-play_all (op ∷ ops) s = length-play_all ops (play op s) ∙ length-play op s

-- what is all known is the same on each screen of which more is known
known_below : (page : List (List ℕ)) (ys : Texts) → AllBelow (map Some page) ys → ys ≡ map Some page
known_below [] [] h = refl
known_below [] (y ∷ ys) h = absurd h
known_below (p ∷ page) [] h = absurd h
known_below (p ∷ page) (y ∷ ys) h = let a : y ≡ Some p = h.0 in let b : ys ≡ map Some page = known_below page ys h.1 in cc

below_known : {A : Type 0} (o q : Option A) (x : A) → o ≡ Some x → Below o q → q ≡ Some x
below_known None q x e h = absurd (cc)
below_known (Some y) q x e h = let k : q ≡ Some y = h in k ∙ e

cursor_row : (o : Option ℕ) (last : ℕ) (s : PlayedScreen) → IfSome o (λ x. (s.row ≡ Some last) × (s.column ≡ Some x)) → Below (option_map (λ column. last) o) s.row
cursor_row None last s h = tt
cursor_row (Some x) last s h = h.0

cursor_column : (o : Option ℕ) (last : ℕ) (s : PlayedScreen) → IfSome o (λ x. (s.row ≡ Some last) × (s.column ≡ Some x)) → Below o s.column
cursor_column None last s h = tt
cursor_column (Some x) last s h = h.1

-- a screen of which more is known than of one that shows a page shows it too
pub shows_below : (page : ShownPage) (s t : PlayedScreen) → IsBelow s t → Shows s page → Shows t page
shows_below page s t h shown =
    let below : AllBelow s.texts t.texts = h.texts in record {
      texts = known_below page.texts t.texts (let e : s.texts ≡ map Some page.texts = shown.texts in rw e at below);
      cursor = IfSome_then page.cursor shown.cursor (λ x k. (below_known s.row t.row (length page.texts - 1) k.0 h.row, below_known s.column t.column x k.1 h.column));
    }

-- what a page makes known is known of each screen that shows it
pub screen_of_below : (page : ShownPage) (s : PlayedScreen) → Shows s page → IsBelow (screen_of page) s
screen_of_below page s shown = record {
  texts = let e : s.texts ≡ map Some page.texts = shown.texts in rw e (AllBelow-refl (map Some page.texts));
  row = cursor_row page.cursor (length page.texts - 1) s shown.cursor;
  column = cursor_column page.cursor (length page.texts - 1) s shown.cursor;
}

-- what leads from one page to another does so from each screen that shows the first
pub draws_from : (ops : List Op) (old new : ShownPage) (s : PlayedScreen) → Draws ops old new → Shows s old → Shows (play_all ops s) new
draws_from ops old new s drawn shown = shows_below new (play_all ops (screen_of old)) (play_all ops s) (play_is_monotone_lem ops (screen_of old) s (screen_of_below old s shown)) drawn

-- a screen with this many rows is known at least as well as one of which nothing is
pub unknown_below : (rows : ℕ) (s : PlayedScreen) → length s.texts ≡ rows → IsBelow (unknown_screen rows) s
unknown_below rows s e = record { texts = rw (sym e) (unknown_texts_below s.texts s.texts refl); row = tt; column = tt }

pub unknown_stands_lem : UnknownStandsForAll
unknown_stands_lem ops page s shown = shows_below page (play_all ops (unknown_screen (length s.texts))) (play_all ops s) (play_is_monotone_lem ops (unknown_screen (length s.texts)) s (unknown_below (length s.texts) s refl)) shown
