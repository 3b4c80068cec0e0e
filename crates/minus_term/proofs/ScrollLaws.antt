-- A scroll.
use Rattle.std.proofs.Common.{◌≡◌, ℕ, zero, suc, ◌+◌, ◌-◌, ◌<◌, ◌≤◌, leb, min, ◌&&◌, false, List, [], ◌∷◌, ◌++◌, length, map, take, drop, replicate, set, get_or, Option, Some, None, refl, sym, ap, subst, ◌∙◌, arith, inl, inr, append_assoc}
use Rattle.std.specs.List.{Contains, flat_map}
use Rattle.std.proofs.lemmas.List.Elements.{Contains-push, Contains-append_left, Contains-append_right}
use Rattle.std.proofs.Math.Seq.{drop-nil}
use Rattle.std.proofs.lemmas.Bool.{cases_Bool, lt-leb, leb-true, leb-false}
use Rattle.std.proofs.lemmas.List.{length-replicate, length-append, length-map, length-take, length-drop, get_or_at, set_at, map-append, append-nil, take-append-le, take-append-drop, drop-append-le, drop-drop, drop-take, take-take, take_more}
use Rattle.minus_term.specs.FullRedraw.{page_of, row_ops, prompt_ops}
use Rattle.minus_term.specs.Operations.{Op, GoTo, ClearRow, ScrollUp, ScrollDown, Return, Put, NextRow}
use Rattle.minus_term.specs.PlayedScreen.{ShownPage, PlayedScreen, Draws, blank, play, play_all, screen_of}
use Rattle.minus_term.specs.Puts.{puts, put_of, is_in_last_row, is_still}
use Rattle.minus_term.specs.Scroll.{shown_from, down_ops, up_ops, scroll_ops, ScrollShowsItsPage, ScrollPutsFew}
use Rattle.minus_term.proofs.FullRedrawLaws.{column_after, column_none, map_blank, play_prompt, IsClean-rows, IsClean-prompt}
use Rattle.minus_term.specs.Written.{IsClean, IsRowOf}
use Rattle.minus_term.proofs.WrittenLaws.{IsClean-append}
use Rattle.minus_term.proofs.PlayLaws.{Texts, play_all-append, length-play_all}
use Rattle.minus_term.proofs.PutsLaws.{puts-prompt}

-- ---- so many of some rows, and blank ones where there are no more

abbrev pub fit : ℕ → List (List ℕ) → List (List ℕ)
fit zero xs = []
fit (suc n) [] = [] ∷ fit n []
fit (suc n) (x ∷ xs) = x ∷ fit n xs

pub length-fit : (n : ℕ) (xs : List (List ℕ)) → length (fit n xs) ≡ n
length-fit zero xs = refl
length-fit (suc n) [] = ap suc (length-fit n [])
length-fit (suc n) (x ∷ xs) = ap suc (length-fit n xs)

blank_rows : (n : ℕ) → replicate {A = List ℕ} n [] ≡ fit n []
blank_rows zero = refl
blank_rows (suc n) = ap (λ (xs : List (List ℕ)). [] ∷ xs) (blank_rows n)

pub fit_is : (n : ℕ) (xs : List (List ℕ)) → take n xs ++ replicate (n - length (take n xs)) [] ≡ fit n xs
fit_is zero xs = refl
fit_is (suc n) [] = let e : suc n - 0 ≡ suc n = omega arith in rw e (ap (λ (xs : List (List ℕ)). [] ∷ xs) (blank_rows n))
fit_is (suc n) (x ∷ xs) = let e : suc n - length (x ∷ take n xs) ≡ n - length (take n xs) = omega arith in rw e (ap (λ ys. x ∷ ys) (fit_is n xs))

pub drop-fit : (d n : ℕ) (xs : List (List ℕ)) → drop d (fit n xs) ≡ fit (n - d) (drop d xs)
drop-fit zero n xs = let e : n - 0 ≡ n = omega arith in rw e refl
drop-fit (suc d) zero xs = let e : 0 - suc d ≡ 0 = omega arith in rw e refl
drop-fit (suc d) (suc n) [] = let e : suc n - suc d ≡ n - d = omega arith in rw e (drop-fit d n [] ∙ ap (fit (n - d)) (drop-nil d))
drop-fit (suc d) (suc n) (x ∷ xs) = let e : suc n - suc d ≡ n - d = omega arith in rw e (drop-fit d n xs)

pub take-fit : (j n : ℕ) (xs : List (List ℕ)) → j ≤ n → take j (fit n xs) ≡ fit j xs
take-fit zero n xs l = refl
take-fit (suc j) zero xs l = absurd (omega arith)
take-fit (suc j) (suc n) [] l = ap (λ (ys : List (List ℕ)). [] ∷ ys) (take-fit j n [] (omega arith))
take-fit (suc j) (suc n) (x ∷ xs) l = ap (λ ys. x ∷ ys) (take-fit j n xs (omega arith))

-- what stays on the page when the mark moves
stays : (n d mark : ℕ) (text : List (List ℕ)) → fit (n - min d n) (drop (min d n) (drop mark text)) ≡ fit (n - min d n) (drop (mark + d) text)
stays n d mark text = elim (cases_Bool (leb d n)) [
  | inl e ↦ (let l : d ≤ n = leb-true d n e in let m : min d n ≡ d = omega arith in rw m (ap (fit (n - d)) (drop-drop d mark text)))
  | inr e ↦ (let l : n < d = leb-false d n e in let z : n - min d n ≡ 0 = omega arith in rw z refl)
]

page_texts : (rows : ℕ) (xs : List (List ℕ)) (prompt : List ℕ) → (page_of rows (take (rows - 1) xs) prompt).texts ≡ fit (rows - 1) xs ++ prompt ∷ []
page_texts rows xs prompt = ap (λ (ys : List (List ℕ)). ys ++ prompt ∷ []) (fit_is (rows - 1) xs)

-- ---- rows of text that are drawn into blank rows above others

-- some rows of text at the top, this many blank ones and some more, and the cursor in the first of the blank ones
abbrev pub filling : List (List ℕ) → ℕ → Texts → Option ℕ → PlayedScreen
filling front n below column = record { texts = (map Some front ++ replicate n blank) ++ below; row = Some (length front); column = column }

fill_row : (t : List ℕ) (front : List (List ℕ)) (m : ℕ) (below : Texts) (column : Option ℕ) → 0 < length below → play_all (row_ops t) (filling front (suc m) below column) ≡ filling (front ++ t ∷ []) m below None
fill_row t front m below column some =
    let xs : Texts = map Some front in
    let rest : Texts = replicate m blank ++ below in
    let before : (xs ++ blank ∷ replicate m blank) ++ below ≡ xs ++ blank ∷ rest = append_assoc xs (blank ∷ replicate m blank) below in
    let len : length xs ≡ length front = length-map front Some in
    let got : get_or (xs ++ blank ∷ rest) (length front) None ≡ blank = get_or_at xs blank rest None (length front) len in
    let written : set (xs ++ blank ∷ rest) (length front) (Some t) ≡ xs ++ Some t ∷ rest = set_at xs blank rest (Some t) (length front) len in
    let room : leb (length (xs ++ Some t ∷ rest)) (length front + 1) ≡ false = lt-leb _ _ (omega (arith, length-append xs (Some t ∷ rest), length-append (replicate m blank) below)) in
    let next : (map Some (front ++ t ∷ []) ++ replicate m blank) ++ below ≡ xs ++ Some t ∷ rest = append_assoc (map Some (front ++ t ∷ [])) (replicate m blank) below ∙ ap (λ ys. ys ++ rest) (map-append Some front (t ∷ [])) ∙ append_assoc xs (Some t ∷ []) rest in
    let n : length (front ++ t ∷ []) ≡ length front + 1 = length-append front (t ∷ []) in
    rw (before, got, written, room, next, n) refl

fill_rows : (shown front : List (List ℕ)) (n : ℕ) (below : Texts) (column : Option ℕ) → length shown ≤ n → 0 < length below → play_all (flat_map row_ops shown) (filling front n below column) ≡ filling (front ++ shown) (n - length shown) below (column_after shown column)
fill_rows [] front n below column l some = let e : n - 0 ≡ n = omega arith in rw (e, append-nil front) refl
fill_rows (t ∷ ts) front zero below column l some = absurd (omega arith)
fill_rows (t ∷ ts) front (suc m) below column l some =
    let e : suc m - length (t ∷ ts) ≡ m - length ts = omega arith in
    let none : column_after ts None ≡ None = column_none ts in
    rw e (
    ap (play_all (flat_map row_ops ts)) (fill_row t front m below column some)
    ∙ fill_rows ts (front ++ t ∷ []) m below None (omega arith) some
    ∙ ap (λ (c : Option ℕ). filling ((front ++ t ∷ []) ++ ts) (m - length ts) below c) none
    ∙ ap (λ xs. filling xs (m - length ts) below None) (append_assoc front (t ∷ []) ts)
    )

-- then the prompt into the last row
fill_page : (rows n : ℕ) (shown front : List (List ℕ)) (above : Texts) (y : Option (List ℕ)) (column : Option ℕ) (prompt : List ℕ) → length shown ≤ n → length front + n + length above + 1 ≡ rows
    → (play_all (flat_map row_ops shown ++ prompt_ops rows prompt) (filling front n (above ++ y ∷ []) column)).texts ≡ ((map Some (front ++ shown) ++ replicate (n - length shown) blank) ++ above) ++ Some prompt ∷ []
fill_page rows n shown front above y column prompt l e =
    let below : Texts = above ++ y ∷ [] in
    let all : Texts = map Some (front ++ shown) ++ replicate (n - length shown) blank in
    let after : PlayedScreen = filling (front ++ shown) (n - length shown) below (column_after shown column) in
    let some : 0 < length below = omega (arith, length-append above (y ∷ [])) in
    let played : play_all (flat_map row_ops shown ++ prompt_ops rows prompt) (filling front n below column) ≡ play_all (prompt_ops rows prompt) after =
    play_all-append (flat_map row_ops shown) (prompt_ops rows prompt) (filling front n below column) ∙ ap (play_all (prompt_ops rows prompt)) (fill_rows shown front n below column l some) in
    let texts : all ++ below ≡ (all ++ above) ++ y ∷ [] = sym (append_assoc all above (y ∷ [])) in
    let count : length (all ++ above) + 1 ≡ rows = omega (arith, e, l, length-append all above, length-append (map Some (front ++ shown)) (replicate (n - length shown) blank), length-map (front ++ shown) Some, length-append front shown, length-replicate (n - length shown) blank) in
    ap (λ (s : PlayedScreen). s.texts) played ∙ play_prompt rows prompt after (all ++ above) y texts count

-- ---- down

-- the rows that stay have moved up, and blank ones follow
down_start : (rows k : ℕ) (before : List (List ℕ)) (old : List ℕ) → length before + 1 ≡ rows → k ≤ length before
    → play_all (ScrollUp k ∷ GoTo 0 (rows - k - 1) ∷ ClearRow ∷ []) (screen_of (record { texts = before ++ old ∷ []; cursor = None })) ≡ filling (drop k before) k (blank ∷ []) (Some 0)
down_start rows k before old e l =
    let kept : List (List ℕ) = drop k before in
    let len : length (map Some (before ++ old ∷ [])) ≡ length before + 1 = length-map (before ++ old ∷ []) Some ∙ length-append before (old ∷ []) in
    let n : length (map Some kept) ≡ length before - k = length-map kept Some ∙ length-drop k before in
    let m : length kept ≡ length before - k = length-drop k before in
    let all : min k (length (map Some (before ++ old ∷ []))) ≡ k = omega arith in
    let rest : drop k (map Some (before ++ old ∷ [])) ≡ map Some kept ++ Some old ∷ [] = ap (drop k) (map-append Some before (old ∷ [])) ∙ drop-append-le k (map Some before) (Some old ∷ []) (omega (arith, length-map before Some)) ∙ ap (λ (ys : Texts). ys ++ Some old ∷ []) (drop-map k before) in
    let texts : drop k (map Some (before ++ old ∷ [])) ++ replicate (min k (length (map Some (before ++ old ∷ [])))) blank ≡ map Some kept ++ Some old ∷ replicate k blank =
    rw (all, rest) (append_assoc (map Some kept) (Some old ∷ []) (replicate k blank)) in
    let at : min (rows - k - 1) (length (map Some kept ++ Some old ∷ replicate k blank) - 1) ≡ length kept = omega (arith, length-append (map Some kept) (Some old ∷ replicate k blank), length-replicate k blank) in
    let cleared : set (map Some kept ++ Some old ∷ replicate k blank) (length kept) blank ≡ map Some kept ++ blank ∷ replicate k blank = set_at (map Some kept) (Some old) (replicate k blank) blank (length kept) (length-map kept Some) in
    let more : blank ∷ replicate k blank ≡ replicate k blank ++ blank ∷ [] = replicate_turn k in
    let end : map Some kept ++ blank ∷ replicate k blank ≡ (map Some kept ++ replicate k blank) ++ blank ∷ [] = ap (λ ys. map Some kept ++ ys) more ∙ sym (append_assoc (map Some kept) (replicate k blank) (blank ∷ [])) in
    rw (texts, at, cleared, end) refl
  where
    drop-map : (j : ℕ) (xs : List (List ℕ)) → drop j (map Some xs) ≡ map Some (drop j xs)
    drop-map zero xs = refl
    drop-map (suc j) [] = refl
    drop-map (suc j) (x ∷ xs) = drop-map j xs

    replicate_turn : (j : ℕ) → blank ∷ replicate j blank ≡ replicate j blank ++ blank ∷ []
    replicate_turn zero = refl
    replicate_turn (suc j) = ap (λ ys. blank ∷ ys) (replicate_turn j)

-- what was put into the rows that came in, and blank rows, are the last of the rows
came_in : (n k : ℕ) (xs : List (List ℕ)) → k ≤ n → drop (n - k) (take n xs) ++ replicate (k - length (drop (n - k) (take n xs))) [] ≡ drop (n - k) (fit n xs)
came_in n k xs l =
    let parts : n - k + k ≡ n = omega arith in
    let rest : n - (n - k) ≡ k = omega arith in
    let is : drop (n - k) (take n xs) ≡ take k (drop (n - k) xs) = ap (λ (j : ℕ). drop (n - k) (take j xs)) (sym parts) ∙ drop-take (n - k) k xs in
    rw is (fit_is k (drop (n - k) xs) ∙ sym (drop-fit (n - k) n xs ∙ ap (λ (j : ℕ). fit j (drop (n - k) xs)) rest))

down_shows : (rows mark d : ℕ) (text : List (List ℕ)) (old new : List ℕ) → 1 ≤ rows → Draws (down_ops rows (min d (rows - 1)) (shown_from rows (mark + d) text) new) (page_of rows (shown_from rows mark text) old) (page_of rows (shown_from rows (mark + d) text) new)
down_shows rows mark d text old new some =
    let n : ℕ = rows - 1 in
    let k : ℕ = min d n in
    let before : List (List ℕ) = fit n (drop mark text) in
    let xs : List (List ℕ) = drop (mark + d) text in
    let last : List (List ℕ) = drop (n - k) (take n xs) in
    let within : k ≤ n = omega arith in
    let len : length before ≡ n = length-fit n (drop mark text) in
    let count : length last ≤ k = omega (arith, length-drop (n - k) (take n xs), length-take n xs) in
    let start = down_start rows k before old (omega arith) (omega arith) in
    let from_page : screen_of (page_of rows (shown_from rows mark text) old) ≡ screen_of (record { texts = before ++ old ∷ []; cursor = None }) = ap (λ (ts : List (List ℕ)). screen_of (record { texts = ts; cursor = None })) (page_texts rows (drop mark text) old) in
    let ops : List Op = flat_map row_ops last ++ prompt_ops rows new in
    let played : play_all (down_ops rows k (take n xs) new) (screen_of (page_of rows (shown_from rows mark text) old)) ≡ play_all ops (filling (drop k before) k (blank ∷ []) (Some 0)) = ap (play_all (down_ops rows k (take n xs) new)) from_page ∙ ap (play_all ops) start in
    let rows_are : length (drop k before) + k + 0 + 1 ≡ rows = omega (arith, length-drop k before, len) in
    let texts = fill_page rows k last (drop k before) [] blank (Some 0) new count rows_are in
    let kept : drop k before ≡ take (n - k) (fit n xs) = drop-fit k n (drop mark text) ∙ stays n d mark text ∙ sym (take-fit (n - k) n xs (omega arith)) in
    let page : (map Some (drop k before ++ last) ++ replicate (k - length last) blank) ++ [] ≡ map Some (fit n xs) =
    append-nil (map Some (drop k before ++ last) ++ replicate (k - length last) blank)
    ∙ ap (λ (ys : Texts). map Some (drop k before ++ last) ++ ys) (sym (map_blank (k - length last)))
    ∙ sym (map-append Some (drop k before ++ last) (replicate (k - length last) []))
    ∙ ap (map Some) (append_assoc (drop k before) last (replicate (k - length last) []) ∙ ap (λ ys. drop k before ++ ys) (came_in n k xs within) ∙ ap (λ ys. ys ++ drop (n - k) (fit n xs)) kept ∙ take-append-drop (n - k) (fit n xs)) in
    record {
      texts = ap (λ (s : PlayedScreen). s.texts) played ∙ texts ∙ ap (λ (ys : Texts). ys ++ Some new ∷ []) page ∙ sym (ap (map Some) (page_texts rows xs new) ∙ map-append Some (fit n xs) (new ∷ []));
      cursor = tt;
    }

-- ---- up

up_shows : (rows mark d : ℕ) (text : List (List ℕ)) (old new : List ℕ) → 1 ≤ rows → Draws (up_ops rows (min d (rows - 1)) (shown_from rows mark text) new) (page_of rows (shown_from rows (mark + d) text) old) (page_of rows (shown_from rows mark text) new)
up_shows rows mark d text old new some =
    let n : ℕ = rows - 1 in
    let k : ℕ = min d n in
    let xs : List (List ℕ) = drop mark text in
    let before : List (List ℕ) = fit n (drop (mark + d) text) in
    let page : Texts = map Some (before ++ old ∷ []) in
    let first : List (List ℕ) = take k (take n xs) in
    let len : length before ≡ n = length-fit n (drop (mark + d) text) in
    let all : length page ≡ rows = omega (arith, length-map (before ++ old ∷ []) Some, length-append before (old ∷ [])) in
    let count : length first ≤ k = omega (arith, length-take k (take n xs)) in
    let kept : Texts = map Some (take (n - k) before) in
    let y : Option (List ℕ) = get_or page (n - k) None in
    let left : rows - k ≡ n - k + 1 = omega arith in
    let front : take (n - k) page ≡ kept = ap (take (n - k)) (map-append Some before (old ∷ [])) ∙ take-append-le (n - k) (map Some before) (Some old ∷ []) (omega (arith, length-map before Some)) ∙ take-map (n - k) before in
    let below : take (rows - k) page ≡ kept ++ y ∷ [] = ap (λ (j : ℕ). take j page) left ∙ take_more page (n - k) None (omega arith) ∙ ap (λ (ys : Texts). ys ++ y ∷ []) front in
    let from_page : screen_of (page_of rows (shown_from rows (mark + d) text) old) ≡ screen_of (record { texts = before ++ old ∷ []; cursor = None }) = ap (λ (ts : List (List ℕ)). screen_of (record { texts = ts; cursor = None })) (page_texts rows (drop (mark + d) text) old) in
    let ops : List Op = flat_map row_ops first ++ prompt_ops rows new in
    let moved : min k (length page) ≡ k = omega arith in
    let top : min 0 (length (replicate k blank ++ (kept ++ y ∷ [])) - 1) ≡ 0 = omega arith in
    let start : play_all (ScrollDown k ∷ GoTo 0 0 ∷ []) (screen_of (record { texts = before ++ old ∷ []; cursor = None })) ≡ filling [] k (kept ++ y ∷ []) (Some 0) = rw (moved, all, below, top) refl in
    let played : play_all (up_ops rows k (take n xs) new) (screen_of (page_of rows (shown_from rows (mark + d) text) old)) ≡ play_all ops (filling [] k (kept ++ y ∷ []) (Some 0)) = ap (play_all (up_ops rows k (take n xs) new)) from_page ∙ ap (play_all ops) start in
    let rows_are : 0 + k + length kept + 1 ≡ rows = omega (arith, length-map (take (n - k) before) Some, length-take (n - k) before, len) in
    let texts = fill_page rows k first [] kept y (Some 0) new count rows_are in
    let put : first ++ replicate (k - length first) [] ≡ take k (fit n xs) = (let is : first ≡ take k xs = take-take k n xs (omega arith) in rw is (fit_is k xs ∙ sym (take-fit k n xs (omega arith)))) in
    let stay : take (n - k) before ≡ drop k (fit n xs) = take-fit (n - k) n (drop (mark + d) text) (omega arith) ∙ sym (drop-fit k n xs ∙ stays n d mark text) in
    let whole : (map Some first ++ replicate (k - length first) blank) ++ kept ≡ map Some (fit n xs) =
    ap (λ (ys : Texts). (map Some first ++ ys) ++ kept) (sym (map_blank (k - length first)))
    ∙ ap (λ (ys : Texts). ys ++ kept) (sym (map-append Some first (replicate (k - length first) [])))
    ∙ sym (map-append Some (first ++ replicate (k - length first) []) (take (n - k) before))
    ∙ ap (map Some) (ap (λ ys. ys ++ take (n - k) before) put ∙ ap (λ ys. take k (fit n xs) ++ ys) stay ∙ take-append-drop k (fit n xs)) in
    record {
      texts = ap (λ (s : PlayedScreen). s.texts) played ∙ texts ∙ ap (λ (ys : Texts). ys ++ Some new ∷ []) whole ∙ sym (ap (map Some) (page_texts rows xs new) ∙ map-append Some (fit n xs) (new ∷ []));
      cursor = tt;
    }
  where
    take-map : (j : ℕ) (ys : List (List ℕ)) → take j (map Some ys) ≡ map Some (take j ys)
    take-map zero ys = refl
    take-map (suc j) [] = refl
    take-map (suc j) (z ∷ zs) = ap (λ us. Some z ∷ us) (take-map j zs)

pub scroll_shows_lem : ScrollShowsItsPage
scroll_shows_lem rows from to text old new some = elim (cases_Bool (leb from to)) [
  | inl e ↦ (let l : from ≤ to = leb-true from to e in let is : from + (to - from) ≡ to = omega arith in let h = down_shows rows from (to - from) text old new some in rw e (subst (λ (x : ℕ). Draws (down_ops rows (min (to - from) (rows - 1)) (shown_from rows x text) new) (page_of rows (shown_from rows from text) old) (page_of rows (shown_from rows x text) new)) is h))
  | inr e ↦ (let l : to < from = leb-false from to e in let is : to + (from - to) ≡ from = omega arith in let h = up_shows rows to (from - to) text old new some in rw e (subst (λ (x : ℕ). Draws (up_ops rows (min (from - to) (rows - 1)) (shown_from rows to text) new) (page_of rows (shown_from rows x text) old) (page_of rows (shown_from rows to text) new)) is h))
]

-- ---- how many texts are put

pub one_put : (text : List ℕ) (rest : List Op) (s : PlayedScreen) → put_of (Put text) rest s ≤ 1
one_put text rest s = elim (cases_Bool (is_in_last_row (length s.texts) s.row && is_still rest (play (Put text) s))) [
  | inl e ↦ rw e (omega arith)
  | inr e ↦ rw e (omega arith)
]

-- rows of text put no more texts than they are, wherever they are played
pub puts-some_rows : (shown : List (List ℕ)) (rest : List Op) (s : PlayedScreen) → puts (flat_map row_ops shown ++ rest) s ≤ length shown + puts rest (play_all (flat_map row_ops shown) s)
puts-some_rows [] rest s = omega arith
puts-some_rows (t ∷ ts) rest s =
    let one = one_put t (NextRow ∷ (flat_map row_ops ts ++ rest)) (play Return s) in
    let more = puts-some_rows ts rest (play_all (row_ops t) s) in
    omega (arith, one, more)

-- then the prompt, whose text does not count
puts-page : (rows : ℕ) (shown : List (List ℕ)) (prompt : List ℕ) (s : PlayedScreen) → length s.texts ≡ rows → 0 < rows → puts (flat_map row_ops shown ++ prompt_ops rows prompt) s ≤ length shown
puts-page rows shown prompt s e l =
    let after : PlayedScreen = play_all (flat_map row_ops shown) s in
    let none = puts-prompt rows prompt after (length-play_all (flat_map row_ops shown) s ∙ e) l in
    omega (arith, none, puts-some_rows shown (prompt_ops rows prompt) s)

down_puts : (rows k : ℕ) (shown : List (List ℕ)) (prompt : List ℕ) (s : PlayedScreen) → length s.texts ≡ rows → 0 < rows → k ≤ rows - 1 → length shown ≤ rows - 1 → puts (down_ops rows k shown prompt) s ≤ k
down_puts rows k shown prompt s e l m n =
    let start : List Op = ScrollUp k ∷ GoTo 0 (rows - k - 1) ∷ ClearRow ∷ [] in
    let few = puts-page rows (drop (rows - 1 - k) shown) prompt (play_all start s) (length-play_all start s ∙ e) l in
    omega (arith, few, length-drop (rows - 1 - k) shown, n, m)

up_puts : (rows k : ℕ) (shown : List (List ℕ)) (prompt : List ℕ) (s : PlayedScreen) → length s.texts ≡ rows → 0 < rows → puts (up_ops rows k shown prompt) s ≤ k
up_puts rows k shown prompt s e l =
    let start : List Op = ScrollDown k ∷ GoTo 0 0 ∷ [] in
    let few = puts-page rows (take k shown) prompt (play_all start s) (length-play_all start s ∙ e) l in
    omega (arith, few, length-take k shown)

pub scroll_puts_lem : ScrollPutsFew
scroll_puts_lem rows from to text new s some e = elim (cases_Bool (leb from to)) [
  | inl h ↦ (let l : from ≤ to = leb-true from to h in let few = down_puts rows (min (to - from) (rows - 1)) (shown_from rows to text) new s e some (omega arith) (omega (arith, length-take (rows - 1) (drop to text))) in rw h (omega (arith, few)))
  | inr h ↦ (let few = up_puts rows (min (from - to) (rows - 1)) (shown_from rows to text) new s e some in let l : to < from = leb-false from to h in rw h (omega (arith, few)))
]

-- ---- a scroll is clean of each list of pages that contains the page that it leads to

pub in_rest : {X : Type 0} (j : ℕ) (xs : List X) (x : X) → Contains (drop j xs) x → Contains xs x
in_rest j xs x h = subst (λ (ys : List _). Contains ys x) (take-append-drop j xs) (Contains-append_right (take j xs) (drop j xs) x h)

in_front : {X : Type 0} (j : ℕ) (xs : List X) (x : X) → Contains (take j xs) x → Contains xs x
in_front j xs x h = subst (λ (ys : List _). Contains ys x) (take-append-drop j xs) (Contains-append_left (take j xs) (drop j xs) x h)

pub IsClean-scroll : (pages : List ShownPage) (rows from to : ℕ) (shown : List (List ℕ)) (prompt : List ℕ) → Contains pages (page_of rows shown prompt) → IsClean pages (scroll_ops rows from to shown prompt)
IsClean-scroll pages rows from to shown prompt h =
    let blanks : List (List ℕ) = replicate (rows - 1 - length shown) [] in
    let row : (text : List ℕ) → Contains shown text → IsRowOf pages text = λ text k. (page_of rows shown prompt, h, Contains-append_left (shown ++ blanks) (prompt ∷ []) text (Contains-append_left shown blanks text k)) in
    let last : IsClean pages (prompt_ops rows prompt) = IsClean-prompt pages rows prompt (page_of rows shown prompt, h, Contains-push (shown ++ blanks) prompt) in
    let down : ℕ = rows - 1 - min (to - from) (rows - 1) in
    let up : ℕ = min (from - to) (rows - 1) in
    elim (cases_Bool (leb from to)) [
      | inl e ↦ rw e (tt, (tt, (tt, IsClean-append pages (flat_map row_ops (drop down shown)) (prompt_ops rows prompt) (IsClean-rows pages (drop down shown) (λ text k. row text (in_rest down shown text k))) last)))
      | inr e ↦ rw e (tt, (tt, IsClean-append pages (flat_map row_ops (take up shown)) (prompt_ops rows prompt) (IsClean-rows pages (take up shown) (λ text k. row text (in_front up shown text k))) last))
    ]
