-- The drawing of a whole page.
use Rattle.std.proofs.Common.{◌≡◌, ℕ, zero, suc, ◌+◌, ◌-◌, ◌<◌, leb, nat_eq, min, false, cond, List, [], ◌∷◌, ◌++◌, length, map, take, replicate, set, get_or, Option, Some, None, refl, sym, ap, ◌∙◌, arith, inl, inr, append_assoc}
use Rattle.std.specs.List.{Contains, flat_map}
use Rattle.std.proofs.lemmas.Bool.{cases_Bool, lt-leb}
use Rattle.std.proofs.lemmas.List.{length-replicate, length-append, length-map, get_or_at, set_at, map-append, append-nil, replicate_more, map_more}
use Rattle.std.proofs.lemmas.List.Concat.{flat_map-append}
use Rattle.std.proofs.lemmas.List.Elements.{Contains-push, Contains-append_left}
use Rattle.minus_term.specs.FullRedraw.{page_of, row_ops, prompt_ops, full_ops, FullRedrawShowsItsPage}
use Rattle.minus_term.specs.Operations.{GoTo, Return, Put, ClearRow, ClearAll}
use Rattle.minus_term.specs.PlayedScreen.{ShownPage, PlayedScreen, blank, play_all}
use Rattle.minus_term.specs.Written.{written_all, IsClean, IsRowOf}
use Rattle.minus_term.proofs.PlayLaws.{Texts, play_all-append}
use Rattle.minus_term.proofs.WrittenLaws.{ops_added, IsClean-append}

-- some rows of text at the top, this many blank ones after them, and the cursor in the first of these
abbrev pub filled : List (List ℕ) → ℕ → Option ℕ → PlayedScreen
filled front n column = record { texts = map Some front ++ replicate n blank; row = Some (length front); column = column }

-- the cursor's column after some rows were put
abbrev pub column_after : List (List ℕ) → Option ℕ → Option ℕ
column_after [] column = column
column_after (text ∷ texts) column = None

pub column_none : (texts : List (List ℕ)) → column_after texts None ≡ None
column_none [] = refl
column_none (text ∷ texts) = refl

-- one row of text is drawn into the first blank row, where another stands below it
pub play_row : (t : List ℕ) (front : List (List ℕ)) (m : ℕ) (column : Option ℕ) → 0 < m → play_all (row_ops t) (filled front (suc m) column) ≡ filled (front ++ t ∷ []) m None
play_row t front m column some =
    let xs : Texts = map Some front in
    let len : length xs ≡ length front = length-map front Some in
    let got : get_or (xs ++ blank ∷ replicate m blank) (length front) None ≡ blank = get_or_at xs blank (replicate m blank) None (length front) len in
    let written : set (xs ++ blank ∷ replicate m blank) (length front) (Some t) ≡ xs ++ Some t ∷ replicate m blank = set_at xs blank (replicate m blank) (Some t) (length front) len in
    let room : leb (length (xs ++ Some t ∷ replicate m blank)) (length front + 1) ≡ false = lt-leb _ _ (omega (arith, length-append xs (Some t ∷ replicate m blank), length-replicate m blank)) in
    let next : map Some (front ++ t ∷ []) ++ replicate m blank ≡ xs ++ Some t ∷ replicate m blank = ap (λ ys. ys ++ replicate m blank) (map-append Some front (t ∷ [])) ∙ append_assoc xs (Some t ∷ []) (replicate m blank) in
    let n : length (front ++ t ∷ []) ≡ length front + 1 = length-append front (t ∷ []) in
    rw (got, written, room, next, n) refl

-- rows of text are drawn into the blank rows, where a further one stands below them
pub play_rows : (shown front : List (List ℕ)) (n : ℕ) (column : Option ℕ) → length shown < n → play_all (flat_map row_ops shown) (filled front n column) ≡ filled (front ++ shown) (n - length shown) (column_after shown column)
play_rows [] front n column l = let e : n - 0 ≡ n = omega arith in rw (e, append-nil front) refl
play_rows (t ∷ ts) front zero column l = absurd (omega arith)
play_rows (t ∷ ts) front (suc m) column l =
    let e : suc m - length (t ∷ ts) ≡ m - length ts = omega arith in
    let more : length ts < m = omega arith in
    let none : column_after ts None ≡ None = column_none ts in
    rw e (
    ap (play_all (flat_map row_ops ts)) (play_row t front m column (omega arith))
    ∙ play_rows ts (front ++ t ∷ []) m None more
    ∙ ap (λ (c : Option ℕ). filled ((front ++ t ∷ []) ++ ts) (m - length ts) c) none
    ∙ ap (λ xs. filled xs (m - length ts) None) (append_assoc front (t ∷ []) ts)
    )

-- a text is put into the blank last row, unless it is empty
put_last : (prompt : List ℕ) (xs : Texts) (column : Option ℕ) → (play_all (cond (nat_eq (length prompt) 0) [] (Put prompt ∷ [])) (record { texts = xs ++ blank ∷ []; row = Some (length xs); column = column })).texts ≡ xs ++ Some prompt ∷ []
put_last [] xs column = refl
put_last (b ∷ bs) xs column =
    let some : nat_eq (length (b ∷ bs)) 0 ≡ false = grind arith in
    let got : get_or (xs ++ blank ∷ []) (length xs) None ≡ blank = get_or_at xs blank [] None (length xs) refl in
    let written : set (xs ++ blank ∷ []) (length xs) (Some (b ∷ bs)) ≡ xs ++ Some (b ∷ bs) ∷ [] = set_at xs blank [] (Some (b ∷ bs)) (length xs) refl in
    rw (some, got, written) refl

-- the prompt is drawn into the last row, whatever stood there
pub play_prompt : (rows : ℕ) (prompt : List ℕ) (s : PlayedScreen) (xs : Texts) (y : Option (List ℕ)) → s.texts ≡ xs ++ y ∷ [] → length xs + 1 ≡ rows → (play_all (prompt_ops rows prompt) s).texts ≡ xs ++ Some prompt ∷ []
play_prompt rows prompt s xs y e l =
    let last : min rows (length (xs ++ y ∷ []) - 1) ≡ length xs = omega (arith, length-append xs (y ∷ [])) in
    let cleared : set (xs ++ y ∷ []) (length xs) blank ≡ xs ++ blank ∷ [] = set_at xs y [] blank (length xs) refl in
    let first : play_all (GoTo 0 rows ∷ Return ∷ ClearRow ∷ []) s ≡ record { texts = xs ++ blank ∷ []; row = Some (length xs); column = Some 0 } = rw (e, last, cleared) refl in
    ap (λ (c : PlayedScreen). (play_all (cond (nat_eq (length prompt) 0) [] (Put prompt ∷ [])) c).texts) first ∙ put_last prompt xs (Some 0)

pub map_blank : (k : ℕ) → map Some (replicate k []) ≡ replicate k blank
map_blank zero = refl
map_blank (suc k) = ap (λ xs. blank ∷ xs) (map_blank k)

-- the drawing begins by making the whole screen blank
pub play_start : (rows : ℕ) (s : PlayedScreen) → length s.texts ≡ rows → play_all (GoTo 0 0 ∷ ClearAll ∷ []) s ≡ filled [] rows (Some 0)
play_start rows s e = let z : min 0 (rows - 1) ≡ 0 = omega arith in rw (e, z) refl

pub full_redraw_lem : FullRedrawShowsItsPage
full_redraw_lem rows shown prompt s e l =
    let k : ℕ = rows - 1 - length shown in
    let rest : rows - length shown ≡ k + 1 = omega arith in
    let after : PlayedScreen = filled shown (rows - length shown) (column_after shown (Some 0)) in
    let drawn : play_all (flat_map row_ops shown) (filled [] rows (Some 0)) ≡ after = play_rows shown [] rows (Some 0) l in
    let more : replicate (k + 1) blank ≡ replicate k blank ++ blank ∷ [] = sym (replicate_more k blank) in
    let texts : map Some shown ++ replicate (rows - length shown) blank ≡ (map Some shown ++ replicate k blank) ++ blank ∷ [] = rw (rest, more) (sym (append_assoc (map Some shown) (replicate k blank) (blank ∷ []))) in
    let n : length (map Some shown ++ replicate k blank) + 1 ≡ rows = omega (arith, length-append (map Some shown) (replicate k blank), length-map shown Some, length-replicate k blank) in
    let all : play_all (full_ops rows shown prompt) s ≡ play_all (prompt_ops rows prompt) after =
    ap (play_all (flat_map row_ops shown ++ prompt_ops rows prompt)) (play_start rows s e) ∙ play_all-append (flat_map row_ops shown) (prompt_ops rows prompt) (filled [] rows (Some 0)) ∙ ap (play_all (prompt_ops rows prompt)) drawn in
    let page : map Some (page_of rows shown prompt).texts ≡ (map Some shown ++ replicate k blank) ++ Some prompt ∷ [] =
    map-append Some (shown ++ replicate k []) (prompt ∷ []) ∙ ap (λ xs. xs ++ Some prompt ∷ []) (map-append Some shown (replicate k []) ∙ ap (λ xs. map Some shown ++ xs) (map_blank k)) in
    record { texts = ap (λ (p : PlayedScreen). p.texts) all ∙ play_prompt rows prompt after (map Some shown ++ replicate k blank) blank texts n ∙ sym page; cursor = tt }

-- the bytes of one more row of a list, after those of the rows before it
pub rows_more : {X : Type 0} (f : X → List ℕ) (xs : List X) (i : ℕ) (d : X) (old a b : List ℕ) → i < length xs → a ≡ old ++ written_all (flat_map row_ops (map f (take i xs))) → b ≡ a ++ written_all (row_ops (f (get_or xs i d)))
    → b ≡ old ++ written_all (flat_map row_ops (map f (take (i + 1) xs)))
rows_more f xs i d old a b l e g =
    let done : List (List ℕ) = map f (take i xs) in
    let row : List ℕ = f (get_or xs i d) in
    ops_added old a b (flat_map row_ops done) (row_ops row) e g ∙ ap (λ ops. old ++ written_all ops) (sym (flat_map-append row_ops done (row ∷ [])) ∙ ap (flat_map row_ops) (sym (map_more f xs i d l)))

pub Contains-head : {X : Type 0} (x : X) (xs : List X) → Contains (x ∷ xs) x
Contains-head x xs = (0, omega arith, refl)

pub Contains-tail : {X : Type 0} (x : X) (xs : List X) (y : X) → Contains xs y → Contains (x ∷ xs) y
Contains-tail x xs y h = (suc h.0, omega (arith, h.1), h.2)

-- rows of text are clean where each is a row of one of the pages
pub IsClean-rows : (pages : List ShownPage) (shown : List (List ℕ)) → ((text : List ℕ) → Contains shown text → IsRowOf pages text) → IsClean pages (flat_map row_ops shown)
IsClean-rows pages [] rows = tt
IsClean-rows pages (t ∷ ts) rows = (tt, (inr (rows t (Contains-head t ts)), (tt, IsClean-rows pages ts (λ text h. rows text (Contains-tail t ts text h)))))

-- the prompt is clean where it is a row of one of the pages
pub IsClean-prompt : (pages : List ShownPage) (rows : ℕ) (prompt : List ℕ) → IsRowOf pages prompt → IsClean pages (prompt_ops rows prompt)
IsClean-prompt pages rows prompt h = (
  tt,
  (
    tt,
    (
      tt,
      elim (cases_Bool (nat_eq (length prompt) 0)) [
        | inl e ↦ rw e tt
        | inr e ↦ rw e (inr h, tt)
      ],
    ),
  ),
)

-- the rows of text that a page shows are rows of it
pub shown_in_page : (rows : ℕ) (shown : List (List ℕ)) (prompt text : List ℕ) → Contains shown text → Contains (page_of rows shown prompt).texts text
shown_in_page rows shown prompt text k =
    let blanks : List (List ℕ) = replicate (rows - 1 - length shown) [] in
    Contains-append_left (shown ++ blanks) (prompt ∷ []) text (Contains-append_left shown blanks text k)

-- the prompt of a page is a row of it
pub prompt_in_page : (rows : ℕ) (shown : List (List ℕ)) (prompt : List ℕ) → Contains (page_of rows shown prompt).texts prompt
prompt_in_page rows shown prompt = Contains-push (shown ++ replicate (rows - 1 - length shown) []) prompt

-- the drawing of a whole page is clean where each row that it shows and its prompt are rows of one of the pages
pub IsClean-full_rows : (pages : List ShownPage) (rows : ℕ) (shown : List (List ℕ)) (prompt : List ℕ) → ((text : List ℕ) → Contains shown text → IsRowOf pages text) → IsRowOf pages prompt → IsClean pages (full_ops rows shown prompt)
IsClean-full_rows pages rows shown prompt each last = (tt, (tt, IsClean-append pages (flat_map row_ops shown) (prompt_ops rows prompt) (IsClean-rows pages shown each) (IsClean-prompt pages rows prompt last)))

-- the drawing of a whole page is clean of each list of pages that contains it
pub IsClean-full : (pages : List ShownPage) (rows : ℕ) (shown : List (List ℕ)) (prompt : List ℕ) → Contains pages (page_of rows shown prompt) → IsClean pages (full_ops rows shown prompt)
IsClean-full pages rows shown prompt h =
    let page : ShownPage = page_of rows shown prompt in
    IsClean-full_rows pages rows shown prompt (λ text k. (page, h, shown_in_page rows shown prompt text k)) (page, h, prompt_in_page rows shown prompt)
