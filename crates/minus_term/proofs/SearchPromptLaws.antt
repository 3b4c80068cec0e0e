-- The drawings of the search prompt.
use Rattle.std.proofs.Common.{◌≡◌, ℕ, ◌+◌, ◌-◌, ◌<◌, leb, min, true, List, [], ◌∷◌, ◌++◌, length, map, replicate, set, get_or, Option, Some, None, refl, sym, ap, subst, ◌∙◌, arith, inr}
use Rattle.std.specs.List.{Contains}
use Rattle.std.proofs.lemmas.Bool.{le-leb}
use Rattle.std.proofs.lemmas.List.{length-append, length-map, length-set, length-replicate, map-append, set_at, get_or_at}
use Rattle.minus_term.specs.Operations.{Op, GoTo, ClearRow, HideCursor}
use Rattle.minus_term.specs.PlayedScreen.{ShownPage, PlayedScreen, Shows, blank, play_all, screen_of}
use Rattle.minus_term.specs.FullRedraw.{full_ops, page_of}
use Rattle.minus_term.specs.Written.{IsClean, IsRowOf}
use Rattle.minus_term.proofs.PlayLaws.{Texts, play_all-append, length-play_all}
use Rattle.minus_term.proofs.FullRedrawLaws.{full_redraw_lem, shown_in_page, prompt_in_page, IsClean-full_rows, IsClean-full}
use Rattle.minus_term.proofs.WrittenLaws.{IsClean-append}
use Rattle.minus_term.specs.SearchPrompt.{typed_page, opening_ops, cursor_ops, edit_ops, closing_ops, OpeningShowsItsPage, OpeningPutsNone, CursorShowsItsPage, EditShowsItsPage, ClosingShowsItsPage}

-- the texts of a page: those above the last row, and the last
page_texts : (rows : ℕ) (shown : List (List ℕ)) (prompt : List ℕ) → map Some (page_of rows shown prompt).texts ≡ map Some (shown ++ replicate (rows - 1 - length shown) []) ++ Some prompt ∷ []
page_texts rows shown prompt = map-append Some (shown ++ replicate (rows - 1 - length shown) []) (prompt ∷ [])

-- a page has one row more than those above its last
above_length : (rows : ℕ) (shown : List (List ℕ)) → length shown < rows → length (map Some (shown ++ replicate (rows - 1 - length shown) [])) + 1 ≡ rows
above_length rows shown l =
    let k : ℕ = rows - 1 - length shown in
    omega (arith, l, length-map (shown ++ replicate k []) Some, length-append shown (replicate k []), length-replicate {A = List ℕ} k [])

-- a page has its rows
pub page_length : (rows : ℕ) (shown : List (List ℕ)) (prompt : List ℕ) → length shown < rows → length (page_of rows shown prompt).texts ≡ rows
page_length rows shown prompt l =
    let k : ℕ = rows - 1 - length shown in
    omega (arith, l, length-append (shown ++ replicate k []) (prompt ∷ []), length-append shown (replicate k []), length-replicate {A = List ℕ} k [])

-- the mark in the place of what stood in the last row
play_opening : (rows : ℕ) (xs : Texts) (old mark : List ℕ) (row column : Option ℕ) → length xs + 1 ≡ rows
    → play_all (opening_ops rows mark) (record { texts = xs ++ Some old ∷ []; row = row; column = column }) ≡ record { texts = xs ++ Some mark ∷ []; row = Some (length xs); column = Some 1 }
play_opening rows xs old mark row column l =
    let n : length (xs ++ Some old ∷ []) ≡ length xs + 1 = length-append xs (Some old ∷ []) in
    let m : length (xs ++ Some mark ∷ []) ≡ length xs + 1 = length-append xs (Some mark ∷ []) in
    let last : min rows (length (xs ++ Some old ∷ []) - 1) ≡ length xs = omega (arith, n, l) in
    let again : min rows (length (xs ++ Some mark ∷ []) - 1) ≡ length xs = omega (arith, m, l) in
    let cleared : set (xs ++ Some old ∷ []) (length xs) blank ≡ xs ++ blank ∷ [] = set_at xs (Some old) [] blank (length xs) refl in
    let got : get_or (xs ++ blank ∷ []) (length xs) None ≡ blank = get_or_at xs blank [] None (length xs) refl in
    let written : set (xs ++ blank ∷ []) (length xs) (Some mark) ≡ xs ++ Some mark ∷ [] = set_at xs blank [] (Some mark) (length xs) refl in
    rw (last, cleared, got, written, again) refl

pub opening_shows_lem : OpeningShowsItsPage
opening_shows_lem rows shown old mark l =
    let xs : Texts = map Some (shown ++ replicate (rows - 1 - length shown) []) in
    let n = above_length rows shown l in
    let size = page_length rows shown mark l in
    let before : screen_of (page_of rows shown old) ≡ record { texts = xs ++ Some old ∷ []; row = None; column = None } = ap (λ (ts : Texts). let s : PlayedScreen = record { texts = ts; row = None; column = None } in s) (page_texts rows shown old) in
    let played = ap (play_all (opening_ops rows mark)) before ∙ play_opening rows xs old mark None None n in
    let row : length xs ≡ length (page_of rows shown mark).texts - 1 = omega (arith, n, size) in
    record {
      texts = ap (λ (s : PlayedScreen). s.texts) played ∙ sym (page_texts rows shown mark);
      cursor = (ap (λ (s : PlayedScreen). s.row) played ∙ ap Some row, ap (λ (s : PlayedScreen). s.column) played);
    }

pub opening_puts_lem : OpeningPutsNone
opening_puts_lem rows mark s some e =
    let row : ℕ = min rows (length s.texts - 1) in
    let last : leb (length (set s.texts row blank)) (row + 1) ≡ true = le-leb _ _ (omega (arith, e, some, length-set s.texts row blank)) in
    rw last refl

pub cursor_shows_lem : CursorShowsItsPage
cursor_shows_lem rows shown typed from to l =
    let size = page_length rows shown typed l in
    let n = length-map (page_of rows shown typed).texts Some in
    let row : min rows (length (map Some (page_of rows shown typed).texts) - 1) ≡ length (page_of rows shown typed).texts - 1 = omega (arith, size, n) in
    record { texts = refl; cursor = (ap Some row, refl) }

-- the cursor goes to its place on a page that is shown
then_cursor : (rows : ℕ) (shown : List (List ℕ)) (typed : List ℕ) (cursor : ℕ) (s : PlayedScreen) → length shown < rows → Shows s (page_of rows shown typed) → Shows (play_all (cursor_ops rows cursor) s) (typed_page rows shown typed cursor)
then_cursor rows shown typed cursor s l h =
    let size = page_length rows shown typed l in
    let n : length s.texts ≡ length (page_of rows shown typed).texts = ap length h.texts ∙ length-map (page_of rows shown typed).texts Some in
    let row : min rows (length s.texts - 1) ≡ length (page_of rows shown typed).texts - 1 = omega (arith, size, n) in
    record { texts = h.texts; cursor = (ap Some row, refl) }

pub edit_shows_lem : EditShowsItsPage
edit_shows_lem rows shown typed cursor s e l =
    subst (λ (t : PlayedScreen). Shows t (typed_page rows shown typed cursor)) (sym (play_all-append (full_ops rows shown typed) (cursor_ops rows cursor) s))
    (then_cursor rows shown typed cursor (play_all (full_ops rows shown typed) s) l (full_redraw_lem rows shown typed s e l))

pub closing_shows_lem : ClosingShowsItsPage
closing_shows_lem rows shown prompt s e l =
    let start : List Op = GoTo 0 rows ∷ ClearRow ∷ HideCursor ∷ [] in
    full_redraw_lem rows shown prompt (play_all start s) (length-play_all start s ∙ e) l

-- an opening puts the mark alone
pub IsClean-opening : (pages : List ShownPage) (rows : ℕ) (mark : List ℕ) → IsRowOf pages mark → IsClean pages (opening_ops rows mark)
IsClean-opening pages rows mark h = (tt, (tt, (inr h, (tt, (tt, tt)))))

-- a moved cursor puts nothing
pub IsClean-cursor : (pages : List ShownPage) (rows cursor : ℕ) → IsClean pages (cursor_ops rows cursor)
IsClean-cursor pages rows cursor = (tt, tt)

-- an edit is clean of each list of pages that contains the page with what is typed: the cursor changes no row of it
pub IsClean-edit : (pages : List ShownPage) (rows : ℕ) (shown : List (List ℕ)) (typed : List ℕ) (cursor : ℕ) → Contains pages (typed_page rows shown typed cursor) → IsClean pages (edit_ops rows shown typed cursor)
IsClean-edit pages rows shown typed cursor h =
    let page : ShownPage = typed_page rows shown typed cursor in
    let full = IsClean-full_rows pages rows shown typed (λ text k. (page, h, shown_in_page rows shown typed text k)) (page, h, prompt_in_page rows shown typed) in
    IsClean-append pages (full_ops rows shown typed) (cursor_ops rows cursor) full (IsClean-cursor pages rows cursor)

-- a closing is clean of each list of pages that contains the page that it shows
pub IsClean-closing : (pages : List ShownPage) (rows : ℕ) (shown : List (List ℕ)) (prompt : List ℕ) → Contains pages (page_of rows shown prompt) → IsClean pages (closing_ops rows shown prompt)
IsClean-closing pages rows shown prompt h = (tt, (tt, (tt, IsClean-full pages rows shown prompt h)))
