-- An append.
use Rattle.std.proofs.Common.{◌≡◌, ℕ, zero, suc, ◌+◌, ◌-◌, ◌<◌, ◌≤◌, min, max, List, [], ◌∷◌, ◌++◌, length, map, take, drop, replicate, set, get_or, Option, Some, None, refl, sym, ap, ◌∙◌, arith, inl, inr, append_assoc}
use Rattle.std.proofs.Math.ListN.{drop_of_length-le}
use Rattle.std.proofs.lemmas.Bool.{cases_lt}
use Rattle.std.proofs.lemmas.List.{length-append, length-map, length-take, length-drop, get_or_at, set_at, map-append, take-append-drop}
use Rattle.minus_term.specs.Append.{rows_anew, append_ops, AppendShowsItsPage, AppendPutsFew}
use Rattle.minus_term.specs.FullRedraw.{page_of}
use Rattle.minus_term.specs.Operations.{GoTo, ClearRow, Put}
use Rattle.minus_term.specs.PlayedScreen.{PlayedScreen, blank, play, play_all}
use Rattle.minus_term.specs.Puts.{puts}
use Rattle.std.specs.List.{Contains}
use Rattle.std.proofs.lemmas.List.Elements.{Contains-append_left}
use Rattle.minus_term.specs.PlayedScreen.{ShownPage}
use Rattle.minus_term.specs.Written.{IsClean, IsRowOf}
use Rattle.minus_term.proofs.FullRedrawLaws.{map_blank, Contains-head, Contains-tail}
use Rattle.minus_term.proofs.PlayLaws.{Texts}
use Rattle.minus_term.proofs.ScrollLaws.{fit, length-fit, fit_is, drop-fit, take-fit, one_put, in_rest}

abbrev pub screen : Texts → Option ℕ → Option ℕ → PlayedScreen
screen texts row column = record { texts = texts; row = row; column = column }

-- one row becomes blank
anew_blank : (xs : Texts) (y : Option (List ℕ)) (zs : Texts) (row column : Option ℕ) → play_all (GoTo 0 (length xs) ∷ ClearRow ∷ []) (screen (xs ++ y ∷ zs) row column) ≡ screen (xs ++ blank ∷ zs) (Some (length xs)) (Some 0)
anew_blank xs y zs row column =
    let there : min (length xs) (length (xs ++ y ∷ zs) - 1) ≡ length xs = omega (arith, length-append xs (y ∷ zs)) in
    let cleared : set (xs ++ y ∷ zs) (length xs) blank ≡ xs ++ blank ∷ zs = set_at xs y zs blank (length xs) refl in
    rw (there, cleared) refl

-- and a text is put into it
anew_text : (t : List ℕ) (xs : Texts) (y : Option (List ℕ)) (zs : Texts) (row column : Option ℕ) → play_all (GoTo 0 (length xs) ∷ ClearRow ∷ Put t ∷ []) (screen (xs ++ y ∷ zs) row column) ≡ screen (xs ++ Some t ∷ zs) (Some (length xs)) None
anew_text t xs y zs row column =
    let got : get_or (xs ++ blank ∷ zs) (length xs) None ≡ blank = get_or_at xs blank zs None (length xs) refl in
    let written : set (xs ++ blank ∷ zs) (length xs) (Some t) ≡ xs ++ Some t ∷ zs = set_at xs blank zs (Some t) (length xs) refl in
    let put : play (Put t) (screen (xs ++ blank ∷ zs) (Some (length xs)) (Some 0)) ≡ screen (xs ++ Some t ∷ zs) (Some (length xs)) None = rw (got, written) refl in
    ap (play (Put t)) (anew_blank xs y zs row column) ∙ put

play_anew : (texts : List (List ℕ)) (blanks : ℕ) (xs ys rest : Texts) (row column : Option ℕ) → length ys ≡ length texts + blanks
    → (play_all (rows_anew (length xs) texts blanks) (screen (xs ++ (ys ++ rest)) row column)).texts ≡ xs ++ (map Some texts ++ (replicate blanks blank ++ rest))
play_anew [] zero xs [] rest row column e = refl
play_anew [] zero xs (y ∷ ys) rest row column e = absurd (omega (arith, e))
play_anew [] (suc b) xs [] rest row column e = absurd (omega (arith, e))
play_anew [] (suc b) xs (y ∷ ys) rest row column e =
    let n : length (xs ++ blank ∷ []) ≡ length xs + 1 = length-append xs (blank ∷ []) in
    let next : xs ++ blank ∷ (ys ++ rest) ≡ (xs ++ blank ∷ []) ++ (ys ++ rest) = sym (append_assoc xs (blank ∷ []) (ys ++ rest)) in
    let more = play_anew [] b (xs ++ blank ∷ []) ys rest (Some (length xs)) (Some 0) (omega (arith, e)) in
    ap (λ (s : PlayedScreen). (play_all (rows_anew (length xs + 1) [] b) s).texts) (anew_blank xs y (ys ++ rest) row column)
    ∙ ap (λ (ts : Texts). (play_all (rows_anew (length xs + 1) [] b) (screen ts (Some (length xs)) (Some 0))).texts) next
    ∙ ap (λ (i : ℕ). (play_all (rows_anew i [] b) (screen ((xs ++ blank ∷ []) ++ (ys ++ rest)) (Some (length xs)) (Some 0))).texts) (sym n)
    ∙ more
    ∙ append_assoc xs (blank ∷ []) (replicate b blank ++ rest)
play_anew (t ∷ ts) b xs [] rest row column e = absurd (omega (arith, e))
play_anew (t ∷ ts) b xs (y ∷ ys) rest row column e =
    let n : length (xs ++ Some t ∷ []) ≡ length xs + 1 = length-append xs (Some t ∷ []) in
    let next : xs ++ Some t ∷ (ys ++ rest) ≡ (xs ++ Some t ∷ []) ++ (ys ++ rest) = sym (append_assoc xs (Some t ∷ []) (ys ++ rest)) in
    let more = play_anew ts b (xs ++ Some t ∷ []) ys rest (Some (length xs)) None (omega (arith, e)) in
    ap (λ (s : PlayedScreen). (play_all (rows_anew (length xs + 1) ts b) s).texts) (anew_text t xs y (ys ++ rest) row column)
    ∙ ap (λ (us : Texts). (play_all (rows_anew (length xs + 1) ts b) (screen us (Some (length xs)) None)).texts) next
    ∙ ap (λ (i : ℕ). (play_all (rows_anew i ts b) (screen ((xs ++ Some t ∷ []) ++ (ys ++ rest)) (Some (length xs)) None)).texts) (sym n)
    ∙ more
    ∙ append_assoc xs (Some t ∷ []) (map Some ts ++ (replicate b blank ++ rest))

-- the rows of text of a page, with the blank ones after them
page_is : (rows : ℕ) (shown : List (List ℕ)) (prompt : List ℕ) → length shown < rows → (page_of rows shown prompt).texts ≡ fit (rows - 1) shown ++ prompt ∷ []
page_is rows shown prompt l =
    let all : take (rows - 1) shown ≡ shown = take_whole (rows - 1) shown (omega arith) in
    let h : shown ++ replicate (rows - 1 - length shown) [] ≡ fit (rows - 1) shown = (let f = fit_is (rows - 1) shown in rw all at f) in
    ap (λ (ys : List (List ℕ)). ys ++ prompt ∷ []) h
  where
    take_whole : (n : ℕ) (xs : List (List ℕ)) → length xs ≤ n → take n xs ≡ xs
    take_whole zero [] m = refl
    take_whole zero (x ∷ xs) m = absurd (omega arith)
    take_whole (suc n) [] m = refl
    take_whole (suc n) (x ∷ xs) m = ap (λ ys. x ∷ ys) (take_whole n xs (omega arith))

blank_front : (j n : ℕ) → j ≤ n → replicate {A = List ℕ} j [] ++ fit (n - j) [] ≡ fit n []
blank_front zero n l = let e : n - 0 ≡ n = omega arith in rw e refl
blank_front (suc j) zero l = absurd (omega arith)
blank_front (suc j) (suc n) l = let e : suc n - suc j ≡ n - j = omega arith in rw e (ap (λ (xs : List (List ℕ)). [] ∷ xs) (blank_front j n (omega arith)))

fit_front : (xs : List (List ℕ)) (n : ℕ) → length xs ≤ n → fit n xs ≡ xs ++ fit (n - length xs) []
fit_front [] n l = let e : n - length {A = List ℕ} [] ≡ n = omega arith in rw e refl
fit_front (x ∷ xs) zero l = absurd (omega arith)
fit_front (x ∷ xs) (suc n) l = let e : suc n - length (x ∷ xs) ≡ n - length xs = omega arith in rw e (ap (λ ys. x ∷ ys) (fit_front xs n (omega arith)))

-- rows that agree up to one agree so on the page
same_front : (first n : ℕ) (old new : List (List ℕ)) → first ≤ n → take first old ≡ take first new → take first (fit n old) ≡ take first (fit n new)
same_front first n old new l e =
    take-fit first n old l ∙ sym (fit_is first old) ∙ ap (λ (ts : List (List ℕ)). ts ++ replicate (first - length ts) []) e ∙ fit_is first new ∙ sym (take-fit first n new l)

pub append_shows_lem : AppendShowsItsPage
append_shows_lem rows first old new prompt lo ln lf same =
    let n : ℕ = rows - 1 in
    let texts : List (List ℕ) = drop first new in
    let blanks : ℕ = length old - max first (length new) in
    let k : ℕ = length texts + blanks in
    let count : length texts ≡ length new - first = length-drop first new in
    let front : List (List ℕ) = take first (fit n old) in
    let middle : List (List ℕ) = take k (drop first (fit n old)) in
    let end : List (List ℕ) = drop k (drop first (fit n old)) in
    let old_len : length (fit n old) ≡ n = length-fit n old in
    let front_len : length front ≡ first = omega (arith, length-take first (fit n old)) in
    let middle_len : length (map Some middle) ≡ k = omega (arith, length-map middle Some, length-take k (drop first (fit n old)), length-drop first (fit n old)) in
    let xs : Texts = map Some front in
    let rest : Texts = map Some end ++ Some prompt ∷ [] in
    let xs_len : length xs ≡ first = length-map front Some ∙ front_len in
    let parts : fit n old ≡ front ++ (middle ++ end) = sym (ap (λ ys. front ++ ys) (take-append-drop k (drop first (fit n old))) ∙ take-append-drop first (fit n old)) in
    let before : map Some (page_of rows old prompt).texts ≡ xs ++ (map Some middle ++ rest) =
    ap (map Some) (page_is rows old prompt lo)
    ∙ map-append Some (fit n old) (prompt ∷ [])
    ∙ ap (λ (ys : List (List ℕ)). map Some ys ++ Some prompt ∷ []) parts
    ∙ ap (λ (ys : Texts). ys ++ Some prompt ∷ []) (map-append Some front (middle ++ end) ∙ ap (λ (ys : Texts). xs ++ ys) (map-append Some middle end))
    ∙ append_assoc xs (map Some middle ++ map Some end) (Some prompt ∷ [])
    ∙ ap (λ (ys : Texts). xs ++ ys) (append_assoc (map Some middle) (map Some end) (Some prompt ∷ [])) in
    let played = play_anew texts blanks xs (map Some middle) rest None None middle_len in
    let left : n - first - k ≡ n - first - length texts - blanks = omega arith in
    let gone : drop k (drop first old) ≡ [] = drop_of_length-le (drop first old) (omega (arith, length-drop first old, count)) in
    let ends : end ≡ fit (n - first - k) [] = ap (drop k) (drop-fit first n old) ∙ drop-fit k (n - first) (drop first old) ∙ ap (fit (n - first - k)) gone in
    let news : drop first (fit n new) ≡ texts ++ (replicate blanks [] ++ end) =
    drop-fit first n new
    ∙ fit_front texts (n - first) (omega (arith, count))
    ∙ ap (λ ys. texts ++ ys) (sym (ap (λ (ys : List (List ℕ)). replicate blanks [] ++ ys) (ends ∙ ap (λ (j : ℕ). fit j []) left) ∙ blank_front blanks (n - first - length texts) (omega (arith, count)))) in
    let page : fit n new ≡ front ++ (texts ++ (replicate blanks [] ++ end)) = sym (ap (λ ys. ys ++ (texts ++ (replicate blanks [] ++ end))) (same_front first n old new (omega arith) same) ∙ ap (λ ys. take first (fit n new) ++ ys) (sym news) ∙ take-append-drop first (fit n new)) in
    let after : map Some (page_of rows new prompt).texts ≡ xs ++ (map Some texts ++ (replicate blanks blank ++ rest)) =
    ap (map Some) (page_is rows new prompt ln)
    ∙ map-append Some (fit n new) (prompt ∷ [])
    ∙ ap (λ (ys : List (List ℕ)). map Some ys ++ Some prompt ∷ []) page
    ∙ ap (λ (ys : Texts). ys ++ Some prompt ∷ []) (map-append Some front (texts ++ (replicate blanks [] ++ end)) ∙ ap (λ (ys : Texts). xs ++ ys) (map-append Some texts (replicate blanks [] ++ end) ∙ ap (λ (ys : Texts). map Some texts ++ ys) (map-append Some (replicate blanks []) end ∙ ap (λ (ys : Texts). ys ++ map Some end) (map_blank blanks))))
    ∙ append_assoc xs (map Some texts ++ (replicate blanks blank ++ map Some end)) (Some prompt ∷ [])
    ∙ ap (λ (ys : Texts). xs ++ ys) (append_assoc (map Some texts) (replicate blanks blank ++ map Some end) (Some prompt ∷ []) ∙ ap (λ (ys : Texts). map Some texts ++ ys) (append_assoc (replicate blanks blank) (map Some end) (Some prompt ∷ []))) in
    record {
      texts =
          ap (λ (ts : Texts). (play_all (append_ops first (length old) new) (screen ts None None)).texts) before
          ∙ ap (λ (i : ℕ). (play_all (rows_anew i texts blanks) (screen (xs ++ (map Some middle ++ rest)) None None)).texts) (sym xs_len)
          ∙ played
          ∙ sym after;
      cursor = tt;
    }

puts-anew : (i : ℕ) (texts : List (List ℕ)) (blanks : ℕ) (s : PlayedScreen) → puts (rows_anew i texts blanks) s ≤ length texts
puts-anew i [] zero s = omega arith
puts-anew i [] (suc b) s = let more = puts-anew (i + 1) [] b (play_all (GoTo 0 i ∷ ClearRow ∷ []) s) in omega (arith, more)
puts-anew i (t ∷ ts) b s =
    let one = one_put t (rows_anew (i + 1) ts b) (play_all (GoTo 0 i ∷ ClearRow ∷ []) s) in
    let more = puts-anew (i + 1) ts b (play_all (GoTo 0 i ∷ ClearRow ∷ Put t ∷ []) s) in
    omega (arith, one, more)

pub append_puts_lem : AppendPutsFew
append_puts_lem first were new s = let few = puts-anew first (drop first new) (were - max first (length new)) s in omega (arith, few, length-drop first new)

-- nothing but rows of the page is put
IsClean-anew : (pages : List ShownPage) (i : ℕ) (texts : List (List ℕ)) (blanks : ℕ) → ((text : List ℕ) → Contains texts text → IsRowOf pages text) → IsClean pages (rows_anew i texts blanks)
IsClean-anew pages i [] zero rows = tt
IsClean-anew pages i [] (suc b) rows = (tt, (tt, IsClean-anew pages (i + 1) [] b rows))
IsClean-anew pages i (t ∷ ts) b rows = (tt, (tt, (inr (rows t (Contains-head t ts)), IsClean-anew pages (i + 1) ts b (λ text h. rows text (Contains-tail t ts text h)))))

pub IsClean-changed : (pages : List ShownPage) (rows first were : ℕ) (shown : List (List ℕ)) (prompt : List ℕ) → Contains pages (page_of rows shown prompt) → IsClean pages (append_ops first were shown)
IsClean-changed pages rows first were shown prompt h =
    let blanks : List (List ℕ) = replicate (rows - 1 - length shown) [] in
    IsClean-anew pages first (drop first shown) (were - max first (length shown)) (λ text k. (page_of rows shown prompt, h, Contains-append_left (shown ++ blanks) (prompt ∷ []) text (Contains-append_left shown blanks text (in_rest first shown text k))))

-- past the rows of text there is nothing to draw: so one may draw from the end on
pub append_near : (first were : ℕ) (shown : List (List ℕ)) → (length shown < first → were ≤ length shown) → append_ops (min first (length shown)) were shown ≡ append_ops first were shown
append_near first were shown few = elim (cases_lt (length shown) first) [
  | inl l ↦
      let there : drop first shown ≡ [] = drop_of_length-le shown (omega arith) in
      let here : drop (min first (length shown)) shown ≡ [] = drop_of_length-le shown (omega arith) in
      let none : were - max first (length shown) ≡ 0 = omega (arith, few l) in
      let nothing : were - max (min first (length shown)) (length shown) ≡ 0 = omega (arith, few l) in
      rw (there, here, none, nothing) refl
  | inr g ↦ let same : min first (length shown) ≡ first = omega arith in ap (λ n. append_ops n were shown) same
]

pub anew_near : (first were : ℕ) (shown : List (List ℕ)) → rows_anew (min first (max (length shown) were)) (drop first shown) (were - max (length shown) first) ≡ append_ops first were shown
anew_near first were shown = elim (cases_lt (max (length shown) were) first) [
  | inl l ↦
      let there : drop first shown ≡ [] = drop_of_length-le shown (omega arith) in
      let none : were - max first (length shown) ≡ 0 = omega arith in
      let nothing : were - max (length shown) first ≡ 0 = omega arith in
      rw (there, none, nothing) refl
  | inr g ↦
      let same : min first (max (length shown) were) ≡ first = omega arith in
      let many : were - max (length shown) first ≡ were - max first (length shown) = omega arith in
      rw (same, many) refl
]
