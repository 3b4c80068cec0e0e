-- Tabs of a prepared text come back where its marks were taken out.
use Rattle.std.proofs.Common.{ℕ, ◌≡◌, ◌<◌, ◌≤◌, ◌+◌, ◌-◌, ◌==◌, ◌&&◌, ◌++◌, List, [], ◌∷◌, Bool, true, false, Option, Some, None, refl, ap, sym, ◌∙◌, arith, take, drop, if◌then◌else◌, replicate, zero, suc, nat_le, nat_lt}
use Rattle.std.specs.List.{list_all, prefix_len}
use Rattle.std.specs.Int.{is_in_range}
use Rattle.std.proofs.lemmas.Bool.{and_from, and_parts, eqb-true, le-leb}
use Rattle.std.proofs.lemmas.List.{length-replicate}
use Rattle.std.proofs.lemmas.Nat.{mod_below}
use Rattle.minus_view.specs.declared.tab_marks.Tab.{Tab}
use Rattle.minus_view.specs.Prepared.{expanded, is_text, TabsComeBack}
use Rattle.minus_view.specs.TabColumns.{next_column, tab_len}
use Rattle.minus_view.specs.TabMarks.{tab_text, mark_len, passed, tab_places, tabs_behind, begun_tab, ended_tab, has_tab, with_tabs}
use Rattle.minus_view.proofs.TabLaws.{tabs_mark, tabs_front, spaces_plain, behind_mark, marked_tab, text_plain}

-- the tabs of a text begin and end at a place or behind it
abbrev pub AllFrom : ℕ → List Tab → Type 0
AllFrom p [] = Unit {0}
AllFrom p (t ∷ ts) = (p ≤ t.start) × (p ≤ t.end) × AllFrom p ts

abbrev pub BegunFrom : ℕ → Option ℕ → Type 0
BegunFrom p None = Unit {0}
BegunFrom p (Some start) = p ≤ start

next_from : (p place : ℕ) (begun : Option ℕ) → p ≤ place → BegunFrom p begun → BegunFrom p (begun_tab begun place)
next_from p place None h b = h
next_from p place (Some start) h b = tt

ended_from : (p place : ℕ) (begun : Option ℕ) (ts : List Tab) → p ≤ place → BegunFrom p begun → AllFrom p ts → AllFrom p (ended_tab begun place ++ ts)
ended_from p place None ts h b more = more
ended_from p place (Some start) ts h b more = (b, h, more)

one_of : (p : ℕ) (t : Bool) (xs ys : List Tab) → AllFrom p xs → AllFrom p ys → AllFrom p (if t then xs else ys)
one_of p true xs ys a b = a
one_of p false xs ys a b = b

places_from : (p place : ℕ) (begun : Option ℕ) (skip : ℕ) (bytes : List ℕ) → p ≤ place → BegunFrom p begun → AllFrom p (tabs_behind place begun skip bytes)
places_from p place begun skip [] h b = tt
places_from p place begun zero (x ∷ bytes) h b =
    one_of p (passed x bytes == 0) (tabs_behind (place + 1) begun zero bytes) (ended_tab begun place ++ tabs_behind place (begun_tab begun place) (passed x bytes) bytes)
    (places_from p (place + 1) begun zero bytes (omega (arith, h)) b)
    (ended_from p place begun (tabs_behind place (begun_tab begun place) (passed x bytes) bytes) h b
    (places_from p place (begun_tab begun place) (passed x bytes) bytes h (next_from p place begun h b)))
places_from p place begun (suc skip) (x ∷ bytes) h b = places_from p place begun skip bytes h b

-- a byte before them stays
same_test : (place x : ℕ) (text : List ℕ) (t : Tab) → place + 1 ≤ t.start → has_tab place (x ∷ text) t ≡ has_tab (place + 1) text t
same_test place x text t h =
    let gap : t.start - place ≡ suc (t.start - (place + 1)) = omega (arith, h) in
    let one : nat_le place t.start ≡ true = le-leb place t.start (omega (arith, h)) in
    let two : nat_le (place + 1) t.start ≡ true = le-leb (place + 1) t.start h in
    let more : ℕ → List ℕ → Bool = λ k xs. nat_lt t.start t.end && nat_le (t.end - t.start) (prefix_len (is_in_range 32 32) (drop k xs)) in
    ap (λ b. b && more (t.start - place) (x ∷ text)) one ∙ ap (λ k. more k (x ∷ text)) gap
    ∙ sym (ap (λ b. b && more (t.start - (place + 1)) text) two)

cut_behind : (place x : ℕ) (text : List ℕ) (t : Tab) (ts : List Tab) (has : Bool) → place + 1 ≤ t.start → place + 1 ≤ t.end
    → with_tabs place (x ∷ text) ts ≡ x ∷ with_tabs (place + 1) text ts
    → (if has then take (t.start - place) (x ∷ text) ++ 9 ∷ with_tabs t.end (drop (t.end - place) (x ∷ text)) ts else with_tabs place (x ∷ text) ts)
    ≡ x ∷ (if has then take (t.start - (place + 1)) text ++ 9 ∷ with_tabs t.end (drop (t.end - (place + 1)) text) ts else with_tabs (place + 1) text ts)
cut_behind place x text t ts true h k more =
    let gap : t.start - place ≡ suc (t.start - (place + 1)) = omega (arith, h) in
    let far : t.end - place ≡ suc (t.end - (place + 1)) = omega (arith, k) in
    ap (λ n. take n (x ∷ text) ++ 9 ∷ with_tabs t.end (drop (t.end - place) (x ∷ text)) ts) gap
    ∙ ap (λ n. x ∷ (take (t.start - (place + 1)) text ++ 9 ∷ with_tabs t.end (drop n (x ∷ text)) ts)) far
cut_behind place x text t ts false h k more = more

front_byte : (place x : ℕ) (text : List ℕ) (ts : List Tab) → AllFrom (place + 1) ts → with_tabs place (x ∷ text) ts ≡ x ∷ with_tabs (place + 1) text ts
front_byte place x text [] h = refl
front_byte place x text (t ∷ ts) h =
    ap (λ has. if has then take (t.start - place) (x ∷ text) ++ 9 ∷ with_tabs t.end (drop (t.end - place) (x ∷ text)) ts else with_tabs place (x ∷ text) ts)
    (same_test place x text t h.0)
    ∙ cut_behind place x text t ts (has_tab (place + 1) text t) h.0 h.1 (front_byte place x text ts h.2)

-- the spaces of a tab
spaces_len : (n : ℕ) (text : List ℕ) → prefix_len (is_in_range 32 32) (replicate n 32 ++ text) ≡ n + prefix_len (is_in_range 32 32) text
spaces_len zero text = omega arith
spaces_len (suc n) text = ap (λ k. 1 + k) (spaces_len n text) ∙ omega arith

drop_spaces : (n : ℕ) (text : List ℕ) → drop n (replicate n 32 ++ text) ≡ text
drop_spaces zero text = refl
drop_spaces (suc n) text = drop_spaces n text

has_it : (n place : ℕ) (text : List ℕ) → 0 < n → has_tab place (replicate n 32 ++ text) (record { start = place; end = place + n }) ≡ true
has_it n place text some =
    let here : place - place ≡ 0 = omega arith in
    let few : place + n - place ≤ prefix_len (is_in_range 32 32) (replicate n 32 ++ text) = omega (arith, spaces_len n text) in
    and_from (nat_le place place) (nat_lt place (place + n) && nat_le (place + n - place) (prefix_len (is_in_range 32 32) (drop (place - place) (replicate n 32 ++ text))))
    (le-leb place place (omega arith))
    (and_from (nat_lt place (place + n)) (nat_le (place + n - place) (prefix_len (is_in_range 32 32) (drop (place - place) (replicate n 32 ++ text))))
    (le-leb (suc place) (place + n) (omega (arith, some)))
    (ap (λ k. nat_le (place + n - place) (prefix_len (is_in_range 32 32) (drop k (replicate n 32 ++ text)))) here
    ∙ le-leb (place + n - place) (prefix_len (is_in_range 32 32) (replicate n 32 ++ text)) few))

tab_back : (n place : ℕ) (text : List ℕ) (ts : List Tab) → 0 < n
    → with_tabs place (replicate n 32 ++ text) (record { start = place; end = place + n } ∷ ts) ≡ 9 ∷ with_tabs (place + n) text ts
tab_back n place text ts some =
    let here : place - place ≡ 0 = omega arith in
    let count : place + n - place ≡ n = omega arith in
    let spaces = replicate n 32 ++ text in
    ap (λ has. if has then take (place - place) spaces ++ 9 ∷ with_tabs (place + n) (drop (place + n - place) spaces) ts else with_tabs place spaces ts) (has_it n place text some)
    ∙ ap (λ k. take k spaces ++ 9 ∷ with_tabs (place + n) (drop (place + n - place) spaces) ts) here
    ∙ ap (λ k. 9 ∷ with_tabs (place + n) (drop k spaces) ts) count
    ∙ ap (λ xs. 9 ∷ with_tabs (place + n) xs ts) (drop_spaces n text)

place_of_tab : (n place : ℕ) (bytes : List ℕ) → tab_places place None (tab_text true n ++ bytes) ≡ record { start = place; end = place + n } ∷ tab_places (place + n) None bytes
place_of_tab n place bytes =
    let behind : List ℕ = 27 ∷ 91 ∷ 109 ∷ bytes in
    ap (tab_places place None) (marked_tab n bytes)
    ∙ tabs_mark place None (91 ∷ 109 ∷ (replicate n 32 ++ behind)) (replicate n 32 ++ behind) (behind_mark (replicate n 32 ++ behind))
    ∙ tabs_front place (Some place) (replicate n 32) behind (spaces_plain n)
    ∙ ap (λ k. tab_places (place + k) (Some place) behind) (length-replicate n 32)
    ∙ tabs_mark (place + n) (Some place) (91 ∷ 109 ∷ bytes) bytes (behind_mark bytes)

tabs_byte : (x place : ℕ) (bytes : List ℕ) → is_text x ≡ true → tab_places place None (x ∷ bytes) ≡ tab_places (place + 1) None bytes
tabs_byte x place bytes h =
    ap (λ t. if (if t then mark_len bytes else 0) == 0 then tab_places (place + 1) None bytes
    else [] ++ tabs_behind place (Some place) (if t then mark_len bytes else 0) bytes) (text_plain x h)

pub tabs_come_back : TabsComeBack
tabs_come_back tabs col place [] some text = refl
tabs_come_back tabs col place (b ∷ bytes) some text =
    let parts = and_parts (is_text b) (list_all is_text bytes) text in
    go (b == 9) refl parts.0 (λ p. tabs_come_back tabs (next_column tabs col b) p bytes some parts.1)
  where
    go : (t : Bool) → (b == 9) ≡ t → is_text b ≡ true
        → ((p : ℕ) → with_tabs p (expanded false tabs (next_column tabs col b) bytes) (tab_places p None (expanded true tabs (next_column tabs col b) bytes)) ≡ bytes)
        → with_tabs place (if t then tab_text false (tab_len tabs col) ++ expanded false tabs (next_column tabs col b) bytes
        else b ∷ expanded false tabs (next_column tabs col b) bytes)
        (tab_places place None (if t then tab_text true (tab_len tabs col) ++ expanded true tabs (next_column tabs col b) bytes
        else b ∷ expanded true tabs (next_column tabs col b) bytes))
        ≡ b ∷ bytes
    go true e h more =
        let n = tab_len tabs col in
        let plain = expanded false tabs (next_column tabs col b) bytes in
        let marked = expanded true tabs (next_column tabs col b) bytes in
        let below = mod_below col tabs some in
        ap (with_tabs place (replicate n 32 ++ plain)) (place_of_tab n place marked)
        ∙ tab_back n place plain (tab_places (place + n) None marked) (omega (arith, below))
        ∙ ap (λ xs. 9 ∷ xs) (more (place + n)) ∙ ap (λ x. x ∷ bytes) (sym (eqb-true b 9 e))
    go false e h more =
        let plain = expanded false tabs (next_column tabs col b) bytes in
        let marked = expanded true tabs (next_column tabs col b) bytes in
        ap (with_tabs place (b ∷ plain)) (tabs_byte b place marked h)
        ∙ front_byte place b plain (tab_places (place + 1) None marked) (places_from (place + 1) (place + 1) None zero marked (omega arith) tt)
        ∙ ap (λ xs. b ∷ xs) (more (place + 1))
