-- Laws on stored rows that are written without a state.
use Rattle.std.proofs.Common.{inl, inr, ◌≡◌, ◌⊎◌, ⊎_elim, ℕ, zero, suc, ◌+◌, ◌-◌, ◌<◌, ◌≤◌, min, true, false, List, [], ◌∷◌, ◌++◌, map, length, take, drop, get_or, slice_index, IsCharBoundary, refl, sym, ap, ◌∙◌, subst, arith, lt-ltb, le-ltb, le-leb, eq-eqb, ne_eqb}
use Rattle.std.specs.Fmt.{is_char_start}
use Rattle.std.specs.List.{flat_map}
use Rattle.std.proofs.lemmas.Bool.{lt-leb}
use Rattle.std.proofs.lemmas.Bool.Decides.{leb_tells}
use Rattle.std.proofs.lemmas.List.{map_more, map-append, take-map, drop-map, length-map}
use Rattle.minus_term.specs.FullRedraw.{row_ops}
use Rattle.minus_term.specs.Written.{written_all}
use Rattle.minus_state.specs.LineBounds.{IsLastCut}
use Rattle.minus_draw.specs.WrittenRows.{is_cut, last_cut, lines_of_page}
use Rattle.minus_draw.proofs.DrawingLaws.{row_added}

-- ---- the last cut

order : (a b : ℕ) → (a < b) ⊎ (b ≤ a)
order a b = ⊎_elim (λ h. inl h.1) (λ h. let past = h.1 in inr (omega (arith, past))) (leb_tells (suc a) b)

-- the first byte of a character, and any other one
starts : (b : ℕ) → (128 ≤ b → 192 ≤ b) → is_char_start b ≡ true
starts b h = ⊎_elim (λ low. rw (lt-ltb b 128 low) refl) (λ high. rw (le-ltb b 128 high, le-leb 192 b (h high)) refl) (order b 128)

continues : (b : ℕ) → ¬ (128 ≤ b → 192 ≤ b) → is_char_start b ≡ false
continues b h = ⊎_elim (λ low. absurd (h (λ high. omega (arith, low, high))))
    (λ high. ⊎_elim (λ mid. rw (le-ltb b 128 high, lt-leb 192 b mid) refl) (λ top. absurd (h (λ _. top))) (order b 192)) (order b 128)

cut_there : (text : List ℕ) (place : ℕ) → IsCharBoundary text place → is_cut text place ≡ true
cut_there text place h = ⊎_elim
    (λ inside. rw (lt-ltb place (length text) inside) (starts (slice_index text place) (h.1 inside)))
    (λ past. let within = h.0 in rw (le-ltb place (length text) past, eq-eqb place (length text) (omega (arith, past, within))) refl)
    (order place (length text))

no_cut_there : (text : List ℕ) (place : ℕ) → ¬ (IsCharBoundary text place) → is_cut text place ≡ false
no_cut_there text place h = ⊎_elim
    (λ inside. rw (lt-ltb place (length text) inside) (continues (slice_index text place) (λ k. h (omega (arith, inside), λ _. k))))
    (λ past. rw (le-ltb place (length text) past, ne_eqb place (length text) (λ e. h (omega (arith, e), λ l. absurd (omega (arith, l, e))))) refl)
    (order place (length text))

-- there is one last cut
pub last_cut_is : (text : List ℕ) (most place : ℕ) → IsLastCut text most place → place ≡ last_cut text most
last_cut_is text zero place h = let within = h.within in omega (arith, within)
last_cut_is text (suc n) place h = ⊎_elim
    (λ below. rw (no_cut_there text (suc n) (h.last (suc n) below (omega arith)))
    (last_cut_is text n place (record { within = omega (arith, below); cut = h.cut; last = λ other l m. h.last other l (omega (arith, m)) })))
    (λ above. let within = h.within in let same : place ≡ suc n = omega (arith, above, within) in rw (cut_there text (suc n) (subst (IsCharBoundary text) same h.cut)) same)
    (order place (suc n))

-- ---- the lines

-- what is shown of one more line of a list
pub lines_more : {X : Type 0} (g : List ℕ → List ℕ) (f : X → List ℕ) (xs : List X) (i : ℕ) (d x : X) (row old a b : List ℕ) → i < length xs → a ≡ old ++ written_all (flat_map row_ops (map g (map f (take i xs))))
    → x ≡ get_or xs i d → row ≡ f x → b ≡ a ++ written_all (row_ops (g row)) → b ≡ old ++ written_all (flat_map row_ops (map g (map f (take (i + 1) xs))))
lines_more g f xs i d x row old a b l e q t h =
    row_added old a b (map g (map f (take i xs))) (g row) e h ∙ ap (λ r. old ++ written_all (flat_map row_ops (map g (map f (take i xs)) ++ g r ∷ []))) (t ∙ ap f q)
    ∙ ap (λ rs. old ++ written_all (flat_map row_ops rs)) (sym (ap (map g) (map_more f xs i d l) ∙ map-append g (map f (take i xs)) (f (get_or xs i d) ∷ [])))

-- the texts of the lines on a page are those on the page of all texts
pub page_mapped : {X : Type 0} (f : X → List ℕ) (mark rows : ℕ) (xs : List X) → map f (lines_of_page mark rows xs) ≡ lines_of_page mark rows (map f xs)
page_mapped f mark rows xs =
    let most : ℕ = rows - 1 in
    let start : ℕ = min mark (length xs - most) in
    sym (take-map f most (drop start xs)) ∙ ap (λ ys. take most ys) (sym (drop-map f start xs))
    ∙ ap (λ (n : ℕ). take most (drop (min mark (n - most)) (map f xs))) (sym (length-map xs f))
