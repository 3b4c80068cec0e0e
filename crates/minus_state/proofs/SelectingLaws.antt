-- A selection that is dragged, and one that stays.
use Rattle.std.proofs.Common.{◌≡◌, ℕ, ◌==◌, ◌&&◌, ◌||◌, eqb, min, is_some, Bool, true, false, Option, None, Some, ◌-◌, refl, ap, ◌∙◌, inl, inr}
use Rattle.std.specs.Prelude.{if◌then◌else◌}
use Rattle.std.proofs.lemmas.Bool.{cases_Bool, and_parts, eqb-true, eq-eqb}
use Rattle.minus_state.specs.declared.selection.Selection.{Selection}
use Rattle.minus_state.specs.declared.selection.SelectionEnds.{SelectionEnds}
use Rattle.minus_state.specs.Control.{Control}
use Rattle.minus_state.specs.Selecting.{no_ends, has_ends, end_at, is_led, mark_led_to, mark_led, ends_led_to, ends_led, is_same_end, stays_led}

-- ends that are the same
pub same_end_is : (a b : Option Selection) → is_same_end a b ≡ true → a ≡ b
same_end_is None None e = refl
same_end_is None (Some b) e = absurd cc
same_end_is (Some a) None e = absurd cc
same_end_is (Some a) (Some b) e =
    let both = and_parts (eqb a.absolute_row b.absolute_row) (eqb a.col b.col) e in
    ap (λ (n : ℕ). let s : Selection = record { absolute_row = n; col = a.col } in Some s) (eqb-true a.absolute_row b.absolute_row both.0)
    ∙ ap (λ (n : ℕ). let s : Selection = record { absolute_row = b.absolute_row; col = n } in Some s) (eqb-true a.col b.col both.1)

pub same_end : (a : Option Selection) → is_same_end a a ≡ true
same_end None = refl
same_end (Some a) = let row = eq-eqb a.absolute_row a.absolute_row refl in let col = eq-eqb a.col a.col refl in rw (row, col) refl

ends_are : (a b : SelectionEnds) → a.anchor ≡ b.anchor → a.selection ≡ b.selection → a ≡ b
ends_are a b e f =
    ap (λ (x : Option Selection). let s : SelectionEnds = record { anchor = x; selection = a.selection } in s) e
    ∙ ap (λ (x : Option Selection). let s : SelectionEnds = record { anchor = b.anchor; selection = x } in s) f

anchor_to : (ends : SelectionEnds) (o : Option Selection) → (ends_led_to ends o).anchor ≡ ends.anchor
anchor_to ends None = refl
anchor_to ends (Some end) = refl

anchor_led : (c : Control) (x y : ℕ) → (ends_led c x y).anchor ≡ c.ends.anchor
anchor_led c x y =
    let to : SelectionEnds = ends_led_to c.ends (end_at (record c { mark = mark_led_to c y }) x (min y (c.rows - 2))) in
    elim (cases_Bool (is_led c)) [
      | inl t ↦ ap (λ (b : Bool). (if b then to else c.ends).anchor) t ∙ anchor_to c.ends (end_at (record c { mark = mark_led_to c y }) x (min y (c.rows - 2)))
      | inr f ↦ ap (λ (b : Bool). (if b then to else c.ends).anchor) f
    ]

-- where mark and selection stay, both are those of before
pub mark_stays : (c : Control) (x y : ℕ) → stays_led c x y ≡ true → mark_led c y ≡ c.mark
mark_stays c x y e = eqb-true (mark_led c y) c.mark (and_parts (eqb (mark_led c y) c.mark) (is_same_end (ends_led c x y).selection c.ends.selection) e).0

pub ends_stay : (c : Control) (x y : ℕ) → stays_led c x y ≡ true → ends_led c x y ≡ c.ends
ends_stay c x y e =
    ends_are (ends_led c x y) c.ends (anchor_led c x y) (same_end_is (ends_led c x y).selection c.ends.selection (and_parts (eqb (mark_led c y) c.mark) (is_same_end (ends_led c x y).selection c.ends.selection) e).1)

-- a selection that is dragged, and one that is not
pub led_mark : (c : Control) (y : ℕ) → is_led c ≡ true → mark_led c y ≡ mark_led_to c y
led_mark c y e = ap (λ (b : Bool). if b then mark_led_to c y else c.mark) e

pub led_ends : (c : Control) (x y : ℕ) → is_led c ≡ true → ends_led c x y ≡ ends_led_to c.ends (end_at (record c { mark = mark_led_to c y }) x (min y (c.rows - 2)))
led_ends c x y e = ap (λ (b : Bool). if b then ends_led_to c.ends (end_at (record c { mark = mark_led_to c y }) x (min y (c.rows - 2))) else c.ends) e

pub unled_mark : (c : Control) (y : ℕ) → is_led c ≡ false → mark_led c y ≡ c.mark
unled_mark c y e = ap (λ (b : Bool). if b then mark_led_to c y else c.mark) e

pub unled_ends : (c : Control) (x y : ℕ) → is_led c ≡ false → ends_led c x y ≡ c.ends
unled_ends c x y e = ap (λ (b : Bool). if b then ends_led_to c.ends (end_at (record c { mark = mark_led_to c y }) x (min y (c.rows - 2))) else c.ends) e

pub unled_stays : (c : Control) (x y : ℕ) → is_led c ≡ false → stays_led c x y ≡ true
unled_stays c x y e =
    let same_mark : (c.mark == c.mark) ≡ true = eq-eqb c.mark c.mark refl in
    ap (λ (m : ℕ). (m == c.mark) && is_same_end (ends_led c x y).selection c.ends.selection) (unled_mark c y e)
    ∙ ap (λ (ends : SelectionEnds). (c.mark == c.mark) && is_same_end ends.selection c.ends.selection) (unled_ends c x y e)
    ∙ ap (λ (b : Bool). b && is_same_end c.ends.selection c.ends.selection) same_mark ∙ same_end c.ends.selection

-- where no end is there, nothing is selected
gone : (a s : Option Selection) → (is_some a || is_some s) ≡ false → (let e : SelectionEnds = record { anchor = a; selection = s } in e) ≡ no_ends
gone None None e = refl
gone None (Some s) e = absurd cc
gone (Some a) s e = absurd cc

pub none_there : (ends : SelectionEnds) → has_ends ends ≡ false → ends ≡ no_ends
none_there ends e = gone ends.anchor ends.selection e
