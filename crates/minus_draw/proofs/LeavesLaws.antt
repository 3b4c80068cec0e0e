-- What a step leaves of the page that the sink's bytes leave.
use Rattle.std.proofs.Common.{◌≡◌, ℕ, zero, suc, get_or, ◌<◌, Bool, true, false, inl, inr, List, ◌∷◌, ◌++◌, length, map, Option, Some, None, refl, sym, ap, subst, ◌∙◌, arith, append_assoc}
use Rattle.std.specs.List.{Contains}
use Rattle.std.proofs.lemmas.Bool.{cases_Bool}
use Rattle.std.proofs.lemmas.List.Elements.{Contains-append_left, Contains-append_right}
use Rattle.std.proofs.lemmas.List.{map-append, length-map, length-replicate, get_or-map}
use Rattle.minus_term.specs.Operations.{Op}
use Rattle.minus_term.specs.PlayedScreen.{ShownPage, PlayedScreen, Shows, play_all, screen_of, unknown_screen}
use Rattle.minus_term.specs.CursorShown.{cursor_shown, has_cursor}
use Rattle.minus_term.specs.Written.{written_all}
use Rattle.minus_term.proofs.CursorLaws.{cursor_shown-append}
use Rattle.minus_term.proofs.PlayLaws.{play_all-append, draws_from, shows_below, unknown_below, length-play_all, play_is_monotone_lem}
use Rattle.minus_term.proofs.WrittenLaws.{written_all-append, IsClean-append, IsClean-more}
use Rattle.minus_state.specs.Control.{Control}
use Rattle.minus_state.specs.Page.{page}
use Rattle.minus_draw.specs.Drawn.{Work, passed_in, some_full, Drawn, Leaves}

pub head_there : {X : Type 0} (x : X) (xs : List X) → Contains (x ∷ xs) x
head_there x xs = (0, omega arith, refl)

pub tail_there : {X : Type 0} (x : X) (xs : List X) (y : X) → Contains xs y → Contains (x ∷ xs) y
tail_there x xs y h = (suc h.0, omega (arith, h.1), h.2)

-- what is among a first one and some is among those and any that contain the first
pub after_first : {X : Type 0} (before ps : List X) (x y : X) → Contains before x → Contains (x ∷ ps) y → Contains (before ++ ps) y
after_first before ps x y here h = at_place h.0 h.1 h.2
  where
    at_place : (k : ℕ) → k < length (x ∷ ps) → get_or (x ∷ ps) k y ≡ y → Contains (before ++ ps) y
    at_place zero l e = subst (λ z. Contains (before ++ ps) z) e (Contains-append_left before ps x here)
    at_place (suc k) l e = Contains-append_right before ps y (k, omega (arith, l), e)

page_among : (cs : List Control) (c : Control) → Contains cs c → Contains (map page cs) (page c)
page_among cs c h = (h.0, (let n = length-map cs page in let l = h.1 in omega arith), get_or-map page cs h.0 c (page c) h.1 ∙ ap page h.2)

pub pages_after : (before ps : List Control) (c : Control) (p : ShownPage) → Contains before c → Contains (map page (c ∷ ps)) p → Contains (map page (before ++ ps)) p
pages_after before ps c p here h = rw (map-append page before ps) (after_first (map page before) (map page ps) (page c) p (page_among before c here) h)

pub pages_before : (before ps : List Control) (p : ShownPage) → Contains (map page before) p → Contains (map page (before ++ ps)) p
pages_before before ps p h = rw (map-append page before ps) (Contains-append_left (map page before) (map page ps) p h)

-- a drawing from the unknown screen is one from wherever the drawings before it led, on a screen of its size
pub full_join : (c : Control) (xs ys : List Op) (s : PlayedScreen) → length s.texts ≡ c.rows → Shows (play_all ys (unknown_screen c.rows)) (page c) → Shows (play_all (xs ++ ys) s) (page c)
full_join c xs ys s e h =
    let after : PlayedScreen = play_all xs s in
    let below = play_is_monotone_lem ys (unknown_screen c.rows) after (unknown_below c.rows after (length-play_all xs s ∙ e)) in
    subst (λ (t : PlayedScreen). Shows t (page c)) (sym (play_all-append xs ys s)) (shows_below (page c) (play_all ys (unknown_screen c.rows)) (play_all ys after) below h)

-- what shows the cursor after some operations, or hides it, does so after all
pub cursor_on : (xs ys : List Op) (old new : Control) (on : Bool) → cursor_shown xs on ≡ has_cursor (page old) → cursor_shown ys (has_cursor (page old)) ≡ has_cursor (page new) → cursor_shown (xs ++ ys) on ≡ has_cursor (page new)
cursor_on xs ys old new on h k = cursor_shown-append xs ys on ∙ ap (cursor_shown ys) h ∙ k

-- a drawing that is partial goes on from what was drawn before
goes_on : (x y : List ℕ) (old new : Control) (works : List Work) (before : List Control) → some_full works ≡ false → old.rows ≡ new.rows → Contains (old ∷ passed_in works) new → (d : Drawn (Some x) (Some y) old works new) → Leaves (Some x) before old → Leaves (Some y) (before ++ passed_in works) new
goes_on x y old new works before partial rows reached d h =
    let front : List ℕ = h.0 in
    let ops : List Op = h.1 in
    let whole = h.3 in
    let ps : List Control = passed_in works in
    let pages : List ShownPage = map page (before ++ ps) in
    let bytes : y ≡ front ++ written_all (ops ++ d.0) = d.1 ∙ ap (λ z. z ++ written_all d.0) h.2 ∙ append_assoc front (written_all ops) (written_all d.0) ∙ ap (λ z. front ++ z) (sym (written_all-append ops d.0)) in
    let from_page : Shows (play_all d.0 (screen_of (page old))) (page new) = (let shown = d.2.shows in rw partial at shown) in
    let then_shows : Shows (play_all d.0 (play_all ops (unknown_screen old.rows))) (page new) = draws_from d.0 (page old) (page new) (play_all ops (unknown_screen old.rows)) from_page whole.shows in
    let shows : Shows (play_all (ops ++ d.0) (unknown_screen old.rows)) (page new) = subst (λ (s : PlayedScreen). Shows s (page new)) (sym (play_all-append ops d.0 (unknown_screen old.rows))) then_shows in (
      front,
      ops ++ d.0,
      bytes,
      record {
        here = after_first before ps old new whole.here reached;
        shows = subst (λ (n : ℕ). Shows (play_all (ops ++ d.0) (unknown_screen n)) (page new)) rows shows;
        cursor = cursor_on ops d.0 old new false whole.cursor d.2.cursor;
        clean = IsClean-append pages ops d.0 (IsClean-more (map page before) pages (λ p k. pages_before before ps p k) ops whole.clean) (IsClean-more (map page (old ∷ ps)) pages (λ p k. pages_after before ps old p whole.here k) d.0 d.2.clean);
      },
    )

-- a drawing from the unknown screen shows its page whatever was drawn before
begins_anew : (x y : List ℕ) (old new : Control) (works : List Work) (before : List Control) → some_full works ≡ true → Contains (old ∷ passed_in works) new → (d : Drawn (Some x) (Some y) old works new) → Leaves (Some x) before old → Leaves (Some y) (before ++ passed_in works) new
begins_anew x y old new works before anew reached d h =
    let front : List ℕ = h.0 in
    let ops : List Op = h.1 in
    let whole = h.3 in
    let ps : List Control = passed_in works in
    let pages : List ShownPage = map page (before ++ ps) in
    let bytes : y ≡ front ++ written_all (ops ++ d.0) = d.1 ∙ ap (λ z. z ++ written_all d.0) h.2 ∙ append_assoc front (written_all ops) (written_all d.0) ∙ ap (λ z. front ++ z) (sym (written_all-append ops d.0)) in
    let from_any : Shows (play_all d.0 (unknown_screen new.rows)) (page new) = (let shown = d.2.shows in rw anew at shown) in (
      front,
      ops ++ d.0,
      bytes,
      record {
        here = after_first before ps old new whole.here reached;
        shows = full_join new ops d.0 (unknown_screen new.rows) (length-replicate {A = Option (List ℕ)} new.rows None) from_any;
        cursor = cursor_on ops d.0 old new false whole.cursor d.2.cursor;
        clean = IsClean-append pages ops d.0 (IsClean-more (map page before) pages (λ p k. pages_before before ps p k) ops whole.clean) (IsClean-more (map page (old ∷ ps)) pages (λ p k. pages_after before ps old p whole.here k) d.0 d.2.clean);
      },
    )

pub leaves_more : (a b : Option (List ℕ)) (old new : Control) (works : List Work) (before : List Control) → (some_full works ≡ false → old.rows ≡ new.rows) → Contains (old ∷ passed_in works) new → Drawn a b old works new → Leaves a before old → Leaves b (before ++ passed_in works) new
leaves_more None b old new works before rows reached d h = absurd h
leaves_more (Some x) None old new works before rows reached d h = absurd d.1
leaves_more (Some x) (Some y) old new works before rows reached d h = elim (cases_Bool (some_full works)) [
  | inl e ↦ begins_anew x y old new works before e reached d h
  | inr e ↦ goes_on x y old new works before e (rows e) reached d h
]
