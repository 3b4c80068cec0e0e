-- The drawings of some works after those of others are the drawings of them all.
use Rattle.std.proofs.Common.{◌≡◌, ℕ, ◌+◌, ◌≤◌, ◌||◌, Bool, true, false, List, [], ◌∷◌, ◌++◌, map, Option, None, refl, sym, ap, subst, ◌∙◌, arith, append_assoc, inl, inr}
use Rattle.std.specs.List.{Contains}
use Rattle.std.proofs.lemmas.Bool.{cases_Bool}
use Rattle.std.proofs.lemmas.List.{append-nil, map-append, length-replicate}
use Rattle.std.proofs.lemmas.List.Folds.{list_any-append}
use Rattle.minus_term.specs.Operations.{Op}
use Rattle.minus_term.specs.PlayedScreen.{PlayedScreen, Shows, play_all, screen_of, unknown_screen}
use Rattle.minus_term.specs.CursorShown.{has_cursor}
use Rattle.minus_term.specs.Puts.{puts}
use Rattle.minus_term.specs.PageRows.{page_len}
use Rattle.minus_term.proofs.JoinLaws.{puts_join_any, puts_below}
use Rattle.minus_term.proofs.PlayLaws.{play_all-append, draws_from, screen_of_below, unknown_below, length-play_all}
use Rattle.minus_state.specs.Control.{Control}
use Rattle.minus_state.specs.Page.{page}
use Rattle.minus_state.specs.ShownPrompt.{prompt_row}
use Rattle.minus_draw.specs.Drawn.{Work, is_full, some_full, IsQuiet, passed_in, reached}
use Rattle.minus_draw.specs.declared.drawings.Drawing.TheVariants.{Page}
use Rattle.minus_draw.proofs.LeavesLaws.{head_there, tail_there, pages_before, pages_after, full_join, cursor_on}
use Rattle.minus_term.specs.Written.{IsClean}
use Rattle.minus_term.proofs.WrittenLaws.{IsClean-append, IsClean-more}
use Rattle.minus_draw.specs.Drawn.{screen_before, most_of, most_puts, DrawsPrompts, IsDrawing, DrawingsJoin}
use Rattle.minus_draw.specs.PromptRowDrawing.{whole_prompt}
use Rattle.minus_draw.specs.declared.drawings.Drawing.{Drawing}

-- bounds of works and of those after them
bounds_join : (w : Work) (ws : List Work) (v : Work) (vs : List Work) (m n : ℕ) → m ≤ most_puts (w ∷ ws) → n ≤ most_puts (v ∷ vs) → m + 1 + n ≤ most_puts ((w ∷ ws) ++ v ∷ vs)
bounds_join w [] v vs m n h k = omega (arith, h, k)
bounds_join w (u ∷ ws) v vs m n h k = let rest = bounds_join u ws v vs (most_puts (u ∷ ws)) n (omega arith) k in omega (arith, h, rest)

-- what is drawn in full has room for a page of its size
full_most : (d : Drawing) (new : Control) → is_full d ≡ true → most_of d new ≡ page_len new.rows
full_most (Page whole) new e = refl
full_most d new e = absurd (cc)

abbrev pub AllRows : ℕ → List Work → Type 0
AllRows rows [] = Unit {0}
AllRows rows (w ∷ works) = (w.left.rows ≡ rows) × AllRows rows works

pub page_fits : (rows : ℕ) (works : List Work) → some_full works ≡ true → AllRows rows works → page_len rows ≤ most_puts works
page_fits rows [] e all = absurd (cc)
page_fits rows (w ∷ []) e all =
    let most = full_most w.drawing w.left (alone (is_full w.drawing) e) ∙ ap page_len all.0 in
    omega (arith, most)
  where
    alone : (x : Bool) → (x || false) ≡ true → x ≡ true
    alone true f = refl
    alone false f = f
page_fits rows (w ∷ v ∷ works) e all = elim (cases_Bool (is_full w.drawing)) [
  | inl f ↦ (let most = full_most w.drawing w.left f ∙ ap page_len all.0 in omega (arith, most))
  | inr f ↦ (let rest = page_fits rows (v ∷ works) (second f e) all.1 in omega (arith, rest))
]
  where
    second : {x y : Bool} → x ≡ false → (x || y) ≡ true → y ≡ true
    second {x = true} f g = absurd (cc)
    second {x = false} f g = g

-- where the drawings of works and those of others lead together, and how many texts those of the others put there
abbrev LeadsOn : Control → Control → Control → List Work → List Work → List Op → List Op → Type 0
LeadsOn a b c ws vs xs ys =
    Shows (play_all (xs ++ ys) (screen_before a (ws ++ vs) c)) (page c)
    × (puts ys (play_all xs (screen_before a (ws ++ vs) c)) ≤ puts ys (screen_before b vs c))

-- from a screen of which so much is known, drawings in part go on from the page that those before them show
goes_on_from : (b c : Control) (xs ys : List Op) (s : PlayedScreen) → Shows (play_all xs s) (page b) → Shows (play_all ys (screen_of (page b))) (page c)
    → Shows (play_all (xs ++ ys) s) (page c) × (puts ys (play_all xs s) ≤ puts ys (screen_of (page b)))
goes_on_from b c xs ys s h k = (
  subst (λ (t : PlayedScreen). Shows t (page c)) (sym (play_all-append xs ys s)) (draws_from ys (page b) (page c) (play_all xs s) k h),
  puts_below ys (screen_of (page b)) (play_all xs s) (screen_of_below (page b) (play_all xs s) h),
)

-- without one in full among them
partial_drawings : (a b c : Control) (ws vs : List Work) (xs ys : List Op) → some_full ws ≡ false → some_full vs ≡ false → IsDrawing xs a ws b → IsDrawing ys b vs c → LeadsOn a b c ws vs xs ys
partial_drawings a b c ws vs xs ys fw fv h k =
    let full : some_full (ws ++ vs) ≡ false = (let e : some_full (ws ++ vs) ≡ (some_full ws || some_full vs) = list_any-append (λ (x : Work). is_full x.drawing) ws vs in e ∙ both_false (some_full ws) (some_full vs) fw fv) in
    let h_shows : Shows (play_all xs (screen_of (page a))) (page b) = (let i = h.shows in rw fw at i) in
    let k_shows : Shows (play_all ys (screen_of (page b))) (page c) = (let i = k.shows in rw fv at i) in
    rw (full, fv) (goes_on_from b c xs ys (screen_of (page a)) h_shows k_shows)
  where
    both_false : (x y : Bool) → x ≡ false → y ≡ false → (x || y) ≡ false
    both_false x y e f = rw (e, f) refl

-- a drawing in full after any drawing
full_drawings : (a b c : Control) (ws vs : List Work) (xs ys : List Op) → some_full vs ≡ true → IsDrawing ys b vs c → LeadsOn a b c ws vs xs ys
full_drawings a b c ws vs xs ys e k =
    let full : some_full (ws ++ vs) ≡ true = (let f : some_full (ws ++ vs) ≡ (some_full ws || some_full vs) = list_any-append (λ (x : Work). is_full x.drawing) ws vs in f ∙ last_true (some_full ws) (some_full vs) e) in
    let shows : Shows (play_all ys (unknown_screen c.rows)) (page c) = (let h = k.shows in rw e at h) in
    let size = length-replicate {A = Option (List ℕ)} c.rows None in
    let joined = full_join c xs ys (unknown_screen c.rows) size shows in
    let after : PlayedScreen = play_all xs (unknown_screen c.rows) in
    let few = puts_below ys (unknown_screen c.rows) after (unknown_below c.rows after (length-play_all xs (unknown_screen c.rows) ∙ size)) in
    rw (full, e) (joined, few)
  where
    last_true : (x y : Bool) → y ≡ true → (x || y) ≡ true
    last_true true y f = refl
    last_true false y f = f

-- a drawing in part after one in full
full_then_partial : (a b c : Control) (ws vs : List Work) (xs ys : List Op) → some_full ws ≡ true → some_full vs ≡ false → b.rows ≡ c.rows → IsDrawing xs a ws b → IsDrawing ys b vs c → LeadsOn a b c ws vs xs ys
full_then_partial a b c ws vs xs ys fw fv rows h k =
    let full : some_full (ws ++ vs) ≡ true = (let f : some_full (ws ++ vs) ≡ (some_full ws || some_full vs) = list_any-append (λ (x : Work). is_full x.drawing) ws vs in f ∙ first_true (some_full ws) (some_full vs) fw) in
    let h_shows : Shows (play_all xs (unknown_screen b.rows)) (page b) = (let i = h.shows in rw fw at i) in
    let k_shows : Shows (play_all ys (screen_of (page b))) (page c) = (let i = k.shows in rw fv at i) in
    let from : Shows (play_all xs (unknown_screen c.rows)) (page b) = subst (λ (n : ℕ). Shows (play_all xs (unknown_screen n)) (page b)) rows h_shows in
    rw (full, fv) (goes_on_from b c xs ys (unknown_screen c.rows) from k_shows)
  where
    first_true : (x y : Bool) → x ≡ true → (x || y) ≡ true
    first_true true y f = refl
    first_true false y f = absurd (cc)

-- works that draw nothing and leave the prompt row, in two parts
pub quiet_parts : (c : Control) (ws vs : List Work) → IsQuiet c (ws ++ vs) → IsQuiet c ws × IsQuiet c vs
quiet_parts c [] vs q = (tt, q)
quiet_parts c (w ∷ ws) vs q = let more = quiet_parts c ws vs q.2 in ((q.0, q.1, more.0), more.1)

-- they reach a control with that prompt row
pub quiet_reached : (c d : Control) (ws : List Work) → prompt_row d ≡ prompt_row c → IsQuiet c ws → prompt_row (reached d ws) ≡ prompt_row c
quiet_reached c d [] same q = same
quiet_reached c d (w ∷ ws) same q = quiet_reached c w.left ws q.1 q.2

pub quiet_from : (c d : Control) (ws : List Work) → prompt_row d ≡ prompt_row c → IsQuiet c ws → IsQuiet d ws
quiet_from c d [] same q = tt
quiet_from c d (w ∷ ws) same q = (q.0, q.1 ∙ sym same, quiet_from c d ws same q.2)

-- what has the prompt rows that are asked for has them with other operations behind and before
prompts_before : (xs ys : List Op) (works : List Work) → DrawsPrompts xs works → DrawsPrompts (xs ++ ys) works
prompts_before xs ys [] p = tt
prompts_before xs ys (w ∷ works) p = (λ e. (let q = p.0 e in (q.0, q.1 ++ ys, ap (λ ops. ops ++ ys) q.2 ∙ append_assoc (q.0 ++ whole_prompt w.left) q.1 ys)), prompts_before xs ys works p.1)

prompts_behind : (xs ys : List Op) (works : List Work) → DrawsPrompts ys works → DrawsPrompts (xs ++ ys) works
prompts_behind xs ys [] p = tt
prompts_behind xs ys (w ∷ works) p = (λ e. (let q = p.0 e in (xs ++ q.0, q.1, ap (λ ops. xs ++ ops) q.2 ∙ sym (append_assoc xs (q.0 ++ whole_prompt w.left) q.1) ∙ ap (λ ops. ops ++ q.1) (sym (append_assoc xs q.0 (whole_prompt w.left))))), prompts_behind xs ys works p.1)

prompts_join : (ops : List Op) (ws vs : List Work) → DrawsPrompts ops ws → DrawsPrompts ops vs → DrawsPrompts ops (ws ++ vs)
prompts_join ops [] vs p q = q
prompts_join ops (w ∷ ws) vs p q = (p.0, prompts_join ops ws vs p.1 q)

-- the drawings of works after others are the drawings of them all
pub some_join : (a b c : Control) (w v : Work) (ws vs : List Work) (xs ys : List Op) → (some_full (v ∷ vs) ≡ false → b.rows ≡ c.rows) → b ≡ reached a (w ∷ ws) → Contains (a ∷ passed_in (w ∷ ws)) b → IsDrawing xs a (w ∷ ws) b → IsDrawing ys b (v ∷ vs) c → IsDrawing (xs ++ ys) a ((w ∷ ws) ++ v ∷ vs) c
some_join a b c w v ws vs xs ys rows is there h k =
    record {
      shows = by_full.0;
      cursor = cursor_on xs ys b c (has_cursor (page a)) h.cursor k.cursor;
      clean = joined_clean;
      few =
          (let both = bounds_join w ws v vs (puts xs (screen_before a (w ∷ ws) b)) (puts ys (screen_before b (v ∷ vs) c)) h.few k.few in
          let joined = puts_join_any xs ys (screen_before a ((w ∷ ws) ++ v ∷ vs) c) (screen_before a (w ∷ ws) b) in
          let second = by_full.1 in
          omega (arith, both, joined, second));
      asked = prompts_join (xs ++ ys) (w ∷ ws) (v ∷ vs) (prompts_before xs ys (w ∷ ws) h.asked) (prompts_behind xs ys (v ∷ vs) k.asked);
      none = λ q. (
          let both = quiet_parts a (w ∷ ws) (v ∷ vs) q in
          let same : prompt_row b ≡ prompt_row a = ap prompt_row is ∙ quiet_reached a a (w ∷ ws) refl both.0 in
          let x : xs ≡ [] = h.none both.0 in
          let y : ys ≡ [] = k.none (quiet_from a b (v ∷ vs) same both.1) in
          rw (x, y) refl
          );
    }
  where
    by_full : LeadsOn a b c (w ∷ ws) (v ∷ vs) xs ys
    by_full = elim (cases_Bool (some_full (v ∷ vs))) [
      | inl e ↦ full_drawings a b c (w ∷ ws) (v ∷ vs) xs ys e k
      | inr e ↦ elim (cases_Bool (some_full (w ∷ ws))) [
        | inl f ↦ full_then_partial a b c (w ∷ ws) (v ∷ vs) xs ys f e (rows e) h k
        | inr f ↦ partial_drawings a b c (w ∷ ws) (v ∷ vs) xs ys f e h k
      ]
    ]

    joined_clean : IsClean (map page (a ∷ passed_in ((w ∷ ws) ++ v ∷ vs))) (xs ++ ys)
    joined_clean =
        let pages : passed_in ((w ∷ ws) ++ v ∷ vs) ≡ passed_in (w ∷ ws) ++ passed_in (v ∷ vs) = map-append (λ (x : Work). x.left) (w ∷ ws) (v ∷ vs) in
        let before : List Control = a ∷ passed_in (w ∷ ws) in
        subst (λ (ps : List Control). IsClean (map page (a ∷ ps)) (xs ++ ys)) (sym pages) (IsClean-append (map page (before ++ passed_in (v ∷ vs))) xs ys
        (IsClean-more (map page before) (map page (before ++ passed_in (v ∷ vs))) (λ p i. pages_before before (passed_in (v ∷ vs)) p i) xs h.clean)
        (IsClean-more (map page (b ∷ passed_in (v ∷ vs))) (map page (before ++ passed_in (v ∷ vs))) (λ p i. pages_after before (passed_in (v ∷ vs)) b p there i) ys k.clean))

-- the control that works reach is among those that they pass, the one before them among these
pub reached_there : (c : Control) (works : List Work) → Contains (c ∷ passed_in works) (reached c works)
reached_there c [] = head_there c []
reached_there c (w ∷ works) = tail_there c (passed_in (w ∷ works)) (reached w.left works) (reached_there w.left works)

pub drawings_join_lem : DrawingsJoin
drawings_join_lem a b c [] more xs ys is to rows p q =
    let none : xs ≡ [] = p.none tt in
    rw none (subst (λ (x : Control). IsDrawing ys x more c) is q)
drawings_join_lem a b c (w ∷ works) [] xs ys is to rows p q =
    let none : ys ≡ [] = q.none tt in
    rw (none, append-nil xs, append-nil (w ∷ works)) (subst (λ (x : Control). IsDrawing xs a (w ∷ works) x) (sym to) p)
drawings_join_lem a b c (w ∷ works) (v ∷ more) xs ys is to rows p q =
    some_join a b c w v works more xs ys (λ part. rows part ∙ ap (λ (x : Control). x.rows) (sym to)) is (subst (λ (x : Control). Contains (a ∷ passed_in (w ∷ works)) x) (sym is) (reached_there a (w ∷ works))) p q
