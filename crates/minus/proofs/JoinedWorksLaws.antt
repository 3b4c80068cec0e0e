-- Neighbouring appends that are performed in one go.
use Rattle.std.proofs.Common.{◌≡◌, ℕ, zero, suc, ◌-◌, ◌^◌, ◌<◌, ◌≤◌, ◌&&◌, ◌==◌, is_some, Bool, true, false, List, [], ◌∷◌, ◌++◌, length, map, Option, None, Some, refl, sym, ap, subst, ◌∙◌, arith, append_assoc, inl, inr, if◌then◌else◌}
use Rattle.std.specs.List.{concat, Contains}
use Rattle.std.specs.Str.Lines.{lines}
use Rattle.std.proofs.lemmas.Bool.{cases_Bool, eq-eqb}
use Rattle.std.proofs.lemmas.List.{append-nil}
use Rattle.minus_term.specs.Operations.{Op}
use Rattle.minus_term.specs.PlayedScreen.{ShownPage, PlayedScreen, Shows, play_all, screen_of, unknown_screen}
use Rattle.minus_term.specs.Puts.{puts}
use Rattle.minus_term.proofs.WrittenLaws.{IsClean-more}
use Rattle.minus_text.specs.Layouts.{margin}
use Rattle.minus_state.specs.declared.change.Redraw.{Redraw}
use Rattle.minus_state.specs.declared.change.Redraw.TheVariants.{Appended, Whole}
use Rattle.minus_state.specs.Appending.{with_more, keeps_rows_with, first_changed}
use Rattle.minus_state.specs.Control.{Control, Saved, text_rows}
use Rattle.minus_state.specs.ClampedMark.{clamp}
use Rattle.minus_state.specs.Page.{page}
use Rattle.minus_state.specs.RedrawExtent.{append_redraw, added_redraw}
use Rattle.minus_state.specs.ShownPrompt.{prompt_row}
use Rattle.minus_draw.specs.declared.drawings.Drawing.{Drawing}
use Rattle.minus_draw.specs.declared.drawings.Drawing.TheVariants.{Nothing, Page, Append, LastRow}
use Rattle.minus_draw.specs.declared.drawings.WholePage.TheVariants.{Plain}
use Rattle.minus_draw.specs.declared.drawings.LastRow.TheVariants.{Prompt}
use Rattle.minus_draw.specs.Drawn.{most_puts, DrawsPrompts, IsDrawing, Work, reached, passed_in, some_full, IsQuiet}
use Rattle.minus.specs.Joined.{appended_to, appended_all, append_told, appending, MayWorkJoined, WorkedAppendsJoin}
use Rattle.minus_commands.specs.Reads.{Told}
use Rattle.minus.specs.Says.{Says}
use Rattle.minus.specs.Seen.{Seen}
use Rattle.minus_commands.specs.Shapes.{adds_text}
use Rattle.minus_commands.specs.Table.{appends_data, moved, end_hook, is_at_end}
use Rattle.minus_draw.specs.Drawings.{drawing_by}
use Rattle.minus.specs.Works.{Takes, worked, Worked, first, more}
use Rattle.minus.specs.Waiting.{IsNext, leaving}
use Rattle.minus_draw.proofs.JoinLaws.{quiet_reached, AllRows, page_fits}
use Rattle.minus.proofs.JoinedKindsLaws.{keeps_join}
use Rattle.minus.proofs.JoinedLaws.{left_by, longer, on_show, twice, still, put_aside}
use Rattle.minus_draw.proofs.LeavesLaws.{tail_there}

-- ---- what they leave

-- an append that is performed leaves what it leaves that is read in
as_left : (c : Control) (text : List ℕ) (h : Option Saved) → c.help ≡ h → MayWorkJoined c → appended_to c text ≡ left_by c text
as_left c text None e may =
    let stays = may.stays e in
    let to : (adds_text c text).moves_to ≡ None = rw (e, stays) refl in
    ap (λ (m : Option ℕ). clamp (moved (with_more c text) m)) to
as_left c text (Some saved) e may =
    let to : (adds_text c text).moves_to ≡ None = rw e refl in
    ap (λ (m : Option ℕ). clamp (moved (with_more c text) m)) to

still_on : (c : Control) (text : List ℕ) (h : Option Saved) → c.help ≡ h → MayWorkJoined c → MayWorkJoined (left_by c text)
still_on c text h e may = record { closed = may.closed; may = still c text h e may.may; stays = stays_on h e }
  where
    stays_on : (h : Option Saved) → c.help ≡ h → (left_by c text).help ≡ None → c.settings.follow ≡ false
    stays_on None e none = may.stays e
    stays_on (Some saved) e none = absurd (let shown : Some (let s : Saved = record saved { text = saved.text ++ text } in s) ≡ None = sym (ap (λ (x : Control). x.help) (put_aside c saved text e)) ∙ none in cc)

still_may : (c : Control) (text : List ℕ) → MayWorkJoined c → MayWorkJoined (appended_to c text)
still_may c text may = subst MayWorkJoined (sym (as_left c text c.help refl may)) (still_on c text c.help refl may)

appended_twice : (c : Control) (a b : List ℕ) → MayWorkJoined c → appended_to (appended_to c a) b ≡ appended_to c (a ++ b)
appended_twice c a b may =
    as_left (appended_to c a) b (appended_to c a).help refl (still_may c a may)
    ∙ ap (λ (x : Control). left_by x b) (as_left c a c.help refl may)
    ∙ twice c a b c.help refl may.may
    ∙ sym (as_left c (a ++ b) c.help refl may)

pub worked_appends_join_lem : WorkedAppendsJoin
worked_appends_join_lem c [] may some = absurd (omega arith)
worked_appends_join_lem c (text ∷ []) may some = ap (appended_to c) (sym (append-nil text))
worked_appends_join_lem c (text ∷ next ∷ texts) may some =
    worked_appends_join_lem (appended_to c text) (next ∷ texts) (still_may c text may) (omega arith) ∙ appended_twice c text (concat (next ∷ texts)) may

-- ---- in one go they are drawn as one after another

-- a work that leads where some lead, and is drawn as they are
record Coarser (c : Control) (w : Work) (works : List Work) : Type 0 where
  full : some_full works ≡ some_full (w ∷ [])
  reach : w.left ≡ reached c works
  some : 1 ≤ length works
  most : most_puts (w ∷ []) ≤ most_puts works
  prompts : (ops : List Op) → DrawsPrompts ops works
  quiet : IsQuiet c works → IsQuiet c (w ∷ [])

last_page : (c : Control) (works : List Work) (p : ShownPage) → 1 ≤ length works → Contains (page (reached c works) ∷ []) p → Contains (map page (passed_in works)) p
last_page c [] p some h = absurd (omega (arith, some))
last_page c (w ∷ []) p some h = h
last_page c (w ∷ v ∷ works) p some h = tail_there (page w.left) (map page (passed_in (v ∷ works))) p (last_page w.left (v ∷ works) p (omega arith) h)

abbrev screen_when : Control → Control → Bool → PlayedScreen
screen_when c new full = if full then unknown_screen new.rows else screen_of (page c)

drawn_as : (ops : List Op) (c new : Control) (w : Work) (works : List Work) → Coarser c w works → IsDrawing ops c (w ∷ []) new → IsDrawing ops c works new
drawn_as ops c new w works so h = record {
  shows = subst (λ (full : Bool). Shows (play_all ops (screen_when c new full)) (page new)) (sym so.full) h.shows;
  clean = IsClean-more (page c ∷ page w.left ∷ []) (map page (c ∷ passed_in works)) among ops h.clean;
  cursor = h.cursor;
  few =
      (let few : puts ops (screen_when c new (some_full works)) ≤ most_puts (w ∷ []) = subst (λ (full : Bool). puts ops (screen_when c new full) ≤ most_puts (w ∷ [])) (sym so.full) h.few in
      let most = so.most in
      omega (arith, few, most));
  asked = so.prompts ops;
  none = λ q. h.none (so.quiet q);
}
  where
    behind : (p : ShownPage) → Contains (page w.left ∷ []) p → Contains (map page (passed_in works)) p
    behind p h = last_page c works p so.some (subst (λ (x : Control). Contains (page x ∷ []) p) so.reach h)

    among : (p : ShownPage) → Contains (page c ∷ page w.left ∷ []) p → Contains (map page (c ∷ passed_in works)) p
    among p (zero, l, e) = (0, omega arith, e)
    among p (suc k, l, e) = tail_there (page c) (map page (passed_in works)) p (behind p (k, omega (arith, l), e))

-- ---- where help is open nothing is drawn

abbrev AllNothing : List Work → Type 0
AllNothing [] = Unit {0}
AllNothing (w ∷ works) = (w.drawing ≡ Nothing) × AllNothing works

none_full : (works : List Work) → AllNothing works → some_full works ≡ false
none_full [] all = refl
none_full (w ∷ works) all = (let drawn = all.0 in let rest = none_full works all.1 in rw (drawn, rest) refl)

none_prompts : (ops : List Op) (works : List Work) → AllNothing works → DrawsPrompts ops works
none_prompts ops [] all = tt
none_prompts ops (w ∷ works) all = (λ e. absurd (let drawn : Nothing ≡ LastRow Prompt = sym all.0 ∙ e in cc), none_prompts ops works all.1)

coarser_aside : (c : Control) (w : Work) (works : List Work) → w.drawing ≡ Nothing → w.left ≡ reached c works → 1 ≤ length works → AllNothing works → Coarser c w works
coarser_aside c w works drawn reach some all = record {
  full = none_full works all ∙ sym (none_full (w ∷ []) (drawn, tt));
  reach = reach;
  some = some;
  most = (rw drawn (omega arith));
  prompts = λ ops. none_prompts ops works all;
  quiet = λ q. (drawn, ap prompt_row reach ∙ quiet_reached c c works refl q, tt);
}

-- ---- else each is drawn as an append, or in full

abbrev shown_drawing : Control → Bool → Drawing
shown_drawing c keeps = if keeps then Append (first_changed c) (length (text_rows c)) else Page Plain

abbrev AllShown : Control → List Work → Type 0
AllShown c [] = Unit {0}
AllShown c (w ∷ works) = ((keeps : Bool) × (w.drawing ≡ shown_drawing c keeps)) × AllShown w.left works

abbrev AllAppends : Control → List Work → Type 0
AllAppends c [] = Unit {0}
AllAppends c (w ∷ works) = (w.drawing ≡ Append (first_changed c) (length (text_rows c))) × AllAppends w.left works

never_prompt : (c : Control) (keeps : Bool) (d : Drawing) → d ≡ shown_drawing c keeps → d ≡ LastRow Prompt → ⊥
never_prompt c true d is e = absurd (let drawn : Append (first_changed c) (length (text_rows c)) ≡ LastRow Prompt = sym is ∙ e in cc)
never_prompt c false d is e = absurd (let drawn : Page Plain ≡ LastRow Prompt = sym is ∙ e in cc)

never_nothing : (c : Control) (keeps : Bool) (d : Drawing) → d ≡ shown_drawing c keeps → d ≡ Nothing → ⊥
never_nothing c true d is e = absurd (let drawn : Append (first_changed c) (length (text_rows c)) ≡ Nothing = sym is ∙ e in cc)
never_nothing c false d is e = absurd (let drawn : Page Plain ≡ Nothing = sym is ∙ e in cc)

shown_prompts : (ops : List Op) (c : Control) (works : List Work) → AllShown c works → DrawsPrompts ops works
shown_prompts ops c [] all = tt
shown_prompts ops c (w ∷ works) all = (λ e. absurd (never_prompt c all.0.0 w.drawing all.0.1 e), shown_prompts ops w.left works all.1)

shown_loud : (c : Control) (works : List Work) (w : Work) → 1 ≤ length works → AllShown c works → IsQuiet c works → IsQuiet c (w ∷ [])
shown_loud c [] w some all q = absurd (omega (arith, some))
shown_loud c (v ∷ works) w some all q = absurd (never_nothing c all.0.0 v.drawing all.0.1 q.0)

appends_partial : (c : Control) (works : List Work) → AllAppends c works → some_full works ≡ false
appends_partial c [] all = refl
appends_partial c (w ∷ works) all = (let drawn = all.0 in let rest = appends_partial w.left works all.1 in rw (drawn, rest) refl)

-- the rows from the first that the first of them changes on are no more than their bounds together
appends_most : (c : Control) (works : List Work) → 1 ≤ length works → AllAppends c works → length (text_rows (reached c works)) - first_changed c ≤ most_puts works
appends_most c [] some all = absurd (omega (arith, some))
appends_most c (w ∷ []) some all = (let drawn = all.0 in rw drawn (omega arith))
appends_most c (w ∷ v ∷ works) some all =
    let new : Control = reached c (w ∷ v ∷ works) in
    let below : first_changed w.left ≤ length (text_rows w.left) = omega arith in
    let drawn = all.0 in
    let rest = appends_most w.left (v ∷ works) (omega arith) all.1 in
    rw drawn (omega (arith, below, rest))

coarser_kept : (c : Control) (w : Work) (works : List Work) → w.drawing ≡ Append (first_changed c) (length (text_rows c)) → w.left ≡ reached c works → 1 ≤ length works → AllShown c works → AllAppends c works → Coarser c w works
coarser_kept c w works drawn reach some shown all = record {
  full = appends_partial c works all ∙ sym (appends_partial c (w ∷ []) (drawn, tt));
  reach = reach;
  some = some;
  most = (let all_most = subst (λ (x : Control). length (text_rows x) - first_changed c ≤ most_puts works) (sym reach) (appends_most c works some all) in rw drawn (omega (arith, all_most)));
  prompts = λ ops. shown_prompts ops c works shown;
  quiet = shown_loud c works w some shown;
}

coarser_full : (c : Control) (w : Work) (works : List Work) → w.drawing ≡ Page Plain → w.left ≡ reached c works → 1 ≤ length works → AllShown c works → some_full works ≡ true → AllRows w.left.rows works → Coarser c w works
coarser_full c w works drawn reach some shown full rows = record {
  full = full ∙ sym (one_full drawn);
  reach = reach;
  some = some;
  most = (let room = page_fits w.left.rows works full rows in rw drawn (omega (arith, room)));
  prompts = λ ops. shown_prompts ops c works shown;
  quiet = shown_loud c works w some shown;
}
  where
    one_full : w.drawing ≡ Page Plain → some_full (w ∷ []) ≡ true
    one_full e = rw e refl

both_left : (x y : Bool) → (x && y) ≡ true → x ≡ true
both_left true y e = refl
both_left false y e = absurd (cc)

both_right : (x y : Bool) → (x && y) ≡ true → y ≡ true
both_right true y e = e
both_right false y e = absurd (cc)

second_false : (x y : Bool) → x ≡ true → (x && y) ≡ false → y ≡ false
second_false true y e both = both
second_false false y e both = absurd (cc)

-- nothing that is appended leaves all rows as they are
keeps_none : (c : Control) → keeps_rows_with c [] ≡ true
keeps_none c =
    let cols : (c.cols == c.cols) ≡ true = eq-eqb c.cols c.cols refl in
    let margins : (margin c.numbers (length (lines (c.text ++ []))) == margin c.numbers (length (lines c.text))) ≡ true = eq-eqb (margin c.numbers (length (lines (c.text ++ [])))) (margin c.numbers (length (lines c.text))) (ap (λ (t : List ℕ). margin c.numbers (length (lines t))) (append-nil c.text)) in
    rw (cols, margins) refl

-- ---- their works

-- what an append comes to
abbrev pub append_work : Control → List ℕ → Work
append_work c text =
    let new : Control = appended_to c text in
    record { drawing = drawing_by (adds_text c text).redraw c new.mark; left = new; hook = end_hook (is_some (adds_text c text).moves_to) (is_at_end new) }

abbrev pub append_works : Control → List (List ℕ) → List Work
append_works c [] = []
append_works c (text ∷ texts) = append_work c text ∷ append_works (appended_to c text) texts

works_reach : (c : Control) (texts : List (List ℕ)) → reached c (append_works c texts) ≡ appended_all c texts
works_reach c [] = refl
works_reach c (text ∷ texts) = works_reach (appended_to c text) texts

aside_draws : (c : Control) (text : List ℕ) (saved : Saved) → c.help ≡ Some saved → (append_work c text).drawing ≡ Nothing
aside_draws c text saved e = rw e refl

aside_all : (c : Control) (texts : List (List ℕ)) (saved : Saved) → c.help ≡ Some saved → MayWorkJoined c → AllNothing (append_works c texts)
aside_all c [] saved e may = tt
aside_all c (text ∷ texts) saved e may = (
  aside_draws c text saved e,
  aside_all (appended_to c text) texts (record saved { text = saved.text ++ text }) (ap (λ (x : Control). x.help) (as_left c text (Some saved) e may ∙ put_aside c saved text e)) (still_may c text may),
)

-- what an append leaves displayed
left_longer : (c : Control) (text : List ℕ) → c.help ≡ None → MayWorkJoined c → appended_to c text ≡ longer c text
left_longer c text e may = (let at = may.may e in as_left c text None e may ∙ on_show c text e at.0 at.1)

drawn_where : (c : Control) (mark : ℕ) (keeps : Bool) → mark ≡ c.mark → drawing_by (if keeps then Appended else Whole) c mark ≡ shown_drawing c keeps
drawn_where c mark true e = (let same : (mark == c.mark) ≡ true = eq-eqb mark c.mark e in rw same refl)
drawn_where c mark false e = refl

redraw_shown : (c : Control) (text : List ℕ) → c.help ≡ None → added_redraw c text ≡ append_redraw c text
redraw_shown c text e = rw e refl

shown_draws : (c : Control) (text : List ℕ) → c.help ≡ None → MayWorkJoined c → (append_work c text).drawing ≡ shown_drawing c (keeps_rows_with c text)
shown_draws c text e may =
    ap (λ (r : Redraw). drawing_by r c (appended_to c text).mark) (redraw_shown c text e)
    ∙ drawn_where c (appended_to c text).mark (keeps_rows_with c text) (ap (λ (x : Control). x.mark) (left_longer c text e may))

shown_all : (c : Control) (texts : List (List ℕ)) → c.help ≡ None → MayWorkJoined c → AllShown c (append_works c texts)
shown_all c [] e may = tt
shown_all c (text ∷ texts) e may = (
  (keeps_rows_with c text, shown_draws c text e may),
  shown_all (appended_to c text) texts (ap (λ (x : Control). x.help) (left_longer c text e may) ∙ e) (still_may c text may),
)

-- this many lines can be counted
abbrev Fits : Control → List (List ℕ) → Type 0
Fits c texts = length (lines (c.text ++ concat texts)) < 2 ^ 64

fits_on : (c : Control) (text : List ℕ) (texts : List (List ℕ)) → c.help ≡ None → MayWorkJoined c → Fits c (text ∷ texts) → Fits (appended_to c text) texts
fits_on c text texts e may fits =
    let texts_is : c.text ++ (text ++ concat texts) ≡ (appended_to c text).text ++ concat texts = sym (append_assoc c.text text (concat texts)) ∙ ap (λ (x : Control). x.text ++ concat texts) (sym (left_longer c text e may)) in
    subst (λ (t : List ℕ). length (lines t) < 2 ^ 64) texts_is fits

-- the first leaves the rows before it as they are, and the others do
keeps_parts : (c : Control) (text : List ℕ) (texts : List (List ℕ)) → c.help ≡ None → MayWorkJoined c → Fits c (text ∷ texts) → keeps_rows_with c (concat (text ∷ texts)) ≡ (keeps_rows_with c text && keeps_rows_with (appended_to c text) (concat texts))
keeps_parts c text texts e may fits =
    keeps_join c text (concat texts) (subst (λ (t : List ℕ). length (lines t) < 2 ^ 64) (sym (append_assoc c.text text (concat texts))) fits)
    ∙ ap (λ (x : Control). keeps_rows_with c text && keeps_rows_with x (concat texts)) (sym (left_longer c text e may))

appends_all : (c : Control) (texts : List (List ℕ)) → c.help ≡ None → MayWorkJoined c → Fits c texts → keeps_rows_with c (concat texts) ≡ true → AllAppends c (append_works c texts)
appends_all c [] e may fits keeps = tt
appends_all c (text ∷ texts) e may fits keeps =
    let parts = sym (keeps_parts c text texts e may fits) ∙ keeps in
    let one = both_left (keeps_rows_with c text) (keeps_rows_with (appended_to c text) (concat texts)) parts in
    let rest = both_right (keeps_rows_with c text) (keeps_rows_with (appended_to c text) (concat texts)) parts in (
      shown_draws c text e may ∙ ap (shown_drawing c) one,
      appends_all (appended_to c text) texts (ap (λ (x : Control). x.help) (left_longer c text e may) ∙ e) (still_may c text may) (fits_on c text texts e may fits) rest,
    )

full_all : (c : Control) (texts : List (List ℕ)) → c.help ≡ None → MayWorkJoined c → Fits c texts → keeps_rows_with c (concat texts) ≡ false → some_full (append_works c texts) ≡ true
full_all c [] e may fits keeps = absurd (let both : true ≡ false = sym (keeps_none c) ∙ keeps in cc)
full_all c (text ∷ texts) e may fits keeps =
    let parts = sym (keeps_parts c text texts e may fits) ∙ keeps in
    elim (cases_Bool (keeps_rows_with c text)) [
      | inl t ↦ (
          let rest = second_false (keeps_rows_with c text) (keeps_rows_with (appended_to c text) (concat texts)) t parts in
          let drawn = shown_draws c text e may ∙ ap (shown_drawing c) t in
          let more = full_all (appended_to c text) texts (ap (λ (x : Control). x.help) (left_longer c text e may) ∙ e) (still_may c text may) (fits_on c text texts e may fits) rest in
          any_more (append_work c text) (append_works (appended_to c text) texts) drawn more
          )
      | inr f ↦ any_first (append_work c text) (append_works (appended_to c text) texts) (shown_draws c text e may ∙ ap (shown_drawing c) f)
    ]
  where
    any_first : (w : Work) (works : List Work) → w.drawing ≡ Page Plain → some_full (w ∷ works) ≡ true
    any_first w works drawn = rw drawn refl

    any_more : (w : Work) (works : List Work) → w.drawing ≡ Append (first_changed c) (length (text_rows c)) → some_full works ≡ true → some_full (w ∷ works) ≡ true
    any_more w works drawn full = rw (drawn, full) refl

-- the terminal has as many rows all the while
append_rows : (c : Control) (texts : List (List ℕ)) (n : ℕ) → c.help ≡ None → MayWorkJoined c → c.rows ≡ n → AllRows n (append_works c texts)
append_rows c [] n e may is = tt
append_rows c (text ∷ texts) n e may is =
    let kept = ap (λ (x : Control). x.rows) (left_longer c text e may) ∙ is in
    (kept, append_rows (appended_to c text) texts n (ap (λ (x : Control). x.help) (left_longer c text e may) ∙ e) (still_may c text may) kept)

-- in one go they lead where they lead one after another
joined_reach : (c : Control) (texts : List (List ℕ)) → MayWorkJoined c → 0 < length texts → (append_work c (concat texts)).left ≡ reached c (append_works c texts)
joined_reach c texts may some = sym (works_reach c texts ∙ worked_appends_join_lem c texts may some)

coarser : (c : Control) (text : List ℕ) (texts : List (List ℕ)) → MayWorkJoined c → (c.help ≡ None → Fits c (text ∷ texts)) → Coarser c (append_work c (concat (text ∷ texts))) (append_works c (text ∷ texts))
coarser c text texts may fits = by_help c.help refl
  where
    by_help : (h : Option Saved) → c.help ≡ h → Coarser c (append_work c (concat (text ∷ texts))) (append_works c (text ∷ texts))
    by_help (Some saved) e = coarser_aside c (append_work c (concat (text ∷ texts))) (append_works c (text ∷ texts)) (aside_draws c (concat (text ∷ texts)) saved e) (joined_reach c (text ∷ texts) may (omega arith)) (omega arith) (aside_all c (text ∷ texts) saved e may)
    by_help None e = elim (cases_Bool (keeps_rows_with c (concat (text ∷ texts)))) [
      | inl t ↦ coarser_kept c (append_work c (concat (text ∷ texts))) (append_works c (text ∷ texts)) (shown_draws c (concat (text ∷ texts)) e may ∙ ap (shown_drawing c) t) (joined_reach c (text ∷ texts) may (omega arith)) (omega arith) (shown_all c (text ∷ texts) e may) (appends_all c (text ∷ texts) e may (fits e) t)
      | inr f ↦ coarser_full c (append_work c (concat (text ∷ texts))) (append_works c (text ∷ texts)) (shown_draws c (concat (text ∷ texts)) e may ∙ ap (shown_drawing c) f) (joined_reach c (text ∷ texts) may (omega arith)) (omega arith) (shown_all c (text ∷ texts) e may) (full_all c (text ∷ texts) e may (fits e) f) (append_rows c (text ∷ texts) (append_work c (concat (text ∷ texts))).left.rows e may (sym (ap (λ (x : Control). x.rows) (left_longer c (concat (text ∷ texts)) e may))))
    ]

pub drawn_joined : (ops : List Op) (c new : Control) (text : List ℕ) (texts : List (List ℕ)) → MayWorkJoined c → (c.help ≡ None → Fits c (text ∷ texts)) → IsDrawing ops c (append_work c (concat (text ∷ texts)) ∷ []) new → IsDrawing ops c (append_works c (text ∷ texts)) new
drawn_joined ops c new text texts may fits h = drawn_as ops c new (append_work c (concat (text ∷ texts))) (append_works c (text ∷ texts)) (coarser c text texts may fits) h

pub quiet_joined : (c : Control) (text : List ℕ) (texts : List (List ℕ)) → MayWorkJoined c → (c.help ≡ None → Fits c (text ∷ texts)) → IsQuiet c (append_works c (text ∷ texts)) → IsQuiet c (append_work c (concat (text ∷ texts)) ∷ [])
quiet_joined c text texts may fits q = (coarser c text texts may fits).quiet q

-- ---- they are performed

module _ {Q K : Type 0} where
  appends_one : (says : Says Q K) (s : Seen Q K) (text : List ℕ) → s.control.search ≡ None → Takes says s (append_told text) (append_work s.control text) None (record s { control = appended_to s.control text })
  appends_one says s text closed = worked (appends_data text) closed refl tt tt refl

  -- those that wait behind what was performed
  appends_on : (says : Says Q K) (old m : Seen Q K) (told : Told Q K) (works : List Work) (texts : List (List ℕ)) (behind : List (Told Q K)) → Worked says old told works [] None m → MayWorkJoined m.control → m.waiting ≡ appending texts ++ behind
      → Worked says old told (works ++ append_works m.control texts) [] None (record m { control = appended_all m.control texts; waiting = behind })
  appends_on says old m told works [] behind h may e =
      subst (λ (ws : List Work). Worked says old told ws [] None (record m { waiting = behind })) (sym (append-nil works)) (subst (λ (w : List (Told Q K)). Worked says old told works [] None (record m { waiting = w })) e h)
  appends_on says old m told works (text ∷ texts) behind h may e =
      let rest : List (Told Q K) = appending texts ++ behind in
      let next : IsNext m (append_told text) rest = (may.closed, e) in
      let take = appends_one says (leaving m rest) text may.closed in
      let all = appends_on says old (record m { control = appended_to m.control text; waiting = rest }) told (works ++ append_work m.control text ∷ []) texts behind (more h next take) (still_may m.control text may) refl in
      subst (λ (ws : List Work). Worked says old told ws [] None (record m { control = appended_all m.control (text ∷ texts); waiting = behind })) (append_assoc works (append_work m.control text ∷ []) (append_works (appended_to m.control text) texts)) all

  pub appends_worked : (says : Says Q K) (m : Seen Q K) (text : List ℕ) (texts : List (List ℕ)) (behind : List (Told Q K)) → MayWorkJoined m.control → m.waiting ≡ appending texts ++ behind
      → Worked says m (append_told text) (append_works m.control (text ∷ texts)) [] None (record m { control = appended_to m.control (concat (text ∷ texts)); waiting = behind })
  appends_worked says m text texts behind may e =
      let all = appends_on says m (record m { control = appended_to m.control text }) (append_told text) (append_work m.control text ∷ []) texts behind (first (appends_one says m text may.closed)) (still_may m.control text may) e in
      subst (λ (c : Control). Worked says m (append_told text) (append_works m.control (text ∷ texts)) [] None (record m { control = c; waiting = behind })) (worked_appends_join_lem m.control (text ∷ texts) may (omega arith)) all
