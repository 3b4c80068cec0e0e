-- A page to which a text was appended.
use Rattle.std.proofs.Common.{false, ◌≡◌, ℕ, zero, suc, ◌+◌, ◌-◌, ◌<◌, ◌≤◌, min, max, leb, true, List, [], ◌∷◌, ◌++◌, length, take, drop, refl, sym, ap, subst, ◌∙◌, arith, inl, inr}
use Rattle.std.proofs.lemmas.Bool.{cases_Bool, leb-true, leb-false}
use Rattle.std.proofs.lemmas.List.{length-take, length-drop, take-take, drop-take}
use Rattle.minus_term.specs.Append.{append_ops, rows_anew}
use Rattle.minus_term.specs.FullRedraw.{page_of}
use Rattle.minus_term.specs.Operations.{Op, GoTo, ClearRow, Put}
use Rattle.minus_term.specs.PlayedScreen.{PlayedScreen, ShownPage, Shows, play_all, screen_of}
use Rattle.minus_term.specs.Puts.{puts}
use Rattle.minus_term.proofs.CursorLaws.{cursor_shown-append, cursor_stays-append}
use Rattle.minus_term.specs.CursorShown.{cursor_shown}
use Rattle.minus_term.proofs.AppendLaws.{append_near, append_shows_lem, IsClean-changed}
use Rattle.minus_term.proofs.PlayLaws.{play_all-append, draws_from, length-play_all}
use Rattle.minus_term.proofs.ScrollLaws.{one_put}
use Rattle.minus_term.proofs.WrittenLaws.{IsClean-append}
use Rattle.minus_state.specs.Selection.{ends_in_order}
use Rattle.minus_state.proofs.ShownRowsLaws.{length-shown_rows, shown_kept}
use Rattle.minus_draw.specs.declared.drawings.Drawing.{Drawing}
use Rattle.minus_draw.specs.declared.drawings.Drawing.TheVariants.{Nothing, Append, LastRow}
use Rattle.minus_draw.specs.declared.drawings.LastRow.TheVariants.{Prompt}
use Rattle.minus_state.specs.Control.{Control, Settings, document_of, text_rows}
use Rattle.minus_state.specs.Appending.{first_changed, keeps_rows_with}
use Rattle.minus_draw.specs.Drawings.{append_from, ops_of_step}
use Rattle.minus_draw.specs.PromptRowDrawing.{changed_prompt}
use Rattle.minus_state.specs.Page.{all_shown, shown}
use Rattle.minus_state.specs.ShownPrompt.{prompt_row}
use Rattle.minus_draw.proofs.DrawnLaws.{shown_fits, page_size, next_prompt_shows, next_prompt_puts, next_prompt_clean, prompt_there, plain, IsPlainDrawing, next_prompt_cursor}

-- rows that agree up to one agree up to where it stands on the page
agree_shown : {X : Type 0} (xs ys : List X) (k m n f : ℕ) → take k xs ≡ take k ys → f ≤ k - m → f ≤ n → take f (take n (drop m xs)) ≡ take f (take n (drop m ys))
agree_shown xs ys k m n f e l w = take-take f n (drop m xs) w ∙ shown_so ∙ sym (take-take f n (drop m ys) w)
  where
    shown_so : take f (drop m xs) ≡ take f (drop m ys)
    shown_so = elim (cases_Bool (leb m k)) [
      | inl s ↦
          let within : m ≤ k = leb-true m k s in
          let there : m + f ≤ k = omega arith in
          sym (drop-take m f xs) ∙ ap (drop m) (sym (take-take (m + f) k xs there) ∙ ap (take (m + f)) e ∙ take-take (m + f) k ys there) ∙ drop-take m f ys
      | inr s ↦ (let past = leb-false m k s in let none : f ≡ 0 = omega arith in rw none refl)
    ]

-- the rows before the first that an append changes stay
rows_stay : (c : Control) (text : List ℕ) → keeps_rows_with c text ≡ true → take (first_changed c) (all_shown c) ≡ take (first_changed c) (all_shown (record c { text = c.text ++ text }))
rows_stay c text keeps = shown_kept c.term (document_of c) text c.left (ends_in_order c.ends) keeps

-- there are as many as rows
pub all_there : (c : Control) → length (all_shown c) ≡ length (text_rows c)
all_there c = length-shown_rows c.term (document_of c) c.left (ends_in_order c.ends)

-- rows made blank put no more texts than they get, whatever is played after them
puts_anew : (i : ℕ) (texts : List (List ℕ)) (blanks : ℕ) (rest : List Op) (s : PlayedScreen) → puts (rows_anew i texts blanks ++ rest) s ≤ length texts + puts rest (play_all (rows_anew i texts blanks) s)
puts_anew i [] zero rest s = omega arith
puts_anew i [] (suc b) rest s = let more = puts_anew (i + 1) [] b rest (play_all (GoTo 0 i ∷ ClearRow ∷ []) s) in omega (arith, more)
puts_anew i (t ∷ ts) b rest s =
    let one = one_put t (rows_anew (i + 1) ts b ++ rest) (play_all (GoTo 0 i ∷ ClearRow ∷ []) s) in
    let more = puts_anew (i + 1) ts b rest (play_all (GoTo 0 i ∷ ClearRow ∷ Put t ∷ []) s) in
    omega (arith, one, more)

-- the rows that an append has changed, and a prompt row that is another one than before, are its drawing
pub append_draws : (c : Control) (text : List ℕ) (search_mark : ℕ) (s : Settings) → keeps_rows_with c text ≡ true → 1 ≤ c.rows → (let new : Control = record c { text = c.text ++ text; search_mark = search_mark; settings = s } in (let drawing : Drawing = Append (first_changed c) (length (text_rows c)) in IsPlainDrawing (ops_of_step drawing c new) drawing c new))
append_draws c text search_mark s keeps some =
    let new : Control = record c { text = c.text ++ text; search_mark = search_mark; settings = s } in
    let drawing : Drawing = Append (first_changed c) (length (text_rows c)) in
    let n : ℕ = c.rows - 1 in
    let first : ℕ = min (first_changed c - c.mark) (length (shown new)) in
    let count : length (shown new) ≡ min n (length (text_rows new) - c.mark) = omega (arith, length-take n (drop c.mark (all_shown new)), length-drop c.mark (all_shown new), all_there new) in
    let same : take first (shown c) ≡ take first (shown new) = agree_shown (all_shown c) (all_shown new) (first_changed c) c.mark n first (rows_stay c text keeps) (omega arith) (omega (arith, count)) in
    let rows : List Op = append_ops first (length (shown c)) (shown new) in
    let kept : min (first_changed c) (length (all_shown c)) ≡ min (first_changed c) (length (all_shown new)) = omega (arith, ap length (rows_stay c text keeps), length-take (first_changed c) (all_shown c), length-take (first_changed c) (all_shown new)) in
    let old_count : length (shown c) ≡ min n (length (text_rows c) - c.mark) = omega (arith, length-take n (drop c.mark (all_shown c)), length-drop c.mark (all_shown c), all_there c) in
    let past : length (shown new) < first_changed c - c.mark → length (shown c) ≤ length (shown new) = λ l. omega (arith, l, kept, count, old_count, all_there c, all_there new) in
    let were : length (shown c) ≡ min (length (text_rows c) - c.mark) n = omega (arith, old_count) in
    let near : rows ≡ append_from new (first_changed c) (length (text_rows c)) =
    append_near (first_changed c - c.mark) (length (shown c)) (shown new) past ∙ ap (λ (k : ℕ). append_ops (first_changed c - c.mark) k (shown new)) were in
    let prompt : List Op = changed_prompt c new in
    let screen : PlayedScreen = screen_of (plain c) in
    let pages : List ShownPage = plain c ∷ plain new ∷ [] in
    let drawn = append_shows_lem c.rows first (shown c) (shown new) (prompt_row c) (shown_fits c some) (shown_fits new some) (omega arith) same in
    let then_prompt = next_prompt_shows c.rows (shown new) (prompt_row c) (prompt_row new) (shown_fits new some) in
    let all : Shows (play_all prompt (play_all rows screen)) (plain new) = draws_from prompt (page_of c.rows (shown new) (prompt_row c)) (plain new) (play_all rows screen) then_prompt drawn in
    let none = next_prompt_puts c.rows (prompt_row c) (prompt_row new) (play_all rows screen) (length-play_all rows screen ∙ page_size c some) some in
    let few = puts_anew first (drop first (shown new)) (length (shown c) - max first (length (shown new))) prompt screen in
    subst (λ (ops : List Op). IsPlainDrawing (ops ++ prompt) drawing c new) near record {
      shows = subst (λ (s : PlayedScreen). Shows s (plain new)) (sym (play_all-append rows prompt screen)) all;
      clean = IsClean-append pages rows prompt (IsClean-changed pages c.rows first (length (shown c)) (shown new) (prompt_row new) (1, omega arith, refl)) (next_prompt_clean pages c.rows (prompt_row c) (prompt_row new) (prompt_there c new));
      cursor = cursor_shown-append rows prompt false ∙ ap (cursor_shown prompt) (cursor_stays-append first (length (shown c)) (shown new) false) ∙ next_prompt_cursor c.rows (prompt_row c) (prompt_row new) false;
      few = omega (arith, few, none, count, length-drop first (shown new));
      asked = λ e. absurd (let drawn : Append (first_changed c) (length (text_rows c)) ≡ LastRow Prompt = e in cc);
      none = λ q same. absurd (let drawn : Append (first_changed c) (length (text_rows c)) ≡ Nothing = q in cc);
    }
