-- How many texts are put.
use Rattle.std.proofs.Common.{◌≡◌, ℕ, ◌+◌, ◌-◌, ◌<◌, ◌≤◌, leb, nat_eq, min, true, List, [], ◌∷◌, ◌++◌, length, set, refl, sym, ap, subst, ◌∙◌, arith, inl, inr, append_assoc}
use Rattle.std.specs.List.{flat_map}
use Rattle.std.proofs.lemmas.Bool.{cases_Bool, le-leb}
use Rattle.std.proofs.lemmas.List.{length-set}
use Rattle.minus_term.specs.Operations.{Op, ClearAll, ClearRow, GoTo, Put, Return, NextRow, HideCursor}
use Rattle.minus_term.specs.FullRedraw.{row_ops, prompt_ops, FullRedrawPutsFew}
use Rattle.minus_term.specs.SearchPrompt.{cursor_ops, edit_ops, EditPutsFew, ClosingPutsFew}
use Rattle.minus_term.specs.PlayedScreen.{PlayedScreen, blank, play, play_all}
use Rattle.minus_term.specs.Puts.{puts}
use Rattle.minus_term.proofs.JoinLaws.{few_of}
use Rattle.minus_term.proofs.PlayLaws.{length-play_all}

-- the prompt's text does not count: it stays in the last row
pub puts-prompt : (rows : ℕ) (prompt : List ℕ) (s : PlayedScreen) → length s.texts ≡ rows → 0 < rows → puts (prompt_ops rows prompt) s ≡ 0
puts-prompt rows prompt s e l =
    let row : ℕ = min rows (length s.texts - 1) in
    let last : leb (length (set s.texts row blank)) (row + 1) ≡ true = le-leb _ _ (omega (arith, length-set s.texts row blank)) in
    elim (cases_Bool (nat_eq (length prompt) 0)) [
      | inl h ↦ rw h refl
      | inr h ↦ rw (h, last) refl
    ]

-- nor where the cursor moves after it
puts-prompt_cursor : (rows : ℕ) (prompt : List ℕ) (cursor : ℕ) (s : PlayedScreen) → length s.texts ≡ rows → 0 < rows → puts (prompt_ops rows prompt ++ cursor_ops rows cursor) s ≡ 0
puts-prompt_cursor rows prompt cursor s e l =
    let row : ℕ = min rows (length s.texts - 1) in
    let last : leb (length (set s.texts row blank)) (row + 1) ≡ true = le-leb _ _ (omega (arith, length-set s.texts row blank)) in
    elim (cases_Bool (nat_eq (length prompt) 0)) [
      | inl h ↦ rw h refl
      | inr h ↦ rw (h, last) refl
    ]

-- rows of text put one text each, whatever follows
puts-rows : (shown : List (List ℕ)) (rest : List Op) (s : PlayedScreen) → puts (flat_map row_ops shown ++ rest) s ≤ length shown + puts rest (play_all (flat_map row_ops shown) s)
puts-rows [] rest s = omega arith
puts-rows (text ∷ texts) rest s =
    let at : PlayedScreen = play Return s in
    let few = few_of (Put text) (NextRow ∷ flat_map row_ops texts ++ rest) at in
    let more = puts-rows texts rest (play NextRow (play (Put text) at)) in
    omega (arith, few, more)

pub full_puts_lem : FullRedrawPutsFew
full_puts_lem rows shown prompt s e l =
    let start : PlayedScreen = play ClearAll (play (GoTo 0 0) s) in
    let front = puts-rows shown (prompt_ops rows prompt) start in
    let size : length (play_all (flat_map row_ops shown) start).texts ≡ rows = length-play_all (flat_map row_ops shown) start ∙ length-play_all (GoTo 0 0 ∷ ClearAll ∷ []) s ∙ e in
    let last = puts-prompt rows prompt (play_all (flat_map row_ops shown) start) size (omega (arith, l)) in
    omega (arith, front, last)

pub edit_puts_lem : EditPutsFew
edit_puts_lem rows shown typed cursor s e l =
    let start : PlayedScreen = play ClearAll (play (GoTo 0 0) s) in
    let front = puts-rows shown (prompt_ops rows typed ++ cursor_ops rows cursor) start in
    let size : length (play_all (flat_map row_ops shown) start).texts ≡ rows = length-play_all (flat_map row_ops shown) start ∙ length-play_all (GoTo 0 0 ∷ ClearAll ∷ []) s ∙ e in
    let last = puts-prompt_cursor rows typed cursor (play_all (flat_map row_ops shown) start) size (omega (arith, l)) in
    let same : edit_ops rows shown typed cursor ≡ GoTo 0 0 ∷ ClearAll ∷ (flat_map row_ops shown ++ (prompt_ops rows typed ++ cursor_ops rows cursor)) = ap (λ (ops : List Op). GoTo 0 0 ∷ ClearAll ∷ ops) (append_assoc (flat_map row_ops shown) (prompt_ops rows typed) (cursor_ops rows cursor)) in
    subst (λ (ops : List Op). puts ops s ≤ length shown) (sym same) (omega (arith, front, last))

pub closing_puts_lem : ClosingPutsFew
closing_puts_lem rows shown prompt s e l =
    let start : List Op = GoTo 0 rows ∷ ClearRow ∷ HideCursor ∷ [] in
    let few = full_puts_lem rows shown prompt (play_all start s) (length-play_all start s ∙ e) l in
    omega (arith, few)
