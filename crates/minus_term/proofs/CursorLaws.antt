-- Whether the cursor is shown after drawings.
use Rattle.std.proofs.Common.{◌≡◌, ℕ, zero, suc, ◌+◌, ◌-◌, leb, nat_eq, min, max, Bool, false, List, [], ◌∷◌, ◌++◌, length, take, drop, refl, ◌∙◌, inl, inr}
use Rattle.std.specs.List.{flat_map}
use Rattle.std.proofs.lemmas.Bool.{cases_Bool}
use Rattle.minus_term.specs.Operations.{Op}
use Rattle.minus_term.specs.CursorShown.{switched, cursor_shown}
use Rattle.minus_term.specs.PageRows.{page_len}
use Rattle.minus_term.specs.FullRedraw.{row_ops, prompt_ops, full_ops}
use Rattle.minus_term.specs.Scroll.{scroll_ops}
use Rattle.minus_term.specs.Append.{rows_anew, append_ops}
use Rattle.minus_term.specs.SearchPrompt.{cursor_ops, edit_ops, closing_ops}

pub cursor_shown-append : (xs ys : List Op) (on : Bool) → cursor_shown (xs ++ ys) on ≡ cursor_shown ys (cursor_shown xs on)
cursor_shown-append [] ys on = refl
cursor_shown-append (op ∷ xs) ys on = cursor_shown-append xs ys (switched op on)

-- rows of text leave it
stays_rows : (texts : List (List ℕ)) (rest : List Op) (on : Bool) → cursor_shown (flat_map row_ops texts ++ rest) on ≡ cursor_shown rest on
stays_rows [] rest on = refl
stays_rows (text ∷ texts) rest on = stays_rows texts rest on

pub cursor_stays-prompt : (rows : ℕ) (prompt : List ℕ) (on : Bool) → cursor_shown (prompt_ops rows prompt) on ≡ on
cursor_stays-prompt rows prompt on = elim (cases_Bool (nat_eq (length prompt) 0)) [
  | inl h ↦ rw h refl
  | inr h ↦ rw h refl
]

pub cursor_stays-full : (rows : ℕ) (shown : List (List ℕ)) (prompt : List ℕ) (on : Bool) → cursor_shown (full_ops rows shown prompt) on ≡ on
cursor_stays-full rows shown prompt on = stays_rows shown (prompt_ops rows prompt) on ∙ cursor_stays-prompt rows prompt on

pub cursor_stays-scroll : (rows from to : ℕ) (shown : List (List ℕ)) (prompt : List ℕ) (on : Bool) → cursor_shown (scroll_ops rows from to shown prompt) on ≡ on
cursor_stays-scroll rows from to shown prompt on = elim (cases_Bool (leb from to)) [
  | inl h ↦ rw h (stays_rows (drop (page_len rows - min (to - from) (page_len rows)) shown) (prompt_ops rows prompt) on ∙ cursor_stays-prompt rows prompt on)
  | inr h ↦ rw h (stays_rows (take (min (from - to) (page_len rows)) shown) (prompt_ops rows prompt) on ∙ cursor_stays-prompt rows prompt on)
]

stays_anew : (i : ℕ) (texts : List (List ℕ)) (blanks : ℕ) (on : Bool) → cursor_shown (rows_anew i texts blanks) on ≡ on
stays_anew i [] zero on = refl
stays_anew i [] (suc blanks) on = stays_anew (i + 1) [] blanks on
stays_anew i (text ∷ texts) blanks on = stays_anew (i + 1) texts blanks on

pub cursor_stays-append : (first were : ℕ) (shown : List (List ℕ)) (on : Bool) → cursor_shown (append_ops first were shown) on ≡ on
cursor_stays-append first were shown on = stays_anew first (drop first shown) (were - max first (length shown)) on

pub cursor_stays-edit : (rows : ℕ) (shown : List (List ℕ)) (typed : List ℕ) (cursor : ℕ) (on : Bool) → cursor_shown (edit_ops rows shown typed cursor) on ≡ on
cursor_stays-edit rows shown typed cursor on = cursor_shown-append (full_ops rows shown typed) (cursor_ops rows cursor) on ∙ cursor_stays-full rows shown typed on

pub cursor_hidden-closing : (rows : ℕ) (shown : List (List ℕ)) (prompt : List ℕ) (on : Bool) → cursor_shown (closing_ops rows shown prompt) on ≡ false
cursor_hidden-closing rows shown prompt on = cursor_stays-full rows shown prompt false
