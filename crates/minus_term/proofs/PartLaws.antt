-- The bytes of the parts of a page's drawing.
use Rattle.std.proofs.Common.{◌≡◌, ℕ, ◌==◌, false, List, [], ◌∷◌, ◌++◌, length, codes, refl, sym, ap, ◌∙◌, arith}
use Rattle.std.proofs.lemmas.List.{append-nil}
use Rattle.minus_term.specs.FullRedraw.{row_ops, prompt_ops}
use Rattle.minus_term.specs.Operations.{Op, ClearAll, ClearRow, GoTo, HideCursor, NextRow, Put, Return, ScrollDown, ScrollUp}
use Rattle.minus_term.specs.Written.{escape, scroll_bytes, written, written_all}
use Rattle.minus_term.proofs.WrittenLaws.{op_added, ops_added, written_all-one}

-- a row's text between what stands before and behind it
pub row_put : (old a b c text : List ℕ) → a ≡ old ++ written_all (Return ∷ []) → b ≡ a ++ text → c ≡ b ++ written_all (NextRow ∷ []) → c ≡ old ++ written_all (row_ops text)
unfolding written
row_put old a b c text e f g = ops_added old b c (Return ∷ Put text ∷ []) (NextRow ∷ []) (op_added old a b (Return ∷ []) (Put text) e f) g

-- a move to a row, and the bytes of what follows
pub at_row : (old a : List ℕ) (row : ℕ) (bytes : List ℕ) (xs : List Op) → a ≡ old ++ (written (GoTo 0 row) ++ bytes) → written_all xs ≡ bytes → a ≡ old ++ written_all (GoTo 0 row ∷ xs)
unfolding written_all
at_row old a row bytes xs e same = e ∙ ap (λ (bs : List ℕ). old ++ (written (GoTo 0 row) ++ bs)) (sym same)

-- the prompt behind what makes its row blank
pub prompt_put : (old a b : List ℕ) (rows : ℕ) (prompt : List ℕ) → a ≡ old ++ written_all (GoTo 0 rows ∷ Return ∷ ClearRow ∷ []) → b ≡ a ++ prompt → b ≡ old ++ written_all (prompt_ops rows prompt)
unfolding written
prompt_put old a b rows [] e f = f ∙ append-nil a ∙ e
prompt_put old a b rows (x ∷ xs) e f =
    let some : (length (x ∷ xs) == 0) ≡ false = grind arith in
    rw some (op_added old a b (GoTo 0 rows ∷ Return ∷ ClearRow ∷ []) (Put (x ∷ xs)) e f)

-- the bytes of what makes a row blank, once the cursor is in it
pub cleared : written_all (ClearRow ∷ []) ≡ escape ++ codes "2K"
unfolding written written_all
cleared = refl

pub cleared_return : written_all (Return ∷ ClearRow ∷ []) ≡ 13 ∷ escape ++ codes "2K"
unfolding written written_all
cleared_return = refl

pub cleared_hidden : written_all (ClearRow ∷ HideCursor ∷ []) ≡ (escape ++ codes "2K") ++ escape ++ codes "?25l"
unfolding written written_all
cleared_hidden = refl

-- the rows were moved
pub scrolled_up : (old a : List ℕ) (k : ℕ) → a ≡ old ++ scroll_bytes k (83 ∷ []) → a ≡ old ++ written_all (ScrollUp k ∷ [])
unfolding written
scrolled_up old a k e = e ∙ ap (λ (bs : List ℕ). old ++ bs) (sym (written_all-one (ScrollUp k)))

pub scrolled_down : (old a : List ℕ) (k : ℕ) → a ≡ old ++ scroll_bytes k (84 ∷ []) → a ≡ old ++ written_all (ScrollDown k ∷ [])
unfolding written
scrolled_down old a k e = e ∙ ap (λ (bs : List ℕ). old ++ bs) (sym (written_all-one (ScrollDown k)))

-- the bytes of what makes each row blank, once the cursor is in the first
pub cleared_all : written_all (ClearAll ∷ []) ≡ escape ++ codes "2J"
unfolding written written_all
cleared_all = refl
