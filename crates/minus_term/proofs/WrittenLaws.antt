-- The bytes of lists of operations, and clean lists.
use Rattle.std.proofs.Common.{◌≡◌, ℕ, ◌+◌, ◌-◌, ◌<◌, ◌==◌, Bool, false, if◌then◌else◌, List, [], ◌∷◌, ◌++◌, length, get_or, map, take, drop, decimal, refl, sym, ap, ◌∙◌, subst, append_assoc, inl, inr, arith}
use Rattle.std.specs.List.{Contains}
use Rattle.std.proofs.lemmas.Grind.{flat_map-append}
use Rattle.std.proofs.lemmas.List.{append-nil, map_more, take_rest}
use Rattle.minus_term.specs.Operations.{Op, ClearAll, ClearRow, GoTo, Return, NextRow, Put, ScrollUp, ScrollDown, ShowCursor, HideCursor}
use Rattle.minus_term.specs.PlayedScreen.{ShownPage}
use Rattle.minus_term.specs.Written.{escape, scroll_bytes, written, written_all, IsCleanOp, IsClean}

-- no operations have no bytes
pub written_all-nil : written_all [] ≡ []
unfolding written_all
written_all-nil = refl

-- the bytes of a list of operations after another come after that one's
pub written_all-append : (xs ys : List Op) → written_all (xs ++ ys) ≡ written_all xs ++ written_all ys
unfolding written_all
written_all-append xs ys = flat_map-append written xs ys

-- the bytes of one operation
pub written_all-one : (op : Op) → written_all (op ∷ []) ≡ written op
unfolding written_all
written_all-one op = append-nil (written op)

-- clean lists after one another are clean
pub IsClean-append : (pages : List ShownPage) (xs ys : List Op) → IsClean pages xs → IsClean pages ys → IsClean pages (xs ++ ys)
IsClean-append pages [] ys h k = k
IsClean-append pages (x ∷ xs) ys h k = (h.0, IsClean-append pages xs ys h.1 k)

clean_op : (these those : List ShownPage) → ((page : ShownPage) → Contains these page → Contains those page) → (op : Op) → IsCleanOp these op → IsCleanOp those op
clean_op these those more (Put text) (inl h) = inl h
clean_op these those more (Put text) (inr h) = inr (h.0, more h.0 h.1, h.2)
clean_op these those more ClearAll h = tt
clean_op these those more ClearRow h = tt
clean_op these those more (GoTo x y) h = tt
clean_op these those more Return h = tt
clean_op these those more NextRow h = tt
clean_op these those more (ScrollUp n) h = tt
clean_op these those more (ScrollDown n) h = tt
clean_op these those more ShowCursor h = tt
clean_op these those more HideCursor h = tt

-- a list that is clean of some pages is clean of any that contain them
pub IsClean-more : (these those : List ShownPage) → ((page : ShownPage) → Contains these page → Contains those page) → (ops : List Op) → IsClean these ops → IsClean those ops
IsClean-more these those more [] h = tt
IsClean-more these those more (op ∷ ops) h = (clean_op these those more op h.0, IsClean-more these those more ops h.1)

-- three lists after another, as one list
pub append-three : (xs a b c : List ℕ) → xs ++ a ++ b ++ c ≡ xs ++ (a ++ b ++ c ++ [])
append-three xs a b c =
    append_assoc (xs ++ a) b c ∙ append_assoc xs a (b ++ c) ∙ ap (λ (l : List ℕ). xs ++ l) (sym (append-nil (a ++ b ++ c) ∙ append_assoc a b c))

-- the elements from a place on
pub from_place : (xs : List ℕ) (n start : ℕ) → length xs ≡ n → take (n - start) (drop start xs) ≡ drop start xs
from_place xs n start long = subst (λ (m : ℕ). take (m - start) (drop start xs) ≡ drop start xs) long (take_rest xs start)

-- the bytes of a move of the cursor, put together from their end
pub go_to-from_end : (x y column row : ℕ) → column ≡ x → row ≡ y → escape ++ (decimal (row + 1) ++ 59 ∷ (decimal (column + 1) ++ 72 ∷ [])) ≡ written (GoTo x y)
unfolding written
go_to-from_end x y column row is_x is_y =
    let joined = append_assoc (decimal (row + 1) ++ 59 ∷ []) (decimal (column + 1)) (72 ∷ []) ∙ append_assoc (decimal (row + 1)) (59 ∷ []) (decimal (column + 1) ++ 72 ∷ []) in
    ap (λ (l : List ℕ). escape ++ l) (sym joined) ∙ ap (λ (n : ℕ). escape ++ decimal (n + 1) ++ 59 ∷ [] ++ decimal (column + 1) ++ 72 ∷ []) is_y ∙ ap (λ (n : ℕ). escape ++ decimal (y + 1) ++ 59 ∷ [] ++ decimal (n + 1) ++ 72 ∷ []) is_x

-- the bytes of a scroll by some rows
pub scroll_bytes-some : (n m : ℕ) (letter : List ℕ) → m ≡ n → (n ≡ 0 → ⊥) → escape ++ (decimal m ++ letter) ≡ scroll_bytes n letter
scroll_bytes-some n m letter is some =
    let e : (n == 0) ≡ false = grind arith in
    ap (λ (k : ℕ). escape ++ (decimal k ++ letter)) is ∙ sym (ap (λ (b : Bool). if b then [] else escape ++ decimal n ++ letter) e)

-- no operation
pub no_op : (old : List ℕ) → old ≡ old ++ written_all []
no_op old = sym (ap (λ bs. old ++ bs) written_all-nil ∙ append-nil old)

-- more operations
pub ops_added : (old a b : List ℕ) (xs ys : List Op) → a ≡ old ++ written_all xs → b ≡ a ++ written_all ys → b ≡ old ++ written_all (xs ++ ys)
ops_added old a b xs ys e f = f ∙ ap (λ bs. bs ++ written_all ys) e ∙ append_assoc old (written_all xs) (written_all ys) ∙ ap (λ bs. old ++ bs) (sym (written_all-append xs ys))

-- one more operation
pub op_added : (old a b : List ℕ) (xs : List Op) (op : Op) → a ≡ old ++ written_all xs → b ≡ a ++ written op → b ≡ old ++ written_all (xs ++ op ∷ [])
op_added old a b xs op e f = ops_added old a b xs (op ∷ []) e (f ∙ ap (λ bs. a ++ bs) (sym (written_all-one op)))

-- one more operation of a list
pub op_next : {X : Type 0} (f : X → Op) (xs : List X) (i : ℕ) (d : X) (old a b : List ℕ) → i < length xs → a ≡ old ++ written_all (map f (take i xs)) → b ≡ a ++ written (f (get_or xs i d)) → b ≡ old ++ written_all (map f (take (i + 1) xs))
op_next f xs i d old a b l e g = op_added old a b (map f (take i xs)) (f (get_or xs i d)) e g ∙ ap (λ ops. old ++ written_all ops) (sym (map_more f xs i d l))
