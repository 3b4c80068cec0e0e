-- Rows of text in the bytes of a drawing.
use Rattle.std.proofs.Common.{◌≡◌, ℕ, zero, suc, ◌+◌, ◌<◌, ◌≤◌, List, [], ◌∷◌, ◌++◌, length, take, drop, Option, Some, None, refl, sym, ap, ap₂, ◌∙◌}
use Rattle.std.specs.List.{flat_map, slice_get}
use Rattle.std.proofs.lemmas.List.{take_at, drop_at}
use Rattle.std.proofs.lemmas.List.Concat.{flat_map-append}
use Rattle.minus_term.specs.FullRedraw.{row_ops}
use Rattle.minus_term.specs.Operations.{Op}
use Rattle.minus_term.specs.Written.{written_all}
use Rattle.minus_term.proofs.WrittenLaws.{no_op, ops_added}
use Rattle.minus_state.specs.ShownRow.{before_rows, ended_in}
use Rattle.minus_text.specs.Document.{Document}
use Rattle.minus_state.specs.Writing.{some_row_ops}
use Rattle.minus_state.proofs.ShownLaws.{shown_next}

-- there is no row, and nothing is added
pub none_written : (old : List ℕ) (o : Option (List ℕ)) → None ≡ o → old ≡ old ++ written_all (some_row_ops o)
none_written old o is = no_op old ∙ ap (λ (row : Option (List ℕ)). old ++ written_all (some_row_ops row)) is

-- a row that is there was added
pub row_written : (old new row : List ℕ) (o : Option (List ℕ)) → new ≡ old ++ written_all (row_ops row) → Some row ≡ o → new ≡ old ++ written_all (some_row_ops o)
row_written old new row o e is = e ∙ ap (λ (row : Option (List ℕ)). old ++ written_all (some_row_ops row)) is

-- the text of a row, ended where styles are carried, behind what stands before the text
pub ended_behind : (d : Document) (old text all new : List ℕ) (from : ℕ) → from ≡ length old → all ≡ old ++ text → new ≡ take from all ++ ended_in d (drop from all) → new ≡ old ++ ended_in d text
ended_behind d old text all new from at is e =
    let front : take from all ≡ old = ap (take from) is ∙ take_at old text from (sym at) in
    let rest : drop from all ≡ text = ap (drop from) is ∙ drop_at old text from (sym at) in
    e ∙ ap₂ (λ a b. a ++ ended_in d b) front rest

none_yet : {X : Type 0} (n : ℕ) (xs : List X) → drop n (take n xs) ≡ []
none_yet zero [] = refl
none_yet zero (x ∷ xs) = refl
none_yet (suc n) [] = refl
none_yet (suc n) (x ∷ xs) = none_yet n xs

-- before the first row nothing is added
pub nothing_written : (old : List ℕ) (n : ℕ) (rows : List (List ℕ)) → old ≡ old ++ written_all (flat_map row_ops (drop n (take n rows)))
nothing_written old n rows = no_op old ∙ sym (ap (λ (ts : List (List ℕ)). old ++ written_all (flat_map row_ops ts)) (none_yet n rows))

some_is_flat : (o : Option (List ℕ)) → some_row_ops o ≡ flat_map row_ops (before_rows o [])
some_is_flat None = refl
some_is_flat (Some row) = refl

-- one more row that is there
pub written_next : (rows : List (List ℕ)) (mark n i : ℕ) (old a b : List ℕ) (o : Option (List ℕ)) → n ≤ i → mark + i < length rows
    → a ≡ old ++ written_all (flat_map row_ops (drop n (take i (drop mark rows)))) → o ≡ slice_get rows (mark + i) → b ≡ a ++ written_all (some_row_ops o)
    → b ≡ old ++ written_all (flat_map row_ops (drop n (take (i + 1) (drop mark rows))))
written_next rows mark n i old a b o l there e is g =
    let texts : List (List ℕ) = drop n (take i (drop mark rows)) in
    let joined : flat_map row_ops texts ++ some_row_ops o ≡ flat_map row_ops (texts ++ before_rows o []) = ap (λ (ops : List Op). flat_map row_ops texts ++ ops) (some_is_flat o) ∙ sym (flat_map-append row_ops texts (before_rows o [])) in
    ops_added old a b (flat_map row_ops texts) (some_row_ops o) e g
    ∙ ap (λ (ops : List Op). old ++ written_all ops) joined
    ∙ ap (λ (ts : List (List ℕ)). old ++ written_all (flat_map row_ops ts)) (shown_next rows mark n i texts (texts ++ before_rows o []) o l there refl is refl)
