-- Laws of a text that waits in pieces.
use Rattle.std.proofs.Common.{ℕ, ◌≡◌, List, [], ◌∷◌, ◌++◌, ap, ◌∙◌}
use Rattle.std.specs.List.{concat}
use Rattle.std.proofs.lemmas.List.{append-nil}
use Rattle.std.proofs.lemmas.List.Folds.{concat-append}

-- a piece that is ended is the last of those that are full
pub ended : (pieces : List (List ℕ)) (piece : List ℕ) → concat (pieces ++ piece ∷ []) ++ [] ≡ concat pieces ++ piece
ended pieces piece =
    append-nil (concat (pieces ++ piece ∷ [])) ∙ concat-append pieces (piece ∷ []) ∙ ap (λ bytes. concat pieces ++ bytes) (append-nil piece)
