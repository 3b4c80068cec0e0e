-- What stands in front of printed rows, and one row more.
use Rattle.std.proofs.Common.{◌≡◌, ℕ, List, [], ◌∷◌, ◌++◌, length, drop, take, ◌∙◌, ap}
use Rattle.std.specs.Io.{StartsWith}
use Rattle.std.proofs.KnownBytes.{starts_with_rest}
use Rattle.std.proofs.lemmas.Grind.{flat_map-append}
use Rattle.std.proofs.lemmas.List.{append_assoc, append-nil}
use Rattle.minus_script.specs.Printed.{printed, printed_all}
use Rattle.std.proofs.Math.Seq.{take-append_seam}

-- what begins with some bytes and more begins with these bytes
pub starts_with_front : (new old more : List ℕ) → StartsWith new (old ++ more) → StartsWith new old
starts_with_front new old more h =
    let rest = drop (length (old ++ more)) new in
    ap (λ l. take (length old) l) (starts_with_rest new (old ++ more) h ∙ append_assoc old more rest) ∙ take-append_seam old (more ++ rest)

-- one row more is printed behind the others
pub printed_one_more : (rows : List (List ℕ)) → (row : List ℕ) → printed_all (rows ++ row ∷ []) ≡ printed_all rows ++ printed row
printed_one_more rows row = flat_map-append printed rows (row ∷ []) ∙ ap (λ l. printed_all rows ++ l) (append-nil (printed row))
