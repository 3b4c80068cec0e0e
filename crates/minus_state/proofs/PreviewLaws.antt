-- Where a query leads.
use Rattle.std.proofs.Common.{◌≡◌, ℕ, ◌==◌, ◌<◌, List, [], ◌∷◌, length, ltb, Bool, true, false, inl, inr, Option, Some, None, if◌then◌else◌, refl, sym, ap, ◌∙◌, arith}
use Rattle.std.specs.List.{slice_get, position, position_or_len}
use Rattle.std.specs.Option.{unwrap_or}
use Rattle.std.proofs.lemmas.Bool.{cases_Bool, ltb-true, ne_eqb}
use Rattle.regex.specs.Patterns.{Re}
use Rattle.minus_text.specs.Document.{Document}
use Rattle.minus_text.specs.Found.{RowMatches, jump_rows}
use Rattle.minus_text.specs.Finds.{finds}
use Rattle.minus_text.specs.Matches.{counts_first, nearest, nth_match, match_at}
use Rattle.minus_state.specs.Control.{matches_in}
use Rattle.minus_state.proofs.ShownLaws.{row_there}

-- the row of a match, by what was found
pub match_row_is : (query : Re) (d : Document) (found : List RowMatches) (place : ℕ) (row : Option ℕ) → found ≡ finds (Some query) d → row ≡ slice_get (jump_rows found) place → row ≡ slice_get (matches_in (Some query) d) place
match_row_is query d found place row is e = e ∙ ap (λ (fs : List RowMatches). slice_get (jump_rows fs) place) is

position_within : (test : ℕ → Bool) (rows : List ℕ) → 0 < length rows → unwrap_or (position test rows) 0 < length rows
position_within test rows some =
    let at : ℕ = position_or_len test rows in
    elim (cases_Bool (ltb at (length rows))) [
      | inl l ↦ let is : position test rows ≡ Some at = ap (λ (b : Bool). if b then Some at else None) l in rw is (ltb-true at (length rows) l)
      | inr n ↦ let is : position test rows ≡ None = ap (λ (b : Bool). if b then Some at else None) n in rw is some
    ]

some_there : (row : ℕ) (rows : List ℕ) → (length (row ∷ rows) == 0) ≡ false
some_there row rows = ne_eqb (length (row ∷ rows)) 0 (λ e. absurd (omega (arith, e)))

-- no match is gone to where there is none
pub no_match : (rows : List ℕ) (mark : ℕ) → None ≡ match_at rows mark → (length rows == 0) ≡ true
no_match [] mark e = refl
no_match (row ∷ rows) mark e =
    let first : ℕ = nearest (row ∷ rows) mark 0 in
    let place : unwrap_or (nth_match (row ∷ rows) mark 0) 0 ≡ first = ap (λ (b : Bool). unwrap_or (if b then None else Some first) 0) (some_there row rows) in
    absurd (row_there (row ∷ rows) first (position_within (counts_first mark 0) (row ∷ rows) (omega arith)) (e ∙ ap (slice_get (row ∷ rows)) place))

pub some_match : (rows : List ℕ) (mark row : ℕ) → Some row ≡ match_at rows mark → (length rows == 0) ≡ false
some_match [] mark row e = cc
some_match (first ∷ rows) mark row e = some_there first rows
