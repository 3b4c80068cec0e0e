-- What is found in a row that is searched by itself is what the term finds in it alone.
use Rattle.std.proofs.Common.{inl, inr, ◌≡◌, ℕ, ◌+◌, false, List, [], length, None, Some, refl, sym, ap, ◌∙◌, arith}
use Rattle.std.proofs.lemmas.Bool.{cases_Bool}
use Rattle.regex.specs.Patterns.{Re}
use Rattle.minus_text.specs.Document.{rows_of}
use Rattle.minus_text.specs.Escapes.{stripped, escapes, escape_places}
use Rattle.minus_text.specs.Highlight.{highlighted, line_matches, line_match_places, ordered, put_in}
use Rattle.minus_text.specs.Found.{marked}
use Rattle.minus_text.specs.ShownMatches.{reversed_in, highlighted_within, marked_within}
use Rattle.minus_text.specs.RowSearches.{RowsShowTheirMatches, PartsShowTheirMatches}
use Rattle.minus_text.proofs.MatchPlacesLaws.{no_place}
use Rattle.minus_text.proofs.MarkersLaws.{no_match_no_change}
use Rattle.minus_text.proofs.FoundInLaws.{found_of}

-- a row that matches, whole and in some columns
marked_hit : (re : Re) (n : ℕ) (row : List ℕ) → marked (Some (record { row = n; escapes = escape_places row; matches = line_match_places re row; begins = length (line_match_places re row) })) row ≡ highlighted re false row
unfolding highlighted stripped escapes
marked_hit re n row = refl

within_hit : (re : Re) (left width n : ℕ) (row : List ℕ)
    → marked_within left width (Some (record { row = n; escapes = escape_places row; matches = line_match_places re row; begins = length (line_match_places re row) })) row ≡ highlighted_within re left width row
unfolding highlighted_within stripped escapes
within_hit re left width n row = refl

-- one that does not is as it is
within_miss : (re : Re) (left width : ℕ) (row : List ℕ) → line_matches re row ≡ false → row ≡ highlighted_within re left width row
unfolding highlighted_within highlighted line_matches
within_miss re left width row miss =
    let none : line_match_places re row ≡ [] = no_place re (stripped row) miss in
    sym (no_match_no_change re false row miss) ∙ ap (λ ms. put_in (stripped row) 0 (ordered false ms (escapes row))) none
    ∙ sym (ap (λ ms. reversed_in left width (stripped row) ms (escapes row)) none)

pub rows_show : RowsShowTheirMatches
unfolding rows_of
rows_show None d i row off e = refl
rows_show (Some re) d i row off e =
    let at : i ≡ 0 + i = omega arith in
    let here = found_of re 0 (rows_of d) i i row at e in
    rw (off, here) (elim (cases_Bool (line_matches re row)) [
      | inl hit ↦ rw hit (marked_hit re i row)
      | inr miss ↦ rw miss (sym (no_match_no_change re false row miss))
    ])

pub parts_show : PartsShowTheirMatches
unfolding rows_of
parts_show None left width d i row off e = refl
parts_show (Some re) left width d i row off e =
    let at : i ≡ 0 + i = omega arith in
    let here = found_of re 0 (rows_of d) i i row at e in
    rw (off, here) (elim (cases_Bool (line_matches re row)) [
      | inl hit ↦ rw hit (within_hit re left width i row)
      | inr miss ↦ rw miss (within_miss re left width row miss)
    ])
