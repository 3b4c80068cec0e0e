-- What is found in a row.
use Rattle.std.proofs.Common.{◌≡◌, ℕ, true, false, cond, eqb, not, List, [], ◌∷◌, length, sym, ap, ◌∙◌}
use Rattle.regex.specs.Patterns.{Re}
use Rattle.minus_text.specs.Escapes.{stripped, escape_places}
use Rattle.minus_text.specs.Highlight.{line_matches, line_match_places}
use Rattle.minus_text.specs.declared.search.found.FoundRow.{FoundRow}
use Rattle.minus_text.specs.Found.{RowMatches, found_in_row}
use Rattle.minus_text.specs.FoundRows.{matches_of}
use Rattle.minus_text.proofs.MatchPlacesLaws.{some_found}

-- a line matches where it has matches
pub matches_where_some : (pattern : Re) (line : List ℕ) → line_matches pattern line ≡ not (eqb (length (line_match_places pattern line)) 0)
unfolding line_matches
matches_where_some pattern line = sym (some_found pattern (stripped line))

module _ (pattern : Re) (n : ℕ) (row : List ℕ) (f : FoundRow) (is : f.row ≡ n) (escapes : f.escapes.items ≡ escape_places row) (matches : f.matches.items ≡ line_match_places pattern row) (begins : f.begins ≡ length (line_match_places pattern row)) where
  pub not_noted : eqb (length f.matches.items) 0 ≡ true → found_in_row pattern n row ≡ []
  not_noted none =
      let no : line_matches pattern row ≡ false = matches_where_some pattern row ∙ ap (λ l. not (eqb (length l) 0)) (sym matches) ∙ ap not none in
      ap (λ b. cond b (record { row = n; escapes = escape_places row; matches = line_match_places pattern row; begins = length (line_match_places pattern row) } ∷ []) []) no

  pub noted : eqb (length f.matches.items) 0 ≡ false → matches_of f ∷ [] ≡ found_in_row pattern n row
  noted some =
      let yes : line_matches pattern row ≡ true = matches_where_some pattern row ∙ ap (λ l. not (eqb (length l) 0)) (sym matches) ∙ ap not some in
      ap (λ k. let r : RowMatches = record { row = k; escapes = f.escapes.items; matches = f.matches.items; begins = f.begins } in r ∷ []) is
      ∙ ap (λ l. let r : RowMatches = record { row = n; escapes = l; matches = f.matches.items; begins = f.begins } in r ∷ []) escapes
      ∙ ap (λ l. let r : RowMatches = record { row = n; escapes = escape_places row; matches = l; begins = f.begins } in r ∷ []) matches
      ∙ ap (λ k. let r : RowMatches = record { row = n; escapes = escape_places row; matches = line_match_places pattern row; begins = k } in r ∷ []) begins
      ∙ sym (ap (λ b. cond b (record { row = n; escapes = escape_places row; matches = line_match_places pattern row; begins = length (line_match_places pattern row) } ∷ []) []) yes)
