-- One place more of a line that is parted.
use Rattle.std.proofs.Common.{◌≡◌, ℕ, ◌+◌, ◌-◌, ◌<◌, List, [], ◌∷◌, ◌++◌, map, length, drop, get_or, slice_range, sym, ap, ◌∙◌, subst, append_assoc, IsCharBoundary}
use Rattle.std.proofs.lemmas.List.{drop_more, map-append}
use Rattle.minus_text.specs.declared.search.escapes.Insert.{Insert}
use Rattle.minus_text.specs.Escapes.{outside, inside, insert_of, CutsText}

pub cuts_at : (line : List ℕ) (at : ℕ) (ps : List (ℕ × ℕ)) → CutsText line at ps → IsCharBoundary line at
cuts_at line at [] h = h
cuts_at line at (p ∷ ps) h = h.0

module _ (line : List ℕ) (places : List (ℕ × ℕ)) (i at : ℕ) (more : i < length places) where
  abbrev p : ℕ × ℕ
  p = get_or places i (0, 0)

  abbrev rest : List (ℕ × ℕ)
  rest = drop (i + 1) places

  pub cuts_here : CutsText line at (drop i places) → CutsText line at (p ∷ rest)
  cuts_here h = subst (CutsText line at) (drop_more places i (0, 0) more) h

  pub one_more_outside : (text grown : List ℕ) → text ++ outside line at (drop i places) ≡ outside line 0 places → grown ≡ text ++ slice_range line at p.0 →
      grown ++ outside line p.1 rest ≡ outside line 0 places
  one_more_outside text grown inv g =
      ap (λ t. t ++ outside line p.1 rest) g ∙ append_assoc text (slice_range line at p.0) (outside line p.1 rest)
      ∙ ap (λ l. text ++ outside line at l) (sym (drop_more places i (0, 0) more)) ∙ inv

  pub one_more_inside : (before later : ℕ) (found grown : List Insert) (e : Insert) → map insert_of found ++ inside line at before (drop i places) ≡ inside line 0 0 places →
      grown ≡ found ++ e ∷ [] → later ≡ before + (p.0 - at) → insert_of e ≡ (later, slice_range line p.0 p.1) →
      map insert_of grown ++ inside line p.1 later rest ≡ inside line 0 0 places
  one_more_inside before later found grown e inv g place is =
      ap (λ l. map insert_of l ++ inside line p.1 later rest) g
      ∙ ap (λ l. l ++ inside line p.1 later rest) (map-append insert_of found (e ∷ []))
      ∙ append_assoc (map insert_of found) (map insert_of (e ∷ [])) (inside line p.1 later rest)
      ∙ ap (λ x. map insert_of found ++ x ∷ inside line p.1 later rest) is
      ∙ ap (λ n. map insert_of found ++ (n, slice_range line p.0 p.1) ∷ inside line p.1 n rest) place
      ∙ ap (λ l. map insert_of found ++ inside line at before l) (sym (drop_more places i (0, 0) more)) ∙ inv
