-- Markers and escape sequences stand in order in the stripped line, between its characters.
use Rattle.std.proofs.Common.{inl, inr, ◌≡◌, ℕ, suc, ◌+◌, ◌-◌, ◌<◌, ◌≤◌, Bool, true, false, nat_le, List, [], ◌∷◌, ◌++◌, map, length, drop, get_or, slice_range, refl, sym, ap, ◌∙◌, subst, arith, append_assoc, IsUtf8, IsCharBoundary}
use Rattle.std.proofs.lemmas.Bool.{cases_lt}
use Rattle.std.proofs.lemmas.List.{drop_more, length-append, length-take-le, length-drop}
use Rattle.std.proofs.lemmas.Str.{IsUtf8-append, IsUtf8-between, IsUtf8-drop, IsCharBoundary-at_seam, IsCharBoundary-start}
use Rattle.minus_text.specs.declared.search.escapes.Insert.{Insert}
use Rattle.minus_text.specs.Escapes.{insert_of, inside, outside, CutsText}
use Rattle.minus_text.specs.Highlight.{count_before, before, behind, moved, closed, ordered, reverse_on, reverse_off, put_in, StandIn}
use Rattle.minus_text.proofs.PartedLaws.{cuts_at}

abbrev Inserts : Type 0
Inserts = List (ℕ × List ℕ)

pub stands_at : (text : List ℕ) (at : ℕ) (xs : Inserts) → StandIn text at xs → IsCharBoundary text at
stands_at text at [] h = h
stands_at text at (x ∷ xs) h = h.0

module _ (text : List ℕ) where
  lower : (at p : ℕ) (xs : Inserts) → at ≤ p → IsCharBoundary text at → StandIn text p xs → StandIn text at xs
  lower at p [] le b h = b
  lower at p (x ∷ xs) le b h = let up = h.1 in (b, omega (arith, le, up), h.2)

  early : (at p : ℕ) (es rest : Inserts) → at ≤ p → StandIn text at es → StandIn text p rest → StandIn text at (before p es ++ rest)
  early at p [] rest le h r = lower at p rest le h r
  early at p (e ∷ es) rest le h r =
      elim (cases_lt e.0 p) [
        | inl lt ↦ let f : nat_le p e.0 ≡ false = grind (arith, lt) in let up : e.0 ≤ p = omega (arith, lt) in let one : 1 + count_before p es ≡ suc (count_before p es) = omega arith in rw (f, one) (h.0, h.1, early e.0 p es rest up h.2 r)
        | inr ge ↦ let t : nat_le p e.0 ≡ true = grind (arith, ge) in rw t (lower at p rest le h.0 r)
      ]

  late : (at p : ℕ) (es : Inserts) → IsCharBoundary text p → StandIn text at es → StandIn text p (behind p es)
  late at p [] b h = b
  late at p (e ∷ es) b h =
      elim (cases_lt e.0 p) [
        | inl lt ↦ let f : nat_le p e.0 ≡ false = grind (arith, lt) in let one : 1 + count_before p es ≡ suc (count_before p es) = omega arith in rw (f, one) (late e.0 p es b h.2)
        | inr ge ↦ let t : nat_le p e.0 ≡ true = grind (arith, ge) in rw t (b, ge, h.2)
      ]

  stay : (p : ℕ) (xs rest : Inserts) → StandIn text p rest → StandIn text p (moved p xs ++ rest)
  stay p [] rest h = h
  stay p (x ∷ xs) rest h = (stands_at text p rest h, omega arith, stay p xs rest h)

  ending : (accurate : Bool) (m : ℕ × ℕ) (es rest : Inserts) → m.0 ≤ m.1 → StandIn text m.0 es → StandIn text m.1 rest →
      StandIn text m.0 (closed accurate m.1 (before m.1 es) ++ rest)
  ending true m es rest le h r =
      rw (append_assoc (before m.1 es) ((m.1, reverse_off) ∷ []) rest) (early m.0 m.1 es ((m.1, reverse_off) ∷ rest) le h (stands_at text m.1 rest r, omega arith, r))
  ending false m es rest le h r = (stands_at text m.0 es h, le, stay m.1 (before m.1 es) rest r)

  pub ordered_stand : (accurate : Bool) (at : ℕ) (ms : List (ℕ × ℕ)) (es : Inserts) → CutsText text at ms → StandIn text at es → StandIn text at (ordered accurate ms es)
  ordered_stand accurate at [] es cuts h = h
  ordered_stand accurate at (m ∷ ms) es cuts h =
      let inner = late at m.0 es cuts.2 h in
      let rest = ordered_stand accurate m.1 ms (behind m.1 (behind m.0 es)) cuts.4 (late m.0 m.1 (behind m.0 es) (cuts_at text m.1 ms cuts.4) inner) in
      let end = ending accurate m (behind m.0 es) _ cuts.3 inner rest in
      rw (append_assoc (before m.0 es) ((m.0, reverse_on) ∷ closed accurate m.1 (before m.1 (behind m.0 es))) (ordered accurate ms (behind m.1 (behind m.0 es))))
      (early at m.0 es _ cuts.1 h (cuts.2, omega arith, end))

module _ (line : List ℕ) (utf8 : IsUtf8 line) where
  outside_utf8 : (at : ℕ) (ps : List (ℕ × ℕ)) → CutsText line at ps → IsUtf8 (outside line at ps)
  outside_utf8 at [] h = IsUtf8-drop line at utf8 h
  outside_utf8 at (p ∷ ps) h = IsUtf8-append _ _ (IsUtf8-between line at p.0 utf8 h.1 h.0 h.2) (outside_utf8 p.1 ps h.4)

  pub inside_stand : (whole pre : List ℕ) (b n at : ℕ) (ps : List (ℕ × ℕ)) → whole ≡ pre ++ outside line at ps → n ≡ length pre → b ≤ n → IsCharBoundary whole b → CutsText line at ps →
      StandIn whole b (inside line at n ps)
  inside_stand whole pre b n at [] e size le c h = c
  inside_stand whole pre b n at (p ∷ ps) e size le c h =
      let front = pre ++ slice_range line at p.0 in
      let joined : whole ≡ front ++ outside line p.1 ps = e ∙ sym (append_assoc pre (slice_range line at p.0) (outside line p.1 ps)) in
      let room = length-take-le (p.0 - at) (drop at line) (let d = length-drop at line in omega (arith, d, h.2.0)) in
      let all = length-append pre (slice_range line at p.0) in
      let sized : n + (p.0 - at) ≡ length front = omega (arith, size, room, all) in
      let cut = subst (IsCharBoundary whole) (sym sized) (IsCharBoundary-at_seam whole front (outside line p.1 ps) joined (outside_utf8 p.1 ps h.4)) in
      (c, omega (arith, le), inside_stand whole front (n + (p.0 - at)) (n + (p.0 - at)) p.1 ps joined sized (omega arith) cut h.4)

  pub escapes_stand : (ps : List (ℕ × ℕ)) → CutsText line 0 ps → StandIn (outside line 0 ps) 0 (inside line 0 0 ps)
  escapes_stand ps h =
      inside_stand (outside line 0 ps) [] 0 0 0 ps refl refl (omega arith) (IsCharBoundary-start (outside line 0 ps) (outside_utf8 0 ps h)) h

module _ (text : List ℕ) (puts : List Insert) (i at : ℕ) (d : Insert) (more : i < length puts) where
  abbrev x : ℕ × List ℕ
  x = insert_of (get_or puts i d)

  abbrev rest : Inserts
  rest = map insert_of (drop (i + 1) puts)

  split : map insert_of (drop i puts) ≡ x ∷ rest
  split = ap (map insert_of) (drop_more puts i d more)

  pub stand_here : StandIn text at (map insert_of (drop i puts)) → StandIn text at (x ∷ rest)
  stand_here h = subst (StandIn text at) split h

  pub one_more_put : (out first grown all : List ℕ) → out ++ put_in text at (map insert_of (drop i puts)) ≡ all → first ≡ out ++ slice_range text at x.0 → grown ≡ first ++ x.1 →
      grown ++ put_in text x.0 rest ≡ all
  one_more_put out first grown all inv f g =
      ap (λ l. l ++ put_in text x.0 rest) (g ∙ ap (λ l. l ++ x.1) f)
      ∙ append_assoc (out ++ slice_range text at x.0) x.1 (put_in text x.0 rest)
      ∙ append_assoc out (slice_range text at x.0) (x.1 ++ put_in text x.0 rest)
      ∙ ap (λ l. out ++ put_in text at l) (sym split) ∙ inv
