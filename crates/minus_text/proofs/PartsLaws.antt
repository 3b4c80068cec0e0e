-- Laws on the pieces of a part, found front by front.
use Rattle.std.proofs.Common.{◌≡◌, ℕ, ◌-◌, ◌<◌, List, [], ◌∷◌, ◌++◌, length, map, chars, arith, refl, sym, ap, ◌∙◌, append_assoc, inl, inr}
use Rattle.std.specs.List.{concat, sum_by}
use Rattle.std.specs.Str.{IsUtf8, encode_utf8_all}
use Rattle.std.proofs.lemmas.List.{append-nil, length-append, map-append, nil_from_length}
use Rattle.std.proofs.lemmas.Bool.{cases_lt}
use Rattle.std.proofs.lemmas.Str.{chars-nil, IsUtf8-nil}
use Rattle.minus_text.specs.Units.{units, unit_len, unit_columns}
use Rattle.minus_text.specs.Runs.{AreRuns}
use Rattle.minus_text.specs.TheRuns.{the_runs}
use Rattle.minus_text.specs.Fronts.{fits_front, front_rule}
use Rattle.minus_text.specs.Pieces.{Piece, fronts, with_spaces}
use Rattle.minus_text.specs.declared.pieces.Measured.{Measured}
use Rattle.minus_text.specs.MeasuredPieces.{measure, SplitsFront}
use Rattle.minus_text.proofs.CutsLaws.{cuts-nil}
use Rattle.minus_text.proofs.StretchesLaws.{text_split}

-- a body with no spaces after it
abbrev pub bare : List (List ℕ) → Piece
bare b = record { body = b; spaces = 0 }

-- a body with the last spaces of a word
abbrev pub spaced : List (List ℕ) → ℕ → Piece
spaced b n = record { body = b; spaces = n }

pub with_spaces-push : (bs : List (List (List ℕ))) (b : List (List ℕ)) (n : ℕ) → with_spaces (bs ++ b ∷ []) n ≡ map bare bs ++ spaced b n ∷ []
with_spaces-push [] b n = refl
with_spaces-push (x ∷ []) b n = refl
with_spaces-push (x ∷ y ∷ bs) b n = ap (λ ps. bare x ∷ ps) (with_spaces-push (y ∷ bs) b n)

-- the fronts found so far, and what was added for them
pub record PartSoFar (cols : ℕ) (all rest : List ℕ) (old items : List Measured) (size left : ℕ) : Type 0 where
  pub done : List (List (List ℕ))
  pub whole : (more : List (List (List ℕ))) → AreRuns (fits_front cols) (units rest) more → AreRuns (fits_front cols) (units all) (done ++ more)
  pub added : items ≡ old ++ map measure (map bare done)
  pub begun : 0 < length done → 0 < left
  pub none : done ≡ [] → rest ≡ all

-- what a front measures
pub measure_front : (cols : ℕ) (rest more : List ℕ) (width len n : ℕ) → IsUtf8 rest → IsUtf8 more → (h : SplitsFront cols (chars rest) width (chars more)) → len ≡ length rest - length more
    → measure (spaced h.front n) ≡ record { len = len; width = width; spaces = n }
measure_front cols rest more width len n u v h e =
    let all : rest ≡ encode_utf8_all (concat h.front) ++ more = text_split rest more (concat h.front) u v h.joins in
    let bytes : length (encode_utf8_all (concat h.front)) ≡ len = omega (arith, ap length all, length-append (encode_utf8_all (concat h.front)) more) in
    same_measure (length (encode_utf8_all (concat h.front))) len (sum_by unit_columns h.front) width n bytes (sym h.columns)
  where
    same_measure : (a b c d n : ℕ) → a ≡ b → c ≡ d → (let m : Measured = record { len = a; width = c; spaces = n } in m) ≡ record { len = b; width = d; spaces = n }
    same_measure a b c d n e f = rw (e, f) refl

-- one more front
pub part_more : (cols : ℕ) (all : List ℕ) (rest more : List ℕ) (old items news : List Measured) (width len size left left' : ℕ) → IsUtf8 rest → IsUtf8 more
    → PartSoFar cols all (chars rest) old items size left → (h : SplitsFront cols (chars rest) width (chars more)) → len ≡ length rest - length more
    → news ≡ items ++ record { len = len; width = width; spaces = 0 } ∷ [] → 0 < left' → PartSoFar cols all (chars more) old news size left'
part_more cols all rest more old items news width len size left left' u v s h e pushed some =
    let one = measure_front cols rest more width len 0 u v h e in
    let next : (ms : List (List (List ℕ))) → AreRuns (fits_front cols) (units (chars more)) ms → AreRuns (fits_front cols) (units all) ((s.done ++ h.front ∷ []) ++ ms) =
    λ ms k. let w = s.whole (h.front ∷ ms) (units (chars more), h.first, h.run, k) in rw (← append_assoc s.done (h.front ∷ []) ms) at w in
    record {
      done = s.done ++ h.front ∷ [];
      whole = next;
      added = pushed ∙ ap (λ ms. ms ++ record { len = len; width = width; spaces = 0 } ∷ []) s.added ∙ append_assoc old (map measure (map bare s.done)) (record { len = len; width = width; spaces = 0 } ∷ [])
          ∙ ap (λ ms. old ++ ms) (ap (λ m. map measure (map bare s.done) ++ m ∷ []) (sym one) ∙ sym (ap (map measure) (map-append bare s.done (h.front ∷ [])) ∙ map-append measure (map bare s.done) (bare h.front ∷ [])));
      begun = λ l. some;
      none = λ z. absurd (nothing s.done h.front z);
    }
  where
    nothing : (xs : List (List (List ℕ))) (x : List (List ℕ)) → xs ++ x ∷ [] ≡ [] → ⊥
    nothing [] x z = cc
    nothing (y ∷ xs) x z = cc

-- the last front of a part has the spaces
pub part_last : (cols : ℕ) (all : List ℕ) (rest more : List ℕ) (old items news : List Measured) (width len spaces size left : ℕ) → IsUtf8 rest → IsUtf8 more
    → PartSoFar cols all (chars rest) old items size left → (h : SplitsFront cols (chars rest) width (chars more)) → len ≡ length rest - length more → chars more ≡ []
    → news ≡ items ++ record { len = len; width = width; spaces = spaces } ∷ [] → news ≡ old ++ map measure (with_spaces (fronts cols all) spaces)
part_last cols all rest more old items news width len spaces size left u v s h e none pushed =
    let one = measure_front cols rest more width len spaces u v h e in
    let ended : units (chars more) ≡ [] = rw none (cuts-nil unit_len) in
    let runs : AreRuns (fits_front cols) (units all) (s.done ++ h.front ∷ []) = s.whole (h.front ∷ []) (units (chars more), h.first, h.run, ended) in
    let is : s.done ++ h.front ∷ [] ≡ fronts cols all = (the_runs (fits_front cols) (front_rule cols) (units all)).only (s.done ++ h.front ∷ []) runs in
    pushed ∙ ap (λ ms. ms ++ record { len = len; width = width; spaces = spaces } ∷ []) s.added ∙ append_assoc old (map measure (map bare s.done)) (record { len = len; width = width; spaces = spaces } ∷ [])
    ∙ ap (λ ms. old ++ ms) (ap (λ m. map measure (map bare s.done) ++ m ∷ []) (sym one) ∙ sym (map-append measure (map bare s.done) (spaced h.front spaces ∷ [])) ∙ ap (map measure) (sym (with_spaces-push s.done h.front spaces) ∙ ap (λ bs. with_spaces bs spaces) is))

-- an empty part has an empty body
pub part_empty : (cols : ℕ) (all : List ℕ) (old items news : List Measured) (width len spaces : ℕ) → all ≡ [] → items ≡ old → width ≡ 0 → len ≡ 0
    → news ≡ items ++ record { len = len; width = width; spaces = spaces } ∷ [] → news ≡ old ++ map measure (with_spaces (fronts cols all) spaces)
part_empty cols all old items news width len spaces e f w l pushed =
    let nil : units all ≡ [] = rw e (cuts-nil unit_len) in
    let is : [] ≡ fronts cols all = (the_runs (fits_front cols) (front_rule cols) (units all)).only [] nil in
    pushed ∙ ap (λ ms. ms ++ record { len = len; width = width; spaces = spaces } ∷ []) f ∙ ap (λ ms. old ++ ms) (zeros ∙ ap (λ bs. map measure (with_spaces bs spaces)) is)
  where
    zeros : (let m : Measured = record { len = len; width = width; spaces = spaces } in m) ∷ [] ≡ record { len = 0; width = 0; spaces = spaces } ∷ []
    zeros = rw (w, l) refl

-- the last front of a part, or the empty body of an empty part
pub part_end : (cols : ℕ) (all : List ℕ) (rest more : List ℕ) (old items news : List Measured) (width len spaces size : ℕ) → IsUtf8 rest → length more ≡ 0
    → PartSoFar cols all (chars rest) old items size (length rest) → (0 < length rest → SplitsFront cols (chars rest) width (chars more)) → (length rest ≡ 0 → width ≡ 0) → len ≡ length rest - length more
    → news ≡ items ++ record { len = len; width = width; spaces = spaces } ∷ [] → news ≡ old ++ map measure (with_spaces (fronts cols all) spaces)
part_end cols all rest more old items news width len spaces size u z s front none e pushed =
    let ended : more ≡ [] = nil_from_length more z in
    elim (cases_lt 0 (length rest)) [
      | inl some ↦ part_last cols all rest more old items news width len spaces size (length rest) u (rw ended IsUtf8-nil) s (front some) e (ap chars ended ∙ chars-nil) pushed
      | inr l ↦
          let empty : length rest ≡ 0 = omega arith in
          let nothing : s.done ≡ [] = nil_from_length s.done (no_front s.done (λ h. let k = s.begun h in omega arith)) in
          let all_is : all ≡ [] = sym (s.none nothing) ∙ ap chars (nil_from_length rest empty) ∙ chars-nil in
          let items_is : items ≡ old = s.added ∙ ap (λ bs. old ++ map measure (map bare bs)) nothing ∙ append-nil old in
          part_empty cols all old items news width len spaces all_is items_is (none empty) (omega arith) pushed
    ]
  where
    no_front : (xs : List (List (List ℕ))) → (0 < length xs → ⊥) → length xs ≡ 0
    no_front [] h = refl
    no_front (x ∷ xs) h = absurd (h (omega arith))
