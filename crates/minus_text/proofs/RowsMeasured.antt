-- Runs of measured pieces.
use Rattle.std.proofs.Common.{◌≡◌, ℕ, ◌+◌, ◌<◌, ◌≤◌, true, nat_le, List, [], ◌∷◌, ◌++◌, length, take, drop, get_or, refl, sym, ap, ◌∙◌, arith, append_assoc, inl, inr}
use Rattle.std.specs.List.{sum_by}
use Rattle.std.proofs.lemmas.Bool.{le-leb, lt-leb, or_left, or_right, or_from, cases_lt}
use Rattle.std.proofs.lemmas.List.{length-append, take_more, drop_more, length-take-le, drop-drop, take-append-drop}
use Rattle.std.proofs.lemmas.List.Sums.{sum_by-append}
use Rattle.std.proofs.Math.Seq.{take-add}
use Rattle.minus_text.specs.declared.rows.Span.{Span}
use Rattle.minus_text.specs.declared.pieces.Measured.{Measured}
use Rattle.minus_text.specs.Runs.{IsRun, AreRuns}
use Rattle.minus_text.specs.MeasuredPieces.{size, measured_columns, end_of, fits_measured, measured_places}

-- the spaces that end a run
abbrev pub gap : List Measured → ℕ
gap [] = 0
gap (p ∷ []) = p.spaces
gap (p ∷ q ∷ ps) = gap (q ∷ ps)

pub gap_push : (ps : List Measured) (p : Measured) → gap (ps ++ p ∷ []) ≡ p.spaces
gap_push [] p = refl
gap_push (a ∷ []) p = refl
gap_push (a ∷ b ∷ ps) p = gap_push (b ∷ ps) p

pub columns_push : (ps : List Measured) (p : Measured) → measured_columns (ps ++ p ∷ []) ≡ (measured_columns ps + gap ps) + p.width
columns_push [] p = omega arith
columns_push (a ∷ []) p = omega arith
columns_push (a ∷ b ∷ ps) p = omega (arith, columns_push (b ∷ ps) p)

pub end_of_push : (at : ℕ) (ps : List Measured) (p : Measured) → end_of at (ps ++ p ∷ []) ≡ (end_of at ps + gap ps) + p.len
end_of_push at [] p = omega arith
end_of_push at (a ∷ []) p = omega arith
end_of_push at (a ∷ b ∷ ps) p = end_of_push (at + size a) (b ∷ ps) p

pub columns_more : (ps : List Measured) (i : ℕ) (d : Measured) → i < length ps → measured_columns (take (i + 1) ps) ≡ (measured_columns (take i ps) + gap (take i ps)) + (get_or ps i d).width
columns_more ps i d l = ap measured_columns (take_more ps i d l) ∙ columns_push (take i ps) (get_or ps i d)

pub gap_more : (ps : List Measured) (i : ℕ) (d : Measured) → i < length ps → gap (take (i + 1) ps) ≡ (get_or ps i d).spaces
gap_more ps i d l = ap gap (take_more ps i d l) ∙ gap_push (take i ps) (get_or ps i d)

pub end_of_more : (at : ℕ) (ps : List Measured) (i : ℕ) (d : Measured) → i < length ps → end_of at (take (i + 1) ps) ≡ (end_of at (take i ps) + gap (take i ps)) + (get_or ps i d).len
end_of_more at ps i d l = ap (end_of at) (take_more ps i d l) ∙ end_of_push at (take i ps) (get_or ps i d)

pub columns_none : (ps : List Measured) (i : ℕ) → i ≡ 0 → measured_columns (take i ps) ≡ 0
columns_none ps i e = rw e refl

pub gap_none : (ps : List Measured) (i : ℕ) → i ≡ 0 → gap (take i ps) ≡ 0
gap_none ps i e = rw e refl

-- pieces that fit by their columns, or are one at most
pub fits_by : (cols : ℕ) (run : List Measured) → (1 < length run → measured_columns run ≤ cols) → fits_measured cols run ≡ true
fits_by cols run h = elim (cases_lt 1 (length run)) [
  | inl l ↦ or_right (nat_le (length run) 1) (nat_le (measured_columns run) cols) (le-leb (measured_columns run) cols (h l))
  | inr l ↦ or_left (nat_le (length run) 1) (nat_le (measured_columns run) cols) (le-leb (length run) 1 (omega arith))
]

-- a front that the next piece does not fit behind is a run
pub run_before : (cols : ℕ) (ps : List Measured) (i : ℕ) (d : Measured) → 0 < i → i < length ps → (1 < i → measured_columns (take i ps) ≤ cols)
    → cols < (measured_columns (take i ps) + gap (take i ps)) + (get_or ps i d).width → IsRun (fits_measured cols) (take i ps) (drop i ps)
run_before cols ps i d some lt fits full =
    let len : length (take i ps) ≡ i = length-take-le i ps (omega arith) in
    let more : List Measured = take i ps ++ get_or ps i d ∷ [] in
    let last : measured_columns more ≡ (measured_columns (take i ps) + gap (take i ps)) + (get_or ps i d).width = columns_push (take i ps) (get_or ps i d) in
    let size_is : length more ≡ length (take i ps) + 1 = length-append (take i ps) (get_or ps i d ∷ []) in
    record {
      some = omega arith;
      fitting = fits_by cols (take i ps) (λ l. fits (omega arith));
      full = rw (drop_more ps i d lt) (or_from (nat_le (length more) 1) (nat_le (measured_columns more) cols) (lt-leb (length more) 1 (omega arith)) (lt-leb (measured_columns more) cols (omega arith)));
    }

-- one more run goes in front of a division of the rest
pub divided_more : (cols at done n : ℕ) (ps : List Measured) (rows : List Span) (end : ℕ)
    → n ≤ length (drop done ps) → IsRun (fits_measured cols) (take n (drop done ps)) (drop n (drop done ps)) → end ≡ end_of at (take n (drop done ps))
    → ((more : List (List Measured)) → AreRuns (fits_measured cols) (drop done ps) more → (runs : List (List Measured)) × AreRuns (fits_measured cols) ps runs × (rows ++ measured_places at more ≡ measured_places 0 runs))
    → (more : List (List Measured)) → AreRuns (fits_measured cols) (drop (done + n) ps) more
    → (runs : List (List Measured)) × AreRuns (fits_measured cols) ps runs × ((rows ++ record { start = at; end = end } ∷ []) ++ measured_places (at + sum_by size (take n (drop done ps))) more ≡ measured_places 0 runs)
divided_more cols at done n ps rows end le run e rest more h =
    let run_here : List Measured = take n (drop done ps) in
    let h2 : AreRuns (fits_measured cols) (drop n (drop done ps)) more = rw (drop-drop n done ps) h in
    let one : AreRuns (fits_measured cols) (drop done ps) (run_here ∷ more) = (drop n (drop done ps), sym (take-append-drop n (drop done ps)), run, h2) in
    let w = rest (run_here ∷ more) one in
    (w.0, w.1, append_assoc rows (record { start = at; end = end } ∷ []) (measured_places (at + sum_by size run_here) more) ∙ ap (λ (x : ℕ). rows ++ record { start = at; end = x } ∷ measured_places (at + sum_by size run_here) more) e ∙ w.2)

-- the bytes of a front of the rest
pub sum_by-take_add : (ps : List Measured) (i n : ℕ) → sum_by size (take (i + n) ps) ≡ sum_by size (take i ps) + sum_by size (take n (drop i ps))
sum_by-take_add ps i n = ap (sum_by size) (take-add i n ps) ∙ sum_by-append size (take i ps) (take n (drop i ps))
