-- The rows of a line of printable ASCII, one cut after another.
use Rattle.std.proofs.Common.{◌≡◌, ℕ, ◌+◌, ◌-◌, ◌≤◌, List, [], ◌∷◌, ◌++◌, length, map, take, drop, arith, refl, sym, ap, ◌∙◌, append_assoc}
use Rattle.std.proofs.lemmas.List.{length-take, take-append-le}
use Rattle.minus_text.specs.Rows.{line_places}
use Rattle.minus_text.specs.Kept.{moved}
use Rattle.minus_text.specs.declared.rows.Span.{Span}
use Rattle.minus_text.specs.declared.line_cuts.RowCut.{RowCut}
use Rattle.minus_text.proofs.SeamLaws.{moved_twice}

pub moved_none : (ss : List Span) → map (moved 0) ss ≡ ss
moved_none [] = refl
moved_none (s ∷ ss) =
    let a : 0 + s.start ≡ s.start = omega arith in
    let b : 0 + s.end ≡ s.end = omega arith in
    rw (a, b) (ap (λ rs. s ∷ rs) (moved_none ss))

-- one more row, and the rows of what follows it
pub cut_more : (cols base start : ℕ) (line : List ℕ) (cut : RowCut) (rows news whole : List Span) → start ≤ cut.end → start ≤ cut.next
    → line_places cols (drop start line) ≡ record { start = 0; end = cut.end - start } ∷ map (moved (cut.next - start)) (line_places cols (drop cut.next line))
    → news ≡ rows ++ record { start = base + start; end = base + cut.end } ∷ []
    → rows ++ map (moved base) (map (moved start) (line_places cols (drop start line))) ≡ whole
    → news ++ map (moved base) (map (moved cut.next) (line_places cols (drop cut.next line))) ≡ whole
cut_more cols base start line cut rows news whole l order h pushed e =
    let rest : List Span = line_places cols (drop cut.next line) in
    let sum : start + (cut.next - start) ≡ cut.next = omega (arith, order) in
    let first : base + start ≡ base + (start + 0) = omega arith in
    let last : base + cut.end ≡ base + (start + (cut.end - start)) = omega (arith, l) in
    let tail : map (moved cut.next) rest ≡ map (moved start) (map (moved (cut.next - start)) rest) = ap (λ n. map (moved n) rest) (sym sum) ∙ sym (moved_twice start (cut.next - start) rest) in
    ap (λ xs. xs ++ map (moved base) (map (moved cut.next) rest)) pushed
    ∙ append_assoc rows (record { start = base + start; end = base + cut.end } ∷ []) (map (moved base) (map (moved cut.next) rest))
    ∙ ap (λ (n : ℕ). let s : Span = record { start = n; end = base + cut.end } in rows ++ (s ∷ map (moved base) (map (moved cut.next) rest))) first
    ∙ ap (λ (n : ℕ). let s : Span = record { start = base + (start + 0); end = n } in rows ++ (s ∷ map (moved base) (map (moved cut.next) rest))) last
    ∙ ap (λ ss. let s : Span = record { start = base + (start + 0); end = base + (start + (cut.end - start)) } in rows ++ (s ∷ map (moved base) ss)) tail
    ∙ ap (λ ss. rows ++ map (moved base) (map (moved start) ss)) (sym h) ∙ e

-- the last row
pub cut_last : (cols base start end : ℕ) (line : List ℕ) (rows news whole : List Span) → start ≤ end
    → line_places cols (drop start line) ≡ record { start = 0; end = end - start } ∷ []
    → news ≡ rows ++ record { start = base + start; end = base + end } ∷ []
    → rows ++ map (moved base) (map (moved start) (line_places cols (drop start line))) ≡ whole
    → news ≡ whole
cut_last cols base start end line rows news whole l h pushed e =
    let first : base + start ≡ base + (start + 0) = omega arith in
    let last : base + end ≡ base + (start + (end - start)) = omega (arith, l) in
    pushed
    ∙ ap (λ (n : ℕ). let s : Span = record { start = n; end = base + end } in rows ++ (s ∷ [])) first
    ∙ ap (λ (n : ℕ). let s : Span = record { start = base + (start + 0); end = n } in rows ++ (s ∷ [])) last
    ∙ ap (λ ss. rows ++ map (moved base) (map (moved start) ss)) (sym h) ∙ e

-- the rows that were there stay
pub kept_more : (old rows news more : List Span) → take (length old) rows ≡ old → news ≡ rows ++ more → take (length old) news ≡ old
kept_more old rows news more h e =
    let size : length (take (length old) rows) ≡ length old = ap length h in
    ap (take (length old)) e ∙ take-append-le (length old) rows more (omega (arith, size, length-take (length old) rows)) ∙ h
