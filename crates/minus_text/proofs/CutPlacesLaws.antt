-- Rows of printable ASCII that end at a cut, by the places of their line.
use Rattle.std.proofs.Common.{◌≡◌, ◌≢◌, ℕ, zero, suc, ◌+◌, ◌-◌, ◌<◌, ◌≤◌, ◌&&◌, ◌||◌, Bool, true, false, not, eqb, nat_le, Option, None, Some, IfSome, List, [], ◌∷◌, ◌++◌, length, map, take, drop, get_or, replicate, arith, refl, sym, ap, ◌∙◌, append_assoc, inl, inr}
use Rattle.std.specs.List.{list_all}
use Rattle.std.specs.Char.{is_ascii_alphanumeric}
use Rattle.std.proofs.lemmas.Bool.{cases_Bool, and_parts, and_from, le-leb, leb-true, eqb-true, eq-eqb, ne_eqb, cases_lt}
use Rattle.std.proofs.lemmas.List.{append-nil, length-append, length-drop, length-take-le, drop-drop, drop_all, take-append-drop, drop_more, take_more, get_or-drop}
use Rattle.std.proofs.lemmas.List.Folds.{list_all-append}
use Rattle.minus_text.specs.Plain.{is_printable}
use Rattle.minus_text.specs.Pieces.{pieces, is_space}
use Rattle.minus_text.specs.Hyphens.{part_len_after, begins_alphanumeric}
use Rattle.minus_text.specs.Rows.{line_places}
use Rattle.minus_text.specs.Kept.{moved}
use Rattle.minus_text.specs.LineCuts.{is_behind_joint, is_cut, HasNoCut, HasSpaces, CutsRow}
use Rattle.minus_text.specs.declared.rows.Span.{Span}
use Rattle.minus_text.specs.declared.line_cuts.RowCut.{RowCut}
use Rattle.minus_text.proofs.CutSeamsLaws.{BeginsWord, pieces_seam, joint_seam, wide_seam, IsOnePart}
use Rattle.minus_text.proofs.CutRowLaws.{cut_row, last_row, blank_row}

-- ---- parts of a line

sides_seen : (n : ℕ) (line : List ℕ) → list_all is_printable line ≡ true → (list_all is_printable (take n line) ≡ true) × (list_all is_printable (drop n line) ≡ true)
sides_seen n line h = and_parts (list_all is_printable (take n line)) (list_all is_printable (drop n line)) (sym (list_all-append is_printable (take n line) (drop n line)) ∙ ap (list_all is_printable) (take-append-drop n line) ∙ h)

spaces_between : (n from : ℕ) (line : List ℕ) → from + n ≤ length line → HasSpaces line from (from + n) → drop from line ≡ replicate n 32 ++ drop (from + n) line
spaces_between zero from line few h = ap (λ k. drop k line) (let z : from ≡ from + 0 = omega arith in z)
spaces_between (suc n) from line few h =
    let head : drop from line ≡ get_or line from 0 ∷ drop (from + 1) line = drop_more line from 0 (omega arith) in
    let here : get_or line from 0 ≡ 32 = h from (omega arith) (omega arith) in
    let rest : drop (from + 1) line ≡ replicate n 32 ++ drop ((from + 1) + n) line = spaces_between n (from + 1) line (omega arith) (λ i a b. h i (omega (arith, a)) (omega (arith, b))) in
    head ∙ ap (λ c. c ∷ drop (from + 1) line) here ∙ ap (λ xs. 32 ∷ xs) rest ∙ ap (λ k. 32 ∷ (replicate n 32 ++ drop k line)) (let z : (from + 1) + n ≡ from + suc n = omega arith in z)

-- a text up to an end, and the spaces behind it
by_places : (start end next : ℕ) (line : List ℕ) → start < end → end ≤ next → next ≤ length line → HasSpaces line end next
    → drop start line ≡ ((take ((end - 1) - start) (drop start line) ++ get_or line (end - 1) 0 ∷ []) ++ replicate (next - end) 32) ++ drop next line
by_places start end next line l order within h =
    let m : ℕ = (end - 1) - start in
    let n : ℕ = next - end in
    let sum : end + n ≡ next = omega (arith, order) in
    let here : drop start line ≡ take m (drop start line) ++ drop m (drop start line) = sym (take-append-drop m (drop start line)) in
    let left : drop m (drop start line) ≡ drop (end - 1) line = drop-drop m start line ∙ ap (λ k. drop k line) (let z : start + m ≡ end - 1 = omega (arith, l) in z) in
    let one : drop (end - 1) line ≡ get_or line (end - 1) 0 ∷ drop end line = drop_more line (end - 1) 0 (omega (arith, l, order, within)) ∙ ap (λ k. get_or line (end - 1) 0 ∷ drop k line) (let z : (end - 1) + 1 ≡ end = omega (arith, l) in z) in
    let two : drop end line ≡ replicate n 32 ++ drop next line = spaces_between n end line (omega (arith, sum, within)) (λ i a b. h i a (omega (arith, b, sum))) ∙ ap (λ k. replicate n 32 ++ drop k line) sum in
    here ∙ ap (λ xs. take m (drop start line) ++ xs) (left ∙ one ∙ ap (λ xs. get_or line (end - 1) 0 ∷ xs) two)
    ∙ sym (append_assoc (take m (drop start line)) (get_or line (end - 1) 0 ∷ []) (replicate n 32 ++ drop next line))
    ∙ sym (append_assoc (take m (drop start line) ++ get_or line (end - 1) 0 ∷ []) (replicate n 32) (drop next line))

-- ---- a stretch without cuts is one part

pub no_cut_more : (line : List ℕ) (start place to : ℕ) → 0 < place → is_cut line start place ≡ false → HasNoCut line start place to → HasNoCut line start (place - 1) to
no_cut_more line start place to some here h i a b = elim (cases_lt place i) [
  | inl l ↦ h i l b
  | inr g ↦ let e : place ≡ i = omega (arith, g, a, some) in rw (← e) here
]

or_none : (a b : Bool) → (a || b) ≡ false → (a ≡ false) × (b ≡ false)
or_none true b e = absurd cc
or_none false b e = (refl, e)

begins_at : (m n : ℕ) (line : List ℕ) → n + m ≤ length line → begins_alphanumeric (take m (drop n line)) ≡ true → (0 < m) × (is_ascii_alphanumeric (get_or line n 0) ≡ true)
begins_at zero n line few h = absurd cc
begins_at (suc m) n line few h =
    let head : drop n line ≡ get_or line n 0 ∷ drop (n + 1) line = drop_more line n 0 (omega arith) in
    let on : begins_alphanumeric (take (suc m) (get_or line n 0 ∷ drop (n + 1) line)) ≡ true = rw head at h in
    (omega arith, on)

joint_at : (start n : ℕ) (line : List ℕ) → start + 1 ≤ n → is_ascii_alphanumeric (get_or line (n - 1) 0) ≡ true → get_or line n 0 ≡ 45 → is_ascii_alphanumeric (get_or line (n + 1) 0) ≡ true → is_behind_joint line start (n + 1) ≡ true
joint_at start n line l before hyphen behind =
    let one : (n + 1) - 1 ≡ n = omega arith in
    let two : (n + 1) - 2 ≡ n - 1 = omega arith in
    and_from (nat_le (start + 2) (n + 1)) (eqb (get_or line ((n + 1) - 1) 0) 45 && (is_ascii_alphanumeric (get_or line ((n + 1) - 2) 0) && is_ascii_alphanumeric (get_or line (n + 1) 0))) (le-leb (start + 2) (n + 1) (omega arith))
    (and_from (eqb (get_or line ((n + 1) - 1) 0) 45) (is_ascii_alphanumeric (get_or line ((n + 1) - 2) 0) && is_ascii_alphanumeric (get_or line (n + 1) 0)) (eq-eqb (get_or line ((n + 1) - 1) 0) 45 (ap (λ k. get_or line k 0) one ∙ hyphen))
    (and_from (is_ascii_alphanumeric (get_or line ((n + 1) - 2) 0)) (is_ascii_alphanumeric (get_or line (n + 1) 0)) (ap (λ k. is_ascii_alphanumeric (get_or line k 0)) two ∙ before) behind))

no_joint : (m n start : ℕ) (line : List ℕ) (before : Bool) → n + m ≤ length line → (before ≡ true → (start + 1 ≤ n) × (is_ascii_alphanumeric (get_or line (n - 1) 0) ≡ true)) → start ≤ n
    → ((i : ℕ) → n < i → i < n + m → is_behind_joint line start i ≡ false) → part_len_after before (take m (drop n line)) ≡ m
no_joint zero n start line before few flag order h = refl
no_joint (suc m) n start line before few flag order h =
    let c : ℕ = get_or line n 0 in
    let rest : List ℕ = take m (drop (n + 1) line) in
    let head : drop n line ≡ c ∷ drop (n + 1) line = drop_more line n 0 (omega arith) in
    let back : (n + 1) - 1 ≡ n = omega arith in
    let on : part_len_after (is_ascii_alphanumeric c) rest ≡ m =
    no_joint m (n + 1) start line (is_ascii_alphanumeric c) (omega arith) (λ e. (omega arith, ap (λ k. is_ascii_alphanumeric (get_or line k 0)) back ∙ e)) (omega arith) (λ i a b. h i (omega (arith, a)) (omega (arith, b))) in
    let none : (before && (eqb c 45 && begins_alphanumeric rest)) ≡ false = elim (cases_Bool (before && (eqb c 45 && begins_alphanumeric rest))) [
      | inl t ↦
          let one = and_parts before (eqb c 45 && begins_alphanumeric rest) t in
          let two = and_parts (eqb c 45) (begins_alphanumeric rest) one.1 in
          let behind = begins_at m (n + 1) line (omega arith) two.1 in
          let stands = flag one.0 in
          let yes : is_behind_joint line start (n + 1) ≡ true = joint_at start n line stands.0 stands.1 (eqb-true c 45 two.0) behind.1 in
          let no : is_behind_joint line start (n + 1) ≡ false = h (n + 1) (omega arith) (omega (arith, behind.0)) in
          let both : true ≡ false = sym yes ∙ no in
          absurd cc
      | inr f ↦ f
    ] in
    rw head (rw (none, on) (omega arith))

solid_stretch : (m n : ℕ) (line : List ℕ) → n + m ≤ length line → ((i : ℕ) → n ≤ i → i < n + m → eqb (get_or line i 0) 32 ≡ false) → list_all (λ c. not (is_space c)) (take m (drop n line)) ≡ true
solid_stretch zero n line few h = refl
solid_stretch (suc m) n line few h =
    let head : drop n line ≡ get_or line n 0 ∷ drop (n + 1) line = drop_more line n 0 (omega arith) in
    let rest : list_all (λ c. not (is_space c)) (take m (drop (n + 1) line)) ≡ true = solid_stretch m (n + 1) line (omega arith) (λ i a b. h i (omega (arith, a)) (omega (arith, b))) in
    rw head (rw (h n (omega arith) (omega arith), rest) refl)

part_at : (m n start : ℕ) (line : List ℕ) → list_all is_printable line ≡ true → n + m ≤ length line → start ≤ n → (0 < m → get_or line n 0 ≢ 32) → ((i : ℕ) → n < i → i < n + m → is_cut line start i ≡ false) → IsOnePart (take m (drop n line))
part_at m n start line printable few order first h =
    let size : length (take m (drop n line)) ≡ m = length-take-le m (drop n line) (omega (arith, few, length-drop n line)) in
    let parts_of : (i : ℕ) → n < i → i < n + m → (eqb (get_or line i 0) 32 ≡ false) × (is_behind_joint line start i ≡ false) = λ i a b. or_none (eqb (get_or line i 0) 32) (is_behind_joint line start i) (h i a b) in
    record {
      printable = (sides_seen m (drop n line) ((sides_seen n line printable).1)).0;
      solid = solid_stretch m n line few (λ i a b. elim (cases_Bool (eqb i n)) [
        | inl e ↦ let same : i ≡ n = eqb-true i n e in rw same (ne_eqb (get_or line n 0) 32 (first (omega (arith, b, same))))
        | inr e ↦ (parts_of i (other i e a) b).0
      ]);
      no_joint = no_joint m n start line false few (λ e. absurd cc) order (λ i a b. (parts_of i a b).1) ∙ sym size;
    }
  where
    other : (i : ℕ) → eqb i n ≡ false → n ≤ i → n < i
    other i e l = elim (cases_lt n i) [
      | inl t ↦ t
      | inr f ↦ let same : i ≡ n = omega (arith, f, l) in let yes : eqb i n ≡ true = eq-eqb i n same in let both : true ≡ false = sym yes ∙ e in absurd cc
    ]

-- ---- the row

-- a text, the spaces behind it, and a stretch without cuts that does not fit
cut_at : (cols start next m n : ℕ) (vs : List ℕ) (c : ℕ) (line : List ℕ) → list_all is_printable line ≡ true → next < length line → drop start line ≡ ((vs ++ c ∷ []) ++ replicate n 32) ++ drop next line → (length vs + 1) + n ≡ next - start → c ≢ 32
    → length vs + 1 ≤ cols → m ≤ cols → next + m ≤ length line → IsOnePart (take m (drop next line)) → cols < (next - start) + m
    → (let us : List ℕ = (vs ++ c ∷ []) ++ replicate n 32 in pieces cols (us ++ drop next line) ≡ pieces cols us ++ pieces cols (drop next line))
    → line_places cols (drop start line) ≡ record { start = 0; end = length vs + 1 } ∷ map (moved (next - start)) (line_places cols (drop next line))
cut_at cols start next m n vs c line printable some cut size other fits few within part wide seam =
    let zs : List ℕ = drop next line in
    let ws : List ℕ = take m zs in
    let more : List ℕ = drop m zs in
    let whole : ws ++ more ≡ zs = take-append-drop m zs in
    let us : List ℕ = (vs ++ c ∷ []) ++ replicate n 32 in
    let seen : list_all is_printable (us ++ zs) ≡ true = ap (list_all is_printable) (sym cut) ∙ (sides_seen start line printable).1 in
    let both = and_parts (list_all is_printable us) (list_all is_printable zs) (sym (list_all-append is_printable us zs) ∙ seen) in
    let left : length zs ≡ length line - next = length-drop next line in
    let count : length ws ≡ m = length-take-le m zs (omega (arith, left, within)) in
    let h = cut_row cols n vs c ws more (ne_eqb c 32 other) both.0 (ap (list_all is_printable) whole ∙ both.1) fits (omega (arith, ap length whole, left, some)) part (omega (arith, count, few)) (omega (arith, size, count, wide)) (ap (λ ys. pieces cols (us ++ ys)) whole ∙ seam ∙ ap (λ ys. pieces cols us ++ pieces cols ys) (sym whole)) in
    ap (line_places cols) (cut ∙ ap (λ ys. us ++ ys) (sym whole)) ∙ h
    ∙ ap (λ ys. let s : Span = record { start = 0; end = length vs + 1 } in s ∷ map (moved (length vs + 1 + n)) (line_places cols ys)) whole
    ∙ ap (λ (k : ℕ). let s : Span = record { start = 0; end = length vs + 1 } in s ∷ map (moved k) (line_places cols zs)) size

ends_at : (cols start end next : ℕ) (vs : List ℕ) (line : List ℕ) → length vs + 1 ≡ end - start → line_places cols (drop start line) ≡ record { start = 0; end = length vs + 1 } ∷ map (moved (next - start)) (line_places cols (drop next line))
    → line_places cols (drop start line) ≡ record { start = 0; end = end - start } ∷ map (moved (next - start)) (line_places cols (drop next line))
ends_at cols start end next vs line e h = h ∙ ap (λ (k : ℕ). let s : Span = record { start = 0; end = k } in s ∷ map (moved (next - start)) (line_places cols (drop next line))) e

-- ---- its three ends

-- before the spaces round a place
cut_spaces : (cols start place stop : ℕ) (line : List ℕ) (cut : RowCut) → start < cut.end → cut.end ≤ place → place ≤ cut.next → cut.next < stop → stop ≤ length line → HasSpaces line cut.end cut.next → get_or line (cut.end - 1) 0 ≢ 32 → get_or line cut.next 0 ≢ 32
    → place ≤ start + cols → start + cols < stop → get_or line place 0 ≡ 32 → HasNoCut line start place (start + cols) → CutsRow cols line start cut
cut_spaces cols start place stop line cut l before behind inside within spaces first second most long space none printable =
    let end : ℕ = cut.end in
    let next : ℕ = cut.next in
    let n : ℕ = next - end in
    let c : ℕ = get_or line (end - 1) 0 in
    let vs : List ℕ = take ((end - 1) - start) (drop start line) in
    let us : List ℕ = (vs ++ c ∷ []) ++ replicate n 32 in
    let size : length vs + 1 ≡ end - start = omega (arith, l, length-take-le ((end - 1) - start) (drop start line) (omega (arith, length-drop start line, l, before, behind, inside, within))) in
    let further : place < next = apart place next behind (λ e. second (ap (λ k. get_or line k 0) (sym e) ∙ space)) in
    let m : ℕ = (start + cols + 1) - next in
    let head : drop next line ≡ get_or line next 0 ∷ drop (next + 1) line = drop_more line next 0 (omega (arith, inside, within)) in
    let begins : BeginsWord (drop next line) = rw head (ne_eqb (get_or line next 0) 32 second) in
    let some : 0 < n = omega (arith, before, further) in
    let part : IsOnePart (take m (drop next line)) = part_at m next start line printable (omega (arith, inside, within, long)) (omega (arith, l, before, behind)) (λ z. second) (λ i a b. none i (omega (arith, a, further)) (omega (arith, a, b))) in
    ends_at cols start end next vs line size
    (cut_at cols start next m n vs c line printable (omega (arith, inside, within)) (by_places start end next line l (omega (arith, before, behind)) (omega (arith, inside, within)) spaces) (omega (arith, size, l, before, behind)) first
    (omega (arith, size, before, most)) (omega (arith, further, l, before)) (omega (arith, inside, within, long)) part (omega (arith, further, l, before, behind)) (pieces_seam cols us (drop next line) (inr (last_space n some (vs ++ c ∷ []))) begins))
  where
    apart : (a b : ℕ) → a ≤ b → (a ≡ b → ⊥) → a < b
    apart a b le h = elim (cases_lt a b) [
      | inl t ↦ t
      | inr f ↦ absurd (h (omega (arith, f, le)))
    ]

    replicate_last : (n : ℕ) → 0 < n → (xs : List ℕ) × (replicate n 32 ≡ xs ++ 32 ∷ [])
    replicate_last zero l = absurd (omega arith)
    replicate_last (suc zero) l = ([], refl)
    replicate_last (suc (suc n)) l = let h = replicate_last (suc n) (omega arith) in (32 ∷ h.0, ap (λ ys. 32 ∷ ys) h.1)

    last_space : (n : ℕ) → 0 < n → (xs : List ℕ) → (front : List ℕ) × (xs ++ replicate n 32 ≡ front ++ 32 ∷ [])
    last_space n some xs = let h = replicate_last n some in (xs ++ h.0, ap (λ ys. xs ++ ys) h.1 ∙ sym (append_assoc xs h.0 (32 ∷ [])))

pub cut_spaces_if : (cols start place stop : ℕ) (line : List ℕ) (o : Option RowCut) → IfSome o (λ cut. start < cut.end) → IfSome o (λ cut. cut.end ≤ place) → IfSome o (λ cut. place ≤ cut.next) → IfSome o (λ cut. cut.next < stop) → stop ≤ length line
    → IfSome o (λ cut. HasSpaces line cut.end cut.next) → IfSome o (λ cut. get_or line (cut.end - 1) 0 ≢ 32) → IfSome o (λ cut. get_or line cut.next 0 ≢ 32)
    → place ≤ start + cols → start + cols < stop → get_or line place 0 ≡ 32 → HasNoCut line start place (start + cols) → IfSome o (λ cut. CutsRow cols line start cut)
cut_spaces_if cols start place stop line None l before behind inside within spaces first second most long space none = tt
cut_spaces_if cols start place stop line (Some cut) l before behind inside within spaces first second most long space none = cut_spaces cols start place stop line cut l before behind inside within spaces first second most long space none

-- behind a hyphen between letters or digits
pub cut_joint : (cols start place : ℕ) (line : List ℕ) (cut : RowCut) → cut.end ≡ place → cut.next ≡ place → place ≤ start + cols → start + cols < length line → get_or line place 0 ≢ 32 → is_cut line start place ≡ true → HasNoCut line start place (start + cols) → CutsRow cols line start cut
cut_joint cols start place line cut is_end is_next most long other is none printable =
    let joint : is_behind_joint line start place ≡ true = ap (λ b. b || is_behind_joint line start place) (sym (ne_eqb (get_or line place 0) 32 other)) ∙ is in
    let one = and_parts (nat_le (start + 2) place) (eqb (get_or line (place - 1) 0) 45 && (is_ascii_alphanumeric (get_or line (place - 2) 0) && is_ascii_alphanumeric (get_or line place 0))) joint in
    let two = and_parts (eqb (get_or line (place - 1) 0) 45) (is_ascii_alphanumeric (get_or line (place - 2) 0) && is_ascii_alphanumeric (get_or line place 0)) one.1 in
    let three = and_parts (is_ascii_alphanumeric (get_or line (place - 2) 0)) (is_ascii_alphanumeric (get_or line place 0)) two.1 in
    let l : start + 2 ≤ place = leb-true (start + 2) place one.0 in
    let hyphen : get_or line (place - 1) 0 ≡ 45 = eqb-true (get_or line (place - 1) 0) 45 two.0 in
    let a : ℕ = get_or line (place - 2) 0 in
    let b : ℕ = get_or line place 0 in
    let k : ℕ = (place - 2) - start in
    let front : List ℕ = take k (drop start line) in
    let vs : List ℕ = front ++ a ∷ [] in
    let us : List ℕ = vs ++ 45 ∷ [] in
    let long_front : length front ≡ k = length-take-le k (drop start line) (omega (arith, length-drop start line, most, long)) in
    let size : length vs + 1 ≡ place - start = omega (arith, l, long_front, length-append front (a ∷ [])) in
    let m : ℕ = (start + cols + 1) - place in
    let head : drop place line ≡ b ∷ drop (place + 1) line = drop_more line place 0 (omega (arith, most, long)) in
    let before : take ((place - 1) - start) (drop start line) ≡ vs =
    ap (λ j. take j (drop start line)) (let z : (place - 1) - start ≡ k + 1 = omega (arith, l) in z) ∙ take_more (drop start line) k 0 (omega (arith, length-drop start line, most, long, l))
    ∙ ap (λ x. front ++ x ∷ []) (get_or-drop start line k 0 ∙ ap (λ j. get_or line j 0) (let z : start + k ≡ place - 2 = omega (arith, l) in z)) in
    let cut_is : drop start line ≡ us ++ drop place line =
    by_places start place place line (omega (arith, l)) (omega arith) (omega (arith, most, long)) (λ i x y. absurd (omega (arith, x, y)))
    ∙ ap (λ j. ((take ((place - 1) - start) (drop start line) ++ get_or line (place - 1) 0 ∷ []) ++ replicate j 32) ++ drop place line) (let z : place - place ≡ 0 = omega arith in z)
    ∙ ap (λ xs. xs ++ drop place line) (append-nil (take ((place - 1) - start) (drop start line) ++ get_or line (place - 1) 0 ∷ []))
    ∙ ap (λ xs. (xs ++ get_or line (place - 1) 0 ∷ []) ++ drop place line) before ∙ ap (λ x. (vs ++ x ∷ []) ++ drop place line) hyphen in
    let tied : us ≡ front ++ a ∷ 45 ∷ [] = append_assoc front (a ∷ []) (45 ∷ []) in
    let seam : pieces cols (us ++ drop place line) ≡ pieces cols us ++ pieces cols (drop place line) =
    ap (λ ys. pieces cols (us ++ ys)) head ∙ ap (λ xs. pieces cols (xs ++ b ∷ drop (place + 1) line)) tied ∙ joint_seam cols front a b (drop (place + 1) line) three.0 three.1
    ∙ ap (λ xs. pieces cols xs ++ pieces cols (b ∷ drop (place + 1) line)) (sym tied) ∙ ap (λ ys. pieces cols us ++ pieces cols ys) (sym head) in
    let part : IsOnePart (take m (drop place line)) = part_at m place start line printable (omega (arith, most, long)) (omega (arith, l)) (λ z. other) (λ i x y. none i x (omega (arith, x, y))) in
    let nil : us ++ [] ≡ us = append-nil us in
    let row = cut_at cols start place m 0 vs 45 line printable (omega (arith, most, long)) (cut_is ∙ ap (λ xs. xs ++ drop place line) (sym nil)) (omega (arith, size)) (λ e. absurd (omega (arith, e))) (omega (arith, size, most)) (omega (arith, l)) (omega (arith, most, long)) part (omega (arith, most, l))
    (ap (λ xs. pieces cols (xs ++ drop place line)) nil ∙ seam ∙ ap (λ xs. pieces cols xs ++ pieces cols (drop place line)) (sym nil)) in
    rw (is_end, is_next) (ends_at cols start place place vs line size row)

-- at the last column, inside a part that is too wide
cut_full : (cols start full : ℕ) (line : List ℕ) (cut : RowCut) → cut.end ≡ full → cut.next ≡ full → full ≡ start + cols → 0 < cols → full < length line → get_or line start 0 ≢ 32 → get_or line full 0 ≢ 45 → HasNoCut line start start (start + cols) → CutsRow cols line start cut
cut_full cols start full line cut is_end is_next is_full some long first other none printable =
    let text : List ℕ = drop start line in
    let c : ℕ = get_or line full 0 in
    let d : ℕ = get_or line (full - 1) 0 in
    let vs : List ℕ = take (cols - 1) text in
    let us : List ℕ = vs ++ d ∷ [] in
    let left : length text ≡ length line - start = length-drop start line in
    let size : length vs ≡ cols - 1 = length-take-le (cols - 1) text (omega (arith, left, is_full, long)) in
    let all : take cols text ≡ us =
    ap (λ j. take j text) (let z : cols ≡ (cols - 1) + 1 = omega (arith, some) in z) ∙ take_more text (cols - 1) 0 (omega (arith, left, is_full, long, some))
    ∙ ap (λ x. vs ++ x ∷ []) (get_or-drop start line (cols - 1) 0 ∙ ap (λ j. get_or line j 0) (let z : start + (cols - 1) ≡ full - 1 = omega (arith, is_full, some) in z)) in
    let longer : take (cols + 1) text ≡ us ++ c ∷ [] =
    take_more text cols 0 (omega (arith, left, is_full, long)) ∙ ap (λ xs. xs ++ get_or text cols 0 ∷ []) all ∙ ap (λ x. us ++ x ∷ []) (get_or-drop start line cols 0 ∙ ap (λ j. get_or line j 0) (sym is_full)) in
    let part : IsOnePart us = rw all at (part_at cols start start line printable (omega (arith, is_full, long)) (omega arith) (λ z. first) (λ i a b. none i a (omega (arith, b)))) in
    let part_more : IsOnePart (us ++ c ∷ []) = rw longer at (part_at (cols + 1) start start line printable (omega (arith, is_full, long)) (omega arith) (λ z. first) (λ i a b. none i a (omega (arith, b)))) in
    let head : drop full line ≡ c ∷ drop (full + 1) line = drop_more line full 0 long in
    let seam : pieces cols (us ++ drop full line) ≡ pieces cols us ++ pieces cols (drop full line) =
    ap (λ ys. pieces cols (us ++ ys)) head ∙ wide_seam cols c us (drop (full + 1) line) some (omega (arith, size, some, length-append vs (d ∷ []))) part part_more (ne_eqb c 45 other) ∙ ap (λ ys. pieces cols us ++ pieces cols ys) (sym head) in
    let nil : us ++ [] ≡ us = append-nil us in
    let cut_is : text ≡ us ++ drop full line =
    sym (take-append-drop cols text) ∙ ap (λ xs. xs ++ drop cols text) all ∙ ap (λ xs. us ++ xs) (drop-drop cols start line ∙ ap (λ j. drop j line) (sym is_full)) in
    let behind : IsOnePart (take 1 (drop full line)) = part_at 1 full start line printable (omega (arith, long)) (omega (arith, is_full)) (λ z. not_space full (omega (arith, is_full, some)) (omega (arith, is_full))) (λ i a b. absurd (omega (arith, a, b))) in
    let row = cut_at cols start full 1 0 vs d line printable long (cut_is ∙ ap (λ xs. xs ++ drop full line) (sym nil)) (omega (arith, size, is_full, some)) (solid_end (cols - 1) refl) (omega (arith, size, some)) (omega (arith, some)) (omega (arith, long)) behind (omega (arith, is_full))
    (ap (λ xs. pieces cols (xs ++ drop full line)) nil ∙ seam ∙ ap (λ xs. pieces cols xs ++ pieces cols (drop full line)) (sym nil)) in
    rw (is_end, is_next) (ends_at cols start full full vs line (omega (arith, size, is_full, some)) row)
  where
    not_space : (i : ℕ) → start < i → i ≤ start + cols → get_or line i 0 ≢ 32
    not_space i a b e =
        let no = (or_none (eqb (get_or line i 0) 32) (is_behind_joint line start i) (none i a b)).0 in
        let yes : eqb (get_or line i 0) 32 ≡ true = eq-eqb (get_or line i 0) 32 e in
        let both : true ≡ false = sym yes ∙ no in
        absurd cc

    solid_end : (k : ℕ) → cols - 1 ≡ k → get_or line (full - 1) 0 ≢ 32
    solid_end zero e f = first (ap (λ j. get_or line j 0) (let z : start ≡ full - 1 = omega (arith, is_full, e, some) in z) ∙ f)
    solid_end (suc k) e f = not_space (full - 1) (omega (arith, is_full, e)) (omega (arith, is_full, some)) f

pub cut_full_if : (cols start : ℕ) (line : List ℕ) (o : Option RowCut) → IfSome o (λ cut. cut.end ≡ start + cols) → IfSome o (λ cut. cut.next ≡ start + cols) → IfSome o (λ cut. 0 < cols) → start + cols < length line
    → IfSome o (λ cut. get_or line start 0 ≢ 32) → IfSome o (λ cut. get_or line (start + cols) 0 ≢ 45) → HasNoCut line start start (start + cols) → IfSome o (λ cut. CutsRow cols line start cut)
cut_full_if cols start line None is_end is_next some long first other none = tt
cut_full_if cols start line (Some cut) is_end is_next some long first other none = cut_full cols start (start + cols) line cut is_end is_next refl some long first other none

-- ---- what is left of the line

-- what fits is the last row, without the spaces that end the line
last_places : (cols start end : ℕ) (line : List ℕ) → list_all is_printable line ≡ true → start < end → end ≤ length line → end - start ≤ cols → HasSpaces line end (length line) → get_or line (end - 1) 0 ≢ 32
    → line_places cols (drop start line) ≡ record { start = 0; end = end - start } ∷ []
last_places cols start end line printable l within fits spaces other =
    let n : ℕ = length line - end in
    let c : ℕ = get_or line (end - 1) 0 in
    let vs : List ℕ = take ((end - 1) - start) (drop start line) in
    let us : List ℕ = (vs ++ c ∷ []) ++ replicate n 32 in
    let size : length vs + 1 ≡ end - start = omega (arith, l, length-take-le ((end - 1) - start) (drop start line) (omega (arith, length-drop start line, within))) in
    let none : drop (length line) line ≡ [] = drop_all (length line) line (omega arith) in
    let cut : drop start line ≡ us = by_places start end (length line) line l within (omega arith) spaces ∙ ap (λ xs. us ++ xs) none ∙ append-nil us in
    ap (line_places cols) cut ∙ last_row cols n vs c (ne_eqb c 32 other) (ap (list_all is_printable) (sym cut) ∙ (sides_seen start line printable).1) (omega (arith, size, fits))
    ∙ ap (λ (k : ℕ). let s : Span = record { start = 0; end = k } in s ∷ []) size

-- a line of spaces alone is an empty row
blank_places : (cols : ℕ) (line : List ℕ) → HasSpaces line 0 (length line) → line_places cols line ≡ record { start = 0; end = 0 } ∷ []
blank_places cols line spaces =
    let none : drop (length line) line ≡ [] = drop_all (length line) line (omega arith) in
    let all : line ≡ replicate (length line) 32 = spaces_between (length line) 0 line (omega arith) (λ i a b. spaces i a (omega (arith, b))) ∙ ap (λ k. replicate (length line) 32 ++ drop k line) (let z : 0 + length line ≡ length line = omega arith in z) ∙ ap (λ xs. replicate (length line) 32 ++ xs) none ∙ append-nil (replicate (length line) 32) in
    ap (line_places cols) all ∙ blank_row cols (length line)

-- so what is left is one row
pub left_places : (cols start end : ℕ) (line : List ℕ) → list_all is_printable line ≡ true → start ≤ end → (0 < end → start < end) → end ≤ length line → end - start ≤ cols → HasSpaces line end (length line) → (0 < end → get_or line (end - 1) 0 ≢ 32)
    → line_places cols (drop start line) ≡ record { start = 0; end = end - start } ∷ []
left_places cols start zero line printable order some within fits spaces other =
    let none : start ≡ 0 = omega (arith, order) in
    let here : 0 ≡ 0 - start = omega arith in
    ap (λ k. line_places cols (drop k line)) none ∙ blank_places cols line spaces ∙ ap (λ (k : ℕ). let s : Span = record { start = 0; end = k } in s ∷ []) here
left_places cols start (suc end) line printable order some within fits spaces other = last_places cols start (suc end) line printable (some (omega arith)) within fits spaces (other (omega arith))
