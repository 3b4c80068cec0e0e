-- What is found in the rows of a line stands in them, and its rows ascend.
use Rattle.std.proofs.Common.{inl, inr, ◌≡◌, ℕ, zero, suc, ◌+◌, ◌≤◌, ◌==◌, List, [], ◌∷◌, length, refl, subst, arith, ◌-◌, ◌++◌, map, ap, sym, ◌∙◌, IsUtf8}
use Rattle.std.proofs.lemmas.Bool.{cases_Bool}
use Rattle.minus_text.specs.Found.{RowMatches, IsPlaced, IsPlacedIn, ArePlaced, Ascend}
use Rattle.minus_text.specs.LineFinds.{outside_before, between, Stretch, first_start, parts_in, begin_count, finds_in_rows, finds_in_line, finds_in_lines}
use Rattle.regex.specs.Patterns.{Re}
use Rattle.minus_text.specs.Rows.{ArePlaces}
use Rattle.minus_text.specs.declared.rows.Span.{Span}
use Rattle.minus_text.specs.declared.layout.Wrap.{Wrap}
use Rattle.minus_text.specs.Layouts.{own_rows, own_places}
use Rattle.minus_text.specs.Document.{rows_of_lines}
use Rattle.minus_text.specs.Kept.{line_stored}
use Rattle.minus_text.specs.LineSplits.{in_line}
use Rattle.minus_text.proofs.LayoutLaws.{own_places-are}
use Rattle.minus_text.proofs.StoredLaws.{at_front}
use Rattle.minus_text.proofs.PendingLaws.{get_behind}
use Rattle.minus_text.proofs.FindsLaws.{Below, line_below, lines_ascend}
use Rattle.minus_text.proofs.TextFindsLaws.{back}
use Rattle.minus_text.specs.FindsStand.{LineFindsStand}
use Rattle.minus_text.proofs.FoundInLaws.{weaker}
use Rattle.minus_text.proofs.PartsPlacedLaws.{stand_in_row}

-- a row more in front
later_row : (n : ℕ) (x : List ℕ) (rows : List (List ℕ)) (r : RowMatches) → n + 1 ≤ r.row → IsPlacedIn (n + 1) rows r → IsPlacedIn n (x ∷ rows) r
later_row n x rows r le h zero row e g = absurd (omega (arith, le, e))
later_row n x rows r le h (suc i) row e g = h i row (omega (arith, e)) g

shift : (n m : ℕ) (x : List ℕ) (rows : List (List ℕ)) (found : List RowMatches) → n + 1 ≤ m → Ascend m found → ArePlaced (n + 1) rows found → ArePlaced n (x ∷ rows) found
shift n m x rows [] le up h = tt
shift n m x rows (r ∷ rs) le up h =
    let here = up.0 in
    (later_row n x rows r (omega (arith, le, here)) h.0, shift n (r.row + 1) x rows rs (omega (arith, le, here)) up.1 h.1)

here_row : (n : ℕ) (x : List ℕ) (rows : List (List ℕ)) (r : RowMatches) → r.row ≡ n → IsPlaced x r → IsPlacedIn n (x ∷ rows) r
here_row n x rows r is h zero row e g = let same : x ≡ row = cc in subst (λ t. IsPlaced t r) same h
here_row n x rows r is h (suc i) row e g = absurd (omega (arith, is, e))

-- the rows of a line
pub line_stands : LineFindsStand
line_stands line [] [] n es ms utf8 places ces cms = record { placed = tt; ascend = tt }
line_stands line [] (x ∷ rows) n es ms utf8 places ces cms = absurd places
line_stands line (s ∷ ss) [] n es ms utf8 places ces cms = absurd places
line_stands line (s ∷ ss) (x ∷ rows) n es ms utf8 places ces cms =
    let more = line_stands line ss rows (n + 1) es ms utf8 places.1 ces cms in
    let r : Stretch = record { start = outside_before 0 es s.start; end = outside_before 0 es s.end; next = first_start es ss } in
    let one : RowMatches = record { row = n; escapes = between s.start s.end es; matches = parts_in r ms; begins = begin_count r ms } in
    let rest = finds_in_rows (n + 1) es ms ss in
    let behind = shift n (n + 1) x rows rest (omega arith) more.ascend more.placed in
    elim (cases_Bool (length (parts_in r ms) == 0)) [
      | inl none ↦ rw none (record { placed = behind; ascend = weaker n (n + 1) rest (omega arith) more.ascend })
      | inr some ↦
          let stands : IsPlaced x one = stand_in_row line x s es ms r refl refl utf8 places.0 ces cms in
          rw some (record { placed = (here_row n x rows one refl stands, behind); ascend = (omega arith, more.ascend) })
    ]

-- ---- the rows of lines

pub front_placed : (n : ℕ) (xs ys : List (List ℕ)) (found : List RowMatches) → Below (n + length xs) found → ArePlaced n xs found → ArePlaced n (xs ++ ys) found
front_placed n xs ys [] low h = tt
front_placed n xs ys (r ∷ rs) low h =
    let few = low.0 in
    ((λ i row e g. h.0 i row e (sym (at_front xs ys i (omega (arith, e, few))) ∙ g)), front_placed n xs ys rs low.1 h.1)

pub back_placed : (n k m : ℕ) (xs ys : List (List ℕ)) (found : List RowMatches) → k ≡ n + length xs → k ≤ m → Ascend m found → ArePlaced k ys found → ArePlaced n (xs ++ ys) found
back_placed n k m xs ys [] is le up h = tt
back_placed n k m xs ys (r ∷ rs) is le up h =
    let from = up.0 in (
      (λ i row e g.
          let past : length xs ≤ i = omega (arith, e, is, le, from) in
          h.0 (i - length xs) row (omega (arith, e, is, past)) (sym (get_behind xs ys i past) ∙ g)),
      back_placed n k (r.row + 1) xs ys rs is (omega (arith, le, from)) up.1 h.1,
    )

placed_both : (n : ℕ) (rows : List (List ℕ)) (xs ys : List RowMatches) → ArePlaced n rows xs → ArePlaced n rows ys → ArePlaced n rows (xs ++ ys)
placed_both n rows [] ys h k = k
placed_both n rows (x ∷ xs) ys h k = (h.0, placed_both n rows xs ys h.1 k)

-- what is found in a line stands in its rows, and so does what is found in the lines behind it
pub one_line_placed : (re : Re) (wrap : Wrap) (n k : ℕ) (line : List ℕ) (more : List (List ℕ)) → k ≡ n + length (own_rows wrap line) → ArePlaced n (own_rows wrap line) (finds_in_line re wrap n line)
    → ArePlaced k (rows_of_lines wrap more) (finds_in_lines re wrap k more) → ArePlaced n (rows_of_lines wrap (line ∷ more)) (finds_in_lines re wrap n (line ∷ more))
one_line_placed re wrap n k line more is here rest =
    let own = own_rows wrap line in
    let later = rows_of_lines wrap more in
    let behind : ArePlaced (n + length own) later (finds_in_lines re wrap (n + length own) more) = subst (λ j. ArePlaced j later (finds_in_lines re wrap j more)) is rest in
    placed_both n (own ++ later) (finds_in_line re wrap n line) (finds_in_lines re wrap (n + length own) more)
    (front_placed n own later (finds_in_line re wrap n line) (line_below re wrap n line) here)
    (back_placed n (n + length own) (n + length own) own later (finds_in_lines re wrap (n + length own) more) refl (omega arith) (lines_ascend re wrap (n + length own) more) behind)

-- the rows of a line are cut out by the places that it has among those of a text
pub own_cut_out : (wrap : Wrap) (at : ℕ) (line : List ℕ) (own : List Span) → IsUtf8 line → own ≡ line_stored wrap at line → ArePlaces line (map (in_line at) own) (own_rows wrap line)
own_cut_out wrap at line own utf8 is = subst (λ ss. ArePlaces line ss (own_rows wrap line)) (sym (ap (map (in_line at)) is ∙ back at (own_places wrap line))) (own_places-are wrap line utf8)
