-- Laws of joined lines and of places in lines.
use Rattle.std.proofs.Common.{◌≡◌, ◌≢◌, ℕ, ◌+◌, ◌-◌, true, false, eqb, List, [], ◌∷◌, ◌++◌, length, map, take, get_or, ◌<◌, append_assoc, refl, sym, subst, ap, ◌∙◌, arith}
use Rattle.std.specs.Str.{IsUtf8, IsCharBoundary}
use Rattle.std.specs.Str.Lines.{lines, strip_carriage_return}
use Rattle.std.proofs.lemmas.Bool.{ne_eqb, eq-eqb}
use Rattle.std.proofs.lemmas.Str.{IsCharBoundary-before_ascii}
use Rattle.std.proofs.lemmas.List.{length-append, get_or_at, get_or-append_right, take_at, take_all, take_more}
use Rattle.minus_text.specs.declared.rows.Span.{Span}
use Rattle.minus_text.specs.declared.formed.Finished.{Finished}
use Rattle.minus_text.specs.declared.formed.Border.{Border}
use Rattle.minus_text.specs.declared.layout.Layout.{Layout}
use Rattle.minus_text.specs.Layouts.{wrap_of}
use Rattle.minus_text.specs.Lines.{Cut, cut, whole, behind}
use Rattle.minus_text.specs.Document.{Document}
use Rattle.minus_text.specs.Kept.{IsFormed}
use Rattle.minus_text.specs.LinePlaces.{with_newlines, joined_lines, last_line_end, row_places}
use Rattle.minus_text.proofs.PlacesLaws.{sides, stripped}

pub joined_first : (text first more : List ℕ) → cut text ≡ behind first (cut more) → joined_lines text ≡ strip_carriage_return first ++ 10 ∷ joined_lines more
unfolding joined_lines
joined_first text first more e = ap (λ (c : Cut). with_newlines (map strip_carriage_return c.closed) c.open_line) e

pub joined_last : (text : List ℕ) → cut text ≡ whole text → joined_lines text ≡ text
unfolding joined_lines
joined_last text e = ap (λ (c : Cut). with_newlines (map strip_carriage_return c.closed) c.open_line) e

-- the rows that are kept are those places
pub formed_places : (text : List ℕ) (layout : Layout) (rows : List Span) (firsts : List ℕ) (finished : Finished) (n : ℕ) (b : Border) (d : Document)
    → (let e : Document = record { text = text; layout = layout } in e) ≡ d → IsFormed text (wrap_of layout (length (lines text))) rows firsts finished n b → rows ≡ row_places d
unfolding row_places
formed_places text layout rows firsts finished n b d v h = subst (λ (x : Document). rows ≡ row_places x) v h.its_rows

-- one line was added
pub one_line_more : (old out named new added line text rest more : List ℕ) → out ++ joined_lines rest ≡ old ++ joined_lines text → cut rest ≡ behind line (cut more) → added ≡ strip_carriage_return line → named ≡ out ++ added → new ≡ named ++ 10 ∷ []
    → new ++ joined_lines more ≡ old ++ joined_lines text
one_line_more old out named new added line text rest more s e a n m =
    let is : new ≡ (out ++ strip_carriage_return line) ++ 10 ∷ [] = m ∙ ap (λ bs. bs ++ 10 ∷ []) (n ∙ ap (λ bs. out ++ bs) a) in
    ap (λ bs. bs ++ joined_lines more) is ∙ append_assoc (out ++ strip_carriage_return line) (10 ∷ []) (joined_lines more) ∙ append_assoc out (strip_carriage_return line) (10 ∷ joined_lines more)
    ∙ ap (λ bs. out ++ bs) (sym (joined_first rest line more e)) ∙ s

-- where the last line ends
pub end_of_finished : (text front : List ℕ) → text ≡ front ++ 10 ∷ [] → last_line_end text ≡ length (strip_carriage_return front)
unfolding last_line_end
end_of_finished text front e =
    let n : length front ≡ length text - 1 = omega (arith, ap length e, length-append front (10 ∷ [])) in
    let last : get_or text (length text - 1) 0 ≡ 10 = ap (λ bs. get_or bs (length text - 1) 0) e ∙ get_or_at front 10 [] 0 (length text - 1) n in
    let before : take (length text - 1) text ≡ front = ap (take (length text - 1)) e ∙ take_at front (10 ∷ []) (length text - 1) n in
    let test : eqb (get_or text (length text - 1) 0) 10 ≡ true = eq-eqb (get_or text (length text - 1) 0) 10 last in
    rw (test, before) refl

last_newline : (text : List ℕ) → ((front : List ℕ) → text ≢ front ++ 10 ∷ []) → get_or text (length text - 1) 0 ≡ 10 → ⊥
last_newline [] none e = absurd (omega (arith, e))
last_newline (b ∷ bs) none e =
    let n : ℕ = length (b ∷ bs) - 1 in
    let last : b ∷ bs ≡ take n (b ∷ bs) ++ get_or (b ∷ bs) n 0 ∷ [] = sym (take_all (n + 1) (b ∷ bs) (omega arith)) ∙ take_more (b ∷ bs) n 0 (omega arith) in
    none (take n (b ∷ bs)) (last ∙ ap (λ x. take n (b ∷ bs) ++ x ∷ []) e)

pub end_of_unfinished : (text : List ℕ) → ((front : List ℕ) → text ≢ front ++ 10 ∷ []) → last_line_end text ≡ length text
unfolding last_line_end
end_of_unfinished text none =
    let test : eqb (get_or text (length text - 1) 0) 10 ≡ false = ne_eqb (get_or text (length text - 1) 0) 10 (last_newline text none) in
    rw test refl

first_is_ascii : (rest : List ℕ) → (0 < length rest → get_or rest 0 0 < 128) → get_or (rest ++ 10 ∷ []) 0 0 < 128
first_is_ascii [] h = omega arith
first_is_ascii (b ∷ bs) h = h (omega arith)

pub boundary_of_finished : (text front : List ℕ) → IsUtf8 text → text ≡ front ++ 10 ∷ [] → IsCharBoundary text (length (strip_carriage_return front))
boundary_of_finished text front u e =
    let line = stripped front (sides front [] (rw e at u)).0 in
    let own : List ℕ = strip_carriage_return front in
    let parted : text ≡ own ++ (line.0 ++ 10 ∷ []) = e ∙ ap (λ bs. bs ++ 10 ∷ []) line.1 ∙ append_assoc own line.0 (10 ∷ []) in
    let size : length text ≡ length own + (length line.0 + 1) = omega (arith, ap length parted, length-append own (line.0 ++ 10 ∷ []), length-append line.0 (10 ∷ [])) in
    let z : length own - length own ≡ 0 = omega arith in
    let here : get_or text (length own) 0 ≡ get_or (line.0 ++ 10 ∷ []) 0 0 =
    ap (λ bs. get_or bs (length own) 0) parted ∙ get_or-append_right own (line.0 ++ 10 ∷ []) (length own) (length own) 0 refl (omega arith) ∙ ap (λ n. get_or (line.0 ++ 10 ∷ []) n 0) z in
    IsCharBoundary-before_ascii text (length own) (omega (arith, size)) (rw here (first_is_ascii line.0 line.2))
