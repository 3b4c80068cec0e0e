-- What is put into a line is its markers and its escape sequences.
use Rattle.std.proofs.Common.{◌≡◌, ℕ, ◌+◌, ◌-◌, ◌≤◌, Bool, true, false, cond, List, [], ◌∷◌, ◌++◌, map, take, length, drop, slice_range, refl, sym, ap, ap₂, ◌∙◌, subst, arith, append_assoc, drop-drop}
use Rattle.std.proofs.lemmas.List.{map-append, take-append-drop, take_at, drop_at, length-append, length-take-le, length-drop}
use Rattle.minus_text.specs.Escapes.{inside, outside, stripped, escapes, escape_places}
use Rattle.minus_text.specs.FixedPatterns.{escape_sequence}
use Rattle.minus_text.specs.Highlight.{before, behind, moved, closed, ordered, reverse_on, reverse_off, put_in, markers, highlighted, line_matches, line_match_places, AreMerged, nothing, of_first, of_second, HighlightsAddMarkersAlone, OnlyMatchesAreHighlighted}
use Rattle.minus_text.proofs.MatchPlacesLaws.{LieIn, places_lie, no_place}

abbrev Inserts : Type 0
Inserts = List (ℕ × List ℕ)

abbrev text_of : ℕ × List ℕ → List ℕ
text_of e = e.1

-- the escape sequences as they are put in: those inside a match stand at its end, unless they stay where they stood
abbrev inner_kept : Bool → ℕ → Inserts → Inserts
inner_kept accurate end inner = cond accurate inner (moved end inner)

abbrev kept : Bool → List (ℕ × ℕ) → Inserts → Inserts
kept accurate [] es = es
kept accurate (m ∷ ms) es = before m.0 es ++ (inner_kept accurate m.1 (before m.1 (behind m.0 es)) ++ kept accurate ms (behind m.1 (behind m.0 es)))

first_seconds : (es xs ys zs : Inserts) → AreMerged xs ys zs → AreMerged xs (es ++ ys) (es ++ zs)
first_seconds [] xs ys zs h = h
first_seconds (e ∷ es) xs ys zs h = of_second e xs (es ++ ys) (es ++ zs) (first_seconds es xs ys zs h)

all_seconds : (es : Inserts) → AreMerged [] es es
all_seconds [] = nothing
all_seconds (e ∷ es) = of_second e [] es es (all_seconds es)

split_both : (p q : ℕ) (es : Inserts) → before p es ++ (before q (behind p es) ++ behind q (behind p es)) ≡ es
split_both p q es = ap (λ l. before p es ++ l) (take-append-drop _ (behind p es)) ∙ take-append-drop _ es

module _ (m : ℕ × ℕ) (es : Inserts) where
  abbrev outer : Inserts
  outer = before m.0 es

  abbrev inner : Inserts
  inner = before m.1 (behind m.0 es)

  abbrev on : ℕ × List ℕ
  on = (m.0, reverse_on)

  abbrev off : ℕ × List ℕ
  off = (m.1, reverse_off)

  merge_here : (accurate : Bool) (xs ys zs : Inserts) → AreMerged xs ys zs →
      AreMerged (on ∷ off ∷ xs) (outer ++ (inner_kept accurate m.1 inner ++ ys)) ((outer ++ on ∷ closed accurate m.1 inner) ++ zs)
  merge_here true xs ys zs h =
      let order = append_assoc outer (on ∷ (inner ++ off ∷ [])) zs ∙ ap (λ l. outer ++ on ∷ l) (append_assoc inner (off ∷ []) zs) in
      subst (AreMerged (on ∷ off ∷ xs) (outer ++ (inner ++ ys))) (sym order)
      (first_seconds outer _ _ _ (of_first on _ _ _ (first_seconds inner _ _ _ (of_first off _ _ _ h))))
  merge_here false xs ys zs h =
      let order = append_assoc outer (on ∷ (off ∷ moved m.1 inner)) zs in
      subst (AreMerged (on ∷ off ∷ xs) (outer ++ (moved m.1 inner ++ ys))) (sym order)
      (first_seconds outer _ _ _ (of_first on _ _ _ (of_first off _ _ _ (first_seconds (moved m.1 inner) _ _ _ h))))

merges : (accurate : Bool) (ms : List (ℕ × ℕ)) (es : Inserts) → AreMerged (markers ms) (kept accurate ms es) (ordered accurate ms es)
merges accurate [] es = all_seconds es
merges accurate (m ∷ ms) es = merge_here m es accurate _ _ _ (merges accurate ms (behind m.1 (behind m.0 es)))

kept_in_place : (ms : List (ℕ × ℕ)) (es : Inserts) → kept true ms es ≡ es
kept_in_place [] es = refl
kept_in_place (m ∷ ms) es =
    ap (λ l. before m.0 es ++ (before m.1 (behind m.0 es) ++ l)) (kept_in_place ms (behind m.1 (behind m.0 es))) ∙ split_both m.0 m.1 es

moved_texts : (end : ℕ) (es : Inserts) → map text_of (moved end es) ≡ map text_of es
moved_texts end [] = refl
moved_texts end (e ∷ es) = ap (λ l. e.1 ∷ l) (moved_texts end es)

inner_texts : (accurate : Bool) (end : ℕ) (es : Inserts) → map text_of (inner_kept accurate end es) ≡ map text_of es
inner_texts true end es = refl
inner_texts false end es = moved_texts end es

kept_texts : (accurate : Bool) (ms : List (ℕ × ℕ)) (es : Inserts) → map text_of (kept accurate ms es) ≡ map text_of es
kept_texts accurate [] es = refl
kept_texts accurate (m ∷ ms) es =
    let outer = before m.0 es in
    let inner = before m.1 (behind m.0 es) in
    let rest = behind m.1 (behind m.0 es) in
    map-append text_of outer (inner_kept accurate m.1 inner ++ kept accurate ms rest)
    ∙ ap (λ l. map text_of outer ++ l)
    (map-append text_of (inner_kept accurate m.1 inner) (kept accurate ms rest)
    ∙ ap₂ ◌++◌ (inner_texts accurate m.1 inner) (kept_texts accurate ms rest)
    ∙ sym (map-append text_of inner rest))
    ∙ sym (map-append text_of outer (inner ++ rest))
    ∙ ap (map text_of) (split_both m.0 m.1 es)

cut_here : (line : List ℕ) (a b : ℕ) → a ≤ b → slice_range line a b ++ drop b line ≡ drop a line
cut_here line a b le =
    let there : a + (b - a) ≡ b = omega (arith, le) in
    ap (λ l. slice_range line a b ++ l) (ap (λ n. drop n line) (sym there) ∙ sym (drop-drop (b - a) a line)) ∙ take-append-drop (b - a) (drop a line)

-- what was taken out of a line, put in where it stood, gives the line
joined : (line whole front : List ℕ) (n at : ℕ) (ps : List (ℕ × ℕ)) → whole ≡ front ++ outside line at ps → n ≡ length front → LieIn (length line) at ps →
    put_in whole n (inside line at n ps) ≡ drop at line
joined line whole front n at [] e size lie = ap (drop n) e ∙ drop_at front (drop at line) n (sym size)
joined line whole front n at (p ∷ ps) e size lie =
    let k = p.0 - at in
    let here = slice_range line at p.0 in
    let rest = outside line p.1 ps in
    let left = length-drop at line in
    let sized : length here ≡ k = length-take-le k (drop at line) (omega (arith, left, lie.1, lie.2)) in
    let back : (n + k) - n ≡ k = omega arith in
    let shown : slice_range whole n (n + k) ≡ here =
    ap (λ i. take i (drop n whole)) back ∙ ap (take k) (ap (drop n) e ∙ drop_at front (here ++ rest) n (sym size)) ∙ take_at here rest k sized in
    let longer = length-append front here in
    let placed : n + k ≡ length (front ++ here) = omega (arith, size, sized, longer) in
    let later = joined line whole (front ++ here) (n + k) p.1 ps (e ∙ sym (append_assoc front here rest)) placed lie.3 in
    ap₂ ◌++◌ shown (ap (λ l. slice_range line p.0 p.1 ++ l) later ∙ cut_here line p.0 p.1 lie.1) ∙ cut_here line at p.0 lie.0

-- a line is its stripped text with its escape sequences put in
line_joins : (line : List ℕ) → put_in (stripped line) 0 (escapes line) ≡ line
unfolding stripped escapes
line_joins line = joined line (stripped line) [] 0 0 (escape_places line) refl refl (places_lie escape_sequence line)

pub adds_markers_alone : HighlightsAddMarkersAlone
adds_markers_alone pattern accurate line = record {
  kept = kept accurate (line_match_places pattern line) (escapes line);
  merged = merges accurate (line_match_places pattern line) (escapes line);
  same_texts = kept_texts accurate (line_match_places pattern line) (escapes line);
  same_line = λ is_accurate.
      ap (λ a. put_in (stripped line) 0 (kept a (line_match_places pattern line) (escapes line))) is_accurate
      ∙ ap (put_in (stripped line) 0) (kept_in_place (line_match_places pattern line) (escapes line)) ∙ line_joins line;
}

pub no_match_no_change : OnlyMatchesAreHighlighted
unfolding highlighted line_matches
no_match_no_change pattern accurate line none =
    let empty : line_match_places pattern line ≡ [] = no_place pattern (stripped line) none in
    ap (λ ms. put_in (stripped line) 0 (ordered accurate ms (escapes line))) empty ∙ line_joins line
