-- The matches of a pattern lie in order, each between two characters.
use Rattle.std.proofs.Common.{◌≡◌, ℕ, zero, suc, ◌+◌, ◌≤◌, Bool, true, false, cond, not, is_some, ◌==◌, List, [], ◌∷◌, ◌++◌, map, length, drop, Option, None, Some, refl, sym, ap, ◌∙◌, arith, true≢false, IsCharBoundary, append_assoc}
use Rattle.std.proofs.lemmas.List.{map-append}
use Rattle.regex_hir.specs.Find.{matches_from, find_after, find_str, Match}
use Rattle.regex_hir.proofs.FindLemmas.{IsFirst-of_first_between}
use Rattle.regex_hir.proofs.MatchesLemmas.{Matches-IsSpan}
use Rattle.std.specs.Bool.{⊤}
use Rattle.regex_hir.specs.Re.{Re}
use Rattle.regex.specs.Patterns.{span}
use Rattle.regex.proofs.ForCallers.{find_str_sound}
use Rattle.minus_text.specs.Escapes.{CutsText}
use Rattle.minus_text.specs.FixedPatterns.{match_places}

-- each place begins no earlier than the one before ends
abbrev pub Ascend : ℕ → List (ℕ × ℕ) → Type 0
Ascend at [] = ⊤
Ascend at (p ∷ ps) = (at ≤ p.0) × Ascend p.1 ps

-- each place begins and ends between characters
abbrev pub EachCuts : List ℕ → List (ℕ × ℕ) → Type 0
EachCuts text [] = ⊤
EachCuts text (p ∷ ps) = (p.0 ≤ p.1) × IsCharBoundary text p.0 × IsCharBoundary text p.1 × EachCuts text ps

either_from : (re : Re) (text : List ℕ) (i : ℕ) (b : Bool) (m : Match) → cond b (find_str re text (i + 1)) (find_str re text i) ≡ Some m → i ≤ m.start
either_from re text i true m e = let h = (find_str_sound re text (i + 1) m e).0 in omega (arith, h)
either_from re text i false m e = (find_str_sound re text i m e).0

after_from : (re : Re) (text : List ℕ) (i : ℕ) (m : Match) → find_after (find_str re text) i ≡ Some m → i ≤ m.start
after_from re text i m e = either_from re text i _ m e

ascends : (re : Re) (text : List ℕ) (n at : ℕ) (o : Option Match) → ((m : Match) → o ≡ Some m → at ≤ m.start) → Ascend at (map span (matches_from (find_str re text) n o))
unfolding matches_from
ascends re text zero at o h = tt
ascends re text (suc n) at None h = tt
ascends re text (suc n) at (Some m) h =
    (h m refl, ascends re text n m.trace.end (find_after (find_str re text) m.trace.end) (after_from re text m.trace.end))

pub places_ascend : (re : Re) (text : List ℕ) → Ascend 0 (match_places re text)
places_ascend re text = ascends re text (length text + 1) 0 (find_str re text 0) (λ m e. omega arith)

pub one_more_cuts : (text : List ℕ) (ps : List (ℕ × ℕ)) (p : ℕ × ℕ) → EachCuts text ps → p.0 ≤ p.1 → IsCharBoundary text p.0 → IsCharBoundary text p.1 → EachCuts text (ps ++ p ∷ [])
one_more_cuts text [] p e o s t = (o, s, t, tt)
one_more_cuts text (q ∷ ps) p e o s t = (e.0, e.1, e.2, one_more_cuts text ps p e.3 o s t)

pub cuts_text : (text : List ℕ) (at : ℕ) (ps : List (ℕ × ℕ)) → IsCharBoundary text at → Ascend at ps → EachCuts text ps → CutsText text at ps
cuts_text text at [] b a e = b
cuts_text text at (p ∷ ps) b a e = (b, a.0, e.1, e.0, cuts_text text p.1 ps e.2 a.1 e.3)

abbrev pub placed : List ℕ → ℕ × ℕ → List ℕ × (ℕ × ℕ)
placed text p = (text, p)

abbrev first_text : List (List ℕ × (ℕ × ℕ)) → List ℕ
first_text [] = []
first_text (x ∷ xs) = x.0

texts_of : (text : List ℕ) (qs : List (ℕ × ℕ)) (x : List ℕ × (ℕ × ℕ)) (before after : List (List ℕ × (ℕ × ℕ))) → map (placed text) qs ≡ before ++ x ∷ after → x.0 ≡ text
texts_of text [] x [] after e = absurd (omega (arith, ap length e))
texts_of text [] x (y ∷ before) after e = absurd (omega (arith, ap length e))
texts_of text (q ∷ qs) x [] after e = sym (ap (λ (l : List (List ℕ × (ℕ × ℕ))). first_text l) e)
texts_of text (q ∷ qs) x (y ∷ before) after e = texts_of text qs x before after (ap (drop 1) e)

-- a place that it yields is one of its text
pub text_of_placed : (text : List ℕ) (ps qs : List (ℕ × ℕ)) (x : List ℕ × (ℕ × ℕ)) (after : List (List ℕ × (ℕ × ℕ))) →
    map (placed text) ps ++ x ∷ after ≡ map (placed text) qs → x.0 ≡ text
text_of_placed text ps qs x after e = texts_of text qs x (map (placed text) ps) after (sym e)

pub begun : (text hay : List ℕ) (items ps qs : List (ℕ × ℕ)) → items ≡ [] → hay ≡ text → ps ≡ qs → map (placed text) items ++ map (placed hay) ps ≡ map (placed text) qs
begun text hay items ps qs none same is = rw (none, same, is) refl

module _ (text : List ℕ) (items more all : List (ℕ × ℕ)) (x : List ℕ × (ℕ × ℕ)) (left later : List (List ℕ × (ℕ × ℕ)))
    (inv : map (placed text) items ++ left ≡ map (placed text) all) (next : left ≡ x ∷ later) where
  pub same_text : x.0 ≡ text
  same_text = text_of_placed text items all x later (ap (λ l. map (placed text) items ++ l) (sym next) ∙ inv)

  pub one_more_found : more ≡ items ++ x.1 ∷ [] → map (placed text) more ++ later ≡ map (placed text) all
  one_more_found grown =
      let one : (x.0, x.1) ≡ placed text x.1 = ap (λ t. (t, x.1)) same_text in
      ap (λ l. map (placed text) l ++ later) grown
      ∙ ap (λ l. l ++ later) (map-append (placed text) items (x.1 ∷ []))
      ∙ append_assoc (map (placed text) items) _ later
      ∙ ap (λ y. map (placed text) items ++ y ∷ later) (sym one)
      ∙ ap (λ l. map (placed text) items ++ l) (sym next) ∙ inv

-- each place begins no earlier than the one before ends, and lies in a text of this size
abbrev pub LieIn : ℕ → ℕ → List (ℕ × ℕ) → Type 0
LieIn size at [] = ⊤
LieIn size at (p ∷ ps) = (at ≤ p.0) × (p.0 ≤ p.1) × (p.1 ≤ size) × LieIn size p.1 ps

abbrev pub LiesBehind : List ℕ → ℕ → Match → Type 0
LiesBehind text i m = (i ≤ m.start) × (m.start ≤ m.trace.end) × (m.trace.end ≤ length text)

pub match_lies : (re : Re) (text : List ℕ) (i : ℕ) (m : Match) → find_str re text i ≡ Some m → LiesBehind text i m
unfolding find_str
match_lies re text i m e =
    let first = IsFirst-of_first_between _ i (length text) m e in
    let ends = Matches-IsSpan text re m.start m.trace.end (find_str_sound re text i m e).1 in
    (first.from, ends.0, omega (arith, ends.1, first.to))

either_lies : (re : Re) (text : List ℕ) (i : ℕ) (b : Bool) (m : Match) → cond b (find_str re text (i + 1)) (find_str re text i) ≡ Some m → LiesBehind text i m
either_lies re text i true m e = let h = match_lies re text (i + 1) m e in (omega (arith, h.0), h.1, h.2)
either_lies re text i false m e = match_lies re text i m e

after_lies : (re : Re) (text : List ℕ) (i : ℕ) (m : Match) → find_after (find_str re text) i ≡ Some m → LiesBehind text i m
after_lies re text i m e = either_lies re text i _ m e

lie : (re : Re) (text : List ℕ) (n at : ℕ) (o : Option Match) → ((m : Match) → o ≡ Some m → LiesBehind text at m) → LieIn (length text) at (map span (matches_from (find_str re text) n o))
unfolding matches_from
lie re text zero at o h = tt
lie re text (suc n) at None h = tt
lie re text (suc n) at (Some m) h =
    let here = h m refl in
    (here.0, here.1, here.2, lie re text n m.trace.end (find_after (find_str re text) m.trace.end) (after_lies re text m.trace.end))

pub places_lie : (re : Re) (text : List ℕ) → LieIn (length text) 0 (match_places re text)
places_lie re text = lie re text (length text + 1) 0 (find_str re text 0) (λ m e. match_lies re text 0 m e)

none_or_some : (f : ℕ → Option Match) (n : ℕ) (o : Option Match) → not (length (map span (matches_from f (suc n) o)) == 0) ≡ is_some o
unfolding matches_from
none_or_some f n None = refl
none_or_some f n (Some m) = grind arith

-- a text has a match where its matches are some
pub some_found : (re : Re) (text : List ℕ) → not (length (match_places re text) == 0) ≡ is_some (find_str re text 0)
some_found re text =
    let more : length text + 1 ≡ suc (length text) = omega arith in
    ap (λ n. not (length (map span (matches_from (find_str re text) n (find_str re text 0))) == 0)) more ∙ none_or_some (find_str re text) (length text) (find_str re text 0)

not_found : (f : ℕ → Option Match) (n : ℕ) (o : Option Match) → is_some o ≡ false → map span (matches_from f n o) ≡ []
unfolding matches_from
not_found f zero o none = refl
not_found f (suc n) None none = refl
not_found f (suc n) (Some m) none = absurd (true≢false none)

-- and where it has none, they are none
pub no_place : (re : Re) (text : List ℕ) → is_some (find_str re text 0) ≡ false → match_places re text ≡ []
no_place re text none = not_found (find_str re text) (length text + 1) (find_str re text 0) none
