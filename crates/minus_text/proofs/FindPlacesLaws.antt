-- The matches of a pattern, found one after another.
use Rattle.std.proofs.Common.{◌≡◌, ℕ, zero, suc, ◌+◌, ◌-◌, ◌<◌, ◌≤◌, Bool, true, false, cond, eqb, List, [], ◌∷◌, ◌++◌, map, length, Option, None, Some, option_map, refl, sym, ap, ◌∙◌, subst, arith, append_assoc}
use Rattle.std.proofs.lemmas.List.{append-nil, length-append}
use Rattle.std.proofs.lemmas.Option.{none-some, same_Some}
use Rattle.regex_hir.specs.Find.{matches_from, find_after, find_str, Match}
use Rattle.regex_hir.specs.Text.{is_some_and}
use Rattle.regex_hir.specs.Re.{Re}
use Rattle.regex.specs.Patterns.{span}
use Rattle.minus_text.specs.FixedPatterns.{match_places}
use Rattle.minus_text.proofs.MatchPlacesLaws.{match_lies}

-- how many matches there can be behind those that are found
abbrev pub room : List ℕ → List (ℕ × ℕ) → ℕ
room text done = (length text + 1) - length done

-- what is left to find, of which the first is known
pub record IsLeft (re : Re) (text : List ℕ) (done : List (ℕ × ℕ)) (next : Option (ℕ × ℕ)) : Type 0 where
  pub first : Option Match
  pub same_span : next ≡ option_map span first
  pub all : done ++ map span (matches_from (find_str re text) (room text done) first) ≡ match_places re text
  pub fits : (m : Match) → first ≡ Some m → (length text < room text done + m.trace.end) × (m.trace.end ≤ length text)

ends_behind : (re : Re) (text : List ℕ) (i : ℕ) (o : Option Match) (m : Match) → find_str re text i ≡ o → cond (is_some_and o (λ x. eqb x.trace.end i)) (find_str re text (i + 1)) o ≡ Some m → (i < m.trace.end) × (m.trace.end ≤ length text)
ends_behind re text i None m e h = absurd (none-some m h)
ends_behind re text i (Some x) m e h = by_test _ refl h
  where
    by_test : (b : Bool) → eqb x.trace.end i ≡ b → cond b (find_str re text (i + 1)) (Some x) ≡ Some m → (i < m.trace.end) × (m.trace.end ≤ length text)
    by_test true t k = let lies = match_lies re text (i + 1) m k in (omega (arith, lies.0, lies.1), lies.2)
    by_test false t k =
        let lies = match_lies re text i m (e ∙ k) in
        let other : eqb m.trace.end i ≡ false = ap (λ (y : Match). eqb y.trace.end i) (sym (same_Some x m k)) ∙ t in
        (grind (arith, lies.0, lies.1, other), lies.2)

one_more_match : (re : Re) (text : List ℕ) (done : List (ℕ × ℕ)) (m : Match) (n : ℕ) → room text done ≡ n →
    done ++ map span (matches_from (find_str re text) n (Some m)) ≡ match_places re text → length text < n + m.trace.end → m.trace.end ≤ length text →
    (next : Option (ℕ × ℕ)) → next ≡ option_map span (find_after (find_str re text) m.trace.end) → IsLeft re text (done ++ span m ∷ []) next
unfolding matches_from
one_more_match re text done m zero room_is all fits lies next e = absurd (omega (arith, fits, lies))
one_more_match re text done m (suc n) room_is all fits lies next e =
    let longer = length-append done (span m ∷ []) in
    let later : room text (done ++ span m ∷ []) ≡ n = omega (arith, longer, room_is) in
    record {
      first = find_after (find_str re text) m.trace.end;
      same_span = e;
      all = ap (λ k. (done ++ span m ∷ []) ++ map span (matches_from (find_str re text) k (find_after (find_str re text) m.trace.end))) later
          ∙ append_assoc done (span m ∷ []) _ ∙ all;
      fits = λ x h. let behind = ends_behind re text m.trace.end (find_str re text m.trace.end) x refl h in (omega (arith, behind.0, fits, later), behind.1);
    }

some_more : (re : Re) (text : List ℕ) (done : List (ℕ × ℕ)) (p : ℕ × ℕ) (o : Option Match) → Some p ≡ option_map span o →
    done ++ map span (matches_from (find_str re text) (room text done) o) ≡ match_places re text →
    ((m : Match) → o ≡ Some m → (length text < room text done + m.trace.end) × (m.trace.end ≤ length text)) →
    (next : Option (ℕ × ℕ)) → next ≡ option_map span (find_after (find_str re text) p.1) → IsLeft re text (done ++ p ∷ []) next
some_more re text done p None same all fits next e = absurd (none-some p (sym same))
some_more re text done p (Some m) same all fits next e =
    let is : p ≡ span m = same_Some p (span m) same in
    let h = fits m refl in
    subst (λ q. IsLeft re text (done ++ q ∷ []) next) (sym is)
    (one_more_match re text done m (room text done) refl all h.0 h.1 next (e ∙ ap (λ (q : ℕ × ℕ). option_map span (find_after (find_str re text) q.1)) is))

pub more_left : (re : Re) (text : List ℕ) (done : List (ℕ × ℕ)) (p : ℕ × ℕ) → IsLeft re text done (Some p) →
    (next : Option (ℕ × ℕ)) → next ≡ option_map span (find_after (find_str re text) p.1) → IsLeft re text (done ++ p ∷ []) next
more_left re text done p left next e = some_more re text done p left.first left.same_span left.all left.fits next e

no_more : (re : Re) (text : List ℕ) (n : ℕ) (o : Option Match) → None ≡ option_map span o → map span (matches_from (find_str re text) n o) ≡ []
unfolding matches_from
no_more re text zero o e = refl
no_more re text (suc n) None e = refl
no_more re text (suc n) (Some m) e = absurd (none-some (span m) e)

pub none_left : (re : Re) (text : List ℕ) (done : List (ℕ × ℕ)) → IsLeft re text done None → done ≡ match_places re text
none_left re text done left = sym (append-nil done) ∙ ap (λ l. done ++ l) (sym (no_more re text _ left.first left.same_span)) ∙ left.all

none_after : (o x : Option Match) (test : Match → Bool) → None ≡ option_map span o → None ≡ option_map span (cond (is_some_and o test) x o)
none_after None x test e = e
none_after (Some m) x test e = absurd (none-some (span m) e)
