-- A list is divided into such runs in one way.
-- Proofs that the definition of the runs needs: it is a description of what alone meets its relation.
use Rattle.std.proofs.Common.{◌≡◌, ◌+◌, ◌<◌, Bool, true, false, cond, List, [], ◌∷◌, ◌++◌, length, refl, sym, ap, ◌∙◌}
use Rattle.std.proofs.Common.{arith, append_assoc, inl, inr, ◌⊎◌}
use Rattle.std.proofs.lemmas.Bool.{cases_Bool}
use Rattle.std.proofs.lemmas.List.{append_cancel_left, append-nil, length-append}
use Rattle.minus_text.specs.Runs.{IsRun, AreRuns, IsFitRule}

-- of two fronts of a list, one is a front of the other
abbrev pub IsLonger : {X : Type 0} → List X → List X → List X → List X → Type 0
IsLonger {X} r x s y = (z : List X) × (s ≡ r ++ z) × (x ≡ z ++ y)

parts_same : {X : Type 0} (a b : X) (xs ys : List X) → a ∷ xs ≡ b ∷ ys → (a ≡ b) × (xs ≡ ys)
parts_same a b xs ys e = (cc, cc)

-- of two ways to cut a list in two, one has a front that is longer than that of the other, or as long
pub two_fronts : {X : Type 0} (r x s y : List X) → r ++ x ≡ s ++ y → IsLonger r x s y ⊎ IsLonger s y r x
two_fronts [] x s y e = inl (s, refl, e)
two_fronts (a ∷ r) x [] y e = inr (a ∷ r, refl, sym e)
two_fronts (a ∷ r) x (b ∷ s) y e =
    let h = parts_same a b (r ++ x) (s ++ y) e in
    elim (two_fronts r x s y h.1) [
      | inl w ↦ inl (w.0, (let h0 : a ≡ b = h.0 in let w1 : s ≡ r ++ w.0 = w.1 in cc), w.2)
      | inr w ↦ inr (w.0, (let h0 : a ≡ b = h.0 in let w1 : r ≡ s ++ w.0 = w.1 in cc), w.2)
    ]

-- a full run is not a proper front of one that fits
not_longer : {X : Type 0} (fits : List X → Bool) (r x s y z : List X) → IsFitRule fits → IsRun fits r x
    → IsRun fits s y → s ≡ r ++ z → x ≡ z ++ y → r ≡ s
not_longer fits r x s y [] rule hr hs e f = sym (e ∙ append-nil r)
not_longer fits r x s y (p ∷ z) rule hr hs e f =
    let full : fits (r ++ p ∷ []) ≡ false = rw f at hr.full in
    let same : s ≡ (r ++ p ∷ []) ++ z = e ∙ sym (append_assoc r (p ∷ []) z) in
    let whole : fits ((r ++ p ∷ []) ++ z) ≡ true = rw same at hs.fitting in
    let front : fits (r ++ p ∷ []) ≡ true = rule.front (r ++ p ∷ []) z whole in
    let both : true ≡ false = sym front ∙ full in
    cc

same_run : {X : Type 0} (fits : List X → Bool) (r x s y : List X) → IsFitRule fits → IsRun fits r x → IsRun fits s y
    → r ++ x ≡ s ++ y → r ≡ s
same_run fits r x s y rule hr hs e =
    elim (two_fronts r x s y e) [
      | inl w ↦ not_longer fits r x s y w.0 rule hr hs w.1 w.2
      | inr w ↦ sym (not_longer fits s y r x w.0 rule hs hr w.1 w.2)
    ]

none_left : {X : Type 0} (fits : List X → Bool) (xs r x : List X) → xs ≡ [] → xs ≡ r ++ x → IsRun fits r x → ⊥
none_left fits xs r x e f h =
    let l : length r + length x ≡ 0 = sym (length-append r x) ∙ ap length (sym f ∙ e) in
    let some : 0 < length r = h.some in
    omega arith

-- two divisions of a list into runs are the same
pub same_runs :
    {X : Type 0} (fits : List X → Bool) (rule : IsFitRule fits) (xs : List X) (rs ss : List (List X))
    → AreRuns fits xs rs → AreRuns fits xs ss → rs ≡ ss
same_runs fits rule xs [] [] h k = refl
same_runs fits rule xs [] (s ∷ ss) h k = absurd (none_left fits xs s k.0 h k.1 k.2)
same_runs fits rule xs (r ∷ rs) [] h k = absurd (none_left fits xs r h.0 k h.1 h.2)
same_runs fits rule xs (r ∷ rs) (s ∷ ss) h k =
    let e : r ≡ s = same_run fits r h.0 s k.0 rule h.2 k.2 (sym h.1 ∙ k.1) in
    let f : h.0 ≡ k.0 = append_cancel_left s h.0 k.0 (ap (λ t. t ++ h.0) (sym e) ∙ sym h.1 ∙ k.1) in
    let kk : AreRuns fits h.0 ss = rw (← f) at k.3 in
    let t : rs ≡ ss = same_runs fits rule h.0 rs ss h.3 kk in
    cc

-- the runs of a front and of what follows it
runs_from : {X : Type 0} → (List X → Bool) → List X → List X → List (List X)
runs_from fits run [] = run ∷ []
runs_from fits run (x ∷ xs) =
    cond (fits (run ++ x ∷ [])) (runs_from fits (run ++ x ∷ []) xs) (run ∷ runs_from fits (x ∷ []) xs)

runs_from-are : {X : Type 0} (fits : List X → Bool) (rule : IsFitRule fits) (run xs : List X) → 0 < length run
    → fits run ≡ true
    → AreRuns fits (run ++ xs) (runs_from fits run xs)
unfolding runs_from
runs_from-are fits rule run [] some fitting = ([], refl, record { some = some; fitting = fitting; full = tt }, refl)
runs_from-are fits rule run (x ∷ xs) some fitting =
    elim (cases_Bool (fits (run ++ x ∷ []))) [
      | inl e ↦
          let h : AreRuns fits ((run ++ x ∷ []) ++ xs) (runs_from fits (run ++ x ∷ []) xs)
          = runs_from-are fits rule (run ++ x ∷ []) xs (omega (arith, length-append run (x ∷ []))) e in
          rw e (rw (append_assoc run (x ∷ []) xs) at h)
      | inr e ↦
          rw e (
            x ∷ xs,
            refl,
            record { some = some; fitting = fitting; full = e },
            runs_from-are fits rule
                (x ∷ []) xs (omega arith) (rule.one x),
          )
    ]

runs_of : {X : Type 0} → (List X → Bool) → List X → List (List X)
runs_of fits [] = []
runs_of fits (x ∷ xs) = runs_from fits (x ∷ []) xs

runs_of-are : {X : Type 0} (fits : List X → Bool) (rule : IsFitRule fits) (xs : List X) → AreRuns fits xs
    (runs_of fits xs)
unfolding runs_of
runs_of-are fits rule [] = refl
runs_of-are fits rule (x ∷ xs) = runs_from-are fits rule (x ∷ []) xs (omega arith) (rule.one x)

-- there is a division into runs
pub divided : {X : Type 0} (fits : List X → Bool) (rule : IsFitRule fits) (xs : List X) →
    (runs : List (List X)) × AreRuns fits xs runs
divided fits rule xs = (runs_of fits xs, runs_of-are fits rule xs)
