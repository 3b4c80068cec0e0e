-- No body, and no spaces behind.
use Rattle.std.proofs.Common.{◌≡◌, ◌<◌, ◌++◌, ℕ, List, [], ◌∷◌, chars, length, replicate, eqb, rules, arith, refl, sym, ◌∙◌, zero, suc}
use Rattle.std.specs.Str.{IsUtf8}
use Rattle.std.proofs.lemmas.Bool.{eqb-true, eqb-false, ne_eqb}
use Rattle.minus_text.specs.Units.{units}
use Rattle.minus_text.specs.TextUnits.{units_left}
use Rattle.minus_text.proofs.TextUnitsLaws.{none_of, some_left}
use Rattle.minus_text.proofs.units.Units.is_empty.Goals as goal

spaces_alone : (us : List (List ℕ)) (n : ℕ) → us ≡ [] → eqb n 0 ≡ eqb (length (us ++ replicate n (32 ∷ []))) 0
spaces_alone us zero e = rw e refl
spaces_alone us (suc n) e = let xs : List (List ℕ) = replicate n (32 ∷ []) in rw e (ne_eqb (suc n) 0 (λ z. omega (arith, z)) ∙ sym (ne_eqb (suc (length xs)) 0 (λ z. omega (arith, z))))

pub returns-then-is_empty : goal.returns-then-is_empty
unfolding units_left
returns-then-is_empty c =
    let none = eqb-true (length c.args.self.body.now) 0 (sym c.is_empty.ensures ∙ c.if-is_empty.true) in
    spaces_alone (units (chars c.args.self.body.now)) c.args.self.spaces (none_of c.args.self.body.now none)

pub returns-else-is_empty : goal.returns-else-is_empty
unfolding units_left
returns-else-is_empty c =
    let u : IsUtf8 c.args.self.body.now = search rules in
    let body : List ℕ = c.args.self.body.now in
    let n : ℕ = c.args.self.spaces in
    let not_empty = eqb-false (length body) 0 (sym c.is_empty.ensures ∙ c.if-is_empty.false) in
    let some : 0 < length (units (chars body) ++ replicate n (32 ∷ [])) = some_left body n u (omega (arith, not_empty)) in
    c.if-is_empty.false ∙ sym (ne_eqb (length (units (chars body) ++ replicate n (32 ∷ []))) 0 (λ z. omega (arith, some, z)))
