-- The blanks, and then the number in bold.
use Rattle.std.proofs.Common.{◌≡◌, ◌-◌, ◌++◌, ◌∷◌, ℕ, List, Bool, true, length, replicate, codes, arith, refl, ap, ◌∙◌, append_assoc}
use Rattle.std.specs.Fmt.{decimal}
use Rattle.std.proofs.Output.{has_written_of_eq}
use Rattle.minus_text.specs.NumberPrefix.{padding, number_prefix, prefix}
use Rattle.minus_text.proofs.number_prefix.RowPrefixDisplay.fmt.Goals as goal

joined : (spaces number : List ℕ)
    → spaces ++ ((27 ∷ codes "[1m") ++ (number ++ (codes "." ++ (27 ∷ codes "[0m ")))) ≡ spaces ++ (27 ∷ codes "[1m") ++ number ++ codes "." ++ (27 ∷ codes "[0m") ++ codes " "
joined spaces number = simp append_assoc refl

number_printed : (numbers first : Bool) (count line n : ℕ) → numbers ≡ true → first ≡ true → n ≡ padding count - length (decimal line) - 1
    → replicate n 32 ++ ((27 ∷ codes "[1m") ++ (decimal line ++ (codes "." ++ (27 ∷ codes "[0m ")))) ≡ prefix numbers count line first
unfolding number_prefix
number_printed numbers first count line n on one e =
    let m : ℕ = padding count - length (decimal line) - 1 in
    rw (on, one) (ap (λ k. replicate k 32 ++ ((27 ∷ codes "[1m") ++ (decimal line ++ (codes "." ++ (27 ∷ codes "[0m "))))) e ∙ joined (replicate m 32) (decimal line))

pub returns-then-self-clause-writes : goal.returns-then-self-clause-writes
returns-then-self-clause-writes g c = λ plain ok.
    let p = c.args.self.now in
    let count : c.saturating_sub.result ≡ padding p.line_count - length (decimal p.line) - 1 = omega (arith, c.saturating_sub.ensures, c.prefix_columns-columns.ensures.value, c.digits.ensures.value) in
    has_written_of_eq _ _ _ _ _ (number_printed p.numbers p.is_first p.line_count p.line c.saturating_sub.result c.if-not-self.false c.if-self.true count) (c.write.ensures.writes plain ok)
