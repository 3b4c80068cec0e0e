-- The blanks, and then the number in bold.
use Rattle.std.proofs.Common.{◌≡◌, ◌+◌, ◌-◌, ◌++◌, ℕ, Bool, true, length, arith, ap, ◌∙◌}
use Rattle.std.specs.Fmt.{decimal}
use Rattle.std.proofs.lemmas.Bool.{not-false}
use Rattle.minus_text.specs.NumberPrefix.{padding, numbered, number_prefix, prefix}
use Rattle.minus_text.proofs.number_prefix.RowPrefix.push_to.Goals as goal

number_put : (numbers first : Bool) (count line n : ℕ) → numbers ≡ true → first ≡ true → n ≡ padding count + 1 → numbered (n - (length (decimal line) + 2)) line ≡ prefix numbers count line first
unfolding number_prefix
number_put numbers first count line n on one e =
    let spaces : n - (length (decimal line) + 2) ≡ padding count - length (decimal line) - 1 = omega (arith, e) in
    rw (on, one) (ap (λ k. numbered k line) spaces)

pub returns-then-self : goal.returns-then-self
returns-then-self g c =
    let p = c.args.self in
    let put = number_put p.numbers p.is_first p.line_count p.line c.prefix_columns-columns.result (not-false p.numbers c.if-not-self.false) c.if-self.true c.prefix_columns-columns.ensures.value in
    c.in_ok-push_number.ensures ∙ ap (λ bs. g.T.PushText.bytes c.args.out.now ++ bs) put
