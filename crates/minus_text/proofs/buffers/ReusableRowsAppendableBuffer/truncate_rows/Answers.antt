-- Of the first few rows the first few are those of all, or all of them.
use Rattle.std.proofs.Common.{◌≡◌, ◌≤◌, ℕ, List, inl, inr, min, length, take, map, string_bytes, sym, ap, arith, ◌∙◌}
use Rattle.std.proofs.lemmas.Bool.{cases_lt}
use Rattle.std.proofs.lemmas.List.{take-take, take_all, length-take}
use Rattle.minus_text.proofs.buffers.ReusableRowsAppendableBuffer.truncate_rows.Goals as goal

taken : (m n : ℕ) (xs : List (List ℕ)) → take (min m n) xs ≡ take n (take m xs)
taken m n xs = elim (cases_lt m n) [
  | inl l ↦
      let few : min m n ≡ m = omega (arith, l) in
      let all : length (take m xs) ≤ n = omega (arith, l, length-take m xs) in
      ap (λ (k : ℕ). take k xs) few ∙ sym (take_all n (take m xs) all)
  | inr l ↦
      let few : min m n ≡ n = omega (arith, l) in
      ap (λ (k : ℕ). take k xs) few ∙ sym (take-take n m xs l)
]

pub returns : goal.returns
returns c =
    let texts = map string_bytes c.self.inside.rows.items in
    ap (λ (n : ℕ). take n texts) c.min-self-inside.ensures ∙ taken c.self.inside.used c.args.len texts ∙ ap (take c.args.len) c.self.view_is
