-- Each byte, and the newline.
use Rattle.std.proofs.Common.{◌≡◌, ℕ, List, take, [], ◌∷◌, ◌++◌, ap, arith, ◌∙◌}
use Rattle.std.proofs.lemmas.List.{take_all, append_assoc}
use Rattle.minus_script.specs.Printed.{escaped}
use Rattle.minus_script.proofs.printed.print_row.Goals as goal

pub returns-clause-ok : goal.returns-clause-ok
returns-clause-ok c =
    let before = c.args.out.now.items in
    let all : take c.loop-byte.byte-index c.as_bytes-byte-items.result.now ≡ c.args.row.now =
    take_all c.loop-byte.byte-index c.as_bytes-byte-items.result.now (omega (arith, c.loop-byte-test.false)) ∙ c.as_bytes-byte-items.ensures.value in
    c.in_ok-push.ensures.items
    ∙ ap (λ (printed : List ℕ). printed ++ 10 ∷ []) (c.loop-byte.invariant ∙ ap (λ (bytes : List ℕ). before ++ escaped bytes) all)
    ∙ append_assoc before (escaped c.args.row.now) (10 ∷ [])
