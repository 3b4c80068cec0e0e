-- The first few of the rows that are shown are these.
use Rattle.std.proofs.Common.{◌≡◌, ◌-◌, List, ℕ, take, drop, map, IfOk, subst, ap, ◌∙◌, arith}
use Rattle.std.proofs.lemmas.List.{take-take}
use Rattle.minus_state.specs.Changes.{IsFormedFor, shown_by}
use Rattle.minus_state.specs.Showing.{row_text}
use Rattle.minus_state.proofs.state.after.shown_after.Goals as goal

pub returns-clause-rows : goal.returns-clause-rows
returns-clause-rows c =
    let most = c.args.change.now.rows - 1 in
    subst (λ (texts : List (List ℕ)). IfOk c.shown_between.result (λ v. IsFormedFor c.args.state.now c.args.change.now → map row_text v.items ≡ drop c.args.first texts)) (ap (λ (n : ℕ). take n (shown_by c.args.state.now c.args.change.now)) c.page_len.ensures ∙ take-take most most _ (omega arith)) c.shown_between.ensures.rows
