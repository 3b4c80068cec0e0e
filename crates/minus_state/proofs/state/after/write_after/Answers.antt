-- The first few of the rows that are shown are these.
use Rattle.std.proofs.Common.{◌≡◌, ◌-◌, ◌++◌, List, ℕ, take, drop, OnOk, subst, ap, ◌∙◌, arith}
use Rattle.std.specs.List.{flat_map}
use Rattle.std.proofs.lemmas.List.{take-take}
use Rattle.minus_term.specs.FullRedraw.{row_ops}
use Rattle.minus_term.specs.Written.{written_all}
use Rattle.minus_state.specs.Changes.{IsFormedFor, shown_by}
use Rattle.minus_state.proofs.state.after.write_after.Goals as goal

pub returns : goal.returns
returns c =
    let most = c.args.change.now.rows - 1 in
    subst (λ (texts : List (List ℕ)). OnOk c.write_between.result (IsFormedFor c.args.state.now c.args.change.now → c.write_between.new.out.items ≡ c.args.out.now.items ++ written_all (flat_map row_ops (drop c.args.first texts)))) (ap (λ (n : ℕ). take n (shown_by c.args.state.now c.args.change.now)) c.page_len.ensures ∙ take-take most most _ (omega arith)) c.write_between.ensures
