use Rattle.std.proofs.Common.{◌≡◌, ◌-◌, ◌%◌, length, suc, take, drop, ap, sym, ◌∙◌, arith, subst, ℕ}
use Rattle.std.proofs.lemmas.List.{take-append-drop}
use Rattle.std.proofs.Math.Nat.{add-mod, mod-mod}
use Rattle.minus_view.specs.TabColumns.{column_after}
use Rattle.minus_view.proofs.ExpandedLaws.{column_after-append, line_ends}
use Rattle.minus_view.proofs.prepare.tab_columns.column_after.Goals as goal
use Rattle.minus_view.proofs.prepare.tab_columns.column_after.Goals.{then-loop-start-test+else-plain-start-ne10, else-loop-start-test}

pub returns-then-start-eq0 : goal.returns-then-start-eq0
returns-then-start-eq0 c =
    let plain = c.args.plain.now in
    let left = length plain - c.loop-start.start in
    let all = ap (λ n. column_after c.args.tabs c.args.column (drop n plain)) (sym c.if-start-eq0.true) ∙ c.loop-start.invariant.line c.args.column in
    sym (add-mod c.args.column left c.args.tabs) ∙ ap (λ n. n % c.args.tabs) (sym all)

pub returns-else-start-eq0 : goal.returns-else-start-eq0
returns-else-start-eq0 c =
    let plain = c.args.plain.now in
    let start = c.loop-start.start in
    let parts : column_after c.args.tabs c.args.column plain ≡ column_after c.args.tabs (column_after c.args.tabs c.args.column (take start plain)) (drop start plain) =
    ap (column_after c.args.tabs c.args.column) (sym (take-append-drop start plain)) ∙ column_after-append c.args.tabs c.args.column (take start plain) (drop start plain) in
    let tail = c.loop-start.invariant.line (column_after c.args.tabs c.args.column (take start plain)) in
    elim c.loop-start-test.branch [
      | then-loop-start-test+else-plain-start-ne10 w ↦
          let count : suc (start - 1) ≡ start = omega (arith, w.loop-start-test.true) in
          let front = subst (λ (n : ℕ). column_after c.args.tabs c.args.column (take n plain) ≡ 0) count
          (line_ends c.args.tabs c.args.column (start - 1) plain (omega (arith, c.loop-start.invariant.within, w.loop-start-test.true)) w.if-plain-start-ne10.false) in
          mod-mod (length plain - start) c.args.tabs ∙ ap (λ n. n % c.args.tabs) (omega (arith, parts, tail, front))
      | else-loop-start-test w ↦ absurd (omega (arith, w.loop-start-test.false, c.if-start-eq0.false))
    ]
