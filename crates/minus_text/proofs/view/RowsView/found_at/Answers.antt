-- What was found in a row that stays, and in one that is formed.
use Rattle.std.proofs.Common.{◌≡◌, ◌+◌, ◌<◌, ◌≤◌, subst, ap, arith}
use Rattle.minus_text.specs.Document.{rows_of}
use Rattle.minus_text.specs.Found.{Ascend}
use Rattle.minus_text.specs.FoundBy.{found_rows}
use Rattle.minus_text.specs.Pending.{Pending}
use Rattle.minus_text.specs.NextPushes.{IsPendingBehind}
use Rattle.minus_text.proofs.FoundInLaws.{placed_of, weaker}
use Rattle.minus_text.proofs.ViewLaws.{found_staying, found_forming, placed_staying, placed_forming}
use Rattle.minus_text.proofs.view.RowsView.found_at.Goals as goal

pub returns-in_default-clause-placed : goal.returns-in_default-clause-placed
returns-in_default-clause-placed c = λ row e.
    let here : c.args.i ≡ 0 + c.args.i = omega arith in
    placed_of 0 (rows_of c.args.self.store.now) (found_rows c.args.self.found.now) c.args.i c.args.i row c.args.self.placed here (rw c.in_default.is at e)

pub returns-then-i-kept_rows-clause-found : goal.returns-then-i-kept_rows-clause-found
returns-then-i-kept_rows-clause-found c =
    let p = c.in-Some.next.pending.now in
    let lt : c.args.i < p.push.kept_rows = omega (arith, c.if-i-kept_rows.true, c.kept_rows.ensures.value, ap (λ (p : Pending). p.kept_rows) c.push.ensures) in
    let ascend = subst (Ascend p.push.kept_rows) c.found-formed.ensures.value c.found-formed.ensures.stand.ascend in
    rw c.in-Some.is (found_staying p.push.kept_rows c.args.i 0 (found_rows c.args.self.found.now) p.found lt c.args.self.ascend ascend)

pub returns-then-i-kept_rows-clause-placed : goal.returns-then-i-kept_rows-clause-placed
returns-then-i-kept_rows-clause-placed c =
    let n = c.in-Some.next in
    let p = n.pending.now.push in
    let lt : c.args.i < p.kept_rows = omega (arith, c.if-i-kept_rows.true, c.kept_rows.ensures.value, ap (λ (p : Pending). p.kept_rows) c.push.ensures) in
    let is = subst (IsPendingBehind c.args.self.store.now) c.in-Some.is c.args.self.pending in
    rw c.in-Some.is (λ row e. placed_staying c.args.self.store.now n.text.now p.numbers p.cols p is (found_rows c.args.self.found.now) c.args.i row lt c.args.self.placed e)

pub returns-clause-ascend : goal.returns-clause-ascend
returns-clause-ascend c = weaker 0 c.in-Some.next.pending.now.push.kept_rows (found_rows c.found-formed.result.now) (omega arith) c.found-formed.ensures.stand.ascend

pub returns-clause-found : goal.returns-clause-found
returns-clause-found c =
    let p = c.in-Some.next.pending.now in
    let le : p.push.kept_rows ≤ c.args.i = omega (arith, c.if-i-kept_rows.false, c.kept_rows.ensures.value, ap (λ (p : Pending). p.kept_rows) c.push.ensures) in
    rw (c.in-Some.is, c.found-formed.ensures.value) (found_forming p.push.kept_rows c.args.i (found_rows c.args.self.found.now) p.found le)

pub returns-clause-placed : goal.returns-clause-placed
returns-clause-placed c =
    let n = c.in-Some.next in
    let p = n.pending.now.push in
    let le : p.kept_rows ≤ c.args.i = omega (arith, c.if-i-kept_rows.false, c.kept_rows.ensures.value, ap (λ (p : Pending). p.kept_rows) c.push.ensures) in
    let is = subst (IsPendingBehind c.args.self.store.now) c.in-Some.is c.args.self.pending in
    rw c.in-Some.is (λ row e. placed_forming c.args.self.store.now n.text.now p.numbers p.cols p is (found_rows c.found-formed.result.now) c.args.i row le c.found-formed.ensures.stand.placed e)
