use Rattle.std.proofs.Common.{◌≡◌, ◌-◌, List, ℕ, take, drop, length, sym, subst, arith}
use Rattle.std.proofs.lemmas.List.{take_all, length-drop}
use Rattle.minus_view.specs.Prepared.{Takes}
use Rattle.minus_view.proofs.ExpandedLaws.{no_bytes, taken_twice}
use Rattle.minus_view.proofs.prepare.Preparation.take.Goals as goal

pub loop-rest-preserved : goal.loop-rest-preserved
loop-rest-preserved c = λ m tabs col plain was text.
    let rest = c.loop-rest.rest.now in
    let taken = c.in_ok-taken.taken in
    let one = c.loop-rest.invariant m tabs col plain was text in
    let two = c.in_ok-taken.ensures.text m tabs one.next one.plain one.is_at one.left in
    let all : take (length rest - taken) (drop taken rest) ≡ drop taken rest =
    take_all (length rest - taken) (drop taken rest) (omega (arith, length-drop taken rest)) in
    subst (λ (left : List ℕ). Takes m tabs col c.args.self.now c.step.new.self c.args.bytes.now left) (sym all)
    (taken_twice m tabs col c.args.self.now c.loop-rest.self c.step.new.self c.args.bytes.now rest (drop taken rest) one two)

pub returns : goal.returns
returns c =
    let size : length c.loop-rest.rest.now ≡ 0 = grind (arith, c.loop-rest-test.false, c.is_empty.ensures) in
    let none = no_bytes c.loop-rest.rest.now size in
    record {
      text = λ m tabs col plain was text.
          subst (λ (left : List ℕ). Takes m tabs col c.args.self.now c.loop-rest.self c.args.bytes.now left) none (c.loop-rest.invariant m tabs col plain was text);
    }
