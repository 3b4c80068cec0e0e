-- What a push of this text would form is what was formed.
use Rattle.std.proofs.Common.{◌≡◌, Bool, true, false, not, refl, sym, ap, subst, ◌∙◌}
use mathlib.Core.Bool.{beq}
use Rattle.minus_text.specs.declared.formed.Plan.{Plan}
use Rattle.minus_text.specs.Kept.{IsRestartOf}
use Rattle.minus_text.specs.Pending.{Pending, IsPreparedFor}
use Rattle.minus_text.proofs.PendingLaws.{plan_keeps}
use Rattle.minus_text.proofs.store.Store.is_prepared.Goals as goal

same_bools : (a b : Bool) → not (beq a b) ≡ false → a ≡ b
same_bools true true h = refl
same_bools false false h = refl
same_bools true false h = absurd cc
same_bools false true h = absurd cc

pub forms-requires : goal.forms-requires
forms-requires c = plan_keeps c.args.self.now c.args.text.now c.pending.inside.numbers c.pending.inside.cols c.plan-plan.result c.plan-plan.ensures

pub returns-clause-prepared : goal.returns-clause-prepared
returns-clause-prepared c = λ same.
    subst (λ (q : Pending). IsPreparedFor c.args.self.now c.args.text.now q) c.pending.view_is (record {
      text = c.forms.ensures.text;
      begins = subst (λ (p : Plan). IsRestartOf c.args.self.now.text p c.pending.inside.start) c.plan-plan.ensures (c.forms.ensures.start same);
      wrapping = c.forms.ensures.wrap same ∙ ap (λ (p : Plan). p.wrap) c.plan-plan.ensures;
      follows = sym c.deref.ensures ∙ c.forms.ensures.tail same;
      from_line = λ on. c.forms.ensures.at_line same (sym (same_bools c.pending.inside.match_lines c.args.match_lines c.if-pending-match_lines.false) ∙ on);
    })
