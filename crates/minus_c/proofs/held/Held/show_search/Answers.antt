-- The command that sets the condition is told, or there is no memory for the condition.
use Rattle.std.proofs.Common.{◌∙◌, ℕ, length, ap, refl, inl, inr}
use Rattle.minus_term.specs.declared.error.MinusError.TheVariants.{Memory}
use Rattle.minus_c.specs.HeldSteps.{refusing}
use Rattle.minus_c.specs.Stages.{unread}
use Rattle.minus_c.proofs.held.Held.show_search.Goals as goal

pub returns-in-Ok-clause-step : goal.returns-in-Ok-clause-step
returns-in-Ok-clause-step c = λ done not. (record { is_shown = c.in-Ok.is_shown }, c.tell.ensures.step done not)

pub returns-in-Ok-clause-refused : goal.returns-in-Ok-clause-refused
returns-in-Ok-clause-refused c = λ more. inl (record { is_shown = c.in-Ok.is_shown }, c.tell.ensures.refused more)

pub returns-in-Err-clause-refused : goal.returns-in-Err-clause-refused
returns-in-Err-clause-refused c = λ more. inr (record {
  refusal = Memory;
  kept = c.refuse.ensures.kept;
  tells = c.refuse.ensures.tells ∙ ap (λ (n : ℕ). refusing n (length (unread c.refuse.new.self.stage))) c.number.ensures;
  refuses = (refl, c.refuse.ensures.same);
})
