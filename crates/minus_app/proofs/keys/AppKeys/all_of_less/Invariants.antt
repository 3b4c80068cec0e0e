-- No action of the application's is bound.
use Rattle.std.proofs.Common.{◌≡◌, []}
use Rattle.minus_app.proofs.keys.AppKeys.all_of_less.Given as goal

abbrev pub invariant-loop-bound : goal.invariant-loop-bound
invariant-loop-bound g l = l.keys.acts.items ≡ []

abbrev pub invariant-loop-bound-2 : goal.invariant-loop-bound-2
invariant-loop-bound-2 g l = l.keys.acts.items ≡ []
