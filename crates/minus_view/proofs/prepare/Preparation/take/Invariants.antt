-- What was taken is held, where all is text; each turn takes some of the bytes that are left.
use Rattle.std.proofs.Common.{ℕ, Bool, length}
use Rattle.minus_view.specs.Prepared.{IsAt, IsPlain, IsText, Takes}
use Rattle.minus_view.proofs.prepare.Preparation.take.Given as goal

abbrev pub decreases-loop-rest : goal.decreases-loop-rest
decreases-loop-rest l = length l.rest

abbrev pub invariant-loop-rest : goal.invariant-loop-rest
invariant-loop-rest l = (m : Bool) (tabs col : ℕ) → IsPlain l.fn.self → IsAt m tabs col l.fn.self → IsText l.fn.bytes → Takes m tabs col l.fn.self l.self l.fn.bytes l.rest
