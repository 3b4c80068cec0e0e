-- The characters of the new text.
use Rattle.std.proofs.Common.{ap, ◌∙◌, chars}
use Rattle.std.proofs.lemmas.Result.{IfOk-weaker}
use Rattle.std.proofs.lemmas.Str.{chars-append}
use Rattle.minus_state.proofs.search.letters.joined.Goals as goal

pub returns : goal.returns
returns c = IfOk-weaker c.format.result _ _ (λ text e. ap chars e ∙ chars-append c.args.front.now c.args.back.now c.utf8.front) c.format.ensures.ok
