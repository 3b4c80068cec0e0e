-- The characters of the new text.
use Rattle.std.proofs.Common.{ap, ◌∙◌, chars}
use Rattle.std.proofs.lemmas.Result.{IfOk-weaker}
use Rattle.minus_state.proofs.CharacterLaws.{between_chars}
use Rattle.minus_state.proofs.search.letters.around.Goals as goal

pub returns : goal.returns
returns c = IfOk-weaker c.format.result _ _ (λ text e. ap chars e ∙ between_chars c.args.front.now c.args.back.now c.args.character c.utf8.front c.ranges.character.0 c.utf8.back) c.format.ensures.ok
