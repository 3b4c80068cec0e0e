-- The query's characters are those that its bytes encode.
use Rattle.std.proofs.Common.{List, ℕ, ◌++◌, encode_utf8, sym, ap, ◌∙◌}
use Rattle.std.proofs.lemmas.Result.{IfOk-weaker}
use Rattle.std.proofs.lemmas.Str.{encodes-chars}
use Rattle.minus_state.proofs.search.open_prompt.typed.Goals as goal

pub returns : goal.returns
returns c = IfOk-weaker c.format.result _ _ (λ text e. e ∙ ap (λ (x : List ℕ). encode_utf8 c.args.character ++ x) (sym (encodes-chars c.args.query.now c.utf8.query))) c.format.ensures.ok
