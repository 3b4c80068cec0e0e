use Rattle.std.proofs.Common.{ℕ, List, length, nat_lt, sym, ap}
use Rattle.std.proofs.lemmas.Str.{encodes-chars}
use Rattle.minus_state.proofs.state.prompt_keys.is_long.Goals as goal

pub returns : goal.returns
returns c = ap (λ (text : List ℕ). nat_lt 1 (length text)) (sym (encodes-chars c.args.query.now c.utf8.query))
