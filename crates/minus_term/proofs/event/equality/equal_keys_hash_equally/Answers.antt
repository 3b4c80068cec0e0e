use Rattle.minus_term.specs.NormalForm.{normal_form}
use Rattle.minus_term.specs.contracts.event.equality.NormalKeyHash.TheImpl.Laws.{respects_eq-law as normal_respects}
use Rattle.minus_term.proofs.event.equality.equal_keys_hash_equally.Goals as goal

pub returns : goal.returns
returns c a b h = normal_respects (normal_form a) (normal_form b) h
