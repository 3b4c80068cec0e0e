use Rattle.minus_input.specs.EventTables.{register_of}
use Rattle.minus.proofs.DefaultKeysLaws.{one_default_answer}
use Rattle.minus_script.proofs.keys.DefaultKeysInputClassifier.classify_input.Goals as goal

pub returns : goal.returns
returns c = one_default_answer _ (register_of c.args.self.now.register) c.args.event c.args.state.now c.classify_input.result c.args.self.now.default c.classify_input.ensures
