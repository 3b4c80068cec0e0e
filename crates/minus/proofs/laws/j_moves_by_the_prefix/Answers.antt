-- A register of the default bindings has one answer to the key.
use Rattle.std.proofs.Common.{◌+◌, min, Some, ap, ◌∙◌}
use Rattle.minus_state.specs.Control.{Control}
use Rattle.minus_input.specs.DefaultAnswers.{max, steps_of}
use Rattle.minus_input.specs.EventTables.{register_of}
use Rattle.minus_input.proofs.DefaultBindingsLaws.{j_asks}
use Rattle.minus_commands.specs.Table.{moves_mark}
use Rattle.minus.proofs.DefaultKeysLaws.{default_of, one_default_answer}
use Rattle.minus.proofs.laws.j_moves_by_the_prefix.Goals as goal

pub returns : goal.returns
returns g c w first h =
    let (state, answer, formed, same, allows, request) = h in
    let (register, is, default) = default_of c.args.session.now.parts.classifier first in
    let only = one_default_answer _ (register_of register) _ state answer default (rw is at allows) in
    (rw (only ∙ ap Some (j_asks state)) at request) ∙ ap (λ (c : Control). moves_mark (min (c.mark + steps_of c) max)) same
