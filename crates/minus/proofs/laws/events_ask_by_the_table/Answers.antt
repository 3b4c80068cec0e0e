-- A register of the default bindings has one answer to each event.
use Rattle.minus_input.specs.EventTables.{register_of}
use Rattle.minus.proofs.DefaultKeysLaws.{default_of, one_default_answer}
use Rattle.minus.proofs.laws.events_ask_by_the_table.Goals as goal

pub returns : goal.returns
returns g c e w first h =
    let (state, answer, formed, same, allows, request) = h in
    let (register, is, default) = default_of c.args.session.now.parts.classifier first in
    let only = one_default_answer _ (register_of register) e state answer default (rw is at allows) in
    (state, formed, same, rw only at request)
