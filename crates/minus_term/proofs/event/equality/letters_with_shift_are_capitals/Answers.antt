use Rattle.std.proofs.Common.{sym, ◌∙◌}
use Rattle.minus_term.specs.contracts.event.equality.NormalKeyEq.TheImpl.Laws.{laws-law as normal_laws}
use Rattle.minus_term.proofs.NormalFormLaws.{from_equal, small_with_shift, capital, capital_with_shift}
use Rattle.minus_term.proofs.event.equality.letters_with_shift_are_capitals.Goals as goal

pub returns : goal.returns
returns c key letter modifiers h =
    let small = small_with_shift key letter modifiers h in
    (from_equal normal_laws _ _ (small ∙ sym (capital_with_shift key letter modifiers h)), from_equal normal_laws _ _ (small ∙ sym (capital key letter modifiers h)))
