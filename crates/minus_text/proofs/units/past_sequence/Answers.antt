-- The final character is passed too, where there is one.
use Rattle.std.proofs.Common.{chars}
use Rattle.std.specs.List.{position_or_len}
use Rattle.minus_text.specs.Units.{is_final}
use Rattle.minus_text.proofs.StretchesLaws.{past_one, past_none}
use Rattle.minus_text.proofs.units.past_sequence.Goals as goal

pub returns-in-Some-clause-chars : goal.returns-in-Some-clause-chars
returns-in-Some-clause-chars c =
    past_one (position_or_len is_final (chars c.args.text.now)) (chars c.args.text.now) (chars c.past_parameters-end.result.now) (chars c.in-Some.rest.now) c.in-Some.field-0-0 c.past_parameters-end.ensures.chars c.in-Some.ensures.chars

pub returns-in-None-clause-chars : goal.returns-in-None-clause-chars
returns-in-None-clause-chars c =
    past_none (position_or_len is_final (chars c.args.text.now)) (chars c.args.text.now) (chars c.past_parameters-end.result.now) c.past_parameters-end.ensures.chars c.in-None.ensures.chars
