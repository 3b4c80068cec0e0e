-- A character settles, and a sequence that has its end.
use Rattle.std.proofs.Common.{chars}
use Rattle.minus_text.proofs.BorderLaws.{settles_character, settles_sequence}
use Rattle.minus_text.proofs.settled.split_settled.Goals as goal

pub returns-then-c-ne27-clause-unit : goal.returns-then-c-ne27-clause-unit
returns-then-c-ne27-clause-unit c =
    settles_character (chars c.args.text.now) (chars c.in-Some.rest.now) c.in-Some.c c.char_columns.result c.in-Some.ensures.chars c.if-c-ne27.true c.if-c-eq13.false c.char_columns.ensures.value

pub returns-in-Some-split_char-clause-unit : goal.returns-in-Some-split_char-clause-unit
returns-in-Some-split_char-clause-unit c =
    settles_sequence (chars c.args.text.now) (chars c.in-Some-strip_escape.inside.now) (chars c.past_parameters.result.now) (chars c.in-Some-split_char.after.now) _ c.in-Some-strip_escape.ensures.inside c.past_parameters.ensures.chars c.in-Some-split_char.ensures.chars
