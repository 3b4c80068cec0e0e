-- The first unit is a sequence or a character.
use Rattle.std.proofs.Common.{chars}
use Rattle.minus_text.proofs.UnitsLaws.{unit_sequence, unit_character, no_escape}
use Rattle.minus_text.proofs.units.split_unit.Goals as goal

pub returns-then-c-ne27-clause-unit : goal.returns-then-c-ne27-clause-unit
returns-then-c-ne27-clause-unit c =
    unit_character (chars c.args.text.now) (chars c.in-Some.rest.now) c.in-Some.c c.char_columns.result c.in-Some.ensures.chars (no_escape (chars c.args.text.now) (chars c.in-Some.rest.now) c.in-Some.c c.in-Some.ensures.chars c.if-c-ne27.true) c.char_columns.ensures.value

pub returns-in-Some-strip_escape-clause-unit : goal.returns-in-Some-strip_escape-clause-unit
returns-in-Some-strip_escape-clause-unit c = unit_sequence (chars c.args.text.now) (chars c.in-Some-strip_escape.inside.now) (chars c.past_sequence.result.now) c.in-Some-strip_escape.ensures.inside c.past_sequence.ensures.chars

pub returns-in-None-clause-unit : goal.returns-in-None-clause-unit
returns-in-None-clause-unit c = unit_character (chars c.args.text.now) (chars c.in-Some.rest.now) c.in-Some.c c.char_columns-in-None.result c.in-Some.ensures.chars c.in-None.ensures.inside c.char_columns-in-None.ensures.value
