-- The first unit of the body, or a space.
use Rattle.std.proofs.Common.{◌<◌, ◌-◌, rules, arith, sym, ap, ◌∙◌}
use Rattle.std.specs.Str.{IsUtf8, encode_utf8_all}
use Rattle.std.proofs.lemmas.Str.{encodes-chars}
use Rattle.minus_text.specs.Units.{unit_columns, begins_sequence}
use Rattle.minus_text.specs.TextUnits.{units_left, bytes_left}
use Rattle.minus_text.proofs.StretchesLaws.{text_split}
use Rattle.minus_text.proofs.TextUnitsLaws.{left_first, left_space, left_none, length_left, space_chars, space_columns}
use Rattle.minus_text.proofs.WordsLaws.{spaces_encode}
use Rattle.minus_text.proofs.units.Units.split_first.Goals as goal

pub front-text-requires : goal.front-text-requires
front-text-requires c =
    let u : IsUtf8 c.args.self.body.now = search rules in
    let v : IsUtf8 c.in-Some.rest.now = search rules in
    let unit = c.in-Some.ensures.unit in
    (encode_utf8_all unit.unit, text_split c.args.self.body.now c.in-Some.rest.now unit.unit u v unit.joins)

pub returns-in-Some-clause-units : goal.returns-in-Some-clause-units
unfolding units_left
returns-in-Some-clause-units c = (left_first c.args.self.body.now c.in-Some.rest.now c.front-text.result.now c.args.self.spaces c.in-Some.columns c.front-text.utf8 c.front-text.ensures c.in-Some.ensures.unit).first

pub returns-in-Some-clause-text : goal.returns-in-Some-clause-text
returns-in-Some-clause-text c = sym (encodes-chars c.front-text.result.now c.front-text.utf8)

pub returns-in-Some-clause-columns : goal.returns-in-Some-clause-columns
returns-in-Some-clause-columns c = (left_first c.args.self.body.now c.in-Some.rest.now c.front-text.result.now c.args.self.spaces c.in-Some.columns c.front-text.utf8 c.front-text.ensures c.in-Some.ensures.unit).columns_are

pub returns-in-Some-clause-bytes : goal.returns-in-Some-clause-bytes
unfolding bytes_left
returns-in-Some-clause-bytes c = (left_first c.args.self.body.now c.in-Some.rest.now c.front-text.result.now c.args.self.spaces c.in-Some.columns c.front-text.utf8 c.front-text.ensures c.in-Some.ensures.unit).bytes

pub returns-in-Some-clause-room : goal.returns-in-Some-clause-room
unfolding bytes_left
returns-in-Some-clause-room c =
    let room = c.in-Some.ensures.room in
    omega (arith, room, length_left c.args.self.body.now c.args.self.spaces, length_left c.in-Some.rest.now c.args.self.spaces)

pub returns-in-Some-clause-less : goal.returns-in-Some-clause-less
unfolding bytes_left
returns-in-Some-clause-less c =
    let less = c.in-Some.ensures.less in
    omega (arith, less, length_left c.args.self.body.now c.args.self.spaces, length_left c.in-Some.rest.now c.args.self.spaces)

pub returns-then-self-eq0-clause-units : goal.returns-then-self-eq0-clause-units
unfolding units_left
returns-then-self-eq0-clause-units c = left_none c.args.self.body.now c.args.self.spaces c.in_default.ensures.none c.if-self-eq0.true

pub returns-clause-units : goal.returns-clause-units
unfolding units_left
returns-clause-units c =
    let some : 0 < c.args.self.spaces = omega (arith, c.if-self-eq0.false) in
    (left_space c.args.self.body.now c.args.self.spaces c.in_default.ensures.none some).0

pub returns-clause-text : goal.returns-clause-text
returns-clause-text c = sym (spaces_encode 1) ∙ sym (ap encode_utf8_all space_chars)

pub returns-clause-columns : goal.returns-clause-columns
returns-clause-columns c = sym (ap unit_columns space_chars ∙ space_columns)

pub returns-clause-sequence : goal.returns-clause-sequence
returns-clause-sequence c = sym (ap begins_sequence space_chars)

pub returns-clause-bytes : goal.returns-clause-bytes
unfolding bytes_left
returns-clause-bytes c =
    let some : 0 < c.args.self.spaces = omega (arith, c.if-self-eq0.false) in
    (left_space c.args.self.body.now c.args.self.spaces c.in_default.ensures.none some).1

pub returns-clause-room : goal.returns-clause-room
unfolding bytes_left
returns-clause-room c =
    let some : 0 < c.args.self.spaces = omega (arith, c.if-self-eq0.false) in
    omega (arith, length_left c.args.self.body.now c.args.self.spaces, length_left c.args.self.body.now (c.args.self.spaces - 1))

pub returns-clause-less : goal.returns-clause-less
unfolding bytes_left
returns-clause-less c =
    let some : 0 < c.args.self.spaces = omega (arith, c.if-self-eq0.false) in
    omega (arith, length_left c.args.self.body.now c.args.self.spaces, length_left c.args.self.body.now (c.args.self.spaces - 1))

pub returns-in-Some-clause-sequence : goal.returns-in-Some-clause-sequence
returns-in-Some-clause-sequence c = search rules
