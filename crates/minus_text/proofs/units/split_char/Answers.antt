-- The first character and the rest of a text.
use Rattle.std.proofs.Common.{◌≡◌, arith, ap, length, sym, ◌∙◌, []}
use Rattle.std.proofs.lemmas.Str.{chars_past_char, length-encode, chars-nil}
use Rattle.std.proofs.lemmas.List.{length-append, nil_from_length}
use Rattle.std.specs.Prelude.{encode_utf8}
use Rattle.minus_text.proofs.units.split_char.Goals as goal

pub returns-in-Some-clause-chars : goal.returns-in-Some-clause-chars
returns-in-Some-clause-chars c =
    let is = sym c.chars-rest.ensures.rest ∙ c.in-Some.ensures.steps.0 in
    rw c.as_str.ensures (chars_past_char c.args.text.now c.next.new.self.rest.now c.in-Some.c c.utf8.text is)

pub returns-in-Some-clause-room : goal.returns-in-Some-clause-room
returns-in-Some-clause-room c =
    let is = sym c.chars-rest.ensures.rest ∙ c.in-Some.ensures.steps.0 in
    rw c.as_str.ensures (omega (arith, ap length is, length-append (encode_utf8 c.in-Some.c) c.next.new.self.rest.now, length-encode c.in-Some.c))

pub returns-in-None-clause-chars : goal.returns-in-None-clause-chars
returns-in-None-clause-chars c =
    let all = ap length c.chars-rest.ensures.rest in
    let none : c.args.text.now ≡ [] = nil_from_length c.args.text.now (omega (arith, all, c.in-None.ensures.steps.0)) in
    rw none chars-nil
