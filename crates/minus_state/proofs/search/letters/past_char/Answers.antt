-- What follows the first character.
use Rattle.std.proofs.Common.{◌≡◌, ◌+◌, arith, ap, length, sym, ◌∙◌, [], refl}
use Rattle.std.proofs.lemmas.Str.{chars_past_char, chars-nil, IsCharBoundary-past_char, drop_past_char, IsCharBoundary-start}
use Rattle.std.proofs.lemmas.List.{nil_from_length}
use Rattle.std.specs.Char.{len_utf8}
use Rattle.minus_state.proofs.search.letters.past_char.Goals as goal

pub returns-in-Some-clause-chars : goal.returns-in-Some-clause-chars
returns-in-Some-clause-chars c =
    let is = sym c.chars-rest.ensures.rest ∙ c.in-Some.ensures.steps.0 in
    rw (c.as_str.ensures, chars_past_char c.args.text.now c.next.new.self.rest.now c.in-Some.field-0 c.utf8.text is) refl

pub returns-in-Some-clause-tail : goal.returns-in-Some-clause-tail
returns-in-Some-clause-tail c =
    let is = sym c.chars-rest.ensures.rest ∙ c.in-Some.ensures.steps.0 in
    (0 + len_utf8 c.in-Some.field-0, IsCharBoundary-past_char c.args.text.now c.next.new.self.rest.now 0 c.in-Some.field-0 (omega arith) c.utf8.text is, c.as_str.ensures ∙ sym (drop_past_char c.args.text.now c.next.new.self.rest.now 0 c.in-Some.field-0 is))

pub returns-in-None-clause-chars : goal.returns-in-None-clause-chars
returns-in-None-clause-chars c =
    let all = ap length c.chars-rest.ensures.rest in
    let none : c.args.text.now ≡ [] = nil_from_length c.args.text.now (omega (arith, all, c.in-None.ensures.steps.0)) in
    rw (none, chars-nil) refl

pub returns-in-None-clause-tail : goal.returns-in-None-clause-tail
returns-in-None-clause-tail c = (0, IsCharBoundary-start c.args.text.now c.utf8.text, refl)
