use Rattle.std.proofs.Common.{◌∷◌, [], sym, ap, ◌∙◌}
use Rattle.std.specs.Str.{chars}
use Rattle.std.proofs.lemmas.Str.{chars_past_char, chars-nil, IsUtf8-past_char}
use Rattle.minus_view.proofs.MeaningLaws.{spells, spells_nothing, nil_from_length}
use Rattle.minus_view.proofs.meaning.character.Goals as goal

pub returns-in-None-next : goal.returns-in-None-next
returns-in-None-next c =
    let bytes = c.args.bytes.now in
    let u = c.in-Ok.ensures.cases.1 in
    let parts = sym c.in-Ok.ensures.cases.0 ∙ sym c.chars-rest.ensures.rest ∙ c.in-Some.ensures.steps.0 in
    let none = ap chars (nil_from_length c.next.new.self.rest.now c.in-None-next.ensures.steps.0.0) ∙ chars-nil in
    sym (spells bytes (c.in-Some.c ∷ []) u (chars_past_char bytes c.next.new.self.rest.now c.in-Some.c u parts ∙ ap (λ cs. c.in-Some.c ∷ cs) none))

pub returns-in-Some-next : goal.returns-in-Some-next
returns-in-Some-next c =
    let bytes = c.args.bytes.now in
    let u = c.in-Ok.ensures.cases.1 in
    let parts = sym c.in-Ok.ensures.cases.0 ∙ sym c.chars-rest.ensures.rest ∙ c.in-Some.ensures.steps.0 in
    let left = c.next.new.self.rest.now in
    let more = chars_past_char left c.next-in-Some.new.self.rest.now c.in-Some-next.field-0 (IsUtf8-past_char bytes left c.in-Some.c u parts) c.in-Some-next.ensures.steps.0 in
    sym (spells bytes (c.in-Some.c ∷ c.in-Some-next.field-0 ∷ chars c.next-in-Some.new.self.rest.now) u (chars_past_char bytes left c.in-Some.c u parts ∙ ap (λ cs. c.in-Some.c ∷ cs) more))

pub returns-in-Err : goal.returns-in-Err
returns-in-Err c = sym (spells_nothing c.args.bytes.now c.in-Err.ensures.cases.0)
