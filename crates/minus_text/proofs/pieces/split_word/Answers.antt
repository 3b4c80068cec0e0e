-- The first word ends where its spaces do.
use Rattle.std.proofs.Common.{◌-◌, chars, length, refl}
use Rattle.minus_text.specs.Pieces.{body_len}
use Rattle.minus_text.proofs.WordsLaws.{before_stretch, first_word, word_less}
use Rattle.minus_text.proofs.pieces.split_word.Goals as goal

pub front-requires : goal.front-requires
front-requires c = before_stretch c.args.line.now c.past_body-after.result.now (body_len (chars c.args.line.now)) c.utf8.line c.past_body-after.utf8 c.past_body-after.ensures.chars

pub returns-clause-word : goal.returns-clause-word
returns-clause-word c = λ some.
    first_word c.args.line.now c.past_body-after.result.now c.past_spaces-rest.result.now c.front.result.now (length c.past_body-after.result.now - length c.past_spaces-rest.result.now)
    c.utf8.line c.past_body-after.utf8 c.past_spaces-rest.utf8 c.front.utf8 some c.past_body-after.ensures.chars c.past_spaces-rest.ensures.chars c.front.ensures refl

pub returns-clause-less : goal.returns-clause-less
returns-clause-less c = λ some.
    word_less c.args.line.now c.past_spaces-rest.result.now (chars c.front.result.now) (length c.past_body-after.result.now - length c.past_spaces-rest.result.now) c.utf8.line c.past_spaces-rest.utf8
    (first_word c.args.line.now c.past_body-after.result.now c.past_spaces-rest.result.now c.front.result.now (length c.past_body-after.result.now - length c.past_spaces-rest.result.now)
    c.utf8.line c.past_body-after.utf8 c.past_spaces-rest.utf8 c.front.utf8 some c.past_body-after.ensures.chars c.past_spaces-rest.ensures.chars c.front.ensures refl)
