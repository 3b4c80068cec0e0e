-- A word without hyphens is one part; else one more part of the word, and the last one with the spaces.
use Rattle.std.proofs.Common.{chars, rules, sym, ◌∙◌}
use Rattle.minus_text.proofs.MeasuredLaws.{unhyphened_word}
use Rattle.minus_text.proofs.WordsLaws.{word_more, word_last}
use Rattle.minus_text.proofs.pieces.push_word.Goals as goal

pub returns-then-is_unhyphened : goal.returns-then-is_unhyphened
returns-then-is_unhyphened c =
    unhyphened_word c.args.cols c.args.spaces c.args.body.now c.args.pieces.now.items c.push_part.new.pieces.items c.utf8.body (sym c.is_unhyphened.ensures ∙ c.if-is_unhyphened.true) c.in_ok-push_part.ensures

pub loop-part-preserved : goal.loop-part-preserved
loop-part-preserved c = record {
  utf8 = search rules;
  left = word_more c.args.cols c.args.spaces c.args.pieces.now.items c.loop-part.pieces.items c.push_part-in-Some.new.pieces.items (chars c.loop-part.rest.now) (chars c.in-Some.part.now) (chars c.in-Some.more.now) (chars c.args.body.now) c.in-Some.ensures.part c.in_ok-push_part-2.ensures c.loop-part.invariant.left;
}

pub returns : goal.returns
returns c =
    word_last c.args.cols c.args.spaces c.args.pieces.now.items c.loop-part.pieces.items c.push_part-2.new.pieces.items (chars c.loop-part.rest.now) (chars c.args.body.now) c.in_default.ensures.part c.in_ok-push_part-3.ensures c.loop-part.invariant.left
