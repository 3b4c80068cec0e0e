-- One more word, and no more.
use Rattle.std.proofs.Common.{◌<◌, ◌≢◌, chars, length, arith, rules, sym, ap, ◌∙◌}
use Rattle.std.proofs.lemmas.Bool.{eqb-true, eqb-false}
use Rattle.std.proofs.lemmas.List.{nil_from_length}
use Rattle.std.proofs.lemmas.Str.{chars-nil}
use Rattle.minus_text.specs.Pieces.{pieces}
use Rattle.minus_text.proofs.WordsLaws.{line_none, line_more, line_done}
use Rattle.minus_text.proofs.pieces.line_pieces.Goals as goal

pub loop-rest-init : goal.loop-rest-init
loop-rest-init c = record { utf8 = search rules; left = line_none c.args.cols (chars c.args.line.now) c.in_ok-pieces.pieces.items c.in_ok-pieces.ensures.items }

pub loop-rest-preserved : goal.loop-rest-preserved
loop-rest-preserved c =
    let other : length c.loop-rest.rest.now ≢ 0 = eqb-false (length c.loop-rest.rest.now) 0 (sym c.is_empty.ensures ∙ c.loop-rest-test.true) in
    let some : 0 < length c.loop-rest.rest.now = omega arith in
    record {
      utf8 = search rules;
      left = line_more c.args.cols c.split_word-word.result.spaces c.loop-rest.pieces.items c.push_word.new.pieces.items (chars c.loop-rest.rest.now) (chars c.split_word-word.result.body.now) (chars c.split_word-word.result.rest.now) (chars c.args.line.now)
          (c.split_word-word.ensures.word some) c.in_ok-push_word.ensures c.loop-rest.invariant.left;
    }

pub returns : goal.returns
unfolding pieces
returns c =
    let empty = nil_from_length c.loop-rest.rest.now (eqb-true (length c.loop-rest.rest.now) 0 (sym c.is_empty.ensures ∙ c.loop-rest-test.false)) in
    line_done c.args.cols c.loop-rest.pieces.items (chars c.loop-rest.rest.now) (chars c.args.line.now) (ap chars empty ∙ chars-nil) c.loop-rest.invariant.left
