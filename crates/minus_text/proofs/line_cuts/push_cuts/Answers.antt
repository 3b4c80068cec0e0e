-- Each row is cut as the law says.
use Rattle.std.proofs.Common.{◌++◌, length, map, arith, ap}
use Rattle.std.proofs.lemmas.List.{take_all}
use Rattle.minus_text.specs.Kept.{moved}
use Rattle.minus_text.specs.Rows.{line_places}
use Rattle.minus_text.proofs.CutPlacesLaws.{left_places}
use Rattle.minus_text.proofs.CutRowsLaws.{moved_none, cut_more, cut_last, kept_more}
use Rattle.minus_text.proofs.line_cuts.push_cuts.Goals as goal

pub loop-start-init : goal.loop-start-init
loop-start-init c = record {
  order = omega arith;
  some = λ l. l;
  rows = ap (λ ss. c.args.rows.now.items ++ map (moved c.args.base) ss) (moved_none (line_places c.args.cols c.args.line.now));
  kept = take_all (length c.args.rows.now.items) c.args.rows.now.items (omega arith);
}

pub loop-start-preserved : goal.loop-start-preserved
loop-start-preserved c =
    let cut = c.in-Some.ensures in
    let items = c.in_ok-push.ensures.items in
    record {
      order = omega (arith, cut.within);
      some = λ l. cut.within;
      rows = cut_more c.args.cols c.args.base c.loop-start.start c.args.line.now c.in-Some.cut c.loop-start.rows.items c.push.new.self.items _ cut.start (omega (arith, cut.more)) (cut.row c.requires.printable) items c.loop-start.invariant.rows;
      kept = kept_more c.args.rows.now.items c.loop-start.rows.items c.push.new.self.items _ c.loop-start.invariant.kept items;
    }

pub returns-clause-rows : goal.returns-clause-rows
returns-clause-rows c = λ all.
    let end = c.before_spaces-end.ensures in
    let left = left_places c.args.cols c.loop-start.start c.before_spaces-end.result c.args.line.now c.requires.printable c.loop-start.invariant.order c.loop-start.invariant.some end.most c.loop-start-test.false end.spaces end.other in
    cut_last c.args.cols c.args.base c.loop-start.start c.before_spaces-end.result c.args.line.now c.loop-start.rows.items c.push-2.new.self.items _ c.loop-start.invariant.order left c.in_ok-push-2.ensures.items c.loop-start.invariant.rows

pub returns-clause-kept : goal.returns-clause-kept
returns-clause-kept c = kept_more c.args.rows.now.items c.loop-start.rows.items c.push-2.new.self.items _ c.loop-start.invariant.kept c.in_ok-push-2.ensures.items
