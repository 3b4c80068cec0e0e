-- Each cut is of one of the three kinds.
use Rattle.std.proofs.Common.{◌+◌, arith, refl}
use Rattle.minus_text.specs.LineCuts.{HasNoCut}
use Rattle.minus_text.specs.declared.line_cuts.RowCut.{RowCut}
use Rattle.minus_text.proofs.CutPlacesLaws.{cut_spaces_if, cut_joint, cut_full_if}
use Rattle.minus_text.proofs.line_cuts.next_cut.Goals as goal

pub returns-then-line-place-eq32-clause-row : goal.returns-then-line-place-eq32-clause-row
returns-then-line-place-eq32-clause-row c =
    let last = c.last_cut-place.ensures in
    let cut = c.cut_at_spaces.ensures in
    cut_spaces_if c.args.cols c.args.start c.last_cut-place.result c.args.end c.args.line.now c.cut_at_spaces.result cut.order cut.end cut.next cut.within c.requires.within cut.spaces cut.before cut.behind last.most c.requires.more c.if-line-place-eq32.true last.none

pub returns-then-place-start-clause-row : goal.returns-then-place-start-clause-row
returns-then-place-start-clause-row c =
    let last = c.last_cut-place.ensures in
    let cut : RowCut = record { end = c.last_cut-place.result; next = c.last_cut-place.result } in
    cut_joint c.args.cols c.args.start c.last_cut-place.result c.args.line.now cut refl refl last.most (omega (arith, c.requires.more, c.requires.within)) c.if-line-place-eq32.false (last.cut c.if-place-start.true) last.none

pub returns-clause-row : goal.returns-clause-row
returns-clause-row c =
    let last = c.last_cut-place.ensures in
    let cut = c.cut_at_limit.ensures in
    let none : HasNoCut c.args.line.now c.args.start c.args.start (c.args.start + c.args.cols) = λ i a b. last.none i (omega (arith, a, c.if-place-start.false)) b in
    cut_full_if c.args.cols c.args.start c.args.line.now c.cut_at_limit.result cut.end cut.next cut.some (omega (arith, c.requires.more, c.requires.within)) cut.body cut.other none
