-- One more has gone.
use Rattle.std.proofs.Common.{drop, ap, ◌∙◌, arith}
use Rattle.std.proofs.lemmas.List.{drop-drop}
use Rattle.minus.proofs.waiting.let_first_go.Goals as goal

pub loop-preserved : goal.loop-preserved
loop-preserved g c =
    let less = c.pop_front.ensures.len in
    let fewer = c.loop.invariant.fewer in
    record {
      items = c.pop_front.ensures.rest ∙ ap (drop 1) c.loop.invariant.items ∙ drop-drop 1 c.loop.counter c.args.queue.now.items;
      fewer = omega (arith, less, fewer);
    }
