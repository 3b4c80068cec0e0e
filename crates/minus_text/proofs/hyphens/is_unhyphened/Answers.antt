-- One more byte passes, or not.
use Rattle.std.proofs.Common.{◌<◌, length, ap, arith, rules}
use Rattle.std.proofs.lemmas.List.Folds.{list_all_more}
use Rattle.minus_text.specs.Hyphens.{is_unhyphened}
use Rattle.minus_text.proofs.hyphens.is_unhyphened.Goals as goal

pub loop-b-preserved : goal.loop-b-preserved
loop-b-preserved c =
    let text = c.args.text.now in
    let within : c.loop-b.b-index < length text = omega (arith, c.loop-b-test.true, ap length c.as_bytes-b-items.ensures.value) in
    let more = list_all_more is_unhyphened text c.loop-b.b-index 0 within in
    search rules
