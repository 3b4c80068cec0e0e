use Rattle.std.proofs.Common.{◌<◌, length, rules}
use Rattle.std.proofs.lemmas.List.Folds.{list_all_more}
use Rattle.minus_text.specs.Plain.{is_printable}
use Rattle.minus_text.proofs.plain.are_printable.Goals as goal

pub loop-b-preserved : goal.loop-b-preserved
loop-b-preserved c =
    let bytes = c.args.bytes.now in
    let within : c.loop-b.b-index < length bytes = c.loop-b-test.true in
    let more = list_all_more is_printable bytes c.loop-b.b-index 0 within in
    search rules
