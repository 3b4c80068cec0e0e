-- What is shown takes no more columns.
use Rattle.std.proofs.Common.{◌++◌, string_bytes, ap, ◌∙◌}
use Rattle.minus_text.specs.Crop.{cropped}
use Rattle.std.proofs.lemmas.Str.{IsUtf8-string_bytes}
use Rattle.minus_text.proofs.ShownColumnsLaws.{cropped_columns}
use Rattle.minus_text.proofs.crop.crop_columns.Goals as goal

pub returns-clause-fits : goal.returns-clause-fits
returns-clause-fits c =
    let shown = c.in_ok-push_cropped.ensures ∙ ap (λ bs. bs ++ cropped c.args.left c.args.width c.args.text.now) c.new-row.ensures.bytes in
    cropped_columns c.args.left c.args.width c.args.text.now (string_bytes c.push_cropped.new.row) (IsUtf8-string_bytes c.push_cropped.new.row) shown
