-- Unit by unit.
use Rattle.std.proofs.Common.{chars}
use Rattle.minus_text.specs.TextUnits.{text_units}
use Rattle.minus_text.proofs.CropLaws.{fitted_fills}
use Rattle.minus_text.proofs.ShownColumnsLaws.{fitted_columns_fill}
use Rattle.minus_text.proofs.crop.fitted_texts_fill.Goals as goal

pub returns : goal.returns
returns c = λ cols text. (fitted_fills cols (text_units (chars text)), fitted_columns_fill cols (chars text))
