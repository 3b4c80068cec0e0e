-- The units that are shown take no more columns, and one after another no other.
use Rattle.std.proofs.Common.{chars}
use Rattle.minus_text.proofs.ShownColumnsLaws.{shown_columns_fit}
use Rattle.minus_text.proofs.crop.cropped_texts_fit.Goals as goal

pub returns : goal.returns
returns c = λ left width text. shown_columns_fit left width (chars text)
