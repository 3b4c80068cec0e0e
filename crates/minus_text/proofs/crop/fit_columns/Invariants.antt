-- What is added so far, and what is still to be added.
use Rattle.std.proofs.Common.{◌≡◌, ◌++◌, length, string_bytes}
use Rattle.std.specs.List.{concat}
use Rattle.std.specs.Str.{encode_utf8_all}
use Rattle.minus_text.specs.TextUnits.{units_left, bytes_left}
use Rattle.minus_text.specs.Crop.{fitted, fitted_units}
use Rattle.minus_text.proofs.crop.fit_columns.Given as goal

abbrev pub invariant-loop-unit : goal.invariant-loop-unit
invariant-loop-unit l = record {
  so_far : string_bytes l.row ++ encode_utf8_all (concat (fitted_units l.left (units_left l.rest))) ≡ fitted l.cols l.text;
}

abbrev pub decreases-loop-unit : goal.decreases-loop-unit
decreases-loop-unit l = length (bytes_left l.rest)
