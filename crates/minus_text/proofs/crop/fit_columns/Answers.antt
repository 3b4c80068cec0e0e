-- One more unit fits, or spaces fill the rest.
use Rattle.std.proofs.Common.{◌≡◌, ◌++◌, ℕ, List, [], chars, string_bytes, ap, ◌∙◌, rules}
use Rattle.minus_text.specs.Units.{columns}
use Rattle.minus_text.specs.TextUnits.{units_left}
use Rattle.minus_text.specs.Crop.{fitted}
use Rattle.std.proofs.lemmas.Str.{IsUtf8-string_bytes}
use Rattle.std.specs.Str.{IsUtf8}
use Rattle.minus_text.proofs.ShownColumnsLaws.{fitted_columns}
use Rattle.minus_text.proofs.CropLaws.{fitted_begun, fitted_more, fitted_full, fitted_done}
use Rattle.minus_text.proofs.crop.fit_columns.Goals as goal

-- what is cut and filled so takes all columns
fills : (cols : ℕ) (text row : List ℕ) → IsUtf8 row → row ≡ fitted cols text → columns row ≡ cols
fills cols text row u e = ap columns e ∙ fitted_columns cols text [] row (search rules) u e

pub loop-unit-init : goal.loop-unit-init
loop-unit-init c = record { so_far = rw c.new-row.ensures.bytes (fitted_begun c.args.cols c.args.text.now [] (units_left c.new-rest.result) c.new-rest.ensures.units) }

pub loop-unit-preserved : goal.loop-unit-preserved
loop-unit-preserved c =
    let said = c.in-Some.ensures in
    record {
      so_far = fitted_more c.loop-unit.left c.in-Some.unit.columns (units_left c.loop-unit.rest) (units_left c.in-Some.more) (chars c.in-Some.unit.text.now) (string_bytes c.loop-unit.row) (string_bytes c.push_str.new.self)
          (fitted c.args.cols c.args.text.now) c.loop-unit.invariant.so_far said.units said.columns c.if-unit-left.false (c.in_ok-push_str.ensures.bytes ∙ ap (λ bs. string_bytes c.loop-unit.row ++ bs) said.text);
    }

pub returns-then-unit-left-clause-row : goal.returns-then-unit-left-clause-row
returns-then-unit-left-clause-row c =
    let said = c.in-Some.ensures in
    fitted_full c.loop-unit.left c.in-Some.unit.columns (units_left c.loop-unit.rest) (units_left c.in-Some.more) (chars c.in-Some.unit.text.now) (string_bytes c.loop-unit.row) (string_bytes c.push_spaces.new.out)
    (fitted c.args.cols c.args.text.now) c.loop-unit.invariant.so_far said.units said.columns c.if-unit-left.true c.in_ok-push_spaces.ensures

pub returns-then-unit-left-clause-fills : goal.returns-then-unit-left-clause-fills
returns-then-unit-left-clause-fills c = fills c.args.cols c.args.text.now (string_bytes c.push_spaces.new.out) (IsUtf8-string_bytes c.push_spaces.new.out) (returns-then-unit-left-clause-row c)

pub returns-clause-row : goal.returns-clause-row
returns-clause-row c =
    fitted_done c.loop-unit.left (units_left c.loop-unit.rest) (string_bytes c.loop-unit.row) (string_bytes c.push_spaces-2.new.out) (fitted c.args.cols c.args.text.now) c.loop-unit.invariant.so_far c.in_default.ensures.units c.in_ok-push_spaces-2.ensures

pub returns-clause-fills : goal.returns-clause-fills
returns-clause-fills c = fills c.args.cols c.args.text.now (string_bytes c.push_spaces-2.new.out) (IsUtf8-string_bytes c.push_spaces-2.new.out) (returns-clause-row c)
