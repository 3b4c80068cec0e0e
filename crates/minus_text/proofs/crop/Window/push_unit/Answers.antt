-- The unit, or its spaces.
use Rattle.std.proofs.Common.{◌++◌, ℕ, chars, string_bytes, replicate, rules, sym, ap, ◌∙◌}
use Rattle.std.specs.Str.{IsUtf8}
use Rattle.minus_text.specs.Crop.{columns_inside}
use Rattle.minus_text.proofs.CropLaws.{shown_whole, shown_spaces}
use Rattle.minus_text.proofs.crop.Window.push_unit.Goals as goal

pub returns-then-is_shown : goal.returns-then-is_shown
returns-then-is_shown c =
    let u : IsUtf8 c.args.unit.text.now = search rules in
    let here = shown_whole c.args.self.left c.args.self.width c.args.at c.args.last c.args.unit.text.now u (sym c.is_shown.ensures ∙ c.if-is_shown.true) in
    c.in_ok-push_str.ensures.bytes ∙ ap (λ bs. string_bytes c.args.row.now ++ bs) (sym here)

pub returns : goal.returns
returns c =
    let here = shown_spaces c.args.self.left c.args.self.width c.args.at c.args.last (chars c.args.unit.text.now) (sym c.is_shown.ensures ∙ c.if-is_shown.false) in
    let count = c.columns_inside.ensures ∙ ap (columns_inside c.args.self.left c.args.self.width c.args.at) c.requires.columns in
    c.in_ok-push_spaces.ensures ∙ ap (λ (n : ℕ). string_bytes c.args.row.now ++ replicate n 32) count ∙ ap (λ bs. string_bytes c.args.row.now ++ bs) (sym here)
