use Rattle.std.proofs.Common.{◌≡◌, ◌<◌, get_or, refl}
use Rattle.std.specs.Str.{IsCharBoundary}
use Rattle.std.proofs.lemmas.Str.{IsCharBoundary-after_ascii}
use Rattle.minus_script.proofs.script.split_escape.Goals as goal

pub range_from-requires : goal.range_from-requires
range_from-requires c =
    let text = c.args.text.now in
    let item = rw c.as_bytes.ensures.value at c.in_ok-letter.ensures.item in
    let is : c.in_ok-letter.field-0.now ≡ get_or text 0 0 = item.3.1 0 in
    let ascii : c.in_ok-letter.field-0.now < 128 = c.in-Some.ensures.letter refl in
    let boundary : IsCharBoundary text 1 = IsCharBoundary-after_ascii text 0 c.utf8.text item.3.0 (rw is at ascii) in
    λ _. boundary
