use Rattle.std.proofs.Common.{string_bytes, Some, false, ap, sym, ◌∙◌}
use Rattle.std.proofs.lemmas.Str.{IsUtf8-string_bytes}
use Rattle.minus_view.specs.declared.shown.Spot.TheVariants.{Line}
use Rattle.minus_view.proofs.ShownLaws.{put_behind}
use Rattle.minus_view.proofs.sheet.Sheet.put.Goals as goal

pub invariant_of-self-in-Line-1 : goal.invariant_of-self-in-Line-1
invariant_of-self-in-Line-1 c =
    let text = c.args.self.now.text in
    record { shown = put_behind (string_bytes text) c.args.text.now _ false c.args.self.now.styled (Some (Line c.in-Some-Line.styled)) (IsUtf8-string_bytes text) c.args.self.now.shown (sym c.in-Some-Line.ensures ∙ ap Some c.in-Some-Line.field-0-is) c.in_ok-push_str.ensures.bytes }
