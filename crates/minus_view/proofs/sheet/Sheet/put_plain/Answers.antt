use Rattle.std.proofs.Common.{string_bytes, false}
use Rattle.std.specs.Result.{is_ok}
use Rattle.std.proofs.lemmas.Str.{IsUtf8-string_bytes}
use Rattle.minus_view.proofs.ShownLaws.{put_or_not}
use Rattle.minus_view.proofs.PlainLaws.{read_chars_plain}
use Rattle.minus_view.proofs.sheet.Sheet.put_plain.Goals as goal

pub invariant_of-self : goal.invariant_of-self
invariant_of-self c =
    let text = c.args.self.now.text in
    let styled = c.args.self.now.styled in
    record { shown = put_or_not (is_ok c.push_str.result) (string_bytes text) c.args.plain.now _ false styled (IsUtf8-string_bytes text) c.args.self.now.shown (read_chars_plain c.args.newlines styled c.args.plain.now c.requires.reset c.requires.plain) c.push_str.ensures.bytes }
