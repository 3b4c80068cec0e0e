use Rattle.std.proofs.Common.{string_bytes, encode_utf8, false}
use Rattle.std.specs.Result.{is_ok}
use Rattle.std.proofs.lemmas.Str.{IsUtf8-string_bytes}
use Rattle.minus_view.proofs.ShownLaws.{put_or_not, read_encode}
use Rattle.minus_view.proofs.sheet.Sheet.put_char.Goals as goal

pub invariant_of-self : goal.invariant_of-self
invariant_of-self c =
    let text = c.args.self.now.text in
    let styled = c.args.self.now.styled in
    record { shown = put_or_not (is_ok c.push.result) (string_bytes text) (encode_utf8 c.shown_char-shown.result) _ false styled (IsUtf8-string_bytes text) c.args.self.now.shown (read_encode c.shown_char-shown.result styled c.shown_char-shown.ensures.scalar c.shown_char-shown.ensures.shown) c.push.ensures.bytes }
