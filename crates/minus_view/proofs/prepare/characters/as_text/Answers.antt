use Rattle.std.proofs.lemmas.Str.{IsUtf8-from_ascii}
use Rattle.minus_view.proofs.PlainLaws.{plain_ascii}
use Rattle.minus_view.proofs.prepare.characters.as_text.Goals as goal

pub returns-in-Err : goal.returns-in-Err
returns-in-Err c = absurd (c.in-Err.ensures.cases.0 (IsUtf8-from_ascii c.args.bytes.now (plain_ascii c.args.newlines c.args.bytes.now c.requires)))
