use Rattle.std.proofs.Common.{◌≡◌, ◌+◌, ap, ◌∙◌}
use Rattle.std.specs.String.{string_bytes}
use Rattle.std.proofs.lemmas.Str.{IsUtf8-string_bytes}
use Rattle.minus_text.specs.Fragments.{Fragment}
use Rattle.minus_text.specs.Pending.{Pending}
use Rattle.minus_text.proofs.RowTextLaws.{tail_rows}
use Rattle.minus_text.proofs.formed_push.FormedPush.formed_rows.Goals as goal

pub returns-clause-value : goal.returns-clause-value
returns-clause-value c =
    let h = c.self.invariant.0.0 in
    let tail : (let e : Fragment = record { text = (string_bytes c.self.inside.tail); wrap = c.self.inside.wrap } in e) ≡ c.args.self.now.tail = ap (λ (p : Pending). p.tail) c.self.view_is in
    let rows = tail_rows (string_bytes c.self.inside.tail) c.self.inside.wrap (c.self.inside.start.finished.bytes + c.self.inside.start.bytes) c.self.inside.formed.rows.items c.args.self.now.tail tail h.its_rows (IsUtf8-string_bytes c.self.inside.tail) in
    c.len.ensures ∙ c.self.inside.formed.rows.ok.0 ∙ rows
