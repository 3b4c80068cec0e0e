use Rattle.std.proofs.Common.{◌++◌, ◌≤◌, ap, sym, subst, length, List, ℕ, string_bytes, Some, false}
use Rattle.std.proofs.lemmas.Str.{IsUtf8-string_bytes}
use Rattle.minus_view.specs.declared.shown.Spot.TheVariants.{Line}
use Rattle.minus_view.specs.Prepared.{glyph_bytes}
use Rattle.minus_view.proofs.PreparedLaws.{length-glyph}
use Rattle.minus_view.proofs.ShownLaws.{put_behind}
use Rattle.minus_view.proofs.prepare.Preparation.hand_out.Goals as goal

pub returns-clause-shown : goal.returns-clause-shown
returns-clause-shown c = λ before.
    put_behind (string_bytes c.args.out.now) c.text.result.now _ false false (Some (Line false)) (IsUtf8-string_bytes c.args.out.now) before
    (c.text.ensures.shown c.in_ok-close.ensures.styled) c.in_ok-push_str.ensures.bytes

pub returns-clause-waits : goal.returns-clause-waits
returns-clause-waits c =
    let glyph = c.args.self.now.held in
    let alone = ap (λ bytes. bytes ++ glyph_bytes glyph) c.clear.ensures.text in
    subst (λ (bytes : List ℕ). length bytes ≤ 4) (sym alone) (length-glyph glyph)
