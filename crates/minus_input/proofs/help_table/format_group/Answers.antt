use Rattle.std.proofs.Common.{◌≡◌, ◌++◌, ◌<◌, length, string_bytes, codes, map, List, ℕ, Bor, arith, ap, ◌∙◌}
use Rattle.std.specs.Fmt.{styled_text}
use Rattle.std.specs.List.{join_by}
use Rattle.std.proofs.lemmas.Result.{IfOk-weaker}
use Rattle.minus_input.specs.HelpTable.{seen_entry, joined}
use Rattle.minus_input.proofs.HelpTableLaws.{join_now, group_from}
use Rattle.minus_input.proofs.help_table.format_group.Goals as goal

pub returns : goal.returns
returns c =
    let names = c.in_ok-names.names in
    let text = c.in_ok-joined.joined in
    let small : length (string_bytes text) < 18446744073709551615 = omega (arith, text.bytes.ok.0, text.bytes.ok.1, text.bytes.small) in
    let is = c.in_ok-joined.ensures.ok ∙ ap (λ l. join_by (λ (y : Bor (List ℕ)). y.now) (codes ", ") l) c.deref.ensures.value ∙ join_now names.items ∙ ap joined c.in_ok-names.ensures in
    IfOk-weaker c.format.result _ _ (λ line e.
    let m : string_bytes line ≡ codes "  " ++ (styled_text c.laid_out.result (string_bytes text) ++ (codes " " ++ (c.args.description.now ++ codes "\n"))) = e in
    group_from (map seen_entry c.args.entries.now) c.args.description.now (string_bytes text) (string_bytes line) is small
    (m ∙ ap (λ s. codes "  " ++ (styled_text s (string_bytes text) ++ (codes " " ++ (c.args.description.now ++ codes "\n")))) c.laid_out.ensures)) c.format.ensures.ok
