-- Where no description is left, there is no table.
use Rattle.std.proofs.Common.{◌≡◌, length, map, sym, ap, rules, ◌∙◌}
use Rattle.std.proofs.lemmas.Bool.{eqb-true}
use Rattle.std.proofs.lemmas.List.{length-map}
use Rattle.minus_input.specs.HelpTable.{descriptions, seen_entry}
use Rattle.minus_input.proofs.help_table.format_entries.Goals as goal

pub returns-then-is_empty : goal.returns-then-is_empty
returns-then-is_empty c =
    let found = descriptions (map seen_entry c.args.entries.now) in
    let counted : length c.in_ok-texts.texts.items ≡ length found = sym (length-map c.in_ok-texts.texts.items _) ∙ ap length c.in_ok-texts.ensures in
    let none : length found ≡ 0 = sym counted ∙ sym c.in_ok-texts.texts.ok.0 ∙ eqb-true _ 0 (sym c.is_empty.ensures ∙ c.if-is_empty.true) in
    rw none (search rules)
