use Rattle.std.proofs.Common.{string_bytes, codes, ap, ◌∙◌}
use Rattle.std.proofs.lemmas.Result.{IfOk-weaker}
use Rattle.minus_input.specs.HelpTable.{shown}
use Rattle.minus_input.proofs.HelpTableLaws.{key_name_from}
use Rattle.minus_input.proofs.help_table.format_key.Goals as goal

pub returns : goal.returns
returns c =
    let is = key_name_from c.args.key.now c.shown-control.result.now c.shown-alt.result.now c.shown-shift.result.now (string_bytes c.in_ok-code.code)
    (c.shown-control.ensures ∙ ap (λ b. shown b (codes "Ctrl-")) (c.contains.ensures tt))
    (c.shown-alt.ensures ∙ ap (λ b. shown b (codes "Alt-")) (c.contains-2.ensures tt))
    (c.shown-shift.ensures ∙ ap (λ b. shown b (codes "Shift-")) c.shows_shift.ensures)
    c.in_ok-code.ensures in
    IfOk-weaker c.format.result _ _ (λ text e. e ∙ is) c.format.ensures.ok
