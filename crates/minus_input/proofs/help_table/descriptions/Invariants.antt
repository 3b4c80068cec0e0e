use Rattle.std.proofs.Common.{◌≡◌, map, take}
use Rattle.minus_input.specs.HelpTable.{seen_entry, descriptions}
use Rattle.minus_input.proofs.help_table.descriptions.Given as goal

abbrev pub invariant-loop-entry : goal.invariant-loop-entry
invariant-loop-entry l = map (λ text. text.now) l.texts.items ≡ descriptions (map seen_entry (take l.entry-index l.entries))
