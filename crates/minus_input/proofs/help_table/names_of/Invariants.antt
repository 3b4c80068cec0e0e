use Rattle.std.proofs.Common.{◌≡◌, map, take}
use Rattle.minus_input.specs.HelpTable.{seen_entry, names_of}
use Rattle.minus_input.proofs.help_table.names_of.Given as goal

abbrev pub invariant-loop-entry : goal.invariant-loop-entry
invariant-loop-entry l = map (λ name. name.now) l.names.items ≡ names_of (map seen_entry (take l.entry-index l.entries)) l.fn.description
