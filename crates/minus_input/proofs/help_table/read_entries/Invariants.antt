use Rattle.std.proofs.Common.{◌≡◌, map, take}
use Rattle.minus_input.specs.HelpTable.{seen_entry, entry_of}
use Rattle.minus_input.proofs.help_table.read_entries.Given as goal

abbrev pub invariant-loop-key : goal.invariant-loop-key
invariant-loop-key l = map seen_entry l.read.items ≡ map entry_of (take l.key-index l.entries)
