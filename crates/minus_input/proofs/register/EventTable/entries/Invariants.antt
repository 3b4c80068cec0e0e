use Rattle.std.proofs.Common.{◌≡◌, map, take}
use Rattle.minus_input.specs.HelpTable.{entry_of}
use Rattle.minus_input.specs.RegisterHelp.{key_entries}
use Rattle.minus_input.specs.EventTables.{register_of}
use Rattle.minus_input.proofs.register.EventTable.entries.Given as goal

abbrev pub invariant-loop-place : goal.invariant-loop-place
invariant-loop-place g l = map entry_of l.entries.items ≡ key_entries (take l.place (register_of l.self).bindings)
