-- The lines so far.
use Rattle.std.proofs.Common.{◌≡◌, map, take, string_bytes}
use Rattle.std.specs.List.{flat_map}
use Rattle.minus_input.specs.HelpTable.{seen_entry, group_line}
use Rattle.minus_input.proofs.help_table.format_groups.Given as goal

abbrev pub invariant-loop-description : goal.invariant-loop-description
invariant-loop-description l = string_bytes l.lines ≡ flat_map (group_line (map seen_entry l.entries)) (map (λ text. text.now) (take l.description-index l.descriptions))
