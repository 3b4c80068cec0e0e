use Rattle.std.proofs.Common.{rules}
use Rattle.minus_input.proofs.help_table.format_help_table_from_entries.Goals as goal

pub returns : goal.returns
returns c = search rules
