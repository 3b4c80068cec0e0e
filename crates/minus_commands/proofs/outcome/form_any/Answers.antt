-- What leads a selection on is the table's, part by part.
use Rattle.std.proofs.Common.{rules}
use Rattle.minus_commands.proofs.outcome.form_any.Goals as goal

pub returns-in-UpdateSelection-clause-formed : goal.returns-in-UpdateSelection-clause-formed
returns-in-UpdateSelection-clause-formed g c = record {
  possible = search rules;
  leads = search rules;
  redraw = search rules;
  moves_to = search rules;
  row_only = search rules;
  copied = search rules;
  exits = search rules;
}
