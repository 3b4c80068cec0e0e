use Rattle.std.proofs.Common.{rules}
use Rattle.minus_script.proofs.run.print_page.Goals as goal

pub returns-in_ok-print_rows-in-None-clause-page : goal.returns-in_ok-print_rows-in-None-clause-page
returns-in_ok-print_rows-in-None-clause-page c = search rules
