use Rattle.minus_script.proofs.EscapeLaws.{printed_reads_back}
use Rattle.minus_script.proofs.printed.printed_rows_read_back.Goals as goal

pub returns : goal.returns
returns c = printed_reads_back
