use Rattle.minus_input.proofs.NumberLaws.{usize_parses}
use Rattle.minus_input.proofs.number.usize_of_is_what_parse_reads.Goals as goal

pub returns : goal.returns
returns c = usize_parses
