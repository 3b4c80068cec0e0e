-- Without a row nothing is added.
use Rattle.std.proofs.Common.{option_map, sym, ap, ◌∙◌}
use Rattle.minus_state.specs.Showing.{row_text}
use Rattle.minus_state.proofs.WritingLaws.{none_written}
use Rattle.minus_state.proofs.showing.ShownRows.write_marked.Goals as goal

pub returns-in_default : goal.returns-in_default
returns-in_default c = λ term found. none_written c.args.out.now.items _ (sym (ap (option_map row_text) c.in_default.is) ∙ c.in_ok-row.ensures term found)
