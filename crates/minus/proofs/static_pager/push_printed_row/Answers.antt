-- The row is the one that is printed.
use Rattle.std.proofs.Common.{List, ℕ, option_map, string_bytes, ap, ◌++◌, ◌∙◌}
use Rattle.minus_term.specs.FullRedraw.{row_ops}
use Rattle.minus_term.specs.Written.{written_all}
use Rattle.minus_state.specs.States.{control_of}
use Rattle.minus.proofs.PrintLaws.{printed_is, printed_not}
use Rattle.minus_commands.proofs.KeepLaws.{on_ok}
use Rattle.minus.proofs.static_pager.push_printed_row.Goals as goal

pub returns-in-Some : goal.returns-in-Some
returns-in-Some c =
    let text = c.deref.ensures ∙ printed_is (control_of c.args.state.now) c.args.row _ (string_bytes c.in-Some.text) c.in_ok-text.ensures (ap (option_map string_bytes) c.in-Some.is) in
    on_ok c.write_row.result (λ h. h ∙ ap (λ (r : List ℕ). c.args.out.now.items ++ written_all (row_ops r)) text) c.write_row.ensures

pub returns-in-None : goal.returns-in-None
returns-in-None c = printed_not (control_of c.args.state.now) c.args.row _ c.in_ok-text.ensures c.requires.inside (ap (option_map string_bytes) c.in-None.is)
