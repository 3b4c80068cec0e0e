-- The rows that the clamped mark leads to.
use Rattle.std.proofs.Common.{ap, ◌∙◌}
use Rattle.std.specs.List.{flat_map}
use Rattle.minus_term.specs.FullRedraw.{row_ops}
use Rattle.minus_term.specs.Written.{written_all}
use Rattle.minus_state.proofs.ChangeLaws.{formed_for, shown_is}
use Rattle.minus_draw.proofs.sink_calls.written_rows.Goals as goal

pub returns-clause-bytes : goal.returns-clause-bytes
returns-clause-bytes c f =
    let leads = c.moved_to-change.ensures.next f in
    c.in_ok-bytes.ensures (formed_for c.args.state.now c.moved_to-change.result _ f leads) ∙ ap (λ texts. written_all (flat_map row_ops texts)) (shown_is c.args.state.now c.moved_to-change.result _ f leads)
