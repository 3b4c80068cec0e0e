-- The row of the state is put into the room.
use Rattle.std.proofs.Common.{sym, subst, List, ℕ, Option}
use Rattle.minus_text.specs.Searched.{IsStoredRow}
use Rattle.minus_c.proofs.StageLaws.{in_state}
use Rattle.minus_c.proofs.held.Held.row.Goals as goal

pub returns-in-Ok : goal.returns-in-Ok
returns-in-Ok c = λ done.
    in_state _ c.in-Some.state.now (_, subst (λ (x : Option (List ℕ)). IsStoredRow c.in-Some.state.now.screen c.args.row x) (sym c.as_deref.ensures.value) c.in-Ok.ensures, c.put.ensures) _ c.in-Some.ensures
