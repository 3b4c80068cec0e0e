-- The refusal of room is told.
use Rattle.minus_c.proofs.HeldLaws.{refused_told}
use Rattle.minus_c.proofs.StageLaws.{no_room_still}
use Rattle.minus_c.specs.Stages.{Refuses, FindsNoRoom}
use Rattle.minus_c.proofs.held.Held.reserve.Goals as goal

pub returns-clause-refused : goal.returns-clause-refused
returns-clause-refused c =
    refused_told (λ e. Refuses (FindsNoRoom e) e) no_room_still c.args.self.now c.told.new.self c.reserve-reserved.new.self c.told.result c.reserve-reserved.result c.told.ensures.same c.told.ensures.kept
    c.told.ensures.done c.told.ensures.refused c.reserve-reserved.ensures.refused
