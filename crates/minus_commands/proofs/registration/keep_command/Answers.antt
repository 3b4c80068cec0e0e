-- What is free is kept, where there is room.
use Rattle.std.proofs.Common.{ap, sym, subst, ◌∙◌}
use Rattle.minus_commands.specs.Registration.{IsFreeFor}
use Rattle.minus_commands.specs.Reads.{kept_of, handing_of, wanted_by}
use Rattle.minus_commands.specs.Table.{handed}
use Rattle.minus_commands.proofs.KeepLaws.{is_handed}
use Rattle.minus_commands.proofs.registration.keep_command.Goals as goal

pub unwrap-requires : goal.unwrap-requires
unwrap-requires g c =
    let ids = (kept_of c.args.parts.now).ids in
    let is = ap handed (sym c.of_command.ensures.wanted ∙ ap wanted_by c.in-HandOver.is) in
    is_handed c.keep_handed.result ids (handing_of c.in-HandOver.handed) (subst (IsFreeFor ids) is c.requires.free) c.keep_handed.ensures.refused (λ no. c.keep_handed.ensures.enough no 0 c.requires.room)
