-- What contracts read of a session.
use Rattle.std.specs.Prelude.{map}
use Rattle.minus.specs.declared.session.Core.{Core}
use Rattle.minus_commands.specs.Reads.{told_of, kept_of}
use Rattle.minus.specs.Seen.{Seen}
use Rattle.minus_state.specs.States.{control_of}

-- what contracts read of a session, as values alone
abbrev pub seen_of : {S P H E Q K : Type 0} → Core S P H E Q K → Seen Q K
seen_of core = record {
  control = control_of core.parts.state;
  classifier = core.parts.classifier;
  condition = core.parts.condition;
  kept = kept_of core.parts;
  mode = core.mode;
  waiting = map told_of core.waiting.items;
  status = core.status;
}
