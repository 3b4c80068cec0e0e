use Rattle.std.proofs.Common.{rules}
use Rattle.minus_input.proofs.names.modifier_of.Goals as goal

pub returns-in-c : goal.returns-in-c
returns-in-c c = search rules

pub returns-in-m : goal.returns-in-m
returns-in-m c = search rules
