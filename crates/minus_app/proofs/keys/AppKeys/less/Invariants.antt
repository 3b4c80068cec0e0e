-- No default key is hidden so far.
use Rattle.std.proofs.Common.{◌≡◌, []}
use Rattle.minus_input.specs.DefaultBindings.{default_register}
use Rattle.minus_input.specs.EventTables.{register_of}
use Rattle.minus_app.specs.Keys.{HidesNothing}
use Rattle.minus_app.proofs.keys.AppKeys.less.Given as goal

abbrev pub invariant-loop-bound : goal.invariant-loop-bound
invariant-loop-bound g l = HidesNothing default_register (register_of l.keys.table) × (l.keys.acts.items ≡ [])
