-- What is gone from `rest` was appended; each turn takes some of it or counts an interrupt.
use Rattle.std.proofs.Common.{◌≡◌, ℕ, Option, ◌+◌, ◌-◌, ◌≤◌, List, ◌++◌, length}
use Rattle.std.specs.Io.KnownBytes.{Appends}
use Rattle.minus_script.proofs.printed.write_all.Given as goal

pub record Writing (bytes rest : List ℕ) (interrupts : ℕ) (old new : Option (List ℕ)) : Type 0 where
  pub done : List ℕ
  pub all : bytes ≡ done ++ rest
  pub appended : Appends old new done
  pub few : interrupts ≤ 1048576

abbrev pub invariant-loop-rest : goal.invariant-loop-rest
invariant-loop-rest g l = Writing l.bytes l.rest l.interrupts (g.W.Write.contents l.initial.writer) (g.W.Write.contents l.writer)

abbrev pub decreases-loop-rest : goal.decreases-loop-rest
decreases-loop-rest g l = length l.rest + (1048576 - l.interrupts)
