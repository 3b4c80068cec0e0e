-- The division of a list into runs, by the relation that it alone meets.
use Rattle.std.specs.Prelude.{◌≡◌, Bool, List}
use Rattle.minus_text.specs.Runs.{AreRuns, IsFitRule}
use Rattle.minus_text.specs.RunsLaws.{divided, same_runs}

-- runs that the list is divided into, and there are no others
pub record TheRuns {X : Type 0} (fits : List X → Bool) (xs : List X) : Type 0 where
  pub runs : List (List X)
  pub are : AreRuns fits xs runs
  pub only : (others : List (List X)) → AreRuns fits xs others → others ≡ runs

-- the runs that a list is divided into by what fits, and that there are no others
pub the_runs : {X : Type 0} (fits : List X → Bool) → IsFitRule fits → (xs : List X) → TheRuns fits xs
the_runs fits rule xs =
    let it = divided fits rule xs in
    record { runs = it.0; are = it.1; only = λ others h. same_runs fits rule xs others it.0 h it.1 }
