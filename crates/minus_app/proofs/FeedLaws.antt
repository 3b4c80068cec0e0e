-- What a feed owes.
use Rattle.std.proofs.Common.{◌≡◌, ℕ, List, Option, None, Some}
use Rattle.minus_app.specs.declared.app.Fed.{Fed}
use Rattle.minus_app.specs.declared.app.Fed.TheVariants.{Text, NothingNow, EndForNow, End}
use Rattle.minus_app.specs.Feeds.{IsFed}

-- nothing, where it does not say what text is left
pub owes_nothing : (fed : Fed) (after : Option (List ℕ)) → IsFed None fed after
owes_nothing (Text t) after = tt
owes_nothing NothingNow after = tt
owes_nothing EndForNow after = tt
owes_nothing End after = (tt, tt)
