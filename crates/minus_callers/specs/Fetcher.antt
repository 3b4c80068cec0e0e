-- A text that is fetched piece by piece.
use Rattle.std.specs.Prelude.{◌≡◌, ℕ, ◌∷◌, [], ◌++◌, List, Bool, None, if◌then◌else◌}
use Rattle.minus_state.specs.HookIds.{id_of}
use Rattle.minus_state.specs.declared.hooks.HookId.{HookId}
use Rattle.minus_term.specs.declared.hooks.Hook.TheVariants.{EofReached}
use Rattle.minus.specs.Seen.{Seen}
use Rattle.minus.specs.Waiting.{IsReady}

-- the hook that is called at the end of the text holds one callback, under the first id that is free
abbrev pub one_at_end : List HookId
one_at_end = id_of EofReached 2 ∷ []

-- the text with what was fetched, if it was
abbrev pub text_with : Bool → (text more : List ℕ) → List ℕ
text_with fetched text more = if fetched then text ++ more else text

-- help is not open, and what is pushed does not wait
pub record TakesText {Q K : Type 0} (seen : Seen Q K) : Type 0 where
  pub no_help : seen.control.help ≡ None
  pub ready : IsReady seen

-- more of a text was fetched, or nothing was
abbrev pub IsFetched : {Q K : Type 0} → Bool → (old new : Seen Q K) → List ℕ → Type 0
IsFetched fetched old new more = TakesText old → new.control.text ≡ text_with fetched old.control.text more
