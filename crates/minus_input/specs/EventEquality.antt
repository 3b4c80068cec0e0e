-- The equality of the keys of a register is one, and equal keys hash equally.
use Rattle.std.specs.Prelude.{◌≡◌, ℕ, List, true}
use Rattle.std.specs.Cmp.{IsEquivalence, on_equiv}
use Rattle.minus_input.specs.contracts.event_form.EventFormEq.TheImpl.Laws.{laws-law as form_laws}
use Rattle.minus_input.specs.contracts.event_form.EventFormHash.TheImpl.Laws.{respects_eq-law as form_respects}
use Rattle.minus_input.specs.contracts.event_form.EventFormHash.TheImpl.{ghosts as form_hash}
use Rattle.minus_input.specs.declared.event_form.EventWrapper.{EventWrapper}
use Rattle.minus_input.specs.EventForm.{form_of, same_event}

-- the equality of the keys of a register is reflexive, symmetric and transitive
pub same_event_laws : IsEquivalence same_event
unfolding same_event
same_event_laws = on_equiv form_of form_laws

-- what a key gives a hasher
abbrev pub event_writes : EventWrapper → List (List ℕ)
event_writes w = form_hash.hash_input (form_of w)

-- equal keys of a register give a hasher the same writes
pub same_event_writes : (a b : EventWrapper) → same_event a b ≡ true → event_writes a ≡ event_writes b
unfolding same_event
same_event_writes a b h = form_respects (form_of a) (form_of b) h
