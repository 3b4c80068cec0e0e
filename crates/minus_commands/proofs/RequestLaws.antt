-- Requests that hand nothing over.
use Rattle.std.proofs.Common.{◌≡◌, Option, None, refl, ap}
use Rattle.minus_commands.specs.declared.registration.Handed.{Handed}
use Rattle.minus_commands.specs.declared.request.Request.{Request}
use Rattle.minus_commands.specs.declared.request.Request.TheVariants as request
use Rattle.minus_commands.specs.Callbacks.{Callbacks, with_request}
use Rattle.minus_commands.specs.Reads.{wanted_by, IsRequest}
use Rattle.minus_state.specs.Classifying.{Classifies}
use Rattle.minus_state.specs.Control.{Control, Saved}
use Rattle.minus_commands.specs.Table.{Wanted, shows_help, handed, hook_after}

pub none_handed : {P H E Q K : Type 0} (r : Request P H E Q K) → ((h : Handed P H E Q K) → r ≡ request.HandOver h → ⊥) → handed (wanted_by r) ≡ None
none_handed (request.HandOver a) n = absurd (n a refl)
none_handed w n = refl

pub none_kept : {P H E Q K : Type 0} (r : Request P H E Q K) (c : Callbacks H E) → ((h : Handed P H E Q K) → r ≡ request.HandOver h → ⊥) → with_request c r ≡ c
none_kept (request.HandOver a) c n = absurd (n a refl)
none_kept w c n = refl

-- the text of help changes no hook that is due
pub due_as : {Q K : Type 0} (says : Classifies K) (k : K) (help : Option Saved) (c : Control) (asked w : Wanted Q K) → IsRequest says k help asked w → hook_after c w ≡ hook_after c asked
due_as says k help c (shows_help text) w h = rw h.2 refl
due_as says k help c asked w h = ap (hook_after c) h
