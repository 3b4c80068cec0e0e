-- Inputs that are taken, one after another.
use Rattle.std.proofs.Common.{◌≡◌, ℕ, ◌≤◌, ◌||◌, Bool, true, false, List, [], ◌∷◌, ◌++◌, length, Option, None, Some, refl, sym, ◌∙◌, subst, arith}
use Rattle.std.specs.List.{Contains}
use Rattle.std.proofs.lemmas.List.{length-append, map-append}
use Rattle.std.proofs.lemmas.List.Elements.{Contains-push}
use Rattle.std.proofs.lemmas.List.Folds.{list_any-append}
use Rattle.minus_term.specs.Refusals.{Refusal}
use Rattle.minus.specs.Says.{Says}
use Rattle.minus_state.specs.Control.{Control}
use Rattle.minus_commands.specs.Reads.{Told}
use Rattle.minus.specs.Seen.{Seen}
use Rattle.minus_draw.specs.Drawn.{Work, passed_in, reached, is_full, some_full}
use Rattle.minus.specs.Works.{Takes, worked, waited, edits, Worked, first, more, passed, AloneWithNoPrompt}
use Rattle.minus.specs.Waiting.{IsNext, leaving}
use Rattle.minus_state.specs.PromptKeys.{told_by}
use Rattle.minus_state.specs.OpenPrompts.{fed}
use Rattle.minus_state.specs.QueryKeys.{edit_of}
use Rattle.minus_draw.proofs.KeyedLaws.{keyed_rows}
use Rattle.minus_commands.proofs.TableLaws.{resizes_full_lem}

-- ---- one input

-- what it leaves is its work's
pub takes_left : {Q K : Type 0} (says : Says Q K) (s new : Seen Q K) (told : Told Q K) (work : Work) (text : Option (List ℕ)) → Takes says s told work text new → new.control ≡ work.left
takes_left says s new told work text (worked w closed asked possible free on) = refl
takes_left says s new told work text (waited o w searching wants possible) = refl
takes_left says s new told work text (edits o searching alone state formed is found may) = refl

pub takes_status : {Q K : Type 0} (says : Says Q K) (s new : Seen Q K) (told : Told Q K) (work : Work) (text : Option (List ℕ)) → Takes says s told work text new → new.status ≡ s.status
takes_status says s new told work text (worked w closed asked possible free on) = refl
takes_status says s new told work text (waited o w searching wants possible) = refl
takes_status says s new told work text (edits o searching alone state formed is found may) = refl

-- what is not drawn in full keeps the size
pub takes_rows : {Q K : Type 0} (says : Says Q K) (s new : Seen Q K) (told : Told Q K) (work : Work) (text : Option (List ℕ)) → Takes says s told work text new → is_full work.drawing ≡ false → s.control.rows ≡ new.control.rows
takes_rows says s new told work text (worked w closed asked possible free on) e = (resizes_full_lem s.control w e).same_rows
takes_rows says s new told work text (waited o w searching wants possible) e = refl
takes_rows says s new told work text (edits {event = event} o searching alone state formed is found may) e = sym (keyed_rows (told_by o (edit_of event)) s.control o.edited (fed o.prompt (edit_of event)) found)

-- ---- an input and those that waited behind it

-- an input at least
pub some_works : {Q K : Type 0} (says : Says Q K) (old : Seen Q K) (told : Told Q K) (s : Seen Q K) (works : List Work) (refused : List Refusal) (copied : Option (List ℕ)) → Worked says old told works refused copied s → 1 ≤ length works
some_works says old told s works refused copied (first t) = omega arith
some_works says old told s all refused copied (more {works = works} {work = work} h n t) = let l = length-append works (work ∷ []) in omega (arith, l)
some_works says old told s works refused copied (passed refusal h n u) = some_works says old told _ works _ copied h

-- the control that they leave is among those that they pass
pub last_passed : {Q K : Type 0} (says : Says Q K) (old : Seen Q K) (told : Told Q K) (s : Seen Q K) (works : List Work) (refused : List Refusal) (copied : Option (List ℕ)) → Worked says old told works refused copied s → Contains (passed_in works) s.control
last_passed says old told s works refused copied (first {work = work} t) = subst (λ (c : Control). Contains (work.left ∷ []) c) (sym (takes_left says old s told work copied t)) (0, omega arith, refl)
last_passed says old told s all refused copied (more {works = works} {next = next} {work = work} {text = text} h n t) =
    let left : s.control ≡ work.left = takes_left says _ s next work text t in
    rw (left, map-append (λ (x : Work). x.left) works (work ∷ [])) (Contains-push (passed_in works) work.left)
last_passed says old told s works refused copied (passed refusal h n u) = last_passed says old told _ works _ copied h

reached_last : (c : Control) (works : List Work) (work : Work) → reached c (works ++ work ∷ []) ≡ work.left
reached_last c [] work = refl
reached_last c (w ∷ works) work = reached_last w.left works work

-- it is the control that they reach
pub works_reach : {Q K : Type 0} (says : Says Q K) (old : Seen Q K) (told : Told Q K) (s : Seen Q K) (works : List Work) (refused : List Refusal) (copied : Option (List ℕ)) → Worked says old told works refused copied s → s.control ≡ reached old.control works
works_reach says old told s works refused copied (first {work = work} t) = takes_left says old s told work copied t
works_reach says old told s all refused copied (more {works = works} {next = next} {work = work} {text = text} h n t) = takes_left says _ s next work text t ∙ sym (reached_last old.control works work)
works_reach says old told s works refused copied (passed refusal h n u) = works_reach says old told _ works _ copied h

pub status_kept : {Q K : Type 0} (says : Says Q K) (old : Seen Q K) (told : Told Q K) (s : Seen Q K) (works : List Work) (refused : List Refusal) (copied : Option (List ℕ)) → Worked says old told works refused copied s → s.status ≡ old.status
status_kept says old told s works refused copied (first {work = work} t) = takes_status says old s told work copied t
status_kept says old told s all refused copied (more {next = next} {work = work} {text = text} h n t) = takes_status says _ s next work text t ∙ status_kept says old told _ _ refused _ h
status_kept says old told s works refused copied (passed refusal h n u) = status_kept says old told _ works _ copied h

pub not_left : (x y : Bool) → (x || y) ≡ false → x ≡ false
not_left true y e = absurd (cc)
not_left false y e = refl

not_right : (x y : Bool) → (x || y) ≡ false → y ≡ false
not_right true y e = absurd (cc)
not_right false y e = e

-- where none of them is drawn in full the size stays
pub rows_kept : {Q K : Type 0} (says : Says Q K) (old : Seen Q K) (told : Told Q K) (s : Seen Q K) (works : List Work) (refused : List Refusal) (copied : Option (List ℕ)) → Worked says old told works refused copied s → some_full works ≡ false → old.control.rows ≡ s.control.rows
rows_kept says old told s works refused copied (first {work = work} t) e = takes_rows says old s told work copied t (not_left (is_full work.drawing) false e)
rows_kept says old told s all refused copied (more {works = works} {s = m} {next = next} {rest = rest} {work = work} {text = text} h n t) e =
    let parts : (some_full works || some_full (work ∷ [])) ≡ false = sym (list_any-append (λ (x : Work). is_full x.drawing) works (work ∷ [])) ∙ e in
    rows_kept says old told m works refused _ h (not_left (some_full works) (some_full (work ∷ [])) parts) ∙ takes_rows says (leaving m rest) s next work text t (not_left (is_full work.drawing) false (not_right (some_full works) (some_full (work ∷ [])) parts))
rows_kept says old told s works refused copied (passed {s = m} refusal h n u) e = rows_kept says old told m works _ copied h e

-- ---- one input alone

takes_waiting : {Q K : Type 0} (says : Says Q K) (s new : Seen Q K) (told : Told Q K) (work : Work) (text : Option (List ℕ)) → s.control.search ≡ None → Takes says s told work text new → new.waiting ≡ s.waiting
takes_waiting says s new told work text none (worked w closed asked possible free on) = refl
takes_waiting says s new told work text none (waited o w searching wants possible) = absurd (let both : None ≡ Some o = sym none ∙ searching in cc)
takes_waiting says s new told work text none (edits o searching alone state formed is found may) = absurd (let both : None ≡ Some o = sym none ∙ searching in cc)

none_next : {Q K X : Type 0} (s : Seen Q K) (next : Told Q K) (rest : List (Told Q K)) → s.waiting ≡ [] → IsNext s next rest → X
none_next s next rest e n = absurd (let both : [] ≡ next ∷ rest = sym e ∙ n.1 in cc)

alone : {Q K : Type 0} (says : Says Q K) (old : Seen Q K) (told : Told Q K) (s : Seen Q K) (works : List Work) (refused : List Refusal) (copied : Option (List ℕ)) → old.control.search ≡ None → old.waiting ≡ [] → Worked says old told works refused copied s
    → (s.waiting ≡ []) × ((work : Work) × (works ≡ work ∷ []) × (refused ≡ []) × Takes says old told work copied s)
alone says old told s works refused copied none empty (first {work = work} t) = (takes_waiting says old s told work copied none t ∙ empty, (work, refl, refl, t))
alone says old told s all refused copied none empty (more {works = works} {s = m} {next = next} {rest = rest} h n t) = none_next m next rest (alone says old told m works refused _ none empty h).0 n
alone says old told s works refused copied none empty (passed {s = m} {next = next} {rest = rest} refusal h n u) = none_next m next rest (alone says old told m works _ copied none empty h).0 n

pub alone_lem : {Q K : Type 0} (says : Says Q K) → AloneWithNoPrompt says
alone_lem says old s told works refused copied ready h = (alone says old told s works refused copied ready.closed ready.none_waits h).1
