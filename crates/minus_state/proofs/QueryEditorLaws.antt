-- What is reported of an edit, and where the words around a cursor start.
use Rattle.std.proofs.Common.{◌≡◌, ℕ, ◌+◌, ◌-◌, ◌≤◌, List, [], ◌∷◌, take, drop, length, refl, arith, inl, inr}
use Rattle.std.specs.Prelude.{nat_lt}
use Rattle.std.proofs.lemmas.Bool.{ne_eqb, cases_Bool}
use Rattle.std.proofs.lemmas.List.{length-append, length-take-le, length-drop}
use Rattle.minus_text.specs.WordStarts.{AreWithin}
use Rattle.minus_state.specs.declared.search.query.Fed.TheVariants as told
use Rattle.minus_state.specs.QueryEditor.{Editor, without, with_at, told_between, last_below, first_above}

-- a query that is longer or shorter has changed
edited_told : (old new : Editor) → (length old.query ≡ length new.query → ⊥) → told_between old new ≡ told.Edited
edited_told old new ne = let test = ne_eqb (length old.query) (length new.query) ne in rw test refl

-- a query without one of its characters has changed
pub removed_told : (old : Editor) (at cursor : ℕ) → 1 ≤ at → at ≤ length old.query →
    (let new : Editor = record { query = without at old.query; cursor = cursor } in told_between old new ≡ told.Edited)
removed_told old at cursor one le =
    let q = old.query in
    let front = length-take-le (at - 1) q (omega (arith, le)) in
    let all = length-append (take (at - 1) q) (drop at q) in
    let back = length-drop at q in
    edited_told old (record { query = without at q; cursor = cursor }) (λ e. omega (arith, e, front, all, back, one, le))

-- a query with one more character has changed
pub inserted_told : (old : Editor) (at cursor x : ℕ) → at ≤ length old.query + 1 →
    (let new : Editor = record { query = with_at at x old.query; cursor = cursor } in told_between old new ≡ told.Edited)
inserted_told old at cursor x le =
    let q = old.query in
    let front = length-take-le (at - 1) q (omega (arith, le)) in
    let all = length-append (take (at - 1) q) (x ∷ drop (at - 1) q) in
    let back = length-drop (at - 1) q in
    edited_told old (record { query = with_at at x q; cursor = cursor }) (λ e. omega (arith, e, front, all, back, le))

-- the last place below another stands from 1 to the end, where all places do
pub last_within : (end place last : ℕ) (ps : List ℕ) → 1 ≤ last → last ≤ end → AreWithin end ps →
    (1 ≤ last_below place last ps) × (last_below place last ps ≤ end)
last_within end place last [] one le h = (one, le)
last_within end place last (p ∷ ps) one le h = elim (cases_Bool (nat_lt p place)) [
  | inl e ↦ rw e (last_within end place p ps h.0 h.1 h.2)
  | inr e ↦ rw e (last_within end place last ps one le h.2)
]

-- the first place above another stands from 1 to the end, where all places do
pub first_within : (end place : ℕ) (ps : List ℕ) → 1 ≤ end → AreWithin end ps →
    (1 ≤ first_above place end ps) × (first_above place end ps ≤ end)
first_within end place [] one h = (one, omega arith)
first_within end place (p ∷ ps) one h = elim (cases_Bool (nat_lt place p)) [
  | inl e ↦ rw e (h.0, h.1)
  | inr e ↦ rw e (first_within end place ps one h.2)
]

-- places that stand below an end stand below a later one
pub within_later : (end later : ℕ) (ps : List ℕ) → end ≤ later → AreWithin end ps → AreWithin later ps
within_later end later [] le h = tt
within_later end later (p ∷ ps) le h = (h.0, omega (arith, le, h.1), within_later end later ps le h.2)
