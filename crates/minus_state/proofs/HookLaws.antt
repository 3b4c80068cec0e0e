-- Ids of hooks: each is held once, and the next free one is not held.
use Rattle.std.proofs.Common.{set, get_or, inl, inr, arith, subst, true≢false, Option, is_some, ◌||◌, ◌≡◌, ◌<◌, ◌≤◌, ◌==◌, ◌&&◌, ℕ, suc, zero, refl, sym, ap, ◌∙◌, Bool, true, false, List, [], ◌∷◌, ◌++◌, None, Some, position, max, fold, map, filter, cond, if◌then◌else◌}
use Rattle.std.specs.List.{IsDistinct, AllByRecursion, list_any, remove}
use Rattle.std.specs.List.{slice_get}
use Rattle.std.proofs.lemmas.Bool.{cases_Bool, eq-eqb, eqb-true}
use Rattle.std.proofs.lemmas.Grind.{common_steps}
use Rattle.std.proofs.lemmas.Option.{get_or_from_slice_get}
use Rattle.std.proofs.lemmas.Map.Keys.{IsDistinct-push}
use Rattle.minus_term.specs.declared.hooks.Hook.{Hook}
use Rattle.minus_state.specs.declared.hooks.HookId.{HookId}
use Rattle.minus_state.specs.contracts.hooks.HookIdEq.TheImpl.Laws.{laws-law as id_laws}
use Rattle.minus_state.specs.HookIds.{same_id, same_hook, id_of, next_free, is_reserved, is_held, is_taken, given, AreOthersKept}

pub none_passes : {X : Type 0} (p : X → Bool) (xs : List X) → position p xs ≡ None → list_any p xs ≡ false
none_passes p [] h = refl
none_passes p (x ∷ xs) h = grind (arith, common_steps, none_passes p xs)

pub none_once : IsDistinct same_id []
unfolding IsDistinct
none_once = tt

-- an id that is not held may be added
pub added_once : (held : List HookId) (entry : HookId) → position (same_id entry) held ≡ None → IsDistinct same_id held
    → IsDistinct same_id (held ++ entry ∷ [])
added_once held entry free once = IsDistinct-push id_laws held entry once (none_passes (same_id entry) held free)

-- without one of them the others are still held once
pub removed_all : {X : Type 0} (P : X → Type 0) (xs : List X) (i : ℕ) → AllByRecursion P xs
    → AllByRecursion P (remove xs i)
removed_all P [] zero h = tt
removed_all P [] (suc i) h = tt
removed_all P (x ∷ xs) zero h = h.1
removed_all P (x ∷ xs) (suc i) h = (h.0, removed_all P xs i h.1)

pub removed_once : {X : Type 0} (e : X → X → Bool) (xs : List X) (i : ℕ) → IsDistinct e xs → IsDistinct e (remove xs i)
unfolding IsDistinct
removed_once e [] zero h = tt
removed_once e [] (suc i) h = tt
removed_once e (x ∷ xs) zero h = h.1
removed_once e (x ∷ xs) (suc i) h = (removed_all _ xs i h.0, removed_once e xs i h.1)

-- no greatest number is less than the one that it began with
pub at_least : (a : ℕ) (xs : List ℕ) → a ≤ fold max a xs
at_least a [] = omega arith
at_least a (x ∷ xs) = let more = at_least (max a x) xs in omega (arith, more)

pub none_before : {X : Type 0} (p : X → Bool) (x : X) (xs : List X) → p x ≡ false → position p xs ≡ None
    → position p (x ∷ xs) ≡ None
none_before p x xs fails none = grind (arith, common_steps, fails, none)

pub differs : (id other : ℕ) → other < id → (id == other) ≡ false
differs id other less = grind (arith, less)

-- whether one is of those that count, with this id
abbrev pub is_own : (HookId → Bool) → (id : ℕ) → HookId → Bool
is_own own id entry = own entry && (id == entry.id)

-- the greatest id of those that count, or a
abbrev pub most : (HookId → Bool) → (a : ℕ) → List HookId → ℕ
most own a held = fold max a (map (λ entry. entry.id) (filter own held))

-- more than the greatest of some ids is none of them
pub free_where : (own : HookId → Bool) (id : ℕ) (held : List HookId) (a : ℕ) → most own a held < id
    → position (is_own own id) held ≡ None
free_where own id [] a less = refl
free_where own id (entry ∷ held) a less =
    go (own entry) refl (free_where own id held a) (free_where own id held (max a entry.id)) where
      picked : Bool → List HookId
      picked b = cond b (entry ∷ filter own held) (filter own held)

      above : (b : Bool) → own entry ≡ b → fold max a (map (λ e. e.id) (picked b)) < id
      above b is = subst (λ b. fold max a (map (λ e. e.id) (picked b)) < id) is less

      go : (b : Bool) → own entry ≡ b → (most own a held < id → position (is_own own id) held ≡ None)
          → (most own (max a entry.id) held < id → position (is_own own id) held ≡ None)
          → position (is_own own id) (entry ∷ held) ≡ None
      go true is rest more =
          let least = at_least (max a entry.id) (map (λ e. e.id) (filter own held)) in
          let high : most own (max a entry.id) held < id = above true is in
          none_before (is_own own id) entry held
          (ap (λ b. b && (id == entry.id)) is ∙ differs id entry.id (omega (arith, high, least))) (more high)
      go false is rest more =
          none_before (is_own own id) entry held (ap (λ b. b && (id == entry.id)) is) (rest (above false is))

pub none_of : {A : Type 0} (o : Option A) → is_some o ≡ false → o ≡ None
none_of None h = refl
none_of (Some x) h = absurd (true≢false h)

pub neither : (a b : Bool) → (a || b) ≡ false → b ≡ false
neither false b h = h
neither true b h = absurd (true≢false h)

-- the id that is given is not held
pub given_free : (held : List HookId) (hook : Hook) (id : ℕ) → is_taken held hook id ≡ false
    → position (same_id (id_of hook (given held hook id))) held ≡ None
given_free held hook zero free =
    free_where (λ entry. same_hook hook entry.hook) (next_free held hook) held 0 (omega arith)
given_free held hook (suc n) free =
    let asked : (suc n == 0) ≡ false = differs (suc n) 0 (omega arith) in
    subst (λ b. position (same_id (id_of hook (if b then next_free held hook else suc n))) held ≡ None) (sym asked)
    (none_of _ (neither (is_reserved hook (suc n)) _
    (subst (λ b. (if b then false else (is_reserved hook (suc n) || is_held held hook (suc n))) ≡ false) asked free)))

-- another element is put at a place, and those at others stay
slice_get_other : {X : Type 0} (xs : List X) (i k : ℕ) (x : X) → (k ≡ i → ⊥) → slice_get (set xs i x) k ≡ slice_get xs k
slice_get_other [] i k x ne = refl
slice_get_other (y ∷ ys) zero zero x ne = absurd (ne refl)
slice_get_other (y ∷ ys) zero (suc k) x ne = refl
slice_get_other (y ∷ ys) (suc i) zero x ne = refl
slice_get_other (y ∷ ys) (suc i) (suc k) x ne = slice_get_other ys i k x (λ e. ne (ap suc e))

-- a callback that is called is one of the hook
pub kept_called : {C : Type 0} (hook : Hook) (ids : List HookId) (old now : List C) (i : ℕ) (x : C) (d : HookId) → AreOthersKept hook ids old now → same_hook (get_or ids i d).hook hook ≡ true → AreOthersKept hook ids old (set now i x)
kept_called hook ids old now i x d kept same k entry at other = elim (cases_Bool (k == i)) [
  | inl e ↦ (
      let here : slice_get ids i ≡ Some entry = subst (λ (n : ℕ). slice_get ids n ≡ Some entry) (eqb-true k i e) at in
      let got = get_or_from_slice_get ids i entry d here in
      let of_hook : same_hook entry.hook hook ≡ true = subst (λ (h : HookId). same_hook h.hook hook ≡ true) got same in
      absurd (true≢false (sym of_hook ∙ other))
      )
  | inr e ↦ slice_get_other now i k x (λ is. true≢false (sym (eq-eqb k i is) ∙ e)) ∙ kept k entry at other
]
