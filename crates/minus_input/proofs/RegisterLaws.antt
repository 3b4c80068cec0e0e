-- Laws of lists of bindings, and of what they are read as.
use Rattle.std.proofs.Common.{◌≡◌, ℕ, zero, suc, ◌<◌, ◌++◌, ◌∷◌, [], List, Bool, true, false, cond, length, take, Option, None, Some, is_some, slice_get, Result, Ok, Err, OnOk, is_err, is_ok, if◌then◌else◌, get_or, ◌+◌, true≢false, refl, sym, ap, ◌∙◌, subst, inl, inr, arith}
use Rattle.std.proofs.lemmas.Bool.{cases_Bool}
use Rattle.std.proofs.lemmas.List.{take_more, map-append}
use Rattle.std.proofs.lemmas.Option.{none-some, slice_get_cases}
use Rattle.std.specs.Option.{unwrap_or, option_map, option_and_then}
use Rattle.std.specs.Map.{lookup, remove_entry, keys_of}
use Rattle.indexmap.specs.IndexMap.{insert_entry}
use Rattle.minus_input.specs.declared.bound.Bound.{Bound}
use Rattle.minus_input.specs.declared.bound.Bound.TheVariants.{Default, Callback}
use Rattle.minus_input.specs.declared.bound.KeptCallback.{KeptCallback}
use Rattle.minus_input.specs.declared.bound.ActionOf.{ActionOf}
use Rattle.minus_input.specs.declared.bound.ActionOf.TheVariants as action
use Rattle.minus_input.specs.declared.default_action.DefaultAction.{DefaultAction}
use Rattle.minus_input.specs.Register.{Binding, Register, action_at, action_or, bind, bind_all, bind_each, unbind, unbind_all, bound_to}
use Rattle.minus_input.specs.Resolved.{binding_at, kept_binding, default_bounds, EachIsRead, read_each}

module _ {K B : Type 0} (same : K → K → Bool) where
  -- the index map's insertion, removal and look-up are the register's
  pub bind-insert_entry : (es : List (K × B)) (k : K) (b : B) → insert_entry same es k b ≡ bind same es k b
  bind-insert_entry [] k b = refl
  bind-insert_entry (e ∷ es) k b = ap (λ l. cond (same k e.0) ((e.0, b) ∷ es) (e ∷ l)) (bind-insert_entry es k b)

  pub unbind-remove_entry : (es : List (K × B)) (k : K) → remove_entry (same k) es ≡ unbind same es k
  unbind-remove_entry [] k = refl
  unbind-remove_entry (e ∷ es) k = ap (λ l. cond (same k e.0) es (e ∷ l)) (unbind-remove_entry es k)

  pub bound_to-lookup : (es : List (K × B)) (k : K) → lookup (same k) es ≡ bound_to same es k
  bound_to-lookup [] k = refl
  bound_to-lookup (e ∷ es) k = ap (λ l. cond (same k e.0) (Some e.1) l) (bound_to-lookup es k)

  -- one more key is bound
  pub bind_all-more : (es : List (K × B)) (ks : List K) (k : K) (b : B) → bind_all same es (ks ++ k ∷ []) b ≡ bind same (bind_all same es ks b) k b
  bind_all-more es [] k b = refl
  bind_all-more es (j ∷ ks) k b = bind_all-more (bind same es j b) ks k b

  pub bind_each-more : (es : List (K × B)) (ps : List (K × B)) (p : K × B) → bind_each same es (ps ++ p ∷ []) ≡ bind same (bind_each same es ps) p.0 p.1
  bind_each-more es [] p = refl
  bind_each-more es (q ∷ ps) p = bind_each-more (bind same es q.0 q.1) ps p

  -- one more key is removed
  pub unbind_all-more : (es : List (K × B)) (ks : List K) (k : K) → unbind_all same es (ks ++ k ∷ []) ≡ unbind same (unbind_all same es ks) k
  unbind_all-more es [] k = refl
  unbind_all-more es (j ∷ ks) k = unbind_all-more (unbind same es j) ks k

  -- a step of a loop that binds keys
  pub bind_step : (start before after : List (K × B)) (ks : List K) (i : ℕ) (d : K) (b : B) → i < length ks → before ≡ bind_all same start (take i ks) b →
      after ≡ insert_entry same before (get_or ks i d) b → after ≡ bind_all same start (take (i + 1) ks) b
  bind_step start before after ks i d b lt so inserted =
      inserted ∙ bind-insert_entry before (get_or ks i d) b ∙ ap (λ l. bind same l (get_or ks i d) b) so
      ∙ sym (bind_all-more start (take i ks) (get_or ks i d) b) ∙ ap (λ l. bind_all same start l b) (sym (take_more ks i d lt))

pub some_is : {X : Type 0} (x y : X) → Some x ≡ Some y → x ≡ y
some_is x y h = ap (λ o. unwrap_or o x) h

pub some_of : {X : Type 0} (o : Option X) → is_some o ≡ true → (x : X) × (o ≡ Some x)
some_of None h = absurd (true≢false (sym h))
some_of (Some x) h = (x, refl)

-- what a call that ended well promises
pub on_ok : {T E : Type 0} (r : Result T E) (x : T) (P : Type 0) → r ≡ Ok x → OnOk r P → P
on_ok r x P is h = subst (λ r. OnOk r P) is h

-- a list after a push that was not refused
pub pushed : {T E X : Type 0} (r : Result T E) (xs ys : List X) (x : X) → is_err r ≡ false → ys ≡ (if is_ok r then xs ++ x ∷ [] else xs) → ys ≡ xs ++ x ∷ []
pushed (Ok v) xs ys x is h = h
pushed (Err e) xs ys x is h = absurd (true≢false is)

module _ {K V B : Type 0} (read : V → Option B) (same : K → K → Bool) where
  -- what is bound can be read, and so can the rest
  pub EachIsRead-bind : (es : List (K × V)) (k : K) (v : V) → is_some (read v) ≡ true → EachIsRead read es → EachIsRead read (bind same es k v)
  EachIsRead-bind [] k v is h = (is, tt)
  EachIsRead-bind (e ∷ es) k v is h = elim (cases_Bool (same k e.0)) [
    | inl t ↦ rw t (is, h.1)
    | inr f ↦ rw f (h.0, EachIsRead-bind es k v is h.1)
  ]

  pub EachIsRead-bind_all : (es : List (K × V)) (ks : List K) (v : V) → is_some (read v) ≡ true → EachIsRead read es → EachIsRead read (bind_all same es ks v)
  EachIsRead-bind_all es [] v is h = h
  EachIsRead-bind_all es (k ∷ ks) v is h = EachIsRead-bind_all (bind same es k v) ks v is (EachIsRead-bind es k v is h)

  pub EachIsRead-bind_each : (es ps : List (K × V)) → EachIsRead read ps → EachIsRead read es → EachIsRead read (bind_each same es ps)
  EachIsRead-bind_each es [] is h = h
  EachIsRead-bind_each es (p ∷ ps) is h = EachIsRead-bind_each (bind same es p.0 p.1) ps is.1 (EachIsRead-bind es p.0 p.1 is.0 h)

  pub EachIsRead-unbind : (es : List (K × V)) (k : K) → EachIsRead read es → EachIsRead read (unbind same es k)
  EachIsRead-unbind [] k h = tt
  EachIsRead-unbind (e ∷ es) k h = elim (cases_Bool (same k e.0)) [
    | inl t ↦ rw t h.1
    | inr f ↦ rw f (h.0, EachIsRead-unbind es k h.1)
  ]

  -- what a look-up finds can be read
  pub EachIsRead-bound_to : (es : List (K × V)) (k : K) (v : V) → EachIsRead read es → bound_to same es k ≡ Some v → is_some (read v) ≡ true
  EachIsRead-bound_to [] k v h found = absurd (none-some v found)
  EachIsRead-bound_to (e ∷ es) k v h found = elim (cases_Bool (same k e.0)) [
    | inl t ↦ subst (λ x. is_some (read x) ≡ true) (some_is e.1 v (subst (λ b. cond b (Some e.1) (bound_to same es k) ≡ Some v) t found)) h.0
    | inr f ↦ EachIsRead-bound_to es k v h.1 (subst (λ b. cond b (Some e.1) (bound_to same es k) ≡ Some v) f found)
  ]

  -- reading goes with binding, removing and looking up
  pub read_bind : (es : List (K × V)) (k : K) (v : V) (b : B) → read v ≡ Some b → EachIsRead read es → read_each read (bind same es k v) ≡ bind same (read_each read es) k b
  read_bind [] k v b at h = rw at refl
  read_bind (e ∷ es) k v b at h =
      let s = some_of (read e.1) h.0 in
      elim (cases_Bool (same k e.0)) [
        | inl t ↦ rw (t, at, s.1, t) refl
        | inr f ↦ rw (f, s.1, f) (ap (λ l. (e.0, s.0) ∷ l) (read_bind es k v b at h.1))
      ]

  pub read_bind_all : (es : List (K × V)) (ks : List K) (v : V) (b : B) → read v ≡ Some b → EachIsRead read es →
      read_each read (bind_all same es ks v) ≡ bind_all same (read_each read es) ks b
  read_bind_all es [] v b at h = refl
  read_bind_all es (k ∷ ks) v b at h =
      read_bind_all (bind same es k v) ks v b at (EachIsRead-bind es k v (ap is_some at) h)
      ∙ ap (λ l. bind_all same l ks b) (read_bind es k v b at h)

  pub read_bind_each : (es ps : List (K × V)) → EachIsRead read ps → EachIsRead read es →
      read_each read (bind_each same es ps) ≡ bind_each same (read_each read es) (read_each read ps)
  read_bind_each es [] is h = refl
  read_bind_each es (p ∷ ps) is h =
      let s = some_of (read p.1) is.0 in
      read_bind_each (bind same es p.0 p.1) ps is.1 (EachIsRead-bind es p.0 p.1 is.0 h)
      ∙ rw s.1 (ap (λ l. bind_each same l (read_each read ps)) (read_bind es p.0 p.1 s.0 s.1 h))

  pub read_unbind : (es : List (K × V)) (k : K) → EachIsRead read es → read_each read (unbind same es k) ≡ unbind same (read_each read es) k
  read_unbind [] k h = refl
  read_unbind (e ∷ es) k h =
      let s = some_of (read e.1) h.0 in
      elim (cases_Bool (same k e.0)) [
        | inl t ↦ rw (t, s.1, t) refl
        | inr f ↦ rw (f, s.1, f) (ap (λ l. (e.0, s.0) ∷ l) (read_unbind es k h.1))
      ]

  pub read_bound_to : (es : List (K × V)) (k : K) → EachIsRead read es → bound_to same (read_each read es) k ≡ option_and_then read (bound_to same es k)
  read_bound_to [] k h = refl
  read_bound_to (e ∷ es) k h =
      let s = some_of (read e.1) h.0 in
      elim (cases_Bool (same k e.0)) [
        | inl t ↦ rw (t, s.1, t) refl
        | inr f ↦ rw (f, s.1, f) (read_bound_to es k h.1)
      ]

  -- whether a key is bound is told by the look-up alone
  pub read_is_bound : (es : List (K × V)) (k : K) → EachIsRead read es → is_some (bound_to same (read_each read es) k) ≡ is_some (bound_to same es k)
  read_is_bound es k h = by (bound_to same es k) refl
    where
      by : (o : Option V) → bound_to same es k ≡ o → is_some (bound_to same (read_each read es) k) ≡ is_some (bound_to same es k)
      by None e = ap is_some (read_bound_to es k h ∙ ap (option_and_then read) e) ∙ sym (ap is_some e)
      by (Some v) e = ap is_some (read_bound_to es k h ∙ ap (option_and_then read) e) ∙ EachIsRead-bound_to es k v h e ∙ sym (ap is_some e)

module _ {K V B : Type 0} (read : V → Option B) where
  -- the pairs keep their number, their order and their keys
  pub length-read_each : (es : List (K × V)) → EachIsRead read es → length (read_each read es) ≡ length es
  length-read_each [] h = refl
  length-read_each (e ∷ es) h = let s = some_of (read e.1) h.0 in rw s.1 (ap suc (length-read_each es h.1))

  pub keys-read_each : (es : List (K × V)) → EachIsRead read es → keys_of (read_each read es) ≡ keys_of es
  keys-read_each [] h = refl
  keys-read_each (e ∷ es) h = let s = some_of (read e.1) h.0 in rw s.1 (ap (λ l. e.0 ∷ l) (keys-read_each es h.1))

  pub EachIsRead-at : (es : List (K × V)) (i : ℕ) (e : K × V) → EachIsRead read es → slice_get es i ≡ Some e → is_some (read e.1) ≡ true
  EachIsRead-at [] i e h at = absurd (none-some e at)
  EachIsRead-at (first ∷ more) zero e h at = subst (λ (p : K × V). is_some (read p.1) ≡ true) (some_is first e at) h.0
  EachIsRead-at (first ∷ more) (suc i) e h at = EachIsRead-at more i e h.1 at

  pub read_at : (es : List (K × V)) (i : ℕ) (e : K × V) (b : B) → EachIsRead read es → slice_get es i ≡ Some e → read e.1 ≡ Some b →
      slice_get (read_each read es) i ≡ Some (e.0, b)
  read_at [] i e b h at is = absurd (none-some e at)
  read_at (first ∷ more) zero e b h at is =
      let same : first ≡ e = some_is first e at in
      let here : read first.1 ≡ Some b = ap (λ (p : K × V). read p.1) same ∙ is in
      rw here (ap (λ (p : K × V). Some (p.0, b)) same)
  read_at (first ∷ more) (suc i) e b h at is = let s = some_of (read first.1) h.0 in rw s.1 (read_at more i e b h.1 at is)

  pub read_past : (es : List (K × V)) (i : ℕ) → EachIsRead read es → slice_get es i ≡ None → slice_get (read_each read es) i ≡ None
  read_past [] i h at = refl
  read_past (first ∷ more) zero h at = absurd (none-some first (sym at))
  read_past (first ∷ more) (suc i) h at = let s = some_of (read first.1) h.0 in rw s.1 (read_past more i h.1 at)

  -- what is read stays as more can be read
  module _ (wider : V → Option B) (agrees : (v : V) (b : B) → read v ≡ Some b → wider v ≡ Some b) where
    pub EachIsRead-grows : (es : List (K × V)) → EachIsRead read es → EachIsRead wider es
    EachIsRead-grows [] h = tt
    EachIsRead-grows (e ∷ es) h = let s = some_of (read e.1) h.0 in (ap is_some (agrees e.1 s.0 s.1), EachIsRead-grows es h.1)

    one_grows : (e : K × V) (es : List (K × V)) (b : B) → read e.1 ≡ Some b → read_each wider es ≡ read_each read es → read_each wider (e ∷ es) ≡ read_each read (e ∷ es)
    one_grows e es b at h = rw (agrees e.1 b at, at) (ap (λ l. (e.0, b) ∷ l) h)

    pub read_each-grows : (es : List (K × V)) → EachIsRead read es → read_each wider es ≡ read_each read es
    read_each-grows [] h = refl
    read_each-grows (e ∷ es) h = let s = some_of (read e.1) h.0 in one_grows e es s.0 s.1 (read_each-grows es h.1)

-- an element keeps its place as a list grows at its end
pub appended_at : {X : Type 0} (xs ys : List X) (i : ℕ) (x : X) → slice_get xs i ≡ Some x → slice_get (xs ++ ys) i ≡ Some x
appended_at [] ys i x at = absurd (none-some x at)
appended_at (y ∷ xs) ys zero x at = at
appended_at (y ∷ xs) ys (suc i) x at = appended_at xs ys i x at

pub last_at : {X : Type 0} (xs : List X) (x : X) → slice_get (xs ++ x ∷ []) (length xs) ≡ Some x
last_at [] x = refl
last_at (y ∷ xs) x = last_at xs x

module _ {C : Type 0} (xs : List (KeptCallback C)) (x : KeptCallback C) where
  number_agrees : (o : Option (KeptCallback C)) (n : ℕ) (b : Binding (ActionOf C)) → slice_get xs n ≡ o → option_map kept_binding o ≡ Some b → binding_at (xs ++ x ∷ []) (Callback n) ≡ Some b
  number_agrees None n b at is = absurd (none-some b is)
  number_agrees (Some y) n b at is = ap (option_map kept_binding) (appended_at xs (x ∷ []) n y at) ∙ is

  -- what a key was bound to stays as one more callback is kept
  kept_agrees : (v : Bound) (b : Binding (ActionOf C)) → binding_at xs v ≡ Some b → binding_at (xs ++ x ∷ []) v ≡ Some b
  kept_agrees (Default d) b is = is
  kept_agrees (Callback n) b is = number_agrees (slice_get xs n) n b refl is

  module _ {K : Type 0} (same : K → K → Bool) (ys : List (KeptCallback C)) (old mid new : List (K × Bound)) (ks : List K) (n : ℕ) (kept : ys ≡ xs ++ x ∷ [])
      (room : mid ≡ old) (bound : new ≡ bind_all same mid ks (Callback n)) (last : n ≡ length xs) (h : EachIsRead (binding_at xs) old) where
    newest : binding_at (xs ++ x ∷ []) (Callback (length xs)) ≡ Some (kept_binding x)
    newest = ap (option_map kept_binding) (last_at xs x)

    all_bound : new ≡ bind_all same old ks (Callback (length xs))
    all_bound = bound ∙ ap (λ l. bind_all same l ks (Callback n)) room ∙ ap (λ m. bind_all same old ks (Callback m)) last

    -- keys are bound to the callback that was kept last
    pub bound_to_kept : read_each (binding_at ys) new ≡ bind_all same (read_each (binding_at xs) old) ks (kept_binding x)
    bound_to_kept =
        ap (λ l. read_each (binding_at l) new) kept ∙ ap (read_each (binding_at (xs ++ x ∷ []))) all_bound
        ∙ read_bind_all (binding_at (xs ++ x ∷ [])) same old ks (Callback (length xs)) (kept_binding x) newest
        (EachIsRead-grows (binding_at xs) (binding_at (xs ++ x ∷ [])) kept_agrees old h)
        ∙ ap (λ l. bind_all same l ks (kept_binding x)) (read_each-grows (binding_at xs) (binding_at (xs ++ x ∷ [])) kept_agrees old h)

    pub EachIsRead-kept : EachIsRead (binding_at ys) new
    EachIsRead-kept =
        subst (λ l. EachIsRead (binding_at l) new) (sym kept)
        (subst (EachIsRead (binding_at (xs ++ x ∷ []))) (sym all_bound)
        (EachIsRead-bind_all (binding_at (xs ++ x ∷ [])) same old ks (Callback (length xs)) (ap is_some newest)
        (EachIsRead-grows (binding_at xs) (binding_at (xs ++ x ∷ [])) kept_agrees old h)))

-- the callback of a number that a key is bound to
pub callback_at : {C : Type 0} (xs : List (KeptCallback C)) (n : ℕ) → is_some (binding_at xs (Callback n)) ≡ true → (x : KeptCallback C) × (slice_get xs n ≡ Some x)
callback_at {C} xs n h = by (slice_get xs n) refl h
  where
    by : (o : Option (KeptCallback C)) → slice_get xs n ≡ o → is_some (option_map kept_binding o) ≡ true → (x : KeptCallback C) × (slice_get xs n ≡ Some x)
    by None e is = absurd (true≢false (sym is))
    by (Some x) e is = (x, e)

-- a step of a loop that binds keys to default actions
pub default_step : {K : Type 0} (same : K → K → Bool) (start before after : List (K × Bound)) (ks : List (K × DefaultAction)) (i : ℕ) (d : K × DefaultAction) → i < length ks →
    before ≡ bind_each same start (default_bounds (take i ks)) → after ≡ insert_entry same before (get_or ks i d).0 (Default (get_or ks i d).1) →
    after ≡ bind_each same start (default_bounds (take (i + 1) ks))
default_step {K} same start before after ks i d lt so inserted =
    let bound : K × DefaultAction → K × Bound = λ key. (key.0, Default key.1) in
    inserted ∙ bind-insert_entry same before (get_or ks i d).0 (Default (get_or ks i d).1) ∙ ap (λ l. bind same l (get_or ks i d).0 (Default (get_or ks i d).1)) so
    ∙ sym (bind_each-more same start (default_bounds (take i ks)) (bound (get_or ks i d)))
    ∙ ap (bind_each same start) (sym (ap default_bounds (take_more ks i d lt) ∙ map-append bound (take i ks) (get_or ks i d ∷ [])))

-- what a look-up in a register's map finds is what the key is bound to
pub found_at : {K V B : Type 0} (read : V → Option B) (same : K → K → Bool) (es : List (K × V)) (k : K) (o : Option V) → EachIsRead read es → o ≡ lookup (same k) es →
    bound_to same (read_each read es) k ≡ option_and_then read o
found_at read same es k o h found = read_bound_to read same es k h ∙ ap (option_and_then read) (sym (found ∙ bound_to-lookup same es k))

-- and it can be read
pub found_is_read : {K V B : Type 0} (read : V → Option B) (same : K → K → Bool) (es : List (K × V)) (k : K) (v : V) → EachIsRead read es → Some v ≡ lookup (same k) es → is_some (read v) ≡ true
found_is_read read same es k v h found = EachIsRead-bound_to read same es k v h (sym (found ∙ bound_to-lookup same es k))

module _ {C K : Type 0} (same : K → K → Bool) (kept : List (KeptCallback C)) (es : List (K × Bound)) (wild : Option (ActionOf C)) (h : EachIsRead (binding_at kept) es) (k key : K) (is_key : k ≡ key) where
  abbrev pub held : Register K (ActionOf C)
  held = record { bindings = read_each (binding_at kept) es; wild = wild }

  action_by : (o : Option Bound) (found : Option (Binding (ActionOf C))) → o ≡ lookup (same k) es → option_and_then (binding_at kept) o ≡ found → action_or found wild ≡ action_at same held key
  action_by o found at read =
      subst (λ x. action_or found wild ≡ action_at same held x) is_key (ap (λ x. action_or x wild) (sym (found_at (binding_at kept) same es k o h at ∙ read)))

  -- what is done at a key that is bound to a default action, at one that is bound to a callback, and at one that is not
  -- bound
  pub default_action_found : (v : Bound) (d : DefaultAction) → Some v ≡ lookup (same k) es → v ≡ Default d → Some (action.Default d) ≡ action_at same held key
  default_action_found v d at is = action_by (Some v) _ at (ap (binding_at kept) is)

  pub callback_found : (v : Bound) (n : ℕ) (x : KeptCallback C) → Some v ≡ lookup (same k) es → v ≡ Callback n → slice_get kept n ≡ Some x → Some (action.Callback x.callback) ≡ action_at same held key
  callback_found v n x at is there = action_by (Some v) _ at (ap (binding_at kept) is ∙ ap (option_map kept_binding) there)

  pub nothing_found : None ≡ lookup (same k) es → wild ≡ action_at same held key
  nothing_found at = action_by None None at refl

  -- the callback of a number that a look-up finds is there
  pub callback_is_kept : (v : Bound) (n : ℕ) → Some v ≡ lookup (same k) es → v ≡ Callback n → (x : KeptCallback C) × (slice_get kept n ≡ Some x)
  callback_is_kept v n at is = callback_at kept n (subst (λ w. is_some (binding_at kept w) ≡ true) is (found_is_read (binding_at kept) same es k v h at))

-- a place within a list has an element
pub element_at : {X : Type 0} (xs : List X) (i : ℕ) → i < length xs → (x : X) × (slice_get xs i ≡ Some x)
element_at xs i h = elim (slice_get_cases xs i).1 [
  | inl found ↦ (found.0, found.2)
  | inr past ↦ let no : ⊥ = omega (arith, h, past.0) in absurd no
]
