-- Splits of a list, and what follows of a faultless one.
use Rattle.std.proofs.Common.{◌≡◌, ◌⊎◌, ℕ, ◌<◌, List, [], ◌∷◌, ◌++◌, length, drop, Option, None, Some, IsSome, Result, Ok, Err, Bool, true, false, eqb, is_some, is_ok, refl, sym, subst, arith, ◌∙◌, ap, inl, inr, get_or, if◌then◌else◌}
use Rattle.std.specs.List.{filter}
use Rattle.std.proofs.lemmas.Bool.{cases_Bool, true≢false, eqb-true, ne_eqb}
use Rattle.std.proofs.lemmas.List.{length-append, append_assoc, append-nil}
use Rattle.minus_term.specs.declared.error.DescriptionError.{DescriptionError}
use Rattle.minus_term.specs.declared.error.DescriptionError.TheVariants.{NotAscii, Empty, EmptySegment, RepeatedModifier, UnknownName, SecondKey, NoAction}
use Rattle.minus_input.specs.Names.{modifier_letter}
use Rattle.minus_input.specs.Description.{is_other, others, IsCode, IsReading, LeadingFault, LastFault, IsFaultless, SegmentFault}

-- an option holds something, or nothing
pub cases_Option : {X : Type 0} (o : Option X) → (o ≡ None) ⊎ ((x : X) × (o ≡ Some x))
cases_Option None = inl refl
cases_Option (Some x) = inr (x, refl)

pub none_is_not_some : {X : Type 0} (o : Option X) → o ≡ None → IsSome o → ⊥
none_is_not_some o n s = true≢false (sym s ∙ ap is_some n)

pub some_of : {X : Type 0} (o : Option X) (x : X) → o ≡ Some x → IsSome o
some_of o x s = ap is_some s

pub ok_is_not_err : {X E : Type 0} (x : X) (e : E) (r : Result X E) → r ≡ Ok x → r ≡ Err e → ⊥
ok_is_not_err x e r o f = true≢false (ap is_ok (sym o ∙ f))

pub some_name : (name : List ℕ) → eqb (length name) 0 ≡ false → 0 < length name
some_name [] h = absurd (true≢false h)
some_name (c ∷ name) h = omega arith

pub no_name : (name : List ℕ) → eqb (length name) 0 ≡ true → name ≡ []
no_name [] h = refl
no_name (c ∷ name) h = absurd (let k = eqb-true (length (c ∷ name)) 0 h in omega (arith, k))

-- no list splits that is empty
pub nil_split : {X : Type 0} (before after : List X) (x : X) → [] ≡ before ++ x ∷ after → ⊥
nil_split before after x h = let k : 0 ≡ length (before ++ x ∷ after) = ap length h in absurd (omega (arith, length-append before (x ∷ after), k))

-- a split of a list with one more at its end: there, or before it
pub snoc_split : {X : Type 0} (done before after : List X) (last x : X) → done ++ last ∷ [] ≡ before ++ x ∷ after →
    ((before ≡ done) × (x ≡ last)) ⊎ ((more : List X) × (done ≡ before ++ x ∷ more))
snoc_split [] [] after last x h = inl (refl, sym (ap (λ l. get_or l 0 last) h))
snoc_split [] (y ∷ before) after last x h = absurd (nil_split before after x (ap (drop 1) h))
snoc_split (d ∷ done) [] after last x h = inr (done, ap (λ y. y ∷ done) (ap (λ l. get_or l 0 d) h))
snoc_split (d ∷ done) (y ∷ before) after last x h =
    let first : d ≡ y = ap (λ l. get_or l 0 d) h in
    elim (snoc_split done before after last x (ap (drop 1) h)) [
      | inl p ↦ inl (ap (λ l. y ∷ l) p.0 ∙ ap (λ z. z ∷ done) (sym first), p.1)
      | inr p ↦ inr (p.0, ap (λ l. d ∷ l) p.1 ∙ ap (λ z. z ∷ (before ++ x ∷ p.0)) first)
    ]

-- the ends of two lists that are one
pub snoc_last : {X : Type 0} (done before : List X) (last x : X) → done ++ last ∷ [] ≡ before ++ x ∷ [] → x ≡ last
snoc_last done before last x h = elim (snoc_split done before [] last x h) [
  | inl p ↦ p.1
  | inr p ↦
      let l1 : length (done ++ last ∷ []) ≡ length (before ++ x ∷ []) = ap length h in
      let l2 : length done ≡ length (before ++ x ∷ p.0) = ap length p.1 in
      absurd (omega (arith, length-append done (last ∷ []), length-append before (x ∷ []), length-append before (x ∷ p.0), l1, l2))
]

-- what stands inside a filtered list
pub in_filter : {X : Type 0} (p : X → Bool) (before after : List X) (x : X) → p x ≡ true → filter p (before ++ x ∷ after) ≡ filter p before ++ x ∷ filter p after
in_filter p [] after x h = rw h refl
in_filter p (y ∷ before) after x h = elim (cases_Bool (p y)) [
  | inl t ↦ rw t (ap (λ l. y ∷ l) (in_filter p before after x h))
  | inr f ↦ rw f (in_filter p before after x h)
]

module _ {C : Type 0} (named : List ℕ → Option C) where
  -- one code is named
  pub one_code : (names : List (List ℕ)) (a b : Option C) → IsCode named names a → IsCode named names b → a ≡ b
  one_code [] a b h k = h ∙ sym k
  one_code (name ∷ []) a b h k = h.0 ∙ sym k.0
  one_code (name ∷ second ∷ more) a b h k = absurd h

  -- no code, no name
  pub no_code : (names : List (List ℕ)) (code : Option C) → IsCode named names code → code ≡ None → names ≡ []
  no_code [] code h n = refl
  no_code (name ∷ []) code h n = absurd (none_is_not_some (named name) (sym h.0 ∙ n) h.1)
  no_code (name ∷ second ∷ more) code h n = absurd h

  -- some code, some name
  pub some_code : (names : List (List ℕ)) (code : Option C) (c : C) → IsCode named names code → code ≡ Some c → 0 < length names
  some_code [] code c h s = absurd (none_is_not_some code h (some_of code c s))
  some_code (name ∷ more) code c h s = omega arith

  -- a name among them is the only one, and names something
  pub only_name : (front more : List (List ℕ)) (name : List ℕ) (code : Option C) → IsCode named (front ++ name ∷ more) code → (front ≡ []) × IsSome (named name)
  only_name [] [] name code h = (refl, h.1)
  only_name [] (second ∷ more) name code h = absurd h
  only_name (first ∷ []) more name code h = absurd h
  only_name (first ∷ second ∷ front) more name code h = absurd h

  -- one more faultless segment
  pub faultless_more : (done : List (List ℕ)) (segment : List ℕ) → IsFaultless named done → ((e : DescriptionError) → LeadingFault named done segment e → ⊥) → IsFaultless named (done ++ segment ∷ [])
  faultless_more done segment h none before after x e is fault = elim (snoc_split done before after segment x is) [
    | inl p ↦ none e (subst (λ b. LeadingFault named b segment e) p.0 (subst (λ s. LeadingFault named before s e) p.1 fault))
    | inr p ↦ h before p.0 x e p.1 fault
  ]

  pub faultless_nil : IsFaultless named []
  faultless_nil before after x e is fault = nil_split before after x is

  -- a name among the leading segments
  others_at : (before after : List (List ℕ)) (segment last : List ℕ) → is_other segment ≡ true →
      others (before ++ segment ∷ after) last ≡ filter is_other before ++ segment ∷ others after last
  others_at before after segment last t =
      ap (λ l. l ++ (if eqb (length last) 0 then [] else last ∷ [])) (in_filter is_other before after segment t)
      ∙ append_assoc (filter is_other before) (segment ∷ filter is_other after) (if eqb (length last) 0 then [] else last ∷ [])

  only_other : (leads before after : List (List ℕ)) (segment last : List ℕ) (code : Option C) → leads ≡ before ++ segment ∷ after → is_other segment ≡ true → IsCode named (others leads last) code →
      (filter is_other before ≡ []) × IsSome (named segment)
  only_other leads before after segment last code is t h =
      let k : others leads last ≡ filter is_other before ++ segment ∷ others after last = ap (λ l. others l last) is ∙ others_at before after segment last t in
      only_name (filter is_other before) (others after last) segment code (subst (λ l. IsCode named l code) k h)

  -- where the rules hold, no leading segment is at fault
  pub rules_faultless : (leads : List (List ℕ)) (last : List ℕ) (bits : ℕ) (code : Option C) → IsReading named leads last bits code → IsFaultless named leads
  rules_faultless leads last bits code r before after segment EmptySegment is f =
      let at : leads ≡ f.1 ++ f.2 ∷ [] ∷ after = is ∙ ap (λ b. b ++ segment ∷ after) f.3 ∙ append_assoc f.1 (f.2 ∷ []) (segment ∷ after) ∙ ap (λ s. f.1 ++ f.2 ∷ s ∷ after) f.0 in
      none_is_not_some (modifier_letter f.2) f.4 (r.empties f.1 after f.2 at)
  rules_faultless leads last bits code r before after segment RepeatedModifier is f = r.once before after segment is f.0 f.1
  rules_faultless leads last bits code r before after segment UnknownName is f =
      none_is_not_some (named segment) f.1 (only_other leads before after segment last code is f.0 r.names).1
  rules_faultless leads last bits code r before after segment SecondKey is f =
      let k : length (filter is_other before) ≡ 0 = ap length (only_other leads before after segment last code is f.0 r.names).0 in
      absurd (omega (arith, k, f.2))
  rules_faultless leads last bits code r before after segment NotAscii is f = f
  rules_faultless leads last bits code r before after segment Empty is f = f
  rules_faultless leads last bits code r before after segment NoAction is f = f

  -- the names where the last segment is one, and where it is none
  pub others_some : (leads : List (List ℕ)) (last : List ℕ) → 0 < length last → others leads last ≡ filter is_other leads ++ last ∷ []
  others_some leads last some =
      let f : eqb (length last) 0 ≡ false = ne_eqb (length last) 0 (λ z. omega (arith, some, z)) in
      rw f refl

  pub others_none : (leads : List (List ℕ)) → others leads [] ≡ filter is_other leads
  others_none leads = append-nil (filter is_other leads)

  last_name : (leads : List (List ℕ)) (last : List ℕ) (code : Option C) → 0 < length last → IsCode named (others leads last) code → (filter is_other leads ≡ []) × IsSome (named last)
  last_name leads last code some h = only_name (filter is_other leads) [] last code (subst (λ l. IsCode named l code) (others_some leads last some) h)

  -- where the rules hold, the last segment is not at fault
  pub rules_last : (leads : List (List ℕ)) (last : List ℕ) (bits : ℕ) (code : Option C) → IsReading named leads last bits code → (error : DescriptionError) → LastFault named leads last error → ⊥
  rules_last leads last bits code r UnknownName f = none_is_not_some (named last) f.1 (last_name leads last code f.0 r.names).1
  rules_last leads last bits code r SecondKey f =
      let k : length (filter is_other leads) ≡ 0 = ap length (last_name leads last code f.0 r.names).0 in
      absurd (omega (arith, k, f.2))
  rules_last leads last bits code r EmptySegment f = f
  rules_last leads last bits code r RepeatedModifier f = f
  rules_last leads last bits code r NotAscii f = f
  rules_last leads last bits code r Empty f = f
  rules_last leads last bits code r NoAction f = f

  -- where the rules hold, nothing is at fault
  pub rules_no_fault : (leads : List (List ℕ)) (last : List ℕ) (bits : ℕ) (code : Option C) (error : DescriptionError) → IsReading named leads last bits code → SegmentFault named leads last error → ⊥
  rules_no_fault leads last bits code error r (inl f) = rules_faultless leads last bits code r f.before f.after f.segment error f.is f.fault
  rules_no_fault leads last bits code error r (inr f) = rules_last leads last bits code r error f.1
