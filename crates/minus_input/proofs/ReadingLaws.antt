-- Segments read from the left are read by the rules, up to the first that is at fault.
use Rattle.std.proofs.Common.{◌≡◌, ◌⊎◌, ℕ, ◌<◌, List, [], ◌∷◌, ◌++◌, length, Option, None, Some, IsSome, Result, Ok, Err, true, false, not, eqb, is_none, bit_and, bit_or, refl, sym, subst, arith, ◌∙◌, ap, inl, inr}
use Rattle.std.specs.Bool.{Decides}
use Rattle.std.specs.Cmp.{first_so, second_so}
use Rattle.std.specs.List.{Contains, filter, filter_map, fold}
use Rattle.std.proofs.lemmas.Bool.{cases_Bool, true≢false, ne_eqb, eq-eqb, not-true}
use Rattle.std.proofs.lemmas.List.{append_assoc, append-nil}
use Rattle.std.proofs.lemmas.List.Elements.{Contains-append_left, Contains-push, Contains-push_cases, filter-append, filter_map-append}
use Rattle.std.proofs.lemmas.List.Sums.{fold-append}
use Rattle.std.proofs.lemmas.Nat.{and_or_self, and_or_apart}
use Rattle.std.proofs.lemmas.Option.{none-some}
use Rattle.minus_term.specs.declared.error.DescriptionError.{DescriptionError}
use Rattle.minus_term.specs.declared.error.DescriptionError.TheVariants.{NotAscii, Empty, EmptySegment, RepeatedModifier, UnknownName, SecondKey, NoAction}
use Rattle.minus_input.specs.declared.key_seq.KeySeq.{KeySeq}
use Rattle.minus_input.specs.Names.{modifier_letter}
use Rattle.minus_input.specs.Segments.{leading, last_segment}
use Rattle.minus_input.specs.Reading.{beginning, read_leading, read_last, read_segments, then_read}
use Rattle.minus_input.specs.Description.{is_other, others, IsCode, IsReading, LeadingFault, LastFault, IsFaultless, FirstFault, SegmentFault}
use Rattle.minus_input.proofs.FaultLaws.{cases_Option, none_is_not_some, some_of, ok_is_not_err, some_name, no_name, nil_split, snoc_last, no_code, some_code, faultless_more, faultless_nil, others_some, others_none}
use Rattle.minus_input.proofs.ModifierLaws.{letter_cases, letters_apart}

-- no bit of a modifier is in nothing
no_bit : (segment : List ℕ) (bit : ℕ) → modifier_letter segment ≡ Some bit → eqb (bit_and 0 bit) bit ≡ false
no_bit segment bit h = elim (letter_cases segment bit h) [
  | inl p ↦ rw p.1 refl
  | inr (inl p) ↦ rw p.1 refl
  | inr (inr p) ↦ rw p.1 refl
]

-- a modifier is a segment of some length
letter_some : (segment : List ℕ) (bit : ℕ) → modifier_letter segment ≡ Some bit → eqb (length segment) 0 ≡ false
letter_some segment bit h = elim (letter_cases segment bit h) [
  | inl p ↦ rw p.0 refl
  | inr (inl p) ↦ rw p.0 refl
  | inr (inr p) ↦ rw p.0 refl
]

-- what holds of a sequence that some segments were read into
pub record IsSoFar {C : Type 0} (named : List ℕ → Option C) (done : List (List ℕ)) (seq : KeySeq C) : Type 0 where
  pub faultless : IsFaultless named done
  pub bits : seq.modifiers.0 ≡ fold bit_or 0 (filter_map modifier_letter done)
  pub has : (segment : List ℕ) (bit : ℕ) → modifier_letter segment ≡ Some bit → Decides (eqb (bit_and seq.modifiers.0 bit) bit) (Contains done segment)
  pub names : IsCode named (filter is_other done) seq.code
  pub opens : seq.may_be_empty ≡ true → (front : List (List ℕ)) (previous : List ℕ) → done ≡ front ++ previous ∷ [] → IsSome (modifier_letter previous)
  pub shuts : seq.may_be_empty ≡ false → (front : List (List ℕ)) × (previous : List ℕ) × (done ≡ front ++ previous ∷ []) × (modifier_letter previous ≡ None)

none_from_is_none : {X : Type 0} (o : Option X) → is_none o ≡ true → o ≡ None
none_from_is_none None h = refl
none_from_is_none (Some x) h = absurd (true≢false (sym h))

-- the two parts of `is_other`
other_parts : (segment : List ℕ) → is_other segment ≡ true → (eqb (length segment) 0 ≡ false) × (modifier_letter segment ≡ None)
other_parts segment h = (
  not-true (eqb (length segment) 0) (first_so (not (eqb (length segment) 0)) (is_none (modifier_letter segment)) h),
  none_from_is_none (modifier_letter segment) (second_so (not (eqb (length segment) 0)) (is_none (modifier_letter segment)) h),
)

other_from : (segment : List ℕ) → eqb (length segment) 0 ≡ false → modifier_letter segment ≡ None → is_other segment ≡ true
other_from segment l m = rw (l, m) refl

modifier_is_no_other : (segment : List ℕ) (bit : ℕ) → modifier_letter segment ≡ Some bit → is_other segment ≡ false
modifier_is_no_other segment bit h = rw (letter_some segment bit h, h) refl

-- one more segment that is no other
no_more_others : (done : List (List ℕ)) (segment : List ℕ) → is_other segment ≡ false → filter is_other (done ++ segment ∷ []) ≡ filter is_other done
no_more_others done segment h =
    let one : filter is_other (segment ∷ []) ≡ [] = rw h refl in
    filter-append is_other done (segment ∷ []) ∙ ap (λ l. filter is_other done ++ l) one ∙ append-nil (filter is_other done)

one_more_other : (done : List (List ℕ)) (segment : List ℕ) → is_other segment ≡ true → filter is_other (done ++ segment ∷ []) ≡ filter is_other done ++ segment ∷ []
one_more_other done segment h =
    let one : filter is_other (segment ∷ []) ≡ segment ∷ [] = rw h refl in
    filter-append is_other done (segment ∷ []) ∙ ap (λ l. filter is_other done ++ l) one

-- one more segment that is no modifier
same_bits : (done : List (List ℕ)) (segment : List ℕ) → modifier_letter segment ≡ None → filter_map modifier_letter (done ++ segment ∷ []) ≡ filter_map modifier_letter done
same_bits done segment h =
    let one : filter_map modifier_letter (segment ∷ []) ≡ [] = rw h refl in
    filter_map-append modifier_letter done (segment ∷ []) ∙ ap (λ l. filter_map modifier_letter done ++ l) one ∙ append-nil (filter_map modifier_letter done)

more_bits : (done : List (List ℕ)) (segment : List ℕ) (bit : ℕ) → modifier_letter segment ≡ Some bit →
    fold bit_or 0 (filter_map modifier_letter (done ++ segment ∷ [])) ≡ bit_or (fold bit_or 0 (filter_map modifier_letter done)) bit
more_bits done segment bit h =
    let one : filter_map modifier_letter (segment ∷ []) ≡ bit ∷ [] = rw h refl in
    ap (fold bit_or 0) (filter_map-append modifier_letter done (segment ∷ []) ∙ ap (λ l. filter_map modifier_letter done ++ l) one)
    ∙ fold-append bit_or 0 (filter_map modifier_letter done) (bit ∷ [])

-- which modifiers stand among segments, where one more is none
same_has : (set : ℕ) (done : List (List ℕ)) (segment : List ℕ) → modifier_letter segment ≡ None →
    ((other : List ℕ) (bit : ℕ) → modifier_letter other ≡ Some bit → Decides (eqb (bit_and set bit) bit) (Contains done other)) →
    (other : List ℕ) (bit : ℕ) → modifier_letter other ≡ Some bit → Decides (eqb (bit_and set bit) bit) (Contains (done ++ segment ∷ []) other)
same_has set done segment m has other bit h = (
  λ t. Contains-append_left done (segment ∷ []) other ((has other bit h).0 t),
  λ k. elim (Contains-push_cases done segment other k) [
    | inl c ↦ (has other bit h).1 c
    | inr e ↦ absurd (none-some bit (sym m ∙ ap modifier_letter e ∙ h))
  ],
)

-- and where one more is a modifier
more_has : (set : ℕ) (done : List (List ℕ)) (segment : List ℕ) (added : ℕ) → modifier_letter segment ≡ Some added →
    ((other : List ℕ) (bit : ℕ) → modifier_letter other ≡ Some bit → Decides (eqb (bit_and set bit) bit) (Contains done other)) →
    (other : List ℕ) (bit : ℕ) → modifier_letter other ≡ Some bit → Decides (eqb (bit_and (bit_or set added) bit) bit) (Contains (done ++ segment ∷ []) other)
more_has set done segment added m has other bit h = elim (letters_apart segment other added bit m h) [
  | inl p ↦
      let e : bit_and (bit_or set added) bit ≡ bit = rw (← p.1) (and_or_self added set) in
      (λ t. rw (← p.0) (Contains-push done segment), λ k. eq-eqb (bit_and (bit_or set added) bit) bit e)
  | inr p ↦
      let e : eqb (bit_and (bit_or set added) bit) bit ≡ eqb (bit_and set bit) bit = ap (λ x. eqb x bit) (and_or_apart bit set added p.0) in (
        λ t. Contains-append_left done (segment ∷ []) other ((has other bit h).0 (sym e ∙ t)),
        λ k. e ∙ (has other bit h).1 (elim (Contains-push_cases done segment other k) [
          | inl c ↦ c
          | inr q ↦ absurd (p.1 q)
        ]),
      )
]

-- the leading segments are read
abbrev pub read_leads : {C : Type 0} → (List ℕ → Option C) → KeySeq C → List (List ℕ) → Result (KeySeq C) DescriptionError
read_leads named seq [] = Ok seq
read_leads named seq (segment ∷ rest) = then_read (read_leading named seq segment) (λ next. read_leads named next rest)

cases_Result : {X E : Type 0} (r : Result X E) → ((x : X) × (r ≡ Ok x)) ⊎ ((e : E) × (r ≡ Err e))
cases_Result (Ok x) = inl (x, refl)
cases_Result (Err e) = inr (e, refl)

pub same_Err : {X E : Type 0} (a b : E) → ◌≡◌ {A = Result X E} (Err a) (Err b) → a ≡ b
same_Err {X} {E} a b h = ap (λ (r : Result X E). elim r [ Ok x ↦ a | Err e ↦ e ]) h

module _ {C : Type 0} (named : List ℕ → Option C) where
  begins : IsSoFar named [] beginning
  begins = record {
    faultless = faultless_nil named;
    bits = refl;
    has = λ segment bit h. (λ t. absurd (true≢false (sym t ∙ no_bit segment bit h)), λ k. absurd (omega (arith, k.1)));
    names = refl;
    opens = λ t front previous e. absurd (nil_split front [] previous e);
    shuts = λ f. absurd (true≢false f);
  }

  -- a leading segment at fault is read as its error
  pub fault_read : (done : List (List ℕ)) (seq : KeySeq C) (segment : List ℕ) (error : DescriptionError) → IsSoFar named done seq → LeadingFault named done segment error → read_leading named seq segment ≡ Err error
  fault_read done seq segment EmptySegment s f = elim (cases_Bool seq.may_be_empty) [
    | inl t ↦ absurd (none_is_not_some (modifier_letter f.2) f.4 (s.opens t f.1 f.2 f.3))
    | inr n ↦ rw (f.0, n) refl
  ]
  fault_read done seq segment RepeatedModifier s f = elim (cases_Option (modifier_letter segment)) [
    | inl n ↦ absurd (none_is_not_some (modifier_letter segment) n f.0)
    | inr p ↦ rw (letter_some segment p.0 p.1, p.1, (s.has segment p.0 p.1).1 f.1) refl
  ]
  fault_read done seq segment UnknownName s f =
      let o = other_parts segment f.0 in
      rw (o.0, o.1, f.1) refl
  fault_read done seq segment SecondKey s f =
      let o = other_parts segment f.0 in
      elim (cases_Option (named segment)) [
        | inl n ↦ absurd (none_is_not_some (named segment) n f.1)
        | inr p ↦ elim (cases_Option seq.code) [
          | inl n ↦ absurd (let k : length (filter is_other done) ≡ 0 = ap length (no_code named (filter is_other done) seq.code s.names n) in omega (arith, k, f.2))
          | inr q ↦ rw (o.0, o.1, p.1, q.1) refl
        ]
      ]
  fault_read done seq segment NotAscii s f = absurd f
  fault_read done seq segment Empty s f = absurd f
  fault_read done seq segment NoAction s f = absurd f

  -- the result of one more leading segment
  abbrev Step : List (List ℕ) → KeySeq C → List ℕ → Type 0
  Step done seq segment =
      ((next : KeySeq C) × (read_leading named seq segment ≡ Ok next) × IsSoFar named (done ++ segment ∷ []) next)
      ⊎ ((error : DescriptionError) × (read_leading named seq segment ≡ Err error) × LeadingFault named done segment error)

  no_fault : (done : List (List ℕ)) (seq next : KeySeq C) (segment : List ℕ) → IsSoFar named done seq → read_leading named seq segment ≡ Ok next → IsFaultless named (done ++ segment ∷ [])
  no_fault done seq next segment s read = faultless_more named done segment s.faultless (λ e f. ok_is_not_err next e (read_leading named seq segment) read (fault_read done seq segment e s f))

  step_empty : (done : List (List ℕ)) (seq : KeySeq C) → IsSoFar named done seq → Step done seq []
  step_empty done seq s = elim (cases_Bool seq.may_be_empty) [
    | inl t ↦
        let next : KeySeq C = record { modifiers = seq.modifiers; code = seq.code; may_be_empty = false } in
        let read : read_leading named seq [] ≡ Ok next = rw t refl in
        inl (
          next,
          read,
          record {
            faultless = no_fault done seq next [] s read;
            bits = s.bits ∙ sym (ap (fold bit_or 0) (same_bits done [] refl));
            has = same_has seq.modifiers.0 done [] refl s.has;
            names = subst (λ l. IsCode named l seq.code) (sym (no_more_others done [] refl)) s.names;
            opens = λ e. absurd (true≢false (sym e));
            shuts = λ _. (done, [], refl, refl);
          },
        )
    | inr f ↦ let at = s.shuts f in inr (EmptySegment, rw f refl, (refl, at.0, at.1, at.2, at.3))
  ]

  step_name : (done : List (List ℕ)) (seq : KeySeq C) (segment : List ℕ) → IsSoFar named done seq → eqb (length segment) 0 ≡ false → modifier_letter segment ≡ None → Step done seq segment
  step_name done seq segment s f m = elim (cases_Option (named segment)) [
    | inl n ↦ inr (UnknownName, rw (f, m, n) refl, (other_from segment f m, n))
    | inr p ↦ elim (cases_Option seq.code) [
      | inl n ↦
          let next : KeySeq C = record { modifiers = seq.modifiers; code = Some p.0; may_be_empty = false } in
          let read : read_leading named seq segment ≡ Ok next = rw (f, m, p.1, n) refl in
          let alone : filter is_other (done ++ segment ∷ []) ≡ segment ∷ []
          = one_more_other done segment (other_from segment f m) ∙ ap (λ l. l ++ segment ∷ []) (no_code named (filter is_other done) seq.code s.names n) in
          inl (
            next,
            read,
            record {
              faultless = no_fault done seq next segment s read;
              bits = s.bits ∙ sym (ap (fold bit_or 0) (same_bits done segment m));
              has = same_has seq.modifiers.0 done segment m s.has;
              names = subst (λ l. IsCode named l (Some p.0)) (sym alone) (sym p.1, some_of (named segment) p.0 p.1);
              opens = λ e. absurd (true≢false (sym e));
              shuts = λ _. (done, segment, refl, m);
            },
          )
      | inr q ↦ inr (SecondKey, rw (f, m, p.1, q.1) refl, (other_from segment f m, some_of (named segment) p.0 p.1, some_code named (filter is_other done) seq.code q.0 s.names q.1))
    ]
  ]

  step_modifier : (done : List (List ℕ)) (seq : KeySeq C) (segment : List ℕ) (bit : ℕ) → IsSoFar named done seq → modifier_letter segment ≡ Some bit → Step done seq segment
  step_modifier done seq segment bit s p = elim (cases_Bool (eqb (bit_and seq.modifiers.0 bit) bit)) [
    | inl t ↦ inr (RepeatedModifier, rw (letter_some segment bit p, p, t) refl, (some_of (modifier_letter segment) bit p, (s.has segment bit p).0 t))
    | inr f ↦
        let next : KeySeq C = record { modifiers = record { 0 = bit_or seq.modifiers.0 bit }; code = seq.code; may_be_empty = true } in
        let read : read_leading named seq segment ≡ Ok next = rw (letter_some segment bit p, p, f) refl in
        inl (
          next,
          read,
          record {
            faultless = no_fault done seq next segment s read;
            bits = ap (λ x. bit_or x bit) s.bits ∙ sym (more_bits done segment bit p);
            has = more_has seq.modifiers.0 done segment bit p s.has;
            names = subst (λ l. IsCode named l seq.code) (sym (no_more_others done segment (modifier_is_no_other segment bit p))) s.names;
            opens = λ _ front previous e. some_of (modifier_letter previous) bit (ap modifier_letter (snoc_last done front segment previous e) ∙ p);
            shuts = λ e. absurd (true≢false e);
          },
        )
  ]

  step : (done : List (List ℕ)) (seq : KeySeq C) (segment : List ℕ) → IsSoFar named done seq → Step done seq segment
  step done seq segment s = elim (cases_Bool (eqb (length segment) 0)) [
    | inl t ↦ subst (λ x. Step done seq x) (sym (no_name segment t)) (step_empty done seq s)
    | inr f ↦ elim (cases_Option (modifier_letter segment)) [
      | inl m ↦ step_name done seq segment s f m
      | inr p ↦ step_modifier done seq segment p.0 s p.1
    ]
  ]

  -- the result of the leading segments
  walk : (done rest : List (List ℕ)) (seq : KeySeq C) → IsSoFar named done seq →
      ((next : KeySeq C) × (read_leads named seq rest ≡ Ok next) × IsSoFar named (done ++ rest) next)
      ⊎ ((error : DescriptionError) × (read_leads named seq rest ≡ Err error) × FirstFault named (done ++ rest) error)
  walk done [] seq s = inl (seq, refl, subst (λ l. IsSoFar named l seq) (sym (append-nil done)) s)
  walk done (x ∷ rest) seq s = elim (step done seq x s) [
    | inl p ↦ elim (walk (done ++ x ∷ []) rest p.0 p.2) [
      | inl q ↦ inl (q.0, rw p.1 q.1, subst (λ l. IsSoFar named l q.0) (append_assoc done (x ∷ []) rest) q.2)
      | inr q ↦ inr (q.0, rw p.1 q.1, subst (λ l. FirstFault named l q.0) (append_assoc done (x ∷ []) rest) q.2)
    ]
    | inr p ↦ inr (p.0, rw p.1 refl, record { before = done; segment = x; after = rest; is = refl; faultless = s.faultless; fault = p.2 })
  ]

  -- the rules hold of what is read without fault
  rules_read : (leads : List (List ℕ)) (last : List ℕ) (seq : KeySeq C) (code : Option C) → IsSoFar named leads seq → IsCode named (others leads last) code → IsReading named leads last seq.modifiers.0 code
  rules_read leads last seq code s names = record {
    once = λ before after segment is some k. s.faultless before after segment RepeatedModifier is (some, k);
    empties = λ before after previous is. elim (cases_Option (modifier_letter previous)) [
      | inl n ↦ absurd (s.faultless (before ++ previous ∷ []) after [] EmptySegment (is ∙ sym (append_assoc before (previous ∷ []) ([] ∷ after))) (refl, before, previous, refl, n))
      | inr p ↦ some_of (modifier_letter previous) p.0 p.1
    ];
    modifiers = s.bits;
    names = names;
  }

  -- the result of the last segment
  finish : (leads : List (List ℕ)) (last : List ℕ) (seq : KeySeq C) → IsSoFar named leads seq →
      ((final : KeySeq C) × (read_last named seq last ≡ Ok final) × IsReading named leads last final.modifiers.0 final.code)
      ⊎ ((error : DescriptionError) × (read_last named seq last ≡ Err error) × LastFault named leads last error)
  finish leads last seq s = elim (cases_Bool (eqb (length last) 0)) [
    | inl t ↦
        let e = no_name last t in
        inl (seq, rw t refl, rules_read leads last seq seq.code s (subst (λ l. IsCode named (others leads l) seq.code) (sym e) (subst (λ l. IsCode named l seq.code) (sym (others_none named leads)) s.names)))
    | inr f ↦
        let some = some_name last f in
        elim (cases_Option (named last)) [
          | inl n ↦ inr (UnknownName, rw (f, n) refl, (some, n))
          | inr p ↦ elim (cases_Option seq.code) [
            | inl n ↦
                let alone : others leads last ≡ last ∷ [] = others_some named leads last some ∙ ap (λ l. l ++ last ∷ []) (no_code named (filter is_other leads) seq.code s.names n) in
                inl (record { modifiers = seq.modifiers; code = Some p.0; may_be_empty = false }, rw (f, p.1, n) refl, rules_read leads last seq (Some p.0) s (subst (λ l. IsCode named l (Some p.0)) (sym alone) (sym p.1, some_of (named last) p.0 p.1)))
            | inr q ↦ inr (SecondKey, rw (f, p.1, q.1) refl, (some, some_of (named last) p.0 p.1, some_code named (filter is_other leads) seq.code q.0 s.names q.1))
          ]
        ]
  ]

  last_read : (leads : List (List ℕ)) (last : List ℕ) (seq : KeySeq C) (error : DescriptionError) → IsSoFar named leads seq → LastFault named leads last error → read_last named seq last ≡ Err error
  last_read leads last seq UnknownName s f =
      let l : eqb (length last) 0 ≡ false = ne_eqb (length last) 0 (λ z. omega (arith, f.0, z)) in
      rw (l, f.1) refl
  last_read leads last seq SecondKey s f =
      let l : eqb (length last) 0 ≡ false = ne_eqb (length last) 0 (λ z. omega (arith, f.0, z)) in
      elim (cases_Option (named last)) [
        | inl n ↦ absurd (none_is_not_some (named last) n f.1)
        | inr p ↦ elim (cases_Option seq.code) [
          | inl n ↦ absurd (let k : length (filter is_other leads) ≡ 0 = ap length (no_code named (filter is_other leads) seq.code s.names n) in omega (arith, k, f.2))
          | inr q ↦ rw (l, p.1, q.1) refl
        ]
      ]
  last_read leads last seq EmptySegment s f = absurd f
  last_read leads last seq RepeatedModifier s f = absurd f
  last_read leads last seq NotAscii s f = absurd f
  last_read leads last seq Empty s f = absurd f
  last_read leads last seq NoAction s f = absurd f

  -- all segments, the leading ones and then the last
  abbrev pub read_both : List (List ℕ) → List ℕ → Result (KeySeq C) DescriptionError
  read_both leads last = then_read (read_leads named beginning leads) (λ next. read_last named next last)

  -- what is read is a reading by the rules, or the first fault
  pub read_means : (leads : List (List ℕ)) (last : List ℕ) →
      ((final : KeySeq C) × (read_both leads last ≡ Ok final) × IsReading named leads last final.modifiers.0 final.code)
      ⊎ ((error : DescriptionError) × (read_both leads last ≡ Err error) × SegmentFault named leads last error)
  read_means leads last = elim (walk [] leads beginning begins) [
    | inl p ↦ elim (finish leads last p.0 p.2) [
      | inl q ↦ inl (q.0, rw p.1 q.1, q.2)
      | inr q ↦ inr (q.0, rw p.1 q.1, inr (p.2.faultless, q.2))
    ]
    | inr p ↦ inr (p.0, rw p.1 refl, inl p.2)
  ]

  then_ok : {A B : Type 0} (r : Result A DescriptionError) (f : A → Result B DescriptionError) (b : B) → then_read r f ≡ Ok b → (a : A) × (r ≡ Ok a) × (f a ≡ Ok b)
  then_ok (Ok a) f b h = (a, refl, h)
  then_ok (Err e) f b h = absurd (ok_is_not_err b e (Err e) h refl)

  leads_append : (front more : List (List ℕ)) (seq next : KeySeq C) → read_leads named seq front ≡ Ok next → read_leads named seq (front ++ more) ≡ read_leads named next more
  leads_append [] more seq next h = ap (λ r. then_read r (λ s. read_leads named s more)) h
  leads_append (x ∷ front) more seq next h =
      let p = then_ok (read_leading named seq x) (λ s. read_leads named s front) next h in
      rw p.1 (leads_append front more p.0 next p.2)

  -- the first fault is what is read
  pub fault_means : (leads : List (List ℕ)) (last : List ℕ) (error : DescriptionError) → SegmentFault named leads last error → read_both leads last ≡ Err error
  fault_means leads last error (inl f) = elim (walk [] f.before beginning begins) [
    | inl p ↦
        let at : read_leads named beginning leads ≡ Err error
        = ap (read_leads named beginning) f.is ∙ leads_append f.before (f.segment ∷ f.after) beginning p.0 p.1
        ∙ ap (λ r. then_read r (λ next. read_leads named next f.after)) (fault_read f.before p.0 f.segment error p.2 f.fault) in
        rw at refl
    | inr p ↦ let g = p.2 in absurd (f.faultless g.before g.after g.segment p.0 g.is g.fault)
  ]
  fault_means leads last error (inr f) = elim (walk [] leads beginning begins) [
    | inl p ↦ rw p.1 (last_read leads last p.0 error p.2 f.1)
    | inr p ↦ let g = p.2 in absurd (f.0 g.before g.after g.segment p.0 g.is g.fault)
  ]

  -- the segments are read so
  pub segments_read : (seq : KeySeq C) (segs : List (List ℕ)) → 0 < length segs →
      read_segments named seq segs ≡ then_read (read_leads named seq (leading segs)) (λ next. read_last named next (last_segment segs))
  segments_read seq [] h = absurd (omega (arith, h))
  segments_read seq (last ∷ []) h = refl
  segments_read seq (segment ∷ next ∷ more) h = elim (cases_Result (read_leading named seq segment)) [
    | inl p ↦ rw p.1 (segments_read p.0 (next ∷ more) (omega arith))
    | inr p ↦ rw p.1 refl
  ]
