-- Each text has one meaning.
use Rattle.std.proofs.Common.{◌≡◌, ◌⊎◌, ℕ, ◌<◌, List, [], ◌∷◌, length, Option, None, Some, unwrap_or, Result, Ok, Err, zero, suc, refl, sym, subst, arith, ◌∙◌, ap, inl, inr}
use Rattle.std.specs.Str.{IsAscii, IsNotAscii, trim}
use Rattle.std.proofs.lemmas.Bool.{cases_lt}
use Rattle.std.proofs.lemmas.List.Splits.{length-slice_split}
use Rattle.std.proofs.lemmas.Option.{none-some, same_Some}
use Rattle.minus_term.specs.declared.error.DescriptionError.{DescriptionError}
use Rattle.minus_term.specs.declared.error.DescriptionError.TheVariants.{NotAscii, Empty, EmptySegment, RepeatedModifier, UnknownName, SecondKey, NoAction}
use Rattle.minus_term.specs.declared.event.KeyCode.{KeyCode}
use Rattle.minus_term.specs.declared.event.KeyCode.TheVariants.{Null}
use Rattle.minus_term.specs.declared.event.KeyEvent.{KeyEvent}
use Rattle.minus_term.specs.declared.event.KeyEventKind.TheVariants.{Press}
use Rattle.minus_term.specs.declared.event.MouseEvent.{MouseEvent}
use Rattle.minus_term.specs.declared.event.MouseEventKind.{MouseEventKind}
use Rattle.minus_input.specs.declared.key_seq.KeySeq.{KeySeq}
use Rattle.minus_input.specs.Names.{key_named, action_named}
use Rattle.minus_input.specs.Segments.{is_dash, segments, leading, last_segment}
use Rattle.minus_input.specs.Reading.{beginning, read_segments}
use Rattle.minus_input.specs.Description.{others, Reads, DescribesKey, DescribesMouse, SegmentFault, TextFault, KeyFault, MouseFault, HasOneMeaning, EachTextHasOneMeaning}
use Rattle.minus_input.proofs.FaultLaws.{cases_Option, ok_is_not_err, one_code, rules_no_fault}
use Rattle.minus_input.proofs.ReadingLaws.{same_Err, read_both, read_means, fault_means, segments_read}

-- the segments of a text, without white space at its ends
abbrev leads_of : List ℕ → List (List ℕ)
leads_of text = leading (segments (trim text))

abbrev last_of : List ℕ → List ℕ
last_of text = last_segment (segments (trim text))

same_Ok : {X E : Type 0} (a b : X) → ◌≡◌ {A = Result X E} (Ok a) (Ok b) → a ≡ b
same_Ok {X} {E} a b h = ap (λ (r : Result X E). elim r [ Ok x ↦ x | Err e ↦ a ]) h

module _ {C : Type 0} (named : List ℕ → Option C) where
  both : (text : List ℕ) → read_segments named beginning (segments (trim text)) ≡ read_both named (leads_of text) (last_of text)
  both text = segments_read named beginning (segments (trim text)) (omega (arith, length-slice_split is_dash (trim text)))

  -- what is read without error is read by the rules
  pub reads_ok : (text : List ℕ) (seq : KeySeq C) → Ok seq ≡ read_segments named beginning (segments (trim text)) → Reads named text seq.modifiers.0 seq.code
  reads_ok text seq h = elim (read_means named (leads_of text) (last_of text)) [
    | inl p ↦
        let e : seq ≡ p.0 = same_Ok seq p.0 (h ∙ both text ∙ p.1) in
        subst (λ (s : KeySeq C). Reads named text s.modifiers.0 s.code) (sym e) p.2
    | inr p ↦ absurd (ok_is_not_err seq p.0 (Ok seq) refl (h ∙ both text ∙ p.1))
  ]

  -- and an error is the first fault
  pub reads_err : (text : List ℕ) (error : DescriptionError) → Err error ≡ read_segments named beginning (segments (trim text)) → SegmentFault named (leads_of text) (last_of text) error
  reads_err text error h = elim (read_means named (leads_of text) (last_of text)) [
    | inl p ↦ absurd (ok_is_not_err p.0 error (Ok p.0) refl (sym p.1 ∙ sym (both text) ∙ sym h))
    | inr p ↦ subst (λ e. SegmentFault named (leads_of text) (last_of text) e) (sym (same_Err {X = KeySeq C} error p.0 (h ∙ both text ∙ p.1))) p.2
  ]

  one_fault : (text : List ℕ) (a b : DescriptionError) → SegmentFault named (leads_of text) (last_of text) a → SegmentFault named (leads_of text) (last_of text) b → a ≡ b
  one_fault text a b f g = same_Err {X = KeySeq C} a b (sym (fault_means named (leads_of text) (last_of text) a f) ∙ fault_means named (leads_of text) (last_of text) b g)

ascii_cases : (text : List ℕ) → IsAscii text ⊎ IsNotAscii text
ascii_cases [] = inl (λ i. omega arith)
ascii_cases (c ∷ text) = elim (cases_lt c 128) [
  | inr ge ↦ inr (0, ge)
  | inl lt ↦ elim (ascii_cases text) [
    | inl h ↦ inl (later c text lt h)
    | inr n ↦ inr (suc n.0, n.1)
  ]
]
  where
    later : (c : ℕ) (text : List ℕ) → c < 128 → IsAscii text → IsAscii (c ∷ text)
    later c text lt h zero = lt
    later c text lt h (suc i) = h i

not_both_ascii : (text : List ℕ) → IsAscii text → IsNotAscii text → ⊥
not_both_ascii text a n = omega (arith, a n.0, n.1)

empty_or_some : (text : List ℕ) → (text ≡ []) ⊎ (0 < length text)
empty_or_some [] = inl refl
empty_or_some (c ∷ text) = inr (omega arith)

not_empty : (text : List ℕ) → text ≡ [] → 0 < length text → ⊥
not_empty text e some = let k : length text ≡ 0 = ap length e in omega (arith, k, some)

-- a fault of a segment is one of a text
pub key_fault : (text : List ℕ) (error : DescriptionError) → TextFault key_named text error → KeyFault text error
key_fault text NotAscii f = elim f.2 [ inl g ↦ absurd g.fault | inr g ↦ absurd g.1 ]
key_fault text Empty f = elim f.2 [ inl g ↦ absurd g.fault | inr g ↦ absurd g.1 ]
key_fault text EmptySegment f = f
key_fault text RepeatedModifier f = f
key_fault text UnknownName f = f
key_fault text SecondKey f = f
key_fault text NoAction f = f

pub mouse_fault : (text : List ℕ) (error : DescriptionError) → TextFault action_named text error → MouseFault text error
mouse_fault text NotAscii f = elim f.2 [ inl g ↦ absurd g.fault | inr g ↦ absurd g.1 ]
mouse_fault text Empty f = elim f.2 [ inl g ↦ absurd g.fault | inr g ↦ absurd g.1 ]
mouse_fault text EmptySegment f = f
mouse_fault text RepeatedModifier f = f
mouse_fault text UnknownName f = f
mouse_fault text SecondKey f = f
mouse_fault text NoAction f = elim f.2 [ inl g ↦ absurd g.fault | inr g ↦ absurd g.1 ]

key_not_ascii : (text : List ℕ) (error : DescriptionError) → IsNotAscii text → KeyFault text error → error ≡ NotAscii
key_not_ascii text NotAscii n f = refl
key_not_ascii text Empty n f = absurd (not_both_ascii text f.0 n)
key_not_ascii text EmptySegment n f = absurd (not_both_ascii text f.0 n)
key_not_ascii text RepeatedModifier n f = absurd (not_both_ascii text f.0 n)
key_not_ascii text UnknownName n f = absurd (not_both_ascii text f.0 n)
key_not_ascii text SecondKey n f = absurd (not_both_ascii text f.0 n)
key_not_ascii text NoAction n f = absurd (not_both_ascii text f.0 n)

key_empty : (text : List ℕ) (error : DescriptionError) → IsAscii text → trim text ≡ [] → KeyFault text error → error ≡ Empty
key_empty text NotAscii a e f = absurd (not_both_ascii text a f)
key_empty text Empty a e f = refl
key_empty text EmptySegment a e f = absurd (not_empty (trim text) e f.1)
key_empty text RepeatedModifier a e f = absurd (not_empty (trim text) e f.1)
key_empty text UnknownName a e f = absurd (not_empty (trim text) e f.1)
key_empty text SecondKey a e f = absurd (not_empty (trim text) e f.1)
key_empty text NoAction a e f = absurd (not_empty (trim text) e f.1)

key_segment : (text : List ℕ) (error : DescriptionError) → IsAscii text → 0 < length (trim text) → KeyFault text error → SegmentFault key_named (leads_of text) (last_of text) error
key_segment text NotAscii a some f = absurd (not_both_ascii text a f)
key_segment text Empty a some f = absurd (not_empty (trim text) f.1 some)
key_segment text EmptySegment a some f = f.2
key_segment text RepeatedModifier a some f = f.2
key_segment text UnknownName a some f = f.2
key_segment text SecondKey a some f = f.2
key_segment text NoAction a some f = f.2

same_key : (a b : KeyEvent) → a.code ≡ b.code → a.modifiers.0 ≡ b.modifiers.0 → a.kind ≡ b.kind → a.state.0 ≡ b.state.0 → a ≡ b
same_key a b c m k s i = record { code = c i; modifiers = record { 0 = m i }; kind = k i; state = record { 0 = s i } }

key_one_meaning : (text : List ℕ) → HasOneMeaning (DescribesKey text) (KeyFault text)
key_one_meaning text = record {
  one_event = λ a b x y.
      let r = x.reads in let q = y.reads in
      let c : a.code ≡ b.code = r.2 ∙ ap (λ o. unwrap_or o Null) (one_code key_named (others (leads_of text) (last_of text)) r.0 q.0 r.1.names q.1.names) ∙ sym q.2 in
      same_key a b c (r.1.modifiers ∙ sym q.1.modifiers) (x.kind ∙ sym y.kind) (x.state ∙ sym y.state);
  one_error = λ a b f g. elim (ascii_cases text) [
    | inr n ↦ key_not_ascii text a n f ∙ sym (key_not_ascii text b n g)
    | inl h ↦ elim (empty_or_some (trim text)) [
      | inl e ↦ key_empty text a h e f ∙ sym (key_empty text b h e g)
      | inr some ↦ one_fault key_named text a b (key_segment text a h some f) (key_segment text b h some g)
    ]
  ];
  never_both = λ a b x f. let r = x.reads in rules_no_fault key_named (leads_of text) (last_of text) a.modifiers.0 r.0 b r.1 (key_segment text b x.ascii x.some f);
  one_of_both = elim (ascii_cases text) [
    | inr n ↦ inr (NotAscii, n)
    | inl h ↦ elim (empty_or_some (trim text)) [
      | inl e ↦ inr (Empty, (h, e))
      | inr some ↦ elim (read_means key_named (leads_of text) (last_of text)) [
        | inl p ↦ inl (
          record { code = unwrap_or p.0.code Null; modifiers = p.0.modifiers; kind = Press; state = record { 0 = 0 } },
          record {
            ascii = h;
            some = some;
            reads = (p.0.code, p.2, refl);
            kind = refl;
            state = refl;
          },
        )
        | inr p ↦ inr (p.0, key_fault text p.0 (h, some, p.2))
      ]
    ]
  ];
}

mouse_not_ascii : (text : List ℕ) (error : DescriptionError) → IsNotAscii text → MouseFault text error → error ≡ NotAscii
mouse_not_ascii text NotAscii n f = refl
mouse_not_ascii text Empty n f = absurd (not_both_ascii text f.0 n)
mouse_not_ascii text EmptySegment n f = absurd (not_both_ascii text f.0 n)
mouse_not_ascii text RepeatedModifier n f = absurd (not_both_ascii text f.0 n)
mouse_not_ascii text UnknownName n f = absurd (not_both_ascii text f.0 n)
mouse_not_ascii text SecondKey n f = absurd (not_both_ascii text f.0 n)
mouse_not_ascii text NoAction n f = absurd (not_both_ascii text f.0 n)

mouse_empty : (text : List ℕ) (error : DescriptionError) → IsAscii text → trim text ≡ [] → MouseFault text error → error ≡ Empty
mouse_empty text NotAscii a e f = absurd (not_both_ascii text a f)
mouse_empty text Empty a e f = refl
mouse_empty text EmptySegment a e f = absurd (not_empty (trim text) e f.1)
mouse_empty text RepeatedModifier a e f = absurd (not_empty (trim text) e f.1)
mouse_empty text UnknownName a e f = absurd (not_empty (trim text) e f.1)
mouse_empty text SecondKey a e f = absurd (not_empty (trim text) e f.1)
mouse_empty text NoAction a e f = absurd (not_empty (trim text) e f.1)

-- a fault of a segment, or no action where the rules hold
abbrev MouseSegment : List ℕ → DescriptionError → Type 0
MouseSegment text error = SegmentFault action_named (leads_of text) (last_of text) error ⊎ ((error ≡ NoAction) × (bits : ℕ) × Reads action_named text bits None)

mouse_segment : (text : List ℕ) (error : DescriptionError) → IsAscii text → 0 < length (trim text) → MouseFault text error → MouseSegment text error
mouse_segment text NotAscii a some f = absurd (not_both_ascii text a f)
mouse_segment text Empty a some f = absurd (not_empty (trim text) f.1 some)
mouse_segment text EmptySegment a some f = inl f.2
mouse_segment text RepeatedModifier a some f = inl f.2
mouse_segment text UnknownName a some f = inl f.2
mouse_segment text SecondKey a some f = inl f.2
mouse_segment text NoAction a some f = inr (refl, f.2, f.3)

mouse_one_fault : (text : List ℕ) (a b : DescriptionError) → MouseSegment text a → MouseSegment text b → a ≡ b
mouse_one_fault text a b (inl f) (inl g) = one_fault action_named text a b f g
mouse_one_fault text a b (inl f) (inr g) = absurd (rules_no_fault action_named (leads_of text) (last_of text) g.1 None a g.2 f)
mouse_one_fault text a b (inr f) (inl g) = absurd (rules_no_fault action_named (leads_of text) (last_of text) f.1 None b f.2 g)
mouse_one_fault text a b (inr f) (inr g) = f.0 ∙ sym g.0

same_mouse : (a b : MouseEvent) → a.kind ≡ b.kind → a.column ≡ b.column → a.row ≡ b.row → a.modifiers.0 ≡ b.modifiers.0 → a ≡ b
same_mouse a b k c r m i = record { kind = k i; column = c i; row = r i; modifiers = record { 0 = m i } }

mouse_never_both : (text : List ℕ) (a : MouseEvent) (error : DescriptionError) → DescribesMouse text a → MouseSegment text error → ⊥
mouse_never_both text a error x (inl f) = rules_no_fault action_named (leads_of text) (last_of text) a.modifiers.0 (Some a.kind) error x.reads f
mouse_never_both text a error x (inr f) =
    let e : Some a.kind ≡ None = one_code action_named (others (leads_of text) (last_of text)) (Some a.kind) None x.reads.names f.2.names in
    none-some a.kind (sym e)

mouse_one_meaning : (text : List ℕ) → HasOneMeaning (DescribesMouse text) (MouseFault text)
mouse_one_meaning text = record {
  one_event = λ a b x y.
      let k : Some a.kind ≡ Some b.kind = one_code action_named (others (leads_of text) (last_of text)) (Some a.kind) (Some b.kind) x.reads.names y.reads.names in
      same_mouse a b (same_Some a.kind b.kind k) (x.column ∙ sym y.column) (x.row ∙ sym y.row) (x.reads.modifiers ∙ sym y.reads.modifiers);
  one_error = λ a b f g. elim (ascii_cases text) [
    | inr n ↦ mouse_not_ascii text a n f ∙ sym (mouse_not_ascii text b n g)
    | inl h ↦ elim (empty_or_some (trim text)) [
      | inl e ↦ mouse_empty text a h e f ∙ sym (mouse_empty text b h e g)
      | inr some ↦ mouse_one_fault text a b (mouse_segment text a h some f) (mouse_segment text b h some g)
    ]
  ];
  never_both = λ a b x f. mouse_never_both text a b x (mouse_segment text b x.ascii x.some f);
  one_of_both = elim (ascii_cases text) [
    | inr n ↦ inr (NotAscii, n)
    | inl h ↦ elim (empty_or_some (trim text)) [
      | inl e ↦ inr (Empty, (h, e))
      | inr some ↦ elim (read_means action_named (leads_of text) (last_of text)) [
        | inr p ↦ inr (p.0, mouse_fault text p.0 (h, some, p.2))
        | inl p ↦ elim (cases_Option p.0.code) [
          | inl n ↦ inr (NoAction, (h, some, p.0.modifiers.0, subst (λ c. Reads action_named text p.0.modifiers.0 c) n p.2))
          | inr k ↦ inl (
            record { kind = k.0; column = 0; row = 0; modifiers = p.0.modifiers },
            record {
              ascii = h;
              some = some;
              reads = subst (λ c. Reads action_named text p.0.modifiers.0 c) k.1 p.2;
              column = refl;
              row = refl;
            },
          )
        ]
      ]
    ]
  ];
}

pub each_text : EachTextHasOneMeaning
each_text text = (key_one_meaning text, mouse_one_meaning text)

-- what is read of a text is reported of the whole text
pub parsed_key : (text part : List ℕ) (seq : KeySeq KeyCode) (code : KeyCode) → IsAscii text → 0 < length part → part ≡ trim text →
    Ok seq ≡ read_segments key_named beginning (segments part) → code ≡ unwrap_or seq.code Null →
    DescribesKey text (record { code = code; modifiers = seq.modifiers; kind = Press; state = record { 0 = 0 } })
parsed_key text part seq code a some is read c = record {
  ascii = a;
  some = subst (λ t. 0 < length t) is some;
  reads = (seq.code, reads_ok key_named text seq (read ∙ ap (λ t. read_segments key_named beginning (segments t)) is), c);
  kind = refl;
  state = refl;
}

pub refused_key : (text part : List ℕ) (error : DescriptionError) → IsAscii text → 0 < length part → part ≡ trim text →
    Err error ≡ read_segments key_named beginning (segments part) → KeyFault text error
refused_key text part error a some is read =
    key_fault text error (a, subst (λ t. 0 < length t) is some, reads_err key_named text error (read ∙ ap (λ t. read_segments key_named beginning (segments t)) is))

pub parsed_mouse : (text part : List ℕ) (seq : KeySeq MouseEventKind) (kind : MouseEventKind) → IsAscii text → 0 < length part → part ≡ trim text →
    Ok seq ≡ read_segments action_named beginning (segments part) → seq.code ≡ Some kind →
    DescribesMouse text (record { kind = kind; column = 0; row = 0; modifiers = seq.modifiers })
parsed_mouse text part seq kind a some is read c = record {
  ascii = a;
  some = subst (λ t. 0 < length t) is some;
  reads = subst (λ o. Reads action_named text seq.modifiers.0 o) c (reads_ok action_named text seq (read ∙ ap (λ t. read_segments action_named beginning (segments t)) is));
  column = refl;
  row = refl;
}

pub refused_mouse : (text part : List ℕ) (error : DescriptionError) → IsAscii text → 0 < length part → part ≡ trim text →
    Err error ≡ read_segments action_named beginning (segments part) → MouseFault text error
refused_mouse text part error a some is read =
    mouse_fault text error (a, subst (λ t. 0 < length t) is some, reads_err action_named text error (read ∙ ap (λ t. read_segments action_named beginning (segments t)) is))

pub no_action : (text part : List ℕ) (seq : KeySeq MouseEventKind) → IsAscii text → 0 < length part → part ≡ trim text →
    Ok seq ≡ read_segments action_named beginning (segments part) → seq.code ≡ None → MouseFault text NoAction
no_action text part seq a some is read c =
    (a, subst (λ t. 0 < length t) is some, seq.modifiers.0, subst (λ o. Reads action_named text seq.modifiers.0 o) c (reads_ok action_named text seq (read ∙ ap (λ t. read_segments action_named beginning (segments t)) is)))
