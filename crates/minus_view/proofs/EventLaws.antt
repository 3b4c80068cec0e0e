-- Laws of units, one after another.
use Rattle.std.proofs.Common.{ℕ, ◌≡◌, List, [], ◌∷◌, ◌++◌, Option, None, Some, refl, ap, sym, ◌∙◌, length, take, drop, subst, ◌+◌, ◌-◌, ◌≤◌, arith}
use Rattle.std.proofs.lemmas.List.{append_assoc, take-append-drop, drop-drop, take_all, length-drop, length-take-le}
use Rattle.std.proofs.lemmas.List.Elements.{filter_map-append}
use Rattle.minus_term.specs.declared.event.Event.{Event}
use Rattle.std.proofs.Math.Seq.{take-append_seam, drop-append_seam}
use Rattle.minus_view.proofs.KeySequencesLaws.{unit_stays}
use Rattle.minus_view.specs.KeySequences.{unit_len}
use Rattle.minus_view.specs.Meaning.{meaning}
use Rattle.minus_view.specs.Events.{Reads, events_of}

-- one unit more at the end
pub reads_more : (units : List (List ℕ)) (bytes unit rest more : List ℕ)
    → Reads units bytes rest → unit_len rest ≡ Some (length unit) → rest ≡ unit ++ more → Reads (units ++ unit ∷ []) bytes more
reads_more [] bytes unit rest more is whole joined = (ap unit_len is ∙ whole, (more, is ∙ joined, refl))
reads_more (u ∷ units) bytes unit rest more so_far whole joined =
    (so_far.0, (so_far.1.0, so_far.1.1, reads_more units so_far.1.0 unit rest more so_far.1.2 whole joined))

-- one unit more, where the rest and the unit are slices of the bytes
pub one_more : (bytes : List ℕ) (taken len : ℕ) (old mid new : List Event)
    → Some len ≡ unit_len (take (length bytes - taken) (drop taken bytes)) → len ≤ length (take (length bytes - taken) (drop taken bytes))
    → new ≡ mid ++ events_of (take (taken + len - taken) (drop taken bytes) ∷ [])
    → (us : List (List ℕ)) × Reads us bytes (drop taken bytes) × (mid ≡ old ++ events_of us)
    → (us : List (List ℕ)) × Reads us bytes (drop (taken + len) bytes) × (new ≡ old ++ events_of us)
one_more bytes taken len old mid new whole within one so_far =
    let us = so_far.0 in
    let rest = drop taken bytes in
    let all : take (length bytes - taken) rest ≡ rest = take_all (length bytes - taken) rest (omega (arith, length-drop taken bytes)) in
    let counts : taken + len - taken ≡ len = omega arith in
    let unit = take len rest in
    let is_len : length unit ≡ len = length-take-le len rest (subst (λ (xs : List ℕ). len ≤ length xs) all within) in
    let joined : rest ≡ unit ++ drop (taken + len) bytes = sym (take-append-drop len rest) ∙ ap (λ xs. unit ++ xs) (drop-drop len taken bytes) in
    let event : new ≡ mid ++ events_of (unit ∷ []) = one ∙ ap (λ n. mid ++ events_of (take n rest ∷ [])) counts in (
      us ++ unit ∷ [],
      reads_more us bytes unit rest (drop (taken + len) bytes) so_far.1 (sym (whole ∙ ap unit_len all) ∙ ap Some (sym is_len)) joined,
      event ∙ ap (λ xs. xs ++ events_of (unit ∷ [])) so_far.2 ∙ append_assoc old (events_of us) (events_of (unit ∷ []))
          ∙ ap (λ xs. old ++ xs) (sym (filter_map-append meaning us (unit ∷ []))),
    )

-- pieces join
pub join_pieces : (first second : List (List ℕ)) (bytes more waiting rest : List ℕ)
    → Reads first bytes waiting → Reads second (waiting ++ more) rest → Reads (first ++ second) (bytes ++ more) rest
join_pieces [] second bytes more waiting rest is reads = subst (λ (xs : List ℕ). Reads second (xs ++ more) rest) (sym is) reads
join_pieces (unit ∷ first) second bytes more waiting rest one reads =
    let after = one.1.0 in (
      unit_stays bytes more (length unit) one.0,
      (after ++ more, ap (λ xs. xs ++ more) one.1.1 ∙ append_assoc unit after more, join_pieces first second after more waiting rest one.1.2 reads),
    )

-- a front of some length
take_front : (n : ℕ) (bytes unit after : List ℕ) → bytes ≡ unit ++ after → n ≡ length unit → unit ≡ take n bytes
take_front n bytes unit after is len = sym (ap (λ k. take k bytes) len ∙ ap (take (length unit)) is ∙ take-append_seam unit after)

drop_front : (n : ℕ) (bytes unit after : List ℕ) → bytes ≡ unit ++ after → n ≡ length unit → after ≡ drop n bytes
drop_front n bytes unit after is len = sym (ap (λ k. drop k bytes) len ∙ ap (drop (length unit)) is ∙ drop-append_seam unit after)

same_len : (a b : ℕ) (o : Option ℕ) → o ≡ Some a → o ≡ Some b → a ≡ b
same_len a b o x y = cc

no_unit : {n : ℕ} {o : Option ℕ} → o ≡ None → o ≡ Some n → ⊥
no_unit x y = cc

-- and units are determined
pub one_list : (units others : List (List ℕ)) (bytes rest left : List ℕ)
    → Reads units bytes rest → unit_len rest ≡ None → Reads others bytes left → unit_len left ≡ None → units ≡ others
one_list [] [] bytes rest left a ends b stops = refl
one_list [] (v ∷ others) bytes rest left a ends b stops = absurd (no_unit (ap unit_len a ∙ ends) b.0)
one_list (u ∷ units) [] bytes rest left a ends b stops = absurd (no_unit (ap unit_len b ∙ stops) a.0)
one_list (u ∷ units) (v ∷ others) bytes rest left a ends b stops =
    let len : length u ≡ length v = same_len (length u) (length v) (unit_len bytes) a.0 b.0 in
    let same : u ≡ v = take_front (length u) bytes u a.1.0 a.1.1 refl ∙ sym (take_front (length u) bytes v b.1.0 b.1.1 len) in
    let after : b.1.0 ≡ a.1.0 = drop_front (length u) bytes v b.1.0 b.1.1 len ∙ sym (drop_front (length u) bytes u a.1.0 a.1.1 refl) in
    let back : Reads others a.1.0 left = subst (λ (xs : List ℕ). Reads others xs left) after b.1.2 in
    ap (λ w. w ∷ units) same ∙ ap (λ ws. v ∷ ws) (one_list units others a.1.0 rest left a.1.2 ends back stops)
