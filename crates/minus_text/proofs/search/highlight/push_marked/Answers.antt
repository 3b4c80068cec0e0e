-- A match more, between its markers.
use Rattle.std.proofs.Common.{◌≡◌, ◌++◌, ◌+◌, ◌<◌, ℕ, List, [], ◌∷◌, false, length, drop, get_or, slice_range, refl, sym, ap, ◌∙◌, append_assoc}
use Rattle.std.proofs.lemmas.List.{drop_more, drop_all}
use Rattle.minus_text.specs.Highlight.{ordered, put_in, reverse_on, reverse_off}
use Rattle.minus_text.proofs.PartedLaws.{cuts_at, cuts_here}
use Rattle.minus_text.proofs.search.highlight.push_marked.Goals as goal

-- what a match adds, and what follows it
match_first : (text : List ℕ) (at : ℕ) (m : ℕ × ℕ) (ms : List (ℕ × ℕ)) → put_in text at (ordered false (m ∷ ms) []) ≡ slice_range text at m.0 ++ (reverse_on ++ (slice_range text m.0 m.1 ++ (reverse_off ++ put_in text m.1 (ordered false ms []))))
match_first text at m ms = refl

match_more : (text : List ℕ) (at i : ℕ) (matches : List (ℕ × ℕ)) → i < length matches → (let m = get_or matches i (0, 0) in
    (out a b c d all : List ℕ) → out ++ put_in text at (ordered false (drop i matches) []) ≡ all
    → a ≡ out ++ slice_range text at m.0 → b ≡ a ++ reverse_on → c ≡ b ++ slice_range text m.0 m.1 → d ≡ c ++ reverse_off
    → d ++ put_in text m.1 (ordered false (drop (i + 1) matches) []) ≡ all)
match_more text at i matches l out a b c d all inv e f g h =
    let m = get_or matches i (0, 0) in
    let rest : List ℕ = put_in text m.1 (ordered false (drop (i + 1) matches) []) in
    let first : List ℕ = slice_range text at m.0 in
    let second : List ℕ = slice_range text m.0 m.1 in
    let split : put_in text at (ordered false (drop i matches) []) ≡ first ++ (reverse_on ++ (second ++ (reverse_off ++ rest))) =
    ap (λ ms. put_in text at (ordered false ms [])) (drop_more matches i (0, 0) l) ∙ match_first text at m (drop (i + 1) matches) in
    ap (λ xs. xs ++ rest) (h ∙ ap (λ xs. xs ++ reverse_off) (g ∙ ap (λ xs. xs ++ second) (f ∙ ap (λ xs. xs ++ reverse_on) e)))
    ∙ append_assoc (((out ++ first) ++ reverse_on) ++ second) reverse_off rest
    ∙ append_assoc ((out ++ first) ++ reverse_on) second (reverse_off ++ rest)
    ∙ append_assoc (out ++ first) reverse_on (second ++ (reverse_off ++ rest))
    ∙ append_assoc out first (reverse_on ++ (second ++ (reverse_off ++ rest)))
    ∙ ap (λ xs. out ++ xs) (sym split) ∙ inv

pub loop-place-init : goal.loop-place-init
loop-place-init g c = (refl, c.requires)

pub range-requires-clause-start_le_end : goal.range-requires-clause-start_le_end
range-requires-clause-start_le_end g c = (cuts_here c.args.text.now c.args.matches.now c.loop-place.place-index c.loop-place.at c.loop-place-test.true c.loop-place.invariant.1).1

pub range-requires-clause-start_boundary : goal.range-requires-clause-start_boundary
range-requires-clause-start_boundary g c = λ _. (cuts_here c.args.text.now c.args.matches.now c.loop-place.place-index c.loop-place.at c.loop-place-test.true c.loop-place.invariant.1).0

pub range-requires-clause-end_boundary : goal.range-requires-clause-end_boundary
range-requires-clause-end_boundary g c = (cuts_here c.args.text.now c.args.matches.now c.loop-place.place-index c.loop-place.at c.loop-place-test.true c.loop-place.invariant.1).2

pub range-requires-in-loop-place-clause-start_le_end : goal.range-requires-in-loop-place-clause-start_le_end
range-requires-in-loop-place-clause-start_le_end g c = (cuts_here c.args.text.now c.args.matches.now c.loop-place.place-index c.loop-place.at c.loop-place-test.true c.loop-place.invariant.1).3

pub range-requires-in-loop-place-clause-start_boundary : goal.range-requires-in-loop-place-clause-start_boundary
range-requires-in-loop-place-clause-start_boundary g c = λ _. (cuts_here c.args.text.now c.args.matches.now c.loop-place.place-index c.loop-place.at c.loop-place-test.true c.loop-place.invariant.1).2

pub range-requires-in-loop-place-clause-end_boundary : goal.range-requires-in-loop-place-clause-end_boundary
range-requires-in-loop-place-clause-end_boundary g c = cuts_at c.args.text.now _ _ (cuts_here c.args.text.now c.args.matches.now c.loop-place.place-index c.loop-place.at c.loop-place-test.true c.loop-place.invariant.1).4

pub loop-place-preserved : goal.loop-place-preserved
loop-place-preserved g c =
    let text = c.args.text.now in
    let matches = c.args.matches.now in
    let i = c.loop-place.place-index in
    let inv = c.loop-place.invariant in
    let cuts = cuts_here text matches i c.loop-place.at c.loop-place-test.true inv.1 in
    let a = c.in_ok-push_text.ensures ∙ ap (λ s. g.T.PushText.bytes c.loop-place.out ++ s) c.range.ensures.value in
    let b = c.in_ok-push_text-2.ensures in
    let d = c.in_ok-push_text-3.ensures ∙ ap (λ s. g.T.PushText.bytes c.push_text-in-loop-place.new.self ++ s) c.range-in-loop-place.ensures.value in
    let e = c.in_ok-push_text-4.ensures in (
      match_more text c.loop-place.at i matches c.loop-place-test.true (g.T.PushText.bytes c.loop-place.out) (g.T.PushText.bytes c.push_text.new.self) (g.T.PushText.bytes c.push_text-in-loop-place.new.self) (g.T.PushText.bytes c.push_text-in-loop-place-2.new.self)
          (g.T.PushText.bytes c.push_text-in-loop-place-3.new.self) (g.T.PushText.bytes c.args.out.now ++ put_in text 0 (ordered false matches [])) inv.0 a b d e,
      cuts.4,
    )

pub range_from-requires : goal.range_from-requires
range_from-requires g c = λ _. cuts_at c.args.text.now c.loop-place.at _ c.loop-place.invariant.1

pub returns : goal.returns
returns g c =
    let out = g.T.PushText.bytes c.loop-place.out in
    c.in_ok-push_text-5.ensures ∙ ap (λ s. out ++ s) c.range_from.ensures.value
    ∙ ap (λ ms. out ++ put_in c.args.text.now c.loop-place.at (ordered false ms [])) (sym (drop_all c.loop-place.place-index c.args.matches.now c.loop-place-test.false)) ∙ c.loop-place.invariant.0
