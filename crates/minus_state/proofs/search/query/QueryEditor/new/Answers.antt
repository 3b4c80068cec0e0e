-- Nothing is typed yet.
use Rattle.std.proofs.Common.{◌≡◌, ◌+◌, refl, [], List, ℕ, length, chars, string_bytes, sym, subst, ap, ◌∙◌, arith}
use Rattle.std.proofs.lemmas.Str.{chars-nil}
use Rattle.minus_text.specs.WordStarts.{AreWithin}
use Rattle.minus_state.specs.QueryEditor.{Editor, IsEditor}
use Rattle.minus_state.proofs.search.query.QueryEditor.new.Goals as goal

pub invariant_of-result : goal.invariant_of-result
invariant_of-result c =
    let none : chars (string_bytes c.new.result) ≡ [] = ap chars c.new.ensures.bytes ∙ chars-nil in
    subst (λ (q : List ℕ). let e : Editor = record { query = q; cursor = 1 } in IsEditor e 0 c.in_ok-word_starts.field-0.items) (sym none) (record {
      first = omega arith;
      last = omega arith;
      few = omega arith;
      len_is = refl;
      starts_are = c.in_ok-word_starts.ensures.starts;
      within = subst (λ (q : List ℕ). AreWithin (length q + 1) c.in_ok-word_starts.field-0.items) chars-nil c.in_ok-word_starts.ensures.within;
    })

pub returns : goal.returns
returns c =
    let none : chars (string_bytes c.new.result) ≡ [] = ap chars c.new.ensures.bytes ∙ chars-nil in
    ap (λ (q : List ℕ). let e : Editor = record { query = q; cursor = 1 } in e) none
