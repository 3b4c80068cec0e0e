-- A word starts at a character.
use Rattle.std.proofs.Common.{rules, ◌≤◌, ◌+◌, length, chars, string_bytes, sym, subst, arith}
use Rattle.minus_text.specs.WordStarts.{AreWithin}
use Rattle.minus_state.specs.QueryEditor.{Editor}
use Rattle.minus_state.proofs.search.query.QueryEditor.moved.Goals as goal

both : (c : goal.After-last_below) → (1 ≤ c.last_below.result) × (c.last_below.result ≤ length (chars (string_bytes c.self.inside.text)) + 1)
both c =
    let end = length (chars (string_bytes c.self.inside.text)) + 1 in
    c.last_below.ensures.within end (omega arith) (subst (AreWithin end) (sym c.deref.ensures.value) c.self.invariant.within)

pub returns-in-WordLeft-clause-first : goal.returns-in-WordLeft-clause-first
returns-in-WordLeft-clause-first c = (both c).0

pub returns-in-WordLeft-clause-last : goal.returns-in-WordLeft-clause-last
returns-in-WordLeft-clause-last c = subst (λ (e : Editor). c.last_below.result ≤ length e.query + 1) c.self.view_is (both c).1

pub returns-in-WordLeft-clause-value : goal.returns-in-WordLeft-clause-value
returns-in-WordLeft-clause-value c = search rules

pub returns-in-End-clause-value : goal.returns-in-End-clause-value
returns-in-End-clause-value c = search rules

pub returns-in-WordLeft-clause-few : goal.returns-in-WordLeft-clause-few
returns-in-WordLeft-clause-few c = (let last = (both c).1 in let few = c.self.invariant.few in omega (arith, last, few))
