-- The number of the match, and how many there are.
use Rattle.std.proofs.Common.{◌≡◌, ◌++◌, ◌+◌, ◌-◌, ◌^◌, ℕ, List, min, codes, string_bytes, arith, refl, ap, ◌∙◌, append_assoc}
use Rattle.std.specs.Fmt.{decimal}
use Rattle.std.proofs.lemmas.Bool.{ne_eqb}
use Rattle.std.proofs.lemmas.Result.{IfOk-weaker}
use Rattle.minus_state.specs.PromptRow.{PromptRow, seen_prompt, match_indicator}
use Rattle.minus_state.proofs.prompt.match_indicator.Goals as goal

match_formed : (p : PromptRow) (shown : ℕ) (bytes : List ℕ) → (p.match_count ≡ 0 → ⊥) → shown ≡ min (p.search_mark + 1) (2 ^ 64 - 1) → bytes ≡ codes " " ++ (decimal shown ++ (codes "/" ++ (decimal p.match_count ++ codes " "))) → bytes ≡ match_indicator p
match_formed p shown bytes some s e =
    let same : decimal shown ≡ decimal (min (p.search_mark + 1) (2 ^ 64 - 1)) = ap decimal s in
    let test = ne_eqb p.match_count 0 some in
    rw test (e ∙ ap (λ ds. codes " " ++ (ds ++ (codes "/" ++ (decimal p.match_count ++ codes " ")))) same ∙ simp append_assoc refl)

pub returns : goal.returns
returns c =
    let p = seen_prompt c.args.row.now in
    let shown : c.saturating_add-shown.result ≡ min (c.args.row.now.search_mark + 1) (2 ^ 64 - 1) = omega (arith, c.saturating_add-shown.ensures) in
    IfOk-weaker c.format.result _ _ (λ text e. match_formed p c.saturating_add-shown.result (string_bytes text) c.if-row-eq0.false shown e) c.format.ensures.ok
