use Rattle.std.proofs.Common.{[], ◌∷◌, inl, inr, sym, ◌∙◌, ⊎_elim, true≢false}
use Rattle.std.proofs.lemmas.Str.Pattern.{contains_text}
use Rattle.minus_text.proofs.search.escapes.has_escape_start.Goals as goal

pub returns-then-contains : goal.returns-then-contains
returns-then-contains c =
    let esc = contains_text c.contains.result (27 ∷ []) c.args.text.now c.contains.ensures.cases in
    (λ has. inl (esc.0 has), λ _. c.if-contains.true)

pub returns-else-contains : goal.returns-else-contains
returns-else-contains c =
    let esc = contains_text c.contains.result (27 ∷ []) c.args.text.now c.contains.ensures.cases in
    let wide = contains_text c.contains-else-contains.result (194 ∷ 155 ∷ []) c.args.text.now c.contains-else-contains.ensures.cases in (
      λ has. inr (wide.0 has),
      λ start. ⊎_elim (λ one. absurd (true≢false (sym (esc.1 one) ∙ c.if-contains.false))) wide.1 start,
    )
