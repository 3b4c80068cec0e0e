-- What the row says and its indicators, one after another.
use Rattle.std.proofs.Common.{◌≡◌, ◌++◌, ◌∷◌, ℕ, true, false, List, codes, string_bytes, arith, refl, sym, ap, ◌∙◌, append_assoc}
use Rattle.std.proofs.lemmas.Result.{IfOk-weaker}
use Rattle.minus_text.specs.Units.{columns}
use Rattle.minus_text.specs.Crop.{fitted}
use Rattle.minus_state.specs.PromptRow.{PromptRow, seen_prompt, said, said_style, prefix_indicator, match_indicator, follow_indicator, columns_left, styled, prompt_row, FillsItsRow}
use Rattle.minus_state.proofs.prompt.format_prompt.Goals as goal

row_formed : (p : PromptRow) (left : ℕ) (style said_fitted typed found followed bytes : List ℕ) → p.is_shown ≡ true → left ≡ columns_left p → style ≡ said_style p → said_fitted ≡ fitted left (said p)
    → typed ≡ prefix_indicator p → found ≡ match_indicator p → followed ≡ follow_indicator p
    → bytes ≡ style ++ (said_fitted ++ (styled (27 ∷ codes "[30;43m") typed ++ (styled (27 ∷ codes "[30;44m") found ++ (styled (27 ∷ codes "[1m") followed ++ (27 ∷ codes "[0m")))))
    → bytes ≡ prompt_row p
unfolding prompt_row
row_formed p left style said_fitted typed found followed bytes h l s f t m w e = rw (h, e, s, f, t, m, w, l) (simp append_assoc refl)

row_filled : (p : PromptRow) (left : ℕ) (says : List ℕ) → left ≡ columns_left p → says ≡ said p → columns (fitted left says) ≡ left → FillsItsRow p
row_filled p left says l s h =
    let same : columns (fitted (columns_left p) (said p)) ≡ columns (fitted left says) = rw (l, s) refl in
    omega (arith, same, h, l)

pub returns-then-not-row-clause-text : goal.returns-then-not-row-clause-text
unfolding prompt_row
returns-then-not-row-clause-text c = rw c.if-not-row.true c.new.ensures.bytes

pub returns-then-not-row-clause-fills : goal.returns-then-not-row-clause-fills
returns-then-not-row-clause-fills c = λ shown. let both : false ≡ true = sym c.if-not-row.true ∙ shown in absurd cc

pub returns-clause-fills : goal.returns-clause-fills
returns-clause-fills c = IfOk-weaker c.format.result _ _ (λ text e shown.
    let p = seen_prompt c.args.row.now in
    let prefix = c.as_str.ensures.value ∙ c.in_ok-prefix.ensures in
    let matches = c.as_str-2.ensures.value ∙ c.in_ok-matches.ensures in
    let left : c.saturating_sub-left.result ≡ columns_left p =
    omega (arith, c.saturating_sub.ensures, c.saturating_sub-2.ensures, c.saturating_sub-left.ensures, c.columns.ensures, ap columns prefix, c.columns-2.ensures, ap columns matches, c.columns-3.ensures, ap columns c.follow_indicator-follow.ensures) in
    row_filled p c.saturating_sub-left.result c.said.result.1.now left c.said.ensures.text (ap columns (sym c.in_ok-fitted.ensures.row) ∙ c.in_ok-fitted.ensures.fills)) c.format.ensures.ok

pub returns-clause-text : goal.returns-clause-text
returns-clause-text c = IfOk-weaker c.format.result _ _ (λ text e.
    let p = seen_prompt c.args.row.now in
    let prefix = c.as_str.ensures.value ∙ c.in_ok-prefix.ensures in
    let matches = c.as_str-2.ensures.value ∙ c.in_ok-matches.ensures in
    let left : c.saturating_sub-left.result ≡ columns_left p =
    omega (arith, c.saturating_sub.ensures, c.saturating_sub-2.ensures, c.saturating_sub-left.ensures, c.columns.ensures, ap columns prefix, c.columns-2.ensures, ap columns matches, c.columns-3.ensures, ap columns c.follow_indicator-follow.ensures) in
    let fitted_is = c.in_ok-fitted.ensures.row ∙ ap (fitted c.saturating_sub-left.result) c.said.ensures.text in
    row_formed p c.saturating_sub-left.result c.said.result.0.now (string_bytes c.in_ok-fitted.fitted) c.as_str-3.result.now c.as_str-4.result.now c.follow_indicator-follow.result.now (string_bytes text) c.if-not-row.false left c.said.ensures.style fitted_is
    (c.as_str-3.ensures.value ∙ c.in_ok-prefix.ensures) (c.as_str-4.ensures.value ∙ c.in_ok-matches.ensures) c.follow_indicator-follow.ensures e) c.format.ensures.ok
