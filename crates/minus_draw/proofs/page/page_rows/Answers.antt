-- The rows of text, the blank ones and the prompt row.
use Rattle.std.proofs.Common.{◌≡◌, ◌-◌, ℕ, List, [], ◌∷◌, ◌++◌, length, map, replicate, string_bytes, refl, sym, ap, ap₂, ◌∙◌}
use Rattle.std.proofs.lemmas.List.{map-append, length-map}
use Rattle.minus_state.specs.Showing.{row_text}
use Rattle.minus_draw.proofs.page.page_rows.Goals as goal

pub returns : goal.returns
returns c =
    let shown = map row_text c.args.shown.now in
    let most = c.args.rows - 1 in
    let copied : map string_bytes c.push_copies.new.rows.items ≡ shown =
    c.in_ok-push_copies.ensures ∙ ap (λ rows. map string_bytes rows ++ shown) c.new-page.ensures.items in
    let blank : most - length c.args.shown.now ≡ most - length shown = ap (λ (n : ℕ). most - n) (sym (length-map c.args.shown.now row_text)) in
    ap (map string_bytes) c.in_ok-push.ensures.items ∙ map-append string_bytes c.push_blanks.new.rows.items (_ ∷ [])
    ∙ ap₂ (λ (rows : List (List ℕ)) (prompt : List ℕ). rows ++ prompt ∷ [])
    (c.in_ok-push_blanks.ensures ∙ ap₂ (λ (rows : List (List ℕ)) (n : ℕ). rows ++ replicate n []) copied (ap (λ (n : ℕ). n - length c.args.shown.now) c.page_len.ensures ∙ blank)) refl
