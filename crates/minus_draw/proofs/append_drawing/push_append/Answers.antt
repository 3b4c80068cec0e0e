-- The rows from the first that it may change on, where this many were shown.
use Rattle.std.proofs.Common.{◌≡◌, ℕ, ◌-◌, ◌++◌, min, List, ap, ap₂, ◌∙◌}
use Rattle.minus_term.specs.Append.{append_ops}
use Rattle.minus_term.specs.Written.{written_all}
use Rattle.minus_state.specs.Changes.{shown_by}
use Rattle.minus_state.specs.declared.change.Change.{Change}
use Rattle.minus_state.proofs.ChangeLaws.{formed_for, shown_is}
use Rattle.minus_draw.proofs.append_drawing.push_append.Goals as goal

pub returns : goal.returns
returns c formed new h =
    let out : List ℕ = c.args.out.now.items in
    let change : Change = c.args.change.now in
    let texts : List (List ℕ) = shown_by c.args.state.now change in
    let were : c.min-were.result ≡ min (c.args.old_count - change.mark) (change.rows - 1) = c.min-were.ensures ∙ ap₂ min c.saturating_sub.ensures c.page_len.ensures in
    c.in_ok-push_rows_after.ensures (formed_for c.args.state.now change new formed h)
    ∙ ap (λ (n : ℕ). out ++ written_all (append_ops n c.min-were.result texts)) c.saturating_sub-first.ensures
    ∙ ap (λ (n : ℕ). out ++ written_all (append_ops (c.args.first - change.mark) n texts)) were
    ∙ ap (λ (m : ℕ). out ++ written_all (append_ops (c.args.first - m) (min (c.args.old_count - m) (change.rows - 1)) texts)) h.mark_is
    ∙ ap (λ (n : ℕ). out ++ written_all (append_ops (c.args.first - new.mark) (min (c.args.old_count - new.mark) (n - 1)) texts)) h.rows_are
    ∙ ap (λ rows. out ++ written_all (append_ops (c.args.first - new.mark) (min (c.args.old_count - new.mark) (new.rows - 1)) rows)) (shown_is c.args.state.now change new formed h)
