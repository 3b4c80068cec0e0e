-- The row is cut at two places.
use Rattle.std.proofs.Common.{◌++◌, ◌-◌, ℕ, length, string_bytes, sym, ap, ◌∙◌, append_assoc}
use Rattle.std.proofs.lemmas.Bool.{eqb-true, eqb-false}
use Rattle.std.proofs.lemmas.List.{nil_from_length}
use Rattle.std.proofs.lemmas.Result.{IfOk-weaker}
use Rattle.minus_text.specs.TextUnits.{units_left, bytes_left}
use Rattle.minus_state.specs.VisibleCharacters.{before_visible, behind_visible, text_of, row_units}
use Rattle.minus_state.proofs.VisibleLaws.{text_of-append, cut_behind, unmarked_order, unmarked_none, marked_formed, parts_joined}
use Rattle.minus_state.proofs.visible.highlight_visible_range.Goals as goal
use Rattle.minus_state.proofs.visible.highlight_visible_range.Goals.{then-start-end-via-then-start-end, then-start-end-via-else-start-end+then-is_empty}

pub returns-then-start-end : goal.returns-then-start-end
returns-then-start-end c =
    let row = c.args.row.now in
    let behind = ap (behind_visible c.args.start) (sym c.new.ensures.units) ∙ sym c.from_visible-from.ensures.units in
    IfOk-weaker c.from_str.result _ _ (λ text e. e ∙ sym (elim c.then-start-end.branch [
      | then-start-end-via-then-start-end w ↦ unmarked_order c.args.start c.args.end row w.if-start-end.true
      | then-start-end-via-else-start-end+then-is_empty w ↦
          unmarked_none c.args.start c.args.end row (behind ∙ nil_from_length (units_left c.from_visible-from.result) (eqb-true (length (units_left c.from_visible-from.result)) 0 (sym w.is_empty.ensures ∙ w.if-is_empty.true)))
    ])) c.from_str.ensures.ok

pub range-before-requires-clause-end_boundary : goal.range-before-requires-clause-end_boundary
range-before-requires-clause-end_boundary c =
    let rest = bytes_left c.from_visible-from.result in
    let split = sym c.new.ensures.bytes ∙ c.from_visible-from.ensures.bytes ∙ ap (λ us. text_of (before_visible c.args.start us) ++ rest) c.new.ensures.units in
    (cut_behind c.args.row.now rest (before_visible c.args.start (row_units c.args.row.now)) c.bytes_len.result c.utf8.row split c.bytes_len.ensures).boundary

pub range-marked-requires-clause-start_boundary : goal.range-marked-requires-clause-start_boundary
range-marked-requires-clause-start_boundary c = λ some.
    let rest = bytes_left c.from_visible-from.result in
    let split = sym c.new.ensures.bytes ∙ c.from_visible-from.ensures.bytes ∙ ap (λ us. text_of (before_visible c.args.start us) ++ rest) c.new.ensures.units in
    (cut_behind c.args.row.now rest (before_visible c.args.start (row_units c.args.row.now)) c.bytes_len.result c.utf8.row split c.bytes_len.ensures).boundary

pub range-marked-requires-clause-end_boundary : goal.range-marked-requires-clause-end_boundary
range-marked-requires-clause-end_boundary c =
    let rest = bytes_left c.from_visible-from.result in
    let to = bytes_left c.from_visible.result in
    let before = before_visible c.args.start (row_units c.args.row.now) in
    let inner = before_visible (c.args.end - c.args.start) (units_left c.from_visible-from.result) in
    let split = sym c.new.ensures.bytes ∙ c.from_visible-from.ensures.bytes ∙ ap (λ us. text_of (before_visible c.args.start us) ++ rest) c.new.ensures.units in
    let both = split ∙ ap (λ bs. text_of before ++ bs) c.from_visible.ensures.bytes ∙ sym (append_assoc (text_of before) (text_of inner) to) ∙ ap (λ bs. bs ++ to) (sym (text_of-append before inner)) in
    (cut_behind c.args.row.now to (before ++ inner) c.bytes_len-2.result c.utf8.row both c.bytes_len-2.ensures).boundary

pub range_from-behind-requires : goal.range_from-behind-requires
range_from-behind-requires c = λ some.
    let rest = bytes_left c.from_visible-from.result in
    let to = bytes_left c.from_visible.result in
    let before = before_visible c.args.start (row_units c.args.row.now) in
    let inner = before_visible (c.args.end - c.args.start) (units_left c.from_visible-from.result) in
    let split = sym c.new.ensures.bytes ∙ c.from_visible-from.ensures.bytes ∙ ap (λ us. text_of (before_visible c.args.start us) ++ rest) c.new.ensures.units in
    let both = split ∙ ap (λ bs. text_of before ++ bs) c.from_visible.ensures.bytes ∙ sym (append_assoc (text_of before) (text_of inner) to) ∙ ap (λ bs. bs ++ to) (sym (text_of-append before inner)) in
    (cut_behind c.args.row.now to (before ++ inner) c.bytes_len-2.result c.utf8.row both c.bytes_len-2.ensures).boundary

pub returns : goal.returns
returns c =
    let row = c.args.row.now in
    let from = bytes_left c.from_visible-from.result in
    let to = bytes_left c.from_visible.result in
    let behind = sym (ap (behind_visible c.args.start) (sym c.new.ensures.units) ∙ sym c.from_visible-from.ensures.units) in
    let split = sym c.new.ensures.bytes ∙ c.from_visible-from.ensures.bytes ∙ ap (λ us. text_of (before_visible c.args.start us) ++ from) c.new.ensures.units in
    let inner = c.from_visible.ensures.bytes ∙ ap (λ us. text_of (before_visible (c.args.end - c.args.start) us) ++ to) behind in
    let not_empty = eqb-false (length (units_left c.from_visible-from.result)) 0 (sym c.is_empty.ensures ∙ c.if-is_empty.false) in
    IfOk-weaker c.format.result _ _ (λ text e.
    let all = parts_joined (string_bytes text) c.range-before.result.now c.range-marked.result.now c.range_from-behind.result.now _ _ _ e c.range-before.ensures.value c.range-marked.ensures.value c.range_from-behind.ensures.value in
    marked_formed c.args.start c.args.end _ _ row from to (string_bytes text) c.utf8.row c.if-start-end.false (λ z. not_empty (ap length behind ∙ z)) split inner
    (ap (λ (n : ℕ). length row - n) c.bytes_len.ensures) (ap (λ (n : ℕ). length row - n) c.bytes_len-2.ensures) all) c.format.ensures.ok
