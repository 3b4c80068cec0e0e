-- The columns up to there are read, and what stands behind is read or known.
use Rattle.std.proofs.Common.{◌≡◌, ◌+◌, ◌++◌, length, take, drop, true, sym, ap, arith, ◌∙◌}
use Rattle.std.specs.List.{list_all}
use Rattle.std.proofs.lemmas.Bool.{and_from}
use Rattle.std.proofs.lemmas.List.{take-append-drop, take_all}
use Rattle.std.proofs.lemmas.List.Folds.{list_all-append}
use Rattle.minus_text.specs.Plain.{is_printable, is_unescaped}
use Rattle.minus_text.proofs.CropPlainLaws.{printable_unescaped}
use Rattle.minus_text.proofs.crop.is_plain_in.Goals as goal

pub returns-then-bytes-end : goal.returns-then-bytes-end
returns-then-bytes-end c = λ is.
    let text = c.args.text.now in
    let n = c.args.window.left + c.args.window.width + 1 in
    let size : length c.as_bytes-bytes.result.now ≡ length text = ap length c.as_bytes-bytes.ensures.value in
    let printable : list_all is_printable text ≡ true = ap (list_all is_printable) (sym c.as_bytes-bytes.ensures.value) ∙ sym c.are_printable.ensures ∙ is in
    let all : take n text ≡ text = take_all n text (omega (arith, size, c.if-bytes-end.true, c.saturating_add-end.ensures)) in
    (ap (list_all is_printable) all ∙ printable, printable_unescaped text printable)

pub returns-then-are_printable : goal.returns-then-are_printable
returns-then-are_printable c = λ is.
    let text = c.args.text.now in
    let n = c.args.window.left + c.args.window.width + 1 in
    let k = c.saturating_add-end.result + 1 in
    let front = c.split_at.result.0.now in
    let rest = c.split_at.result.1.now in
    let size : length c.as_bytes-bytes.result.now ≡ length text = ap length c.as_bytes-bytes.ensures.value in
    let same : k ≡ n = omega (arith, size, c.if-bytes-end.false, c.saturating_add-end.ensures, c.as_bytes-bytes.type_inv) in
    let begins : front ≡ take k text = c.split_at.ensures.front ∙ ap (take k) c.as_bytes-bytes.ensures.value in
    let back : rest ≡ drop k text = c.split_at.ensures.back ∙ ap (drop k) c.as_bytes-bytes.ensures.value in
    let printable : list_all is_printable front ≡ true = sym c.are_printable-2.ensures ∙ c.if-are_printable.true in
    let free = c.is_unescaped_behind.ensures is text c.requires back in
    let whole : text ≡ front ++ rest = sym (ap (λ xs. xs ++ rest) begins ∙ ap (λ xs. take k text ++ xs) back ∙ take-append-drop k text) in (
      ap (λ i. list_all is_printable (take i text)) (sym same) ∙ ap (list_all is_printable) (sym begins) ∙ printable,
      ap (list_all is_unescaped) whole ∙ list_all-append is_unescaped front rest ∙ and_from (list_all is_unescaped front) (list_all is_unescaped rest) (printable_unescaped front printable) free,
    )
