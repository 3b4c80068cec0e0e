-- The rows of the whole text stand beside it.
use Rattle.std.proofs.Common.{◌≡◌, [], length, refl, subst, ap, arith, ◌∙◌}
use Rattle.std.specs.Str.Lines.{lines}
use Rattle.std.specs.String.{string_bytes}
use Rattle.std.proofs.lemmas.Str.{IsCharBoundary-from_drop}
use Rattle.minus_text.specs.Layouts.{wrap_of}
use Rattle.minus_text.specs.RowText.{IsUnescapedFrom}
use Rattle.minus_text.specs.Kept.{IsFormOf, IsFormed}
use Rattle.minus_text.proofs.ScreenLaws.{from_start, whole_form, whole_formed, formed-ascends, form-unfinished}
use Rattle.minus_text.proofs.FormatResultLaws.{tells_whole}
use Rattle.minus_text.proofs.store.Store.of_text.Goals as goal

pub form_end-requires-clause-place : goal.form_end-requires-clause-place
form_end-requires-clause-place c = IsCharBoundary-from_drop c.deref-2.result.now 0 (omega arith) c.deref-2.utf8

pub form_end-requires-clause-ascends : goal.form_end-requires-clause-ascends
form_end-requires-clause-ascends c = λ f p.
    let text = c.deref-2.result.now in
    let wrap = c.wrap_for-wrap.result in
    formed-ascends text wrap f.rows.items f.first_rows f.finished f.longest f.border (whole_formed text wrap f.rows.items f.first_rows f (whole_form text wrap f c.deref-2.utf8 p) refl refl)

-- the text that was formed is the one that was given
pub invariant_of-store : goal.invariant_of-store
invariant_of-store c =
    let text = string_bytes c.args.text in
    let wrap : c.wrap_for-wrap.result ≡ wrap_of c.args.layout (length (lines text)) = c.wrap_for-wrap.ensures ∙ ap (λ t. wrap_of c.args.layout (length (lines t))) c.deref.ensures in
    let form : IsFormOf c.wrap_for-wrap.result [] c.deref-2.result.now from_start c.in_ok-formed.formed = whole_form c.deref-2.result.now c.wrap_for-wrap.result c.in_ok-formed.formed c.deref-2.utf8 c.in_ok-formed.ensures.formed in
    let form : IsFormOf c.wrap_for-wrap.result [] text from_start c.in_ok-formed.formed = rw c.deref-2.ensures at form in
    let escapes = subst (λ t. IsUnescapedFrom c.escapes_end-escapes_end.result t) c.deref-3.ensures (c.escapes_end-escapes_end.ensures [] refl refl) in (
      subst (λ w. IsFormed text w c.form_end.new.rows.items c.form_end.new.first_rows c.in_ok-formed.formed.finished c.in_ok-formed.formed.longest c.in_ok-formed.formed.border) wrap
          (whole_formed text c.wrap_for-wrap.result c.form_end.new.rows.items c.form_end.new.first_rows c.in_ok-formed.formed form c.in_ok-formed.ensures.rows c.in_ok-formed.ensures.first_rows),
      escapes,
    )

pub told-requires-clause-finished : goal.told-requires-clause-finished
told-requires-clause-finished c =
    (form-unfinished c.wrap_for-wrap.result [] c.deref-2.result.now from_start c.in_ok-formed.formed
    (whole_form c.deref-2.result.now c.wrap_for-wrap.result c.in_ok-formed.formed c.deref-2.utf8 c.in_ok-formed.ensures.formed)).0

pub returns-clause-told : goal.returns-clause-told
returns-clause-told c =
    let text = string_bytes c.args.text in
    let formed = c.in_ok-formed.formed in
    let wrap : c.wrap_for-wrap.result ≡ wrap_of c.args.layout (length (lines text)) = c.wrap_for-wrap.ensures ∙ ap (λ t. wrap_of c.args.layout (length (lines t))) c.deref.ensures in
    let form : IsFormOf c.wrap_for-wrap.result [] c.deref-2.result.now from_start formed = whole_form c.deref-2.result.now c.wrap_for-wrap.result formed c.deref-2.utf8 c.in_ok-formed.ensures.formed in
    let t = c.told.ensures in
    tells_whole text _ formed _ (rw (← wrap, ← c.deref-2.ensures) form) t.lines (omega (arith, t.rows)) (omega (arith, t.unfinished)) t.matches t.map t.longest t.clean c.args.layout.match_lines
