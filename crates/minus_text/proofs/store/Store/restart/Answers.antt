-- A push goes on in the unfinished line where it keeps the rows, and else forms all again.
use Rattle.std.proofs.Common.{◌≡◌, ◌≤◌, ◌<◌, ◌+◌, length, drop, refl, sym, ap, subst, arith, ◌∙◌}
use Rattle.std.specs.Str.{IsUtf8, IsCharBoundary}
use Rattle.std.specs.Str.Lines.{lines}
use Rattle.std.specs.String.{string_bytes}
use Rattle.std.proofs.lemmas.Str.{IsUtf8-string_bytes, IsCharBoundary-start, IsCharBoundary-from_drop}
use Rattle.minus_text.specs.Layouts.{wrap_of}
use Rattle.minus_text.specs.Document.{Document, wrap_in}
use Rattle.minus_text.specs.Kept.{GoesOn, IsRestartOf, open_stored}
use Rattle.minus_text.specs.Lines.{unfinished_line}
use Rattle.minus_text.proofs.PreparedLaws.{open_utf8}
use Rattle.minus_text.proofs.ScreenLaws.{is_so, is_not, restart_same, restart_anew, restart_place, rows_left, finished_at, open_behind}
use Rattle.minus_text.proofs.store.Store.restart.Goals as goal

pub returns-then-not-plan-clause-start : goal.returns-then-not-plan-clause-start
returns-then-not-plan-clause-start c = restart_anew c.args.self.now.text c.args.plan (is_not c.args.plan.keeps c.if-not-plan.true)

pub returns-then-not-plan-clause-place : goal.returns-then-not-plan-clause-place
returns-then-not-plan-clause-place c = subst (λ (x : Document). IsCharBoundary x.text 0) c.self.view_is (IsCharBoundary-start (string_bytes c.self.inside.text) (IsUtf8-string_bytes c.self.inside.text))

pub range_from-line-requires : goal.range_from-line-requires
range_from-line-requires c = λ _.
    let at = finished_at (string_bytes c.self.inside.text) (wrap_of c.self.inside.layout (length (lines (string_bytes c.self.inside.text)))) c.self.inside.rows.items c.self.inside.first_rows c.self.inside.finished c.self.inside.longest c.self.inside.border (IsUtf8-string_bytes c.self.inside.text) c.self.invariant.0 in
    rw c.deref.ensures (IsCharBoundary-from_drop (string_bytes c.self.inside.text) c.self.inside.finished.bytes at.0 (rw at.1 (open_utf8 (string_bytes c.self.inside.text) (IsUtf8-string_bytes c.self.inside.text))))

pub last_seam-seam-requires-clause-rows : goal.last_seam-seam-requires-clause-rows
last_seam-seam-requires-clause-rows c =
    let at = finished_at (string_bytes c.self.inside.text) (wrap_of c.self.inside.layout (length (lines (string_bytes c.self.inside.text)))) c.self.inside.rows.items c.self.inside.first_rows c.self.inside.finished c.self.inside.longest c.self.inside.border (IsUtf8-string_bytes c.self.inside.text) c.self.invariant.0 in
    rw c.as_slice.ensures.value (omega (arith, at.3))

pub last_seam-seam-requires-clause-behind : goal.last_seam-seam-requires-clause-behind
last_seam-seam-requires-clause-behind c = rw (c.as_slice.ensures.value, rows_left (string_bytes c.self.inside.text) (wrap_of c.self.inside.layout (length (lines (string_bytes c.self.inside.text)))) c.self.inside.rows.items c.self.inside.first_rows c.self.inside.finished c.self.inside.longest c.self.inside.border (IsUtf8-string_bytes c.self.inside.text) c.self.invariant.0) (open_behind (wrap_of c.self.inside.layout (length (lines (string_bytes c.self.inside.text)))) c.self.inside.finished.bytes (unfinished_line (string_bytes c.self.inside.text)))

pub returns-clause-start : goal.returns-clause-start
returns-clause-start c =
    let at = finished_at (string_bytes c.self.inside.text) (wrap_of c.self.inside.layout (length (lines (string_bytes c.self.inside.text)))) c.self.inside.rows.items c.self.inside.first_rows c.self.inside.finished c.self.inside.longest c.self.inside.border (IsUtf8-string_bytes c.self.inside.text) c.self.invariant.0 in
    let line : c.range_from-line.result.now ≡ unfinished_line (string_bytes c.self.inside.text) = c.range_from-line.ensures.value ∙ ap (drop c.self.inside.finished.bytes) c.deref.ensures ∙ at.1 in
    let rows : drop c.self.inside.finished.rows c.as_slice.result.now ≡ open_stored (wrap_of c.self.inside.layout (length (lines (string_bytes c.self.inside.text)))) c.self.inside.finished.bytes c.range_from-line.result.now =
    ap (drop c.self.inside.finished.rows) c.as_slice.ensures.value ∙ rows_left (string_bytes c.self.inside.text) (wrap_of c.self.inside.layout (length (lines (string_bytes c.self.inside.text)))) c.self.inside.rows.items c.self.inside.first_rows c.self.inside.finished c.self.inside.longest c.self.inside.border (IsUtf8-string_bytes c.self.inside.text) c.self.invariant.0 ∙ ap (open_stored (wrap_of c.self.inside.layout (length (lines (string_bytes c.self.inside.text)))) c.self.inside.finished.bytes) (sym line) in
    let on = c.last_seam-seam.ensures.goes_on (wrap_of c.self.inside.layout (length (lines (string_bytes c.self.inside.text)))) c.range_from-line.utf8 rows in
    let goes_on : GoesOn (wrap_of c.self.inside.layout (length (lines (string_bytes c.self.inside.text)))) (unfinished_line (string_bytes c.self.inside.text)) c.last_seam-seam.result.rows c.last_seam-seam.result.bytes = rw line at on in
    let same : c.args.plan.wrap ≡ (wrap_of c.self.inside.layout (length (lines (string_bytes c.self.inside.text)))) = c.requires (is_so c.args.plan.keeps c.if-not-plan.false) ∙ sym (ap (λ (x : Document). wrap_in x) c.self.view_is) in
    let is = restart_same (string_bytes c.self.inside.text) (wrap_of c.self.inside.layout (length (lines (string_bytes c.self.inside.text)))) c.self.inside.rows.items c.self.inside.first_rows c.self.inside.finished c.self.inside.longest c.self.inside.border (record { finished = c.self.inside.finished; rows = c.last_seam-seam.result.rows; bytes = c.last_seam-seam.result.bytes; border = c.self.inside.border }) c.args.plan (IsUtf8-string_bytes c.self.inside.text) c.self.invariant.0 (is_so c.args.plan.keeps c.if-not-plan.false) same
    refl refl goes_on c.last_seam-seam.ensures.border in
    subst (λ (x : Document). IsRestartOf x.text c.args.plan (record { finished = c.self.inside.finished; rows = c.last_seam-seam.result.rows; bytes = c.last_seam-seam.result.bytes; border = c.self.inside.border })) c.self.view_is is

pub returns-clause-place : goal.returns-clause-place
returns-clause-place c =
    let at = finished_at (string_bytes c.self.inside.text) (wrap_of c.self.inside.layout (length (lines (string_bytes c.self.inside.text)))) c.self.inside.rows.items c.self.inside.first_rows c.self.inside.finished c.self.inside.longest c.self.inside.border (IsUtf8-string_bytes c.self.inside.text) c.self.invariant.0 in
    let line : c.range_from-line.result.now ≡ unfinished_line (string_bytes c.self.inside.text) = c.range_from-line.ensures.value ∙ ap (drop c.self.inside.finished.bytes) c.deref.ensures ∙ at.1 in
    let rows : drop c.self.inside.finished.rows c.as_slice.result.now ≡ open_stored (wrap_of c.self.inside.layout (length (lines (string_bytes c.self.inside.text)))) c.self.inside.finished.bytes c.range_from-line.result.now =
    ap (drop c.self.inside.finished.rows) c.as_slice.ensures.value ∙ rows_left (string_bytes c.self.inside.text) (wrap_of c.self.inside.layout (length (lines (string_bytes c.self.inside.text)))) c.self.inside.rows.items c.self.inside.first_rows c.self.inside.finished c.self.inside.longest c.self.inside.border (IsUtf8-string_bytes c.self.inside.text) c.self.invariant.0 ∙ ap (open_stored (wrap_of c.self.inside.layout (length (lines (string_bytes c.self.inside.text)))) c.self.inside.finished.bytes) (sym line) in
    let on = c.last_seam-seam.ensures.goes_on (wrap_of c.self.inside.layout (length (lines (string_bytes c.self.inside.text)))) c.range_from-line.utf8 rows in
    let goes_on : GoesOn (wrap_of c.self.inside.layout (length (lines (string_bytes c.self.inside.text)))) (unfinished_line (string_bytes c.self.inside.text)) c.last_seam-seam.result.rows c.last_seam-seam.result.bytes = rw line at on in
    let place = restart_place (string_bytes c.self.inside.text) (wrap_of c.self.inside.layout (length (lines (string_bytes c.self.inside.text)))) c.self.inside.rows.items c.self.inside.first_rows c.self.inside.finished c.self.inside.longest c.self.inside.border c.last_seam-seam.result.bytes c.last_seam-seam.result.rows (IsUtf8-string_bytes c.self.inside.text) c.self.invariant.0 goes_on in
    subst (λ (x : Document). IsCharBoundary x.text (c.self.inside.finished.bytes + c.last_seam-seam.result.bytes)) c.self.view_is place.0

pub returns-clause-lines : goal.returns-clause-lines
returns-clause-lines c =
    let at = finished_at (string_bytes c.self.inside.text) (wrap_of c.self.inside.layout (length (lines (string_bytes c.self.inside.text)))) c.self.inside.rows.items c.self.inside.first_rows c.self.inside.finished c.self.inside.longest c.self.inside.border (IsUtf8-string_bytes c.self.inside.text) c.self.invariant.0 in
    subst (λ (x : Document). c.self.inside.finished.lines ≤ length x.text) c.self.view_is at.2

pub returns-clause-rows : goal.returns-clause-rows
returns-clause-rows c =
    let at = finished_at (string_bytes c.self.inside.text) (wrap_of c.self.inside.layout (length (lines (string_bytes c.self.inside.text)))) c.self.inside.rows.items c.self.inside.first_rows c.self.inside.finished c.self.inside.longest c.self.inside.border (IsUtf8-string_bytes c.self.inside.text) c.self.invariant.0 in
    let line : c.range_from-line.result.now ≡ unfinished_line (string_bytes c.self.inside.text) = c.range_from-line.ensures.value ∙ ap (drop c.self.inside.finished.bytes) c.deref.ensures ∙ at.1 in
    let rows : drop c.self.inside.finished.rows c.as_slice.result.now ≡ open_stored (wrap_of c.self.inside.layout (length (lines (string_bytes c.self.inside.text)))) c.self.inside.finished.bytes c.range_from-line.result.now =
    ap (drop c.self.inside.finished.rows) c.as_slice.ensures.value ∙ rows_left (string_bytes c.self.inside.text) (wrap_of c.self.inside.layout (length (lines (string_bytes c.self.inside.text)))) c.self.inside.rows.items c.self.inside.first_rows c.self.inside.finished c.self.inside.longest c.self.inside.border (IsUtf8-string_bytes c.self.inside.text) c.self.invariant.0 ∙ ap (open_stored (wrap_of c.self.inside.layout (length (lines (string_bytes c.self.inside.text)))) c.self.inside.finished.bytes) (sym line) in
    let on = c.last_seam-seam.ensures.goes_on (wrap_of c.self.inside.layout (length (lines (string_bytes c.self.inside.text)))) c.range_from-line.utf8 rows in
    let goes_on : GoesOn (wrap_of c.self.inside.layout (length (lines (string_bytes c.self.inside.text)))) (unfinished_line (string_bytes c.self.inside.text)) c.last_seam-seam.result.rows c.last_seam-seam.result.bytes = rw line at on in
    let place = restart_place (string_bytes c.self.inside.text) (wrap_of c.self.inside.layout (length (lines (string_bytes c.self.inside.text)))) c.self.inside.rows.items c.self.inside.first_rows c.self.inside.finished c.self.inside.longest c.self.inside.border c.last_seam-seam.result.bytes c.last_seam-seam.result.rows (IsUtf8-string_bytes c.self.inside.text) c.self.invariant.0 goes_on in
    omega (arith, place.1, c.self.inside.rows.ok.0, c.self.inside.rows.ok.1, c.self.inside.rows.small)

pub returns-then-not-plan-clause-text : goal.returns-then-not-plan-clause-text
returns-then-not-plan-clause-text c = subst (λ (x : Document). IsUtf8 x.text) c.self.view_is (IsUtf8-string_bytes c.self.inside.text)

pub returns-clause-text : goal.returns-clause-text
returns-clause-text c = subst (λ (x : Document). IsUtf8 x.text) c.self.view_is (IsUtf8-string_bytes c.self.inside.text)

pub returns-then-not-plan-clause-small : goal.returns-then-not-plan-clause-small
returns-then-not-plan-clause-small c = subst (λ (x : Document). length x.text < 9223372036854775808) c.self.view_is (omega (arith, c.self.inside.text.bytes.ok.0, c.self.inside.text.bytes.ok.1, c.self.inside.text.bytes.small))

pub returns-clause-small : goal.returns-clause-small
returns-clause-small c = subst (λ (x : Document). length x.text < 9223372036854775808) c.self.view_is (omega (arith, c.self.inside.text.bytes.ok.0, c.self.inside.text.bytes.ok.1, c.self.inside.text.bytes.small))
