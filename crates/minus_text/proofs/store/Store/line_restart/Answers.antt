-- The unfinished line is formed again from its start, or all is.
use Rattle.std.proofs.Common.{◌≡◌, ◌≤◌, ◌<◌, ◌+◌, length, refl, sym, ap, subst, arith, ◌∙◌}
use Rattle.std.specs.Str.{IsUtf8, IsCharBoundary}
use Rattle.std.specs.Str.Lines.{lines}
use Rattle.std.specs.String.{string_bytes}
use Rattle.std.proofs.lemmas.Str.{IsUtf8-string_bytes, IsCharBoundary-start}
use Rattle.minus_text.specs.Layouts.{wrap_of}
use Rattle.minus_text.specs.Document.{Document, wrap_in}
use Rattle.minus_text.specs.Kept.{GoesOn, IsRestartOf}
use Rattle.minus_text.specs.Lines.{unfinished_line}
use Rattle.minus_text.proofs.LineLaws.{goes_on_again}
use Rattle.minus_text.proofs.PreparedLaws.{open_utf8}
use Rattle.minus_text.proofs.ScreenLaws.{is_so, is_not, restart_same, restart_anew, restart_place, finished_at}
use Rattle.minus_text.proofs.store.Store.line_restart.Goals as goal

pub returns-then-not-plan-clause-start : goal.returns-then-not-plan-clause-start
returns-then-not-plan-clause-start c = restart_anew c.args.self.now.text c.args.plan (is_not c.args.plan.keeps c.if-not-plan.true)

pub returns-then-not-plan-clause-place : goal.returns-then-not-plan-clause-place
returns-then-not-plan-clause-place c = subst (λ (x : Document). IsCharBoundary x.text 0) c.self.view_is (IsCharBoundary-start (string_bytes c.self.inside.text) (IsUtf8-string_bytes c.self.inside.text))

pub returns-then-not-plan-clause-text : goal.returns-then-not-plan-clause-text
returns-then-not-plan-clause-text c = subst (λ (x : Document). IsUtf8 x.text) c.self.view_is (IsUtf8-string_bytes c.self.inside.text)

pub returns-then-not-plan-clause-small : goal.returns-then-not-plan-clause-small
returns-then-not-plan-clause-small c = subst (λ (x : Document). length x.text < 9223372036854775808) c.self.view_is (omega (arith, c.self.inside.text.bytes.ok.0, c.self.inside.text.bytes.ok.1, c.self.inside.text.bytes.small))

pub returns-clause-start : goal.returns-clause-start
returns-clause-start c =
    let goes_on : GoesOn (wrap_of c.self.inside.layout (length (lines (string_bytes c.self.inside.text)))) (unfinished_line (string_bytes c.self.inside.text)) 0 0 = goes_on_again (wrap_of c.self.inside.layout (length (lines (string_bytes c.self.inside.text)))) (unfinished_line (string_bytes c.self.inside.text)) (open_utf8 (string_bytes c.self.inside.text) (IsUtf8-string_bytes c.self.inside.text)) in
    let same : c.args.plan.wrap ≡ (wrap_of c.self.inside.layout (length (lines (string_bytes c.self.inside.text)))) = c.requires (is_so c.args.plan.keeps c.if-not-plan.false) ∙ sym (ap (λ (x : Document). wrap_in x) c.self.view_is) in
    let is = restart_same (string_bytes c.self.inside.text) (wrap_of c.self.inside.layout (length (lines (string_bytes c.self.inside.text)))) c.self.inside.rows.items c.self.inside.first_rows c.self.inside.finished c.self.inside.longest c.self.inside.border (record { finished = c.self.inside.finished; rows = 0; bytes = 0; border = c.self.inside.border }) c.args.plan (IsUtf8-string_bytes c.self.inside.text) c.self.invariant.0 (is_so c.args.plan.keeps c.if-not-plan.false) same
    refl refl goes_on (omega arith) in
    subst (λ (x : Document). IsRestartOf x.text c.args.plan (record { finished = c.self.inside.finished; rows = 0; bytes = 0; border = c.self.inside.border })) c.self.view_is is

pub returns-clause-place : goal.returns-clause-place
returns-clause-place c =
    let goes_on : GoesOn (wrap_of c.self.inside.layout (length (lines (string_bytes c.self.inside.text)))) (unfinished_line (string_bytes c.self.inside.text)) 0 0 = goes_on_again (wrap_of c.self.inside.layout (length (lines (string_bytes c.self.inside.text)))) (unfinished_line (string_bytes c.self.inside.text)) (open_utf8 (string_bytes c.self.inside.text) (IsUtf8-string_bytes c.self.inside.text)) in
    let place = restart_place (string_bytes c.self.inside.text) (wrap_of c.self.inside.layout (length (lines (string_bytes c.self.inside.text)))) c.self.inside.rows.items c.self.inside.first_rows c.self.inside.finished c.self.inside.longest c.self.inside.border 0 0 (IsUtf8-string_bytes c.self.inside.text) c.self.invariant.0 goes_on in
    subst (λ (x : Document). IsCharBoundary x.text (c.self.inside.finished.bytes + 0)) c.self.view_is place.0

pub returns-clause-lines : goal.returns-clause-lines
returns-clause-lines c =
    let at = finished_at (string_bytes c.self.inside.text) (wrap_of c.self.inside.layout (length (lines (string_bytes c.self.inside.text)))) c.self.inside.rows.items c.self.inside.first_rows c.self.inside.finished c.self.inside.longest c.self.inside.border (IsUtf8-string_bytes c.self.inside.text) c.self.invariant.0 in
    subst (λ (x : Document). c.self.inside.finished.lines ≤ length x.text) c.self.view_is at.2

pub returns-clause-rows : goal.returns-clause-rows
returns-clause-rows c =
    let goes_on : GoesOn (wrap_of c.self.inside.layout (length (lines (string_bytes c.self.inside.text)))) (unfinished_line (string_bytes c.self.inside.text)) 0 0 = goes_on_again (wrap_of c.self.inside.layout (length (lines (string_bytes c.self.inside.text)))) (unfinished_line (string_bytes c.self.inside.text)) (open_utf8 (string_bytes c.self.inside.text) (IsUtf8-string_bytes c.self.inside.text)) in
    let place = restart_place (string_bytes c.self.inside.text) (wrap_of c.self.inside.layout (length (lines (string_bytes c.self.inside.text)))) c.self.inside.rows.items c.self.inside.first_rows c.self.inside.finished c.self.inside.longest c.self.inside.border 0 0 (IsUtf8-string_bytes c.self.inside.text) c.self.invariant.0 goes_on in
    omega (arith, place.1, c.self.inside.rows.ok.0, c.self.inside.rows.ok.1, c.self.inside.rows.small)

pub returns-clause-text : goal.returns-clause-text
returns-clause-text c = subst (λ (x : Document). IsUtf8 x.text) c.self.view_is (IsUtf8-string_bytes c.self.inside.text)

pub returns-clause-small : goal.returns-clause-small
returns-clause-small c = subst (λ (x : Document). length x.text < 9223372036854775808) c.self.view_is (omega (arith, c.self.inside.text.bytes.ok.0, c.self.inside.text.bytes.ok.1, c.self.inside.text.bytes.small))
