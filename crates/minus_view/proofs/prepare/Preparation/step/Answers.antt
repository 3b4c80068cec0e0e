use Rattle.std.proofs.Common.{◌≡◌, true, take, ap, ◌∙◌, subst, Bool}
use Rattle.std.specs.List.{list_all}
use Rattle.minus_view.specs.Shown.{is_plain}
use Rattle.minus_view.proofs.PlainLaws.{front_passes}
use Rattle.minus_view.proofs.ExpandedLaws.{tab_taken, run_taken}
use Rattle.minus_view.proofs.prepare.Preparation.step.Goals as goal

pub returns-then-bytes-eq9-clause-text : goal.returns-then-bytes-eq9-clause-text
returns-then-bytes-eq9-clause-text c = λ m tabs col plain was text.
    tab_taken m tabs col c.args.self.now c.tab.new.self c.args.bytes.now c.requires c.if-bytes-eq9.true
    (c.in_ok-tab.ensures.plain m tabs col plain was) (c.in_ok-tab.ensures.column m tabs col was) text

pub run-requires-clause-printed : goal.run-requires-clause-printed
run-requires-clause-printed c =
    let p = is_plain c.is_plain-newlines.result in
    ap (λ n. list_all p (take n c.args.bytes.now)) c.plain_len-run.ensures.is ∙ front_passes p c.args.bytes.now

pub returns-then-run-gt0-clause-text : goal.returns-then-run-gt0-clause-text
returns-then-run-gt0-clause-text c = λ m tabs col plain was text.
    let bytes = c.args.bytes.now in
    let run = c.plain_len-run.result in
    let newlines = c.is_plain-newlines.ensures.all plain in
    let front : list_all (is_plain true) (take run bytes) ≡ true =
    subst (λ (b : Bool). list_all (is_plain b) (take run bytes) ≡ true) newlines
    (ap (λ n. list_all (is_plain c.is_plain-newlines.result) (take n bytes)) c.plain_len-run.ensures.is ∙ front_passes (is_plain c.is_plain-newlines.result) bytes) in
    run_taken m tabs col run c.args.self.now c.run.new.self bytes front (c.in_ok-run.ensures.plain newlines) (c.in_ok-run.ensures.column m tabs col was) text
