-- The text that waits sets no register: the one of the start is kept.
use Rattle.std.proofs.Common.{◌≡◌, ◌∷◌, [], ◌++◌, map, ap, sym, subst, ◌∙◌}
use Rattle.minus_input.specs.EventTables.{register_of}
use Rattle.minus_commands.specs.Reads.{wanted_of}
use Rattle.minus.specs.Seen.{Seen}
use Rattle.minus_commands.specs.WaitingRegistrations.{classifier_taken}
use Rattle.minus_commands.specs.Table.{appends_data}
use Rattle.minus_commands.proofs.PagerLaws.{asked_behind}
use Rattle.minus_callers.specs.Report.{HasSummaryKey}
use Rattle.minus_callers.proofs.report.page_report.Goals as goal

pub returns-clause-keys : goal.returns-clause-keys
returns-clause-keys g c =
    let waits = asked_behind _ _ _ c.in_ok-push_str.ensures.ok ∙ ap (λ (items : _). map wanted_of items ++ appends_data c.args.report.now ∷ []) c.new-pager.ensures in
    let kept : c.in_ok-session.session.parts.classifier ≡ c.in_ok-keys.keys =
    ap (λ (s : Seen _ _). s.classifier) c.in_ok-session.ensures.started.started.begins ∙ ap (classifier_taken c.in_ok-keys.keys) waits in
    subst (λ (k : _). HasSummaryKey c.args.summary (register_of k)) (sym kept) c.in_ok-keys.ensures
