-- What the session came to is shown, or what it refused.
use Rattle.std.proofs.Common.{◌≡◌, map, Some, refl, ap}
use Rattle.std.specs.Io.KnownBytes.{Appends}
use Rattle.std.proofs.lemmas.Result.{IfOk-weaker, IfErr-weaker}
use Rattle.minus_term.specs.Refusals.{refusal_of}
use Rattle.minus_term.specs.declared.error.MinusError.TheVariants.{Memory}
use Rattle.minus_script.specs.declared.fault.ScriptFault.TheVariants.{Refused}
use Rattle.minus.specs.Core.{seen_of}
use Rattle.minus_commands.specs.Reads.{told_of, wanted_of}
use Rattle.minus.specs.Steps.{cleanup_after}
use Rattle.minus_script.specs.Runs.{exit_code, printed_after, IsShown}
use Rattle.minus_script.specs.ShowFaults.{IsShowFault, IsCleanupFault}
use Rattle.minus_script.proofs.RunLaws.{started, start_refused, page_shown, bytes_shown, run_refused, memory_fault, cleanup_fault}
use Rattle.minus_script.proofs.run.show.Goals as goal

pub returns-in-Err-clause-fault : goal.returns-in-Err-clause-fault
returns-in-Err-clause-fault c = rw c.from.ensures (start_refused (refusal_of c.in-Err.refused.cause) c.args.cols c.args.rows _ (map told_of c.args.inputs.items) _ (ap (map wanted_of) c.new-pager.ensures) c.new-sink.ensures.tty c.in-Err.ensures.refused.refused)

pub returns-in-Err-perform_all-clause-fault : goal.returns-in-Err-perform_all-clause-fault
returns-in-Err-perform_all-clause-fault c =
    let begun = started c.in_ok-keys.keys (seen_of c.in-Ok.session) _ c.args.cols c.args.rows _ _ _ (ap (map wanted_of) c.new-pager.ensures) c.new-sink.ensures.tty (rw (c.new-sink.ensures.inner, c.new.ensures.items) refl) c.in-Ok.ensures.started.started in
    run_refused c.in_ok-keys.keys c.args.cols c.args.rows (seen_of c.in-Ok.session) (seen_of c.perform_all.new.session) (map told_of c.args.inputs.items) _ _ c.in-Err-perform_all.refusal _ begun c.in-Err-perform_all.ensures.refused c.from-in-Err-perform_all.ensures

pub returns-in-Page-clause-shown : goal.returns-in-Page-clause-shown
returns-in-Page-clause-shown c =
    let begun = started c.in_ok-keys.keys (seen_of c.in-Ok.session) _ c.args.cols c.args.rows _ _ _ (ap (map wanted_of) c.new-pager.ensures) c.new-sink.ensures.tty (rw (c.new-sink.ensures.inner, c.new.ensures.items) refl) c.in-Ok.ensures.started.started in
    IfOk-weaker c.print_page.result (λ printed. printed.items ≡ printed_after (exit_code c.in-Ok-perform_all.last) (seen_of c.perform_all.new.session).control) (λ printed. IsShown c.args.mode c.args.cols c.args.rows (map told_of c.args.inputs.items) printed.items)
    (λ printed e. page_shown c.in_ok-keys.keys c.args.cols c.args.rows (seen_of c.in-Ok.session) (seen_of c.perform_all.new.session) (map told_of c.args.inputs.items) c.in-Ok-perform_all.last _ _ c.args.mode printed.items begun c.in-Ok-perform_all.ensures.run c.in-Page.is e)
    c.print_page.ensures.page

pub returns-in-Bytes-clause-shown : goal.returns-in-Bytes-clause-shown
returns-in-Bytes-clause-shown c =
    let begun = started c.in_ok-keys.keys (seen_of c.in-Ok.session) _ c.args.cols c.args.rows _ _ _ (ap (map wanted_of) c.new-pager.ensures) c.new-sink.ensures.tty (rw (c.new-sink.ensures.inner, c.new.ensures.items) refl) c.in-Ok.ensures.started.started in
    IfOk-weaker c.all_written.result (λ written. Appends (Some c.perform_all.new.session.sink.inner.items) (Some written.items) (cleanup_after (seen_of c.perform_all.new.session).status)) (λ printed. IsShown c.args.mode c.args.cols c.args.rows (map told_of c.args.inputs.items) printed.items)
    (λ written e. bytes_shown c.in_ok-keys.keys c.args.cols c.args.rows (seen_of c.in-Ok.session) (seen_of c.perform_all.new.session) (map told_of c.args.inputs.items) c.in-Ok-perform_all.last _ _ c.args.mode written.items begun c.in-Ok-perform_all.ensures.run c.in-Bytes.is e)
    c.all_written.ensures.bytes

pub returns-in-Bytes-clause-fault : goal.returns-in-Bytes-clause-fault
returns-in-Bytes-clause-fault c =
    IfErr-weaker c.all_written.result IsCleanupFault (IsShowFault c.args.cols c.args.rows (map told_of c.args.inputs.items)) (λ fault h. cleanup_fault c.args.cols c.args.rows (map told_of c.args.inputs.items) fault c.in-Ok.ensures.started.started.can.size h) c.all_written.ensures.cleanup

pub returns-in-Page-clause-fault : goal.returns-in-Page-clause-fault
returns-in-Page-clause-fault c =
    IfErr-weaker c.print_page.result (λ e. e ≡ Refused Memory) (IsShowFault c.args.cols c.args.rows (map told_of c.args.inputs.items)) (memory_fault c.args.cols c.args.rows (map told_of c.args.inputs.items)) c.print_page.ensures.memory
