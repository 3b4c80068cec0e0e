-- Where output fails, the script was read and shown, and a beginning of that was printed.
use Rattle.std.proofs.Common.{rules, List, ℕ, map, sym, ap, subst, ◌∙◌}
use Rattle.minus_term.specs.Counts.{AppendsFront}
use Rattle.minus_state.proofs.RefusalLaws.{passed_on}
use Rattle.minus_commands.specs.Reads.{told_of}
use Rattle.minus_script.specs.Script.{script_lines, script_told}
use Rattle.minus_script.specs.Runs.{IsRunFault, IsScriptShown}
use Rattle.minus_script.proofs.RunLaws.{output_fault}
use Rattle.minus_script.proofs.run.run_script.Goals as goal

pub returns-in_err-printed-clause-fault : goal.returns-in_err-printed-clause-fault
returns-in_err-printed-clause-fault g c = search rules

pub returns-in_err-write_out-clause-fault : goal.returns-in_err-write_out-clause-fault
returns-in_err-write_out-clause-fault g c =
    let fault = IsRunFault c.args.mode c.args.cols c.args.rows (g.R.Read.remaining c.args.reader.now) (g.R.Read.remaining c.read_script.new.reader) (g.W.Write.contents c.args.writer.now) (g.W.Write.contents c.write_out.new.writer) in
    let front = subst (λ (x : List ℕ). AppendsFront (g.W.Write.contents c.args.writer.now) (g.W.Write.contents c.write_out.new.writer) x) c.deref-2.ensures.value c.in_err-write_out.ensures.err in
    let shown : IsScriptShown c.args.mode c.args.cols c.args.rows (g.R.Read.remaining c.args.reader.now) (g.R.Read.remaining c.read_script.new.reader) c.in_ok-printed.printed.items = record {
      script = c.in_ok-script.script.items;
      told = map told_of c.in_ok-inputs.inputs.items;
      read = c.in_ok-script.ensures.bytes;
      end = c.in_ok-script.ensures.end;
      lines = ap (λ (s : List ℕ). script_told (script_lines s)) (sym c.deref.ensures.value) ∙ c.in_ok-inputs.ensures.ok;
      shown = c.in_ok-printed.ensures.shown;
    } in
    passed_on c.from_residual-in_err-write_out.result fault c.in_err-write_out.field-0.0 c.from_residual-in_err-write_out.ensures
    (output_fault c.args.mode c.args.cols c.args.rows _ _ _ _ c.in_err-write_out.field-0.0 c.in_err-write_out.ensures.fault (c.in_ok-printed.printed.items, shown, front))

pub returns-clause-shown : goal.returns-clause-shown
returns-clause-shown g c = search rules
