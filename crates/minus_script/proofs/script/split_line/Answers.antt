use Rattle.std.proofs.Common.{◌<◌, length, ltb, sym, arith}
use Rattle.std.specs.List.{position_or_len}
use Rattle.std.proofs.lemmas.Bool.{ltb-true, eqb-false}
use Rattle.std.proofs.lemmas.Option.{cond_some}
use Rattle.std.proofs.lemmas.List.{take_rest, drop_all}
use Rattle.minus_script.specs.Script.{is_newline}
use Rattle.minus_script.proofs.ScriptLaws.{script_lines-at, script_lines-none, no_newline}
use Rattle.minus_script.proofs.script.split_line.Goals as goal

pub returns-in-Some-clause-lines : goal.returns-in-Some-clause-lines
returns-in-Some-clause-lines c =
    let script = c.args.script.now in
    let at = cond_some (ltb (position_or_len is_newline script) (length script)) (position_or_len is_newline script) c.in-Some.end (sym c.in-Some.ensures) in
    rw take_rest (rw (← at.1) (script_lines-at script (ltb-true (position_or_len is_newline script) (length script) at.0)))

pub returns-in-None-clause-lines : goal.returns-in-None-clause-lines
returns-in-None-clause-lines c =
    let script = c.args.script.now in
    let some : 0 < length script = omega (arith, eqb-false (length script) 0 (sym c.if-is_empty.ensures)) in
    rw (take_rest, drop_all (length script) script (omega arith)) (script_lines-none script (no_newline script c.in-None.ensures) some)
