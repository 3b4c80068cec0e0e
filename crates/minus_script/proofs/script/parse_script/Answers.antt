use Rattle.std.proofs.Common.{rules, ◌≡◌, ℕ, ◌+◌, ◌-◌, List, map, Some, Result, option_map, sym, ap, ◌∙◌, arith}
use Rattle.minus_state.specs.declared.search.condition.NeverShows.{NeverShows}
use Rattle.minus_script.specs.declared.keys.DefaultKeys.{DefaultKeys}
use Rattle.minus_commands.specs.Reads.{Told, told_of}
use Rattle.minus_script.specs.Script.{script_lines, script_told, line_told, then_told}
use Rattle.minus_script.specs.ScriptLines.{told_by}
use Rattle.minus_script.proofs.ScriptLaws.{told_after, told_after-more}
use Rattle.minus_script.proofs.script.parse_script.Goals as goal

pub loop-line-init : goal.loop-line-init
loop-line-init c = search rules

-- the line is one more than those before it
pub loop-line-preserved : goal.loop-line-preserved
loop-line-preserved c =
    let old : List (Told NeverShows DefaultKeys) = map told_of c.loop-line.inputs.items in
    let now : List (Told NeverShows DefaultKeys) = map told_of c.push_line.new.inputs.items in
    let first : List (Told NeverShows DefaultKeys) = told_by c.in-Some-2.line in
    let later : Result (List (Told NeverShows DefaultKeys)) ℕ = script_told (script_lines c.in-Some.more.now) in
    let line : line_told c.in-Some.line.now ≡ Some first = sym c.in_ok-line.ensures ∙ ap (option_map told_by) c.in-Some-2.is in
    let lines : script_told (script_lines c.loop-line.rest.now) ≡ then_told (Some first) later = ap script_told c.in-Some.ensures.lines ∙ ap (λ told. then_told told later) line in
    let count : (c.loop-line.number - 1) + 1 ≡ (c.loop-line.number + 1) - 1 = omega (arith, c.loop-line.invariant.some) in
    record {
      few = omega (arith, c.loop-line.invariant.few, c.in-Some.ensures.room);
      some = omega arith;
      told = c.loop-line.invariant.told ∙ ap (told_after old (c.loop-line.number - 1)) lines
          ∙ told_after-more old now (c.loop-line.number - 1) first later c.in_ok-push_line-in-Some-2.ensures ∙ ap (λ n. told_after now n later) count;
    }

-- a faulty line is a fault
pub returns-in-None-clause-ok : goal.returns-in-None-clause-ok
returns-in-None-clause-ok c = tt
