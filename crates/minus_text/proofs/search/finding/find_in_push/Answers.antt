use Rattle.std.proofs.Common.{◌+◌, ◌++◌, ◌<◌, ◌≤◌, length, option_map, map, take, refl, sym, ap, ap₂, subst, ◌∙◌, arith}
use Rattle.std.proofs.lemmas.List.{take_all}
use Rattle.regex.specs.Strings.{regex_pattern}
use Rattle.minus_text.specs.Fragments.{rows_in}
use Rattle.minus_text.specs.Found.{found_in_rows, Ascend}
use Rattle.minus_text.specs.FoundRows.{matches_of}
use Rattle.minus_text.specs.FoundBy.{found_in_some}
use Rattle.minus_text.proofs.FoundInLaws.{rows_ascend}
use Rattle.minus_text.proofs.FoundByLaws.{one_more_row}
use Rattle.minus_text.proofs.search.finding.find_in_push.Goals as goal

pub loop-i-preserved : goal.loop-i-preserved
loop-i-preserved c =
    let rows = rows_in c.args.pending.now.tail in
    let re = regex_pattern c.args.term.pattern.now in
    let i = c.loop-i.i in
    let old = map matches_of c.loop-i.rows.items in
    let inv = c.loop-i.invariant in
    let o = option_map (λ r. r.now) c.row_text.result in
    let n = c.args.pending.now.kept_rows + i in
    let more : i < length rows = omega (arith, c.formed_rows-i-end.ensures.value, c.loop-i-test.true) in
    record {
      same = c.note_some.ensures.same ∙ inv.same;
      found = one_more_row re c.args.pending.now.kept_rows i n rows old _ o refl more inv.found c.row_text.ensures (c.in_ok-note_some.ensures.found ∙ ap₂ (λ p k. old ++ found_in_some p k o) inv.same (ap (λ k. k + i) c.kept_rows-first.ensures.value));
      placed = c.in_ok-note_some.ensures.placed c.args.pending.now.kept_rows rows i (ap (λ k. k + i) c.kept_rows-first.ensures.value) c.row_text.ensures inv.placed;
    }

pub returns-clause-found : goal.returns-clause-found
returns-clause-found c =
    let rows = rows_in c.args.pending.now.tail in
    let past : length rows ≤ c.loop-i.i = omega (arith, c.formed_rows-i-end.ensures.value, c.loop-i-test.false) in
    c.loop-i.invariant.found ∙ ap (found_in_rows (regex_pattern c.args.term.pattern.now) c.args.pending.now.kept_rows) (take_all c.loop-i.i rows past)

pub returns-clause-stand : goal.returns-clause-stand
returns-clause-stand c =
    let inv = c.loop-i.invariant in
    let first = c.args.pending.now.kept_rows in
    let some = take c.loop-i.i (rows_in c.args.pending.now.tail) in
    record { placed = inv.placed; ascend = subst (Ascend first) (sym inv.found) (rows_ascend (regex_pattern c.args.term.pattern.now) first some) }
