-- Those that were joined are the first of those that wait.
use Rattle.std.proofs.Common.{◌≡◌, ℕ, ◌+◌, ◌^◌, ◌<◌, List, length, map, string_bytes, ap, arith}
use Rattle.std.proofs.lemmas.List.{length-append, length-map}
use Rattle.std.specs.Str.Lines.{lines}
use Rattle.minus_state.specs.Control.{Control}
use Rattle.minus_state.specs.States.{control_of}
use Rattle.minus.specs.Joined.{append_told}
use Rattle.minus_commands.specs.Reads.{told_of}
use Rattle.minus.proofs.JoinedKindsLaws.{lines_few}
use Rattle.minus.proofs.joined.joined_behind.Goals as goal

pub overflow_sub-result : goal.overflow_sub-result
overflow_sub-result g c = c.in-Ok.ensures.less

pub returns : goal.returns
returns g c =
    let k : Control = control_of c.args.state.now in
    let are = c.in-Ok.ensures.joined in
    let joined : List ℕ = string_bytes c.in-Ok.text in
    let rest = map told_of c.in-Ok.rest.now in
    let all : length c.args.waiting.now ≡ length are.texts + length c.in-Ok.rest.now = (
    let whole = ap length are.front in
    let a = length-map c.args.waiting.now told_of in
    let b = length-append (map (append_told {Q = g.row.P-Condition.Denot} {K = g.row.P-Classifier.Denot}) are.texts) rest in
    let d = length-map are.texts (append_told {Q = g.row.P-Condition.Denot} {K = g.row.P-Classifier.Denot}) in
    let e = length-map c.in-Ok.rest.now told_of in
    omega (arith, whole, a, b, d, e)
    ) in
    let few : length (lines k.text) + length joined < 2 ^ 64 = (
    let room = (c.in_ok-checked_add.ensures {u = tt}).0 in
    let n = c.line_count.ensures in
    let m = c.len.ensures in
    omega (arith, room, n, m)
    ) in
    record {
      text = c.in_ok-first.first.now;
      texts = are.texts;
      behind = rest;
      told_is = c.in_ok-first.ensures;
      waits = are.front;
      joined_is = are.text;
      count_is = omega (arith, all);
      may = c.may_work_joined.ensures c.if-not-may_work_joined.false;
      fits = λ none. (let more = lines_few k.text joined in omega (arith, more, few));
    }
