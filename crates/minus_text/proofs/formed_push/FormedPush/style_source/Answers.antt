-- The style is read of what stands before the row in its line: in what is formed, and before that in the text that
-- stays.
use Rattle.std.proofs.Common.{◌≡◌, ◌+◌, ◌++◌, [], take, ap, ◌∙◌}
use Rattle.minus_text.specs.Lines.{unfinished_line}
use Rattle.minus_text.specs.Pending.{Pending}
use Rattle.minus_text.specs.Styles.{read_text}
use Rattle.minus_text.specs.PushedPlaces.{formed_from}
use Rattle.minus_text.proofs.StyleSourceLaws.{ended_behind, open_behind}
use Rattle.minus_text.proofs.PushedPlacesLaws.{formed_reads, formed_none}
use Rattle.minus_text.proofs.formed_push.FormedPush.style_source.Goals as goal

pub returns-in_default : goal.returns-in_default
returns-in_default c =
    let p = c.args.self.now in
    formed_none (take (formed_from p.start) c.args.text.now ++ p.tail.text) p.start p.tail c.args.i (rw c.in_default.is at c.bytes_before.ensures.before)

pub returns-then-part : goal.returns-then-part
returns-then-part c =
    let p = c.args.self.now in
    let front = take (formed_from p.start) c.args.text.now in
    let reads = ended_behind front c.in-Some.formed.now c.style_part-part.result c.style_part-part.ensures c.if-part.true in
    formed_reads c.args.text.now p.start p.tail c.args.i c.in-Some.formed.now ([] ++ c.style_part-part.result.bytes.now) c.requires.place c.bytes_before.ensures.text (rw c.in-Some.is at c.bytes_before.ensures.before) reads

pub returns : goal.returns
returns c =
    let p = c.args.self.now in
    let front = take (formed_from p.start) c.args.text.now in
    let from : c.self.inside.start.finished.bytes + c.self.inside.start.bytes ≡ formed_from p.start = ap (λ (q : Pending). formed_from q.start) c.self.view_is in
    let before = c.style_bytes.ensures ∙ ap (λ n. read_text (unfinished_line (take n c.args.text.now))) from in
    let reads = open_behind front c.in-Some.formed.now c.style_bytes.result.now c.style_part-part.result c.style_part-part.ensures c.if-part.false before in
    formed_reads c.args.text.now p.start p.tail c.args.i c.in-Some.formed.now (c.style_bytes.result.now ++ c.in-Some.formed.now) c.requires.place c.bytes_before.ensures.text (rw c.in-Some.is at c.bytes_before.ensures.before) reads
