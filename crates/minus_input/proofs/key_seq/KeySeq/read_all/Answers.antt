use Rattle.std.proofs.Common.{Err, sym, ap, ◌∙◌, lit<, rules}
use Rattle.std.proofs.lemmas.Result.{err_from_is_err_and}
use Rattle.minus_input.specs.Reading.{read_segments}
use Rattle.minus_input.proofs.SegmentsLaws.{segments-none, read_ok, read_err}
use Rattle.minus_input.proofs.key_seq.KeySeq.read_all.Goals as goal

pub returns-in_err-seq : goal.returns-in_err-seq
returns-in_err-seq g c =
    let h = c.in-Some.ensures.byte (lit< tt) (λ w o f. f) in
    let p = err_from_is_err_and c.from_residual.result c.from_residual.ensures.1 in
    let all = c.loop-segment.invariant.read ∙ read_err g.C.Named.named c.loop-segment.seq c.loop-segment.rest.now c.in-Some.segment.now c.in_err-seq.field-0.0 h.2 h.0 (sym c.in_err-seq.was ∙ c.read_leading.ensures) in
    p.1 ∙ ap Err p.2 ∙ sym all

pub loop-segment-preserved : goal.loop-segment-preserved
loop-segment-preserved g c =
    let h = c.in-Some.ensures.byte (lit< tt) (λ w o f. f) in
    record {
      utf8 = search rules;
      read = c.loop-segment.invariant.read ∙ read_ok g.C.Named.named c.loop-segment.seq c.in_ok-seq.seq c.loop-segment.rest.now c.in-Some.segment.now c.in-Some.more.now h.2 h.0 h.1 (sym c.in_ok-seq.was ∙ c.read_leading.ensures);
    }

pub returns : goal.returns
returns g c =
    let h = c.in_default.ensures.byte (lit< tt) (λ w o f. f) in
    c.read_last.ensures ∙ sym (c.loop-segment.invariant.read ∙ ap (read_segments g.C.Named.named c.loop-segment.seq) (segments-none c.loop-segment.rest.now h))
