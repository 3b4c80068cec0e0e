use Rattle.std.proofs.Common.{◌+◌, ◌%◌, ap, sym, ◌∙◌}
use Rattle.minus_view.specs.Prepared.{glyph_columns}
use Rattle.minus_view.specs.TabColumns.{apart}
use Rattle.minus_view.specs.declared.prepare.Shape.{Shape}
use Rattle.minus_view.proofs.ExpandedLaws.{reduced}
use Rattle.minus_view.proofs.prepare.Preparation.release.Goals as goal

pub returns-in_ok-put_char-clause-column : goal.returns-in_ok-put_char-clause-column
returns-in_ok-put_char-clause-column c = λ m tabs col was.
    let same = ap apart c.in_ok-open.ensures.shape ∙ was.apart in
    let column = c.args.self.now.column in
    let held = ap glyph_columns c.in-Some.is in
    record {
      marked = ap (λ (s : Shape). s.marks_tabs) c.in_ok-open.ensures.shape ∙ was.marked;
      apart = same;
      column = reduced tabs c.apart.result column c.columns.result _ col (c.apart.ensures.is ∙ same)
          (ap (λ n. (column + n) % tabs) (c.columns.ensures.is ∙ sym held) ∙ was.column)
          (ap (λ k. k % c.apart.result + c.columns.result) c.in_ok-open.ensures.column);
    }
