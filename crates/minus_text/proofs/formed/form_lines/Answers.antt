use Rattle.std.proofs.Common.{◌≡◌, ◌∷◌, ◌++◌, length, ap, refl, sym, ◌∙◌}
use Rattle.std.specs.Str.Lines.{lines}
use Rattle.std.proofs.lemmas.Result.{IfOk-from_err}
use Rattle.minus_text.specs.declared.formed.Forming.{Forming}
use Rattle.minus_text.specs.declared.formed.Formed.{Formed}
use Rattle.minus_text.specs.Forms.{IsFormOfLines}
use Rattle.minus_text.specs.Document.{first_rows}
use Rattle.minus_text.proofs.FormLaws.{all_finished, form_closed, form_open, behind_ascends}
use Rattle.minus_text.proofs.formed.form_lines.Goals as goal
use Rattle.minus_text.proofs.formed.form_lines.Goals.{then-not-is_empty+in_ok-add_line-2, else-not-is_empty}

pub from_first_rows-requires : goal.from_first_rows-requires
from_first_rows-requires c =
    let i = c.loop-first.invariant in
    let h = all_finished c.args.forming c.args.kept c.loop-first.forming.rows.items c.loop-first.forming.first_rows.items c.loop-first.forming.longest c.loop-first.place c.loop-first.rest.now c.args.text.now c.args.from c.args.wrap c.in_default.ensures.cut i.rows i.count i.first_row i.reached c.requires.rows i.longest i.line i.at i.open_line in
    let f : Formed = record { rows = c.if-not-is_empty.forming.rows; first_rows = c.if-not-is_empty.forming.first_rows.items; finished = record { lines = c.loop-first.place.lines; rows = c.loop-first.place.rows; bytes = c.loop-first.place.bytes; longest = c.max.result }; border = record { bytes = 0; columns = 0 }; longest = c.if-not-is_empty.forming.longest } in
    let is : IsFormOfLines c.args.wrap c.args.forming c.args.text.now c.args.from f = elim c.if-not-is_empty.branch [
      | then-not-is_empty+in_ok-add_line-2 w ↦
          form_open c.args.forming c.loop-first.forming.rows.items c.loop-first.forming.first_rows.items c.loop-first.forming.longest c.loop-first.place c.loop-first.rest.now c.args.text.now c.args.from c.args.wrap c.max.result f h c.requires.longest c.max.ensures (sym c.is_empty.ensures ∙ w.if-not-is_empty.true)
          (ap (λ (x : Forming). x.rows.items) w.forming-is ∙ w.in_ok-add_line-2.ensures.rows) (ap (λ (x : Forming). length x.rows.items) w.forming-is ∙ w.in_ok-add_line-2.ensures.count) (ap (λ (x : Forming). x.first_rows.items) w.forming-is ∙ w.in_ok-add_line-2.ensures.first_row) (ap (λ (x : Forming). x.longest) w.forming-is ∙ w.in_ok-add_line-2.ensures.longest) refl refl
      | else-not-is_empty w ↦
          form_closed c.args.forming c.loop-first.forming.rows.items c.loop-first.forming.first_rows.items c.loop-first.forming.longest c.loop-first.place c.loop-first.rest.now c.args.text.now c.args.from c.args.wrap c.max.result f h c.requires.longest c.max.ensures (sym c.is_empty.ensures ∙ w.if-not-is_empty.false)
          (ap (λ (x : Forming). x.rows.items) w.forming-is) (ap (λ (x : Forming). x.first_rows.items) w.forming-is) (ap (λ (x : Forming). x.longest) w.forming-is) refl refl
    ] in
    let one = c.requires.first_row in
    let e : c.if-not-is_empty.forming.first_rows.items ≡ c.args.forming.first_rows.items ++ first_rows c.args.wrap c.args.from.rows (lines c.args.text.now) = is.its_map in
    let all : c.if-not-is_empty.forming.first_rows.items ≡ one.0 ∷ first_rows c.args.wrap c.args.from.rows (lines c.args.text.now) = e ∙ ap (λ ns. ns ++ first_rows c.args.wrap c.args.from.rows (lines c.args.text.now)) one.1 in
    rw all (behind_ascends c.args.wrap one.0 c.args.from.rows (lines c.args.text.now) one.2)

pub returns : goal.returns
returns c =
    let i = c.loop-first.invariant in
    let h = all_finished c.args.forming c.args.kept c.loop-first.forming.rows.items c.loop-first.forming.first_rows.items c.loop-first.forming.longest c.loop-first.place c.loop-first.rest.now c.args.text.now c.args.from c.args.wrap c.in_default.ensures.cut i.rows i.count i.first_row i.reached c.requires.rows i.longest i.line i.at i.open_line in
    let f : Formed = record { rows = c.if-not-is_empty.forming.rows; first_rows = c.from_first_rows.result; finished = record { lines = c.loop-first.place.lines; rows = c.loop-first.place.rows; bytes = c.loop-first.place.bytes; longest = c.max.result }; border = record { bytes = 0; columns = 0 }; longest = c.if-not-is_empty.forming.longest } in
    elim c.if-not-is_empty.branch [
      | then-not-is_empty+in_ok-add_line-2 w ↦
          form_open c.args.forming c.loop-first.forming.rows.items c.loop-first.forming.first_rows.items c.loop-first.forming.longest c.loop-first.place c.loop-first.rest.now c.args.text.now c.args.from c.args.wrap c.max.result f h c.requires.longest c.max.ensures (sym c.is_empty.ensures ∙ w.if-not-is_empty.true)
          (ap (λ (x : Forming). x.rows.items) w.forming-is ∙ w.in_ok-add_line-2.ensures.rows) (ap (λ (x : Forming). length x.rows.items) w.forming-is ∙ w.in_ok-add_line-2.ensures.count) (c.from_first_rows.ensures ∙ ap (λ (x : Forming). x.first_rows.items) w.forming-is ∙ w.in_ok-add_line-2.ensures.first_row) (ap (λ (x : Forming). x.longest) w.forming-is ∙ w.in_ok-add_line-2.ensures.longest) refl refl
      | else-not-is_empty w ↦
          form_closed c.args.forming c.loop-first.forming.rows.items c.loop-first.forming.first_rows.items c.loop-first.forming.longest c.loop-first.place c.loop-first.rest.now c.args.text.now c.args.from c.args.wrap c.max.result f h c.requires.longest c.max.ensures (sym c.is_empty.ensures ∙ w.if-not-is_empty.false)
          (ap (λ (x : Forming). x.rows.items) w.forming-is) (c.from_first_rows.ensures ∙ ap (λ (x : Forming). x.first_rows.items) w.forming-is) (ap (λ (x : Forming). x.longest) w.forming-is) refl refl
    ]

pub returns-in_err-add_line : goal.returns-in_err-add_line
returns-in_err-add_line c = IfOk-from_err _ _ c.from_residual.ensures.0

pub returns-in_err-add_line-2 : goal.returns-in_err-add_line-2
returns-in_err-add_line-2 c = IfOk-from_err _ _ c.from_residual-in_err-add_line-2.ensures.0
