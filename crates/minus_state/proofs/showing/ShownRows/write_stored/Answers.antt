-- The row between its ends, or none.
use Rattle.std.proofs.Common.{◌≡◌, length, length-append, option_map, sym, ap, ◌∙◌, arith}
use Rattle.minus_term.proofs.PartLaws.{row_put}
use Rattle.minus_text.specs.ViewedRows.{viewed_text}
use Rattle.minus_text.specs.Views.{viewed}
use Rattle.minus_state.specs.ShownRow.{ended_in}
use Rattle.minus_state.proofs.WritingLaws.{none_written, row_written, ended_behind}
use Rattle.minus_state.proofs.showing.ShownRows.write_stored.Goals as goal

pub returns-in_default : goal.returns-in_default
returns-in_default c = λ term found.
    let d = (viewed c.args.self.view).document in
    none_written c.args.out.now.items _ (ap (option_map (ended_in d)) (sym (ap (option_map viewed_text) c.in_default.is) ∙ c.row.ensures term found))

pub write_ended-requires : goal.write_ended-requires
write_ended-requires c =
    let front = c.write_row_start.new.out.items in
    omega (arith, c.len-from.ensures, c.write_row_start.new.out.ok.0, ap length c.in_ok-write_to.ensures, length-append front (viewed_text c.in-Some.row))

pub returns : goal.returns
returns c =
    let d = (viewed c.args.self.view).document in
    let text = viewed_text c.in-Some.row in
    let at : c.len-from.result ≡ length c.write_row_start.new.out.items = omega (arith, c.len-from.ensures, c.write_row_start.new.out.ok.0) in
    let behind = ended_behind d c.write_row_start.new.out.items text c.write_to.new.out.items c.write_ended.new.out.items c.len-from.result at c.in_ok-write_to.ensures c.in_ok-write_ended.ensures in
    let put = row_put c.args.out.now.items c.write_row_start.new.out.items c.write_ended.new.out.items c.write_row_end.new.out.items (ended_in d text) c.in_ok-write_row_start.ensures behind c.in_ok-write_row_end.ensures in
    λ term found. row_written _ _ _ _ put (ap (option_map (ended_in d)) (sym (ap (option_map viewed_text) c.in-Some.is) ∙ c.row.ensures term found))
