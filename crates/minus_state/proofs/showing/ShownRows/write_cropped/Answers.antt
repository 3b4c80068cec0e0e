-- The row between its ends, or none.
use Rattle.std.proofs.Common.{◌≡◌, ℕ, List, length, length-append, Option, option_map, sym, ap, ◌∙◌, arith}
use Rattle.minus_term.proofs.PartLaws.{row_put}
use Rattle.minus_text.specs.declared.matched_text.MatchedText.{MatchedText}
use Rattle.minus_text.specs.MatchedTexts.{text_within}
use Rattle.minus_text.specs.Views.{viewed}
use Rattle.minus_state.specs.ShownRow.{cropped_line, columns_for_text, ended_in}
use Rattle.minus_state.proofs.WritingLaws.{none_written, row_written, ended_behind}
use Rattle.minus_state.proofs.showing.ShownRows.write_cropped.Goals as goal

pub returns-in_default : goal.returns-in_default
returns-in_default c = λ term found.
    let d = (viewed c.args.self.view).document in
    let left = c.args.self.left_mark in
    let n = columns_for_text d in
    let shown = ap (λ (o : Option (List ℕ)). option_map (cropped_line d left c.args.i) o) (sym (ap (λ (o : Option MatchedText). option_map (text_within left n) o) c.in_default.is) ∙ c.matched_text.ensures term left n found) in
    none_written c.args.out.now.items _ (ap (option_map (ended_in d)) shown)

pub write_ended-requires : goal.write_ended-requires
write_ended-requires c =
    let d = (viewed c.args.self.view).document in
    let left = c.args.self.left_mark in
    let front = c.write_row_start.new.out.items in
    let row = cropped_line d left c.args.i (text_within left (columns_for_text d) c.in-Some.text) in
    omega (arith, c.len-from.ensures, c.write_row_start.new.out.ok.0, ap length (c.in_ok-write_cropped.ensures d left c.of.ensures), length-append front row)

pub returns : goal.returns
returns c = λ term found.
    let d = (viewed c.args.self.view).document in
    let left = c.args.self.left_mark in
    let n = columns_for_text d in
    let row = cropped_line d left c.args.i (text_within left n c.in-Some.text) in
    let shown = ap (λ (o : Option (List ℕ)). option_map (cropped_line d left c.args.i) o) (sym (ap (λ (o : Option MatchedText). option_map (text_within left n) o) c.in-Some.is) ∙ c.matched_text.ensures term left n found) in
    let at : c.len-from.result ≡ length c.write_row_start.new.out.items = omega (arith, c.len-from.ensures, c.write_row_start.new.out.ok.0) in
    let behind = ended_behind d c.write_row_start.new.out.items row c.write_cropped.new.out.items c.write_ended.new.out.items c.len-from.result at (c.in_ok-write_cropped.ensures d left c.of.ensures) c.in_ok-write_ended.ensures in
    let put = row_put c.args.out.now.items c.write_row_start.new.out.items c.write_ended.new.out.items c.write_row_end.new.out.items (ended_in d row)
    c.in_ok-write_row_start.ensures behind c.in_ok-write_row_end.ensures in
    row_written _ _ _ _ put (ap (option_map (ended_in d)) shown)
