-- Behind what stays stands what is fresh, and its matches count behind those that stay.
use Rattle.std.proofs.Common.{◌≡◌, ◌+◌, ◌++◌, nat_le, map, take, sym, ap, ap₂, ◌∙◌, arith}
use Rattle.std.specs.List.{position_or_len}
use Rattle.std.proofs.lemmas.List.{map-append, take-map}
use Rattle.minus_text.specs.Found.{RowMatches, found_above, match_total, matches_above}
use Rattle.minus_text.specs.FoundBy.{found_rows}
use Rattle.minus_text.specs.FoundRows.{matches_of}
use Rattle.minus_text.specs.JumpRows.{counted, jumps_behind, jump_behind, ended_at}
use Rattle.minus_text.proofs.JumpLaws.{below, rows_are, rise_of, above_jumps, end_above, moved, behind_both}
use Rattle.minus_text.proofs.search.found_rows.FoundRows.replace_from.Goals as goal

pub jumps_before-staying-requires : goal.jumps_before-staying-requires
jumps_before-staying-requires c = rise_of c.as_slice-2.result.now (found_rows c.args.self.now) (c.as_slice-2.ensures.value ∙ c.requires.jumps) c.requires.ascend

pub returns-clause-found : goal.returns-clause-found
returns-clause-found c =
    let old = c.args.self.now.rows.items in
    let fresh = c.args.fresh.rows.items in
    ap (map matches_of) (c.in-Ok.ensures.items ∙ ap (λ l. l ++ fresh) c.truncate.ensures.items)
    ∙ map-append matches_of (take c.count_above.result old) fresh
    ∙ ap (λ l. l ++ map matches_of fresh) (sym (take-map matches_of c.count_above.result old)
    ∙ ap (λ n. take n (map matches_of old)) (c.count_above.ensures.value ∙ ap (λ l. position_or_len (λ (f : RowMatches). nat_le c.args.row f.row) (map matches_of l)) c.as_slice.ensures.value))

pub returns-clause-jumps : goal.returns-clause-jumps
returns-clause-jumps c =
    let row = c.args.row in
    let old = found_rows c.args.self.now in
    let fresh = found_rows c.args.fresh in
    let above = found_above row old in
    let n = c.jumps_before-staying.result in
    let at = c.jumps_before-staying.ensures.value ∙ ap (below row) (rows_are c.as_slice-2.result.now old (c.as_slice-2.ensures.value ∙ c.requires.jumps)) in
    let total : c.ended_at.result ≡ counted (matches_above row old) = c.ended_at.ensures ∙ ap (λ js. ended_at 0 js n) (c.as_slice-3.ensures.value ∙ c.requires.jumps) ∙ end_above row 0 n old c.requires.ascend at in
    let front : c.truncate-2.new.self.items ≡ jumps_behind 0 above =
    c.truncate-2.ensures.items ∙ ap (take n) c.requires.jumps ∙ ap (λ k. take k (jumps_behind 0 old)) at ∙ above_jumps 0 row 0 old c.requires.ascend in
    let size : match_total above + 0 ≡ 0 + match_total above = omega arith in
    let back : c.count_behind.new.jumps.items ≡ jumps_behind (0 + match_total above) fresh =
    c.count_behind.ensures ∙ ap₂ (λ k js. map (jump_behind k) js) total c.requires.fresh ∙ moved (match_total above) 0 fresh ∙ ap (λ k. jumps_behind k fresh) size in
    let rows = c.args.self.now.rows.items in
    let found : map matches_of c.append.new.self.items ≡ above ++ fresh =
    ap (map matches_of) (c.in-Ok.ensures.items ∙ ap (λ l. l ++ c.args.fresh.rows.items) c.truncate.ensures.items)
    ∙ map-append matches_of (take c.count_above.result rows) c.args.fresh.rows.items
    ∙ ap (λ l. l ++ fresh) (sym (take-map matches_of c.count_above.result rows)
    ∙ ap (λ k. take k (map matches_of rows)) (c.count_above.ensures.value ∙ ap (λ l. position_or_len (λ (f : RowMatches). nat_le row f.row) (map matches_of l)) c.as_slice.ensures.value)) in
    c.in-Ok-append.ensures.items ∙ ap₂ (λ l m. l ++ m) front back ∙ sym (behind_both 0 above fresh) ∙ ap (jumps_behind 0) (sym found)
