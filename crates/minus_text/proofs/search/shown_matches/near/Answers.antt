-- The matches that are left out stand in no stretch.
use Rattle.std.proofs.Common.{◌-◌, ℕ, leb, ltb, length, take, drop, rules, sym, subst, ap, ◌∙◌, arith}
use Rattle.std.proofs.lemmas.Bool.{leb-true, ltb-false}
use Rattle.std.proofs.lemmas.List.{take_rest}
use Rattle.std.proofs.lemmas.List.Sorted.{IsPartitionPoint-from_clause, IsPartitionedBy-leb, IsPartitionedBy-ltb}
use Rattle.minus_text.specs.Escapes.{CutsText}
use Rattle.minus_text.specs.ShownMatches.{marked_stretch}
use Rattle.minus_text.proofs.ShownMatchesLaws.{cuts_rise, cuts_behind, ended_before, begun_before}
use Rattle.minus_text.proofs.search.shown_matches.near.Goals as goal

pub returns : goal.returns
returns c = λ text cuts.
    let ms = c.args.matches.now in
    let at = c.args.at in
    let end = c.args.end in
    let n = c.partition_point-first.result in
    let k = c.partition_point-count.result in
    let rest = take (length ms - n) (drop n ms) in
    let same = take_rest ms n in
    let behind = cuts_behind text 0 n ms cuts in
    let first = IsPartitionPoint-from_clause (λ (m : ℕ × ℕ). leb m.1 at) ms n c.partition_point-first.ensures.partitioned
    (IsPartitionedBy-leb (λ (m : ℕ × ℕ). m.1) ms at (λ i j d l m. (cuts_rise text 0 ms cuts i j d l m).1)) (λ a r q s. search rules) in
    let second = IsPartitionPoint-from_clause (λ (m : ℕ × ℕ). ltb m.0 end) rest k c.partition_point-count.ensures.partitioned
    (IsPartitionedBy-ltb (λ (m : ℕ × ℕ). m.0) rest end (λ i j d l m. (cuts_rise text behind.0 rest (subst (CutsText text behind.0) (sym same) behind.1) i j d l m).0)) (λ a r q s. search rules) in
    begun_before text at end k rest (λ j l m. ltb-false _ end (second.1 j (0, 0) l m))
    ∙ ap (marked_stretch text at end) same
    ∙ ended_before text at end n ms (λ j l m. leb-true _ at (first.0 j (0, 0) (omega arith) l))
