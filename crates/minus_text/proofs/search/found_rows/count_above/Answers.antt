use Rattle.std.proofs.Common.{arith, rules, ltb}
use Rattle.std.proofs.lemmas.List.Sorted.{IsPartitionPoint-from_clause, IsPartitionedBy-ltb}
use Rattle.minus_text.specs.declared.search.found.FoundRow.{FoundRow}
use Rattle.minus_text.proofs.FoundInLaws.{rows_rise, place_above}
use Rattle.minus_text.proofs.search.found_rows.count_above.Goals as goal

pub returns-clause-value : goal.returns-clause-value
returns-clause-value c =
    let fs = c.args.found.now in
    let parted = IsPartitionedBy-ltb (λ (f : FoundRow). f.row) fs c.args.row (rows_rise 0 fs c.requires) in
    let point = IsPartitionPoint-from_clause (λ (f : FoundRow). ltb f.row c.args.row) fs c.partition_point.result c.partition_point.ensures.partitioned parted (λ a r q k. search rules) in
    place_above c.args.row fs c.partition_point.result c.partition_point.ensures.bound (λ k d l. point.0 k d (omega arith) l) (λ k d l m. point.1 k d l m)
