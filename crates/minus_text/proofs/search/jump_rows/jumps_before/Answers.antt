-- The rows of jumps ascend, so those that count stand behind the others.
use Rattle.std.proofs.Common.{arith, rules, not}
use Rattle.std.specs.List.Sorted.{IsPartitionedBy}
use Rattle.std.proofs.lemmas.List.Sorted.{IsPartitionPoint-from_clause}
use Rattle.minus_text.specs.declared.search.jump_rows.Jump.{Jump}
use Rattle.minus_text.specs.Matches.{counts_first}
use Rattle.minus_text.proofs.JumpLaws.{jumps_ordered}
use Rattle.minus_text.proofs.ViewLaws.{first_counts, counts_on}
use Rattle.minus_text.proofs.search.jump_rows.jumps_before.Goals as goal

pub returns-clause-value : goal.returns-clause-value
returns-clause-value c =
    let js = c.args.jumps.now in
    let test = counts_first c.args.mark c.args.jump in
    let parted : IsPartitionedBy (λ (j : Jump). not (test j.row)) js = λ i j d le lt e. counts_on c.args.mark c.args.jump _ _ (jumps_ordered js c.requires i j d le lt) e in
    let point = IsPartitionPoint-from_clause (λ (j : Jump). not (test j.row)) js c.partition_point.result c.partition_point.ensures.partitioned parted (λ a r q k. search rules) in
    first_counts test js c.partition_point.result c.partition_point.ensures.bound (λ k d l. point.0 k d (omega arith) l) (λ k d l m. point.1 k d l m)
