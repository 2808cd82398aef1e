use Rattle.std.proofs.Common.{ltb, ltb-true, rules, arith}
use Rattle.std.proofs.lemmas.List.Sorted.{IsPartitionPoint-from_clause, IsPartitionedBy-ltb}
use Rattle.txn_groups.specs.declared.order.Entry.{Entry}
use Rattle.txn_groups.proofs.OldestLemmas.{entries_sorted, below_taken}
use Rattle.txn_groups.proofs.oldest.count_below.Goals as goal

pub returns-clause-below : goal.returns-clause-below
returns-clause-below c = λ begun rising.
    let parted = IsPartitionedBy-ltb (λ (e : Entry). e.serial) c.args.order.now c.args.low (entries_sorted 0 begun c.args.order.now rising) in
    let point = IsPartitionPoint-from_clause (λ (e : Entry). ltb e.serial c.args.low) c.args.order.now c.partition_point.result c.partition_point.ensures.partitioned parted (λ a r q k. search rules) in
    below_taken c.args.low c.partition_point.result c.args.order.now (λ k d less. ltb-true _ _ (point.0 k d (omega arith) less)) c.partition_point.ensures.bound
