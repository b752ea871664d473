use Rattle.std.proofs.Common.{rules, [], not, arith, sym}
use Rattle.std.proofs.lemmas.List.Sorted.{IsPartitionPoint-from_clause}
use Rattle.std.proofs.lemmas.List.Sums.{prefix_len_is}
use Rattle.store.specs.Records.{is_from}
use Rattle.key_ranges.specs.declared.spans.KeySpan.{KeySpan}
use Rattle.key_ranges.proofs.InOrders.{starts_partitioned}
use Rattle.key_ranges.proofs.merging.place_of.Goals as goal

pub returns : goal.returns
returns c =
    let start = c.args.start.now in
    let spans = c.args.spans.now in
    let none : KeySpan = record { start = []; stop = [] } in
    let point = IsPartitionPoint-from_clause (λ (span : KeySpan). not (is_from start span.start)) _ _ c.partition_point.ensures.partitioned (starts_partitioned start spans c.requires) (λ a r q k. search rules) in
    sym (prefix_len_is (λ (span : KeySpan). not (is_from start span.start)) spans c.partition_point.result none c.partition_point.ensures.bound
    (λ k lt. point.0 k none (omega arith) lt) (λ lt. point.1 c.partition_point.result none (omega arith) lt))
