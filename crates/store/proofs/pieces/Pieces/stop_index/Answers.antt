use Rattle.std.proofs.Common.{rules, List, sym, subst}
use Rattle.std.specs.List.Sorted.{IsPartitionedBy}
use Rattle.std.proofs.lemmas.List.Sorted.{IsPartitionPoint-from_clause}
use Rattle.store.specs.Records.{Changes}
use Rattle.store.specs.Pieces.{ends_within, IsStopIndex}
use Rattle.store.proofs.Stops.{stops_parted, is_stop_index}
use Rattle.store.proofs.pieces.Pieces.stop_index.Goals as goal

-- the stop divides the pieces, which the search finds
pub returns-clause-index : goal.returns-clause-index
returns-clause-index c =
    let stop = c.args.stop.now in
    let parted = subst (λ (ps : List Changes). IsPartitionedBy (ends_within stop) ps) (sym c.deref.ensures.value) (stops_parted stop c.args.self.now.list.items c.args.self.now.ordered c.args.self.now.filled) in
    let point = IsPartitionPoint-from_clause (ends_within stop) _ _ c.partition_point.ensures.partitioned parted (λ a r q k. search rules) in
    subst (λ (ps : List Changes). IsStopIndex stop c.partition_point.result ps) c.deref.ensures.value (is_stop_index stop c.partition_point.result c.deref.result.now c.partition_point.ensures.bound point)
