use Rattle.std.proofs.Common.{rules, List, sym, subst}
use Rattle.std.specs.List.Sorted.{IsPartitionedBy}
use Rattle.std.proofs.lemmas.List.Sorted.{IsPartitionPoint-from_clause}
use Rattle.store.specs.Records.{Changes}
use Rattle.store.specs.Pieces.{ends_before, IsIndex}
use Rattle.store.proofs.InPieces.{pieces_parted, is_index}
use Rattle.store.proofs.pieces.Pieces.index.Goals as goal

-- the key divides the pieces, which the search finds
pub returns-clause-index : goal.returns-clause-index
returns-clause-index c =
    let key = c.args.key.now in
    let parted = subst (λ (ps : List Changes). IsPartitionedBy (ends_before key) ps) (sym c.deref.ensures.value) (pieces_parted key c.args.self.now.list.items c.args.self.now.ordered c.args.self.now.filled) in
    let point = IsPartitionPoint-from_clause (ends_before key) _ _ c.partition_point.ensures.partitioned parted (λ a r q k. search rules) in
    subst (λ (ps : List Changes). IsIndex key c.partition_point.result ps) c.deref.ensures.value (is_index key c.partition_point.result c.deref.result.now c.partition_point.ensures.bound point)
