use Rattle.std.proofs.Common.{rules, ◌∙◌, sym, subst}
use Rattle.std.proofs.lemmas.List.Sorted.{IsPartitionPoint-from_clause}
use Rattle.store.specs.Records.{Changes, IsOrdered}
use Rattle.store.specs.Place.{IsStopPlace}
use Rattle.store.proofs.Stops.{is_in, stop_parted, is_stop_place}
use Rattle.store.proofs.piece.Piece.stop_place.Goals as goal

-- the stop divides the changes, which the search finds
pub returns-clause-place : goal.returns-clause-place
returns-clause-place c =
    let same = c.deref.ensures.value ∙ c.self.view_is in
    let rising = subst (λ (cs : Changes). IsOrdered cs) (sym same) c.requires in
    let point = IsPartitionPoint-from_clause (is_in c.args.stop.now) _ _ c.partition_point.ensures.partitioned (stop_parted c.args.stop.now _ rising) (λ a r q k. search rules) in
    subst (IsStopPlace c.args.stop.now c.partition_point.result) same (is_stop_place c.args.stop.now c.partition_point.result c.deref.result.now c.partition_point.ensures.bound point)
