use Rattle.std.proofs.Common.{rules, ◌∙◌, sym, subst}
use Rattle.std.proofs.lemmas.List.Sorted.{IsPartitionPoint-from_clause}
use Rattle.store.specs.Records.{Changes, IsOrdered}
use Rattle.store.specs.Place.{IsPlace}
use Rattle.store.proofs.Places.{is_less, parted, is_place}
use Rattle.store.proofs.piece.Piece.place.Goals as goal

-- the key divides the changes, which the search finds
pub returns-clause-place : goal.returns-clause-place
returns-clause-place c =
    let same = c.deref.ensures.value ∙ c.self.view_is in
    let rising = subst (λ (cs : Changes). IsOrdered cs) (sym same) c.requires in
    let point = IsPartitionPoint-from_clause (is_less c.args.key.now) _ _ c.partition_point.ensures.partitioned (parted c.args.key.now _ rising) (λ a r q k. search rules) in
    subst (IsPlace c.args.key.now c.partition_point.result) same (is_place c.args.key.now c.partition_point.result c.deref.result.now c.partition_point.ensures.bound point)
