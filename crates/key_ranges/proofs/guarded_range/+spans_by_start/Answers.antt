use Rattle.std.proofs.Common.{subst, sym}
use Rattle.key_ranges.specs.InOrder.{StartsNeverFall}
use Rattle.key_ranges.specs.TableRanges.{spans_of_boxes}
use Rattle.key_ranges.proofs.InOrders.{never_falls}
use Rattle.key_ranges.proofs.guarded_range.+spans_by_start.Goals as goal

pub put_by_start-requires : goal.put_by_start-requires
put_by_start-requires t c = subst StartsNeverFall (sym c.in_ok-spans-in-Some.ensures) (never_falls (spans_of_boxes c.args.id c.args.columns.now c.in-Some.others.now))
