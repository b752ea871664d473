use Rattle.std.proofs.Common.{◌≡◌, true}
use Rattle.std.specs.List.{list_all, range_with_len}
use Rattle.catalogue.specs.Grants.{has_bit}
use Rattle.planner.specs.Rights.{covers}
use Rattle.planner.proofs.masks.covers_first.Given as goal

abbrev pub invariant-loop-column : goal.invariant-loop-column
invariant-loop-column l = list_all (covers (has_bit l.mask)) (range_with_len 0 l.column) ≡ true
