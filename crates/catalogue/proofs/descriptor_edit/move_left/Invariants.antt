use Rattle.std.proofs.Common.{◌≡◌, ◌≤◌, ◌+◌, ◌++◌, length, vec_len, vec_capacity}
use Rattle.std.specs.Vec.Iter.{into_iter_items}
use Rattle.catalogue.specs.Grants.{left_of}
use Rattle.catalogue.proofs.descriptor_edit.move_left.Given as goal

abbrev pub invariant-loop-entry : goal.invariant-loop-entry
invariant-loop-entry l = record {
  list : l.out.items ++ left_of l.removed l.left (into_iter_items l.entry-iterator) ≡ l.initial.out.items ++ left_of l.removed l.left l.fn.entries.items;
  count : vec_len l.out + length (into_iter_items l.entry-iterator) ≤ vec_len l.initial.out + vec_len l.fn.entries;
  capacity : vec_capacity l.initial.out ≤ vec_capacity l.out;
}
