use Rattle.std.proofs.Common.{◌≡◌, ◌≤◌, ◌+◌, length, vec_len, vec_capacity}
use Rattle.std.specs.Vec.Iter.{into_iter_items}
use Rattle.abstract_database.specs.Lists.{Rising, the_new}
use Rattle.abstract_database.specs.Database.{descriptor_cmp}
use Rattle.catalogue.specs.Descriptors.{put_each}
use Rattle.catalogue.proofs.descriptor_edit.put_each.Given as goal

abbrev pub invariant-loop-descriptor : goal.invariant-loop-descriptor
invariant-loop-descriptor l = record {
  list : put_each descriptor_cmp the_new (into_iter_items l.descriptor-iterator) l.descriptors.items ≡ put_each descriptor_cmp the_new l.fn.added.items l.initial.descriptors.items;
  order : Rising descriptor_cmp l.descriptors.items;
  reservation : vec_len l.descriptors + length (into_iter_items l.descriptor-iterator) ≤ vec_capacity l.descriptors;
}
