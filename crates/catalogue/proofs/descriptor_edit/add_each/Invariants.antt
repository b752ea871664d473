use Rattle.std.proofs.Common.{◌≡◌, ◌≤◌, ◌+◌, length, vec_len, vec_capacity}
use Rattle.std.specs.Vec.Iter.{into_iter_items}
use Rattle.abstract_database.specs.Lists.{Rising}
use Rattle.catalogue.specs.Descriptors.{put_each}
use Rattle.catalogue.specs.Grants.{granted_cmp, joined}
use Rattle.catalogue.proofs.descriptor_edit.add_each.Given as goal

abbrev pub invariant-loop-entry : goal.invariant-loop-entry
invariant-loop-entry l = record {
  list : put_each granted_cmp joined (into_iter_items l.entry-iterator) l.granted.items ≡ put_each granted_cmp joined l.fn.entries.items l.initial.granted.items;
  order : Rising granted_cmp l.granted.items;
  reservation : vec_len l.granted + length (into_iter_items l.entry-iterator) ≤ vec_capacity l.granted;
}
