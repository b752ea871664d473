-- The index and the parts of a table after a change of its privilege descriptors.
use Rattle.std.proofs.Common.{◌≡◌, not, List, map, ◌∙◌}
use Rattle.sql_ast.specs.declared.privilege.Descriptor.{Descriptor}
use Rattle.stored_database.proofs.Numbering.{rising_filter}
use Rattle.abstract_database.specs.Lists.{Rising, the_new, drop_where}
use Rattle.abstract_database.specs.Database.{descriptor_cmp}
use Rattle.abstract_database.specs.Privileges.{is_named_in}
use Rattle.abstract_database.specs.Whole.{Each}
use Rattle.abstract_database.proofs.DescriptorOrder.{descriptors_ordered}
use Rattle.abstract_database.proofs.ElementLemmas.{of_filter}
use Rattle.catalogue.specs.declared.grants.Granted.{Granted}
use Rattle.catalogue.specs.declared.table.TableParts.{TableParts}
use Rattle.catalogue.specs.Descriptors.{DescriptorsChanged, IsForTable, put_each, descriptors_after}
use Rattle.catalogue.specs.Grants.{AreNamed, IsIndexOf, granted_cmp, entry_of, joined, left_of}
use Rattle.catalogue.specs.Tables.{AreParts}
use Rattle.catalogue.proofs.Placing.{of_each_put, each_put_rises}
use Rattle.catalogue.proofs.DescriptorEdits.{index_with, index_left, left_rises}

-- the descriptors without what went
abbrev pub kept_of : DescriptorsChanged → List Descriptor → List Descriptor
kept_of c ds = drop_where (is_named_in c.removed) ds

module _ (c : DescriptorsChanged) (ds : List Descriptor) where
  pub still_rise : Rising descriptor_cmp ds → Rising descriptor_cmp (kept_of c ds)
  still_rise r = rising_filter descriptor_cmp (λ d. not (is_named_in c.removed d)) ds r

  pub rise_after : Rising descriptor_cmp ds → Rising descriptor_cmp (descriptors_after c ds)
  rise_after r =
      each_put_rises descriptor_cmp descriptors_ordered the_new (λ x y e z. descriptors_ordered.congr x y z e)
      c.added (kept_of c ds) (still_rise r)

  pub each_after : (P : Descriptor → Type 0) → Each P c.added → Each P ds → Each P (descriptors_after c ds)
  each_after P added held =
      of_each_put P c.added (kept_of c ds) added
      (λ d among. held d (of_filter (λ x. not (is_named_in c.removed x)) ds d among).0)

-- the entries of an index without what went
abbrev pub entries_left : DescriptorsChanged → List Descriptor → List Granted → List Granted
entries_left c ds xs = left_of c.removed (kept_of c ds) xs

-- and with what came
abbrev pub entries_after : DescriptorsChanged → List Descriptor → List Granted → List Granted
entries_after c ds xs = put_each granted_cmp joined (map entry_of c.added) (entries_left c ds xs)

module _ (c : DescriptorsChanged) (ds : List Descriptor) (xs : List Granted) where
  pub entries_still_rise : Rising granted_cmp xs → Rising granted_cmp (entries_left c ds xs)
  entries_still_rise r = left_rises c.removed (kept_of c ds) xs r

  pub index_after : IsIndexOf ds xs → AreNamed c.added → IsIndexOf (descriptors_after c ds) (entries_after c ds xs)
  index_after index named =
      index_with (kept_of c ds) c.added (entries_left c ds xs) (index_left ds c.removed xs index) named

-- they are parts of one table as before
pub parts_after : (c : DescriptorsChanged) (t : TableParts) → c.table ≡ t.name → Each (IsForTable c.table) c.added → AreParts t → AreParts (record t { descriptors = descriptors_after c t.descriptors })
parts_after c t is own parts = record {
  order = record {
    descriptors = each_after c t.descriptors (λ (d : Descriptor). d.table ≡ t.name) (λ d among. own d among ∙ is) parts.order.descriptors;
    descriptor_order = rise_after c t.descriptors parts.order.descriptor_order;
    policies = parts.order.policies;
    policy_order = parts.order.policy_order;
  };
  bound = parts.bound;
}
