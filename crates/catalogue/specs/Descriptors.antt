-- Changes of the privilege descriptors of a table.
use Rattle.std.specs.Prelude.{◌≡◌, List, [], ◌∷◌}
use Rattle.std.specs.declared.cmp.Ordering.{Ordering}
use Rattle.sql_ast.specs.declared.privilege.Descriptor.{Descriptor}
use Rattle.abstract_database.specs.Lists.{TheName, put, the_new, drop_where}
use Rattle.abstract_database.specs.Database.{descriptor_cmp}
use Rattle.abstract_database.specs.Privileges.{is_named_in}
use Rattle.stored_database.specs.Definitions.{TableDefinition}

-- the descriptors that go from the table of a name, and those that come for it after that
pub record DescriptorsChanged : Type 0 where
  pub table : TheName
  pub removed : List Descriptor
  pub added : List Descriptor

-- the descriptor is for the table of this name
abbrev pub IsForTable : TheName → Descriptor → Type 0
IsForTable name d = d.table ≡ name

-- each of some items put among others, one after another
abbrev pub put_each : {X : Type 0} → (X → X → Ordering) → (X → X → X) → List X → List X → List X
put_each cmp joined [] xs = xs
put_each cmp joined (z ∷ zs) xs = put_each cmp joined zs (put cmp joined z xs)

-- descriptors without those that go and with those that come, each in place of the one of its key
abbrev pub descriptors_after : DescriptorsChanged → List Descriptor → List Descriptor
descriptors_after c ds = put_each descriptor_cmp the_new c.added (drop_where (is_named_in c.removed) ds)

-- the table after the change
abbrev pub table_after : DescriptorsChanged → TableDefinition → TableDefinition
table_after c t = record t { descriptors = descriptors_after c t.descriptors }
