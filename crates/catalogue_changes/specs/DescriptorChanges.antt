-- Changes of the privilege descriptors of a table, as what GRANT and REVOKE make of it.
use Rattle.std.specs.Prelude.{◌≡◌, true, false, not, List}
use Rattle.sql_ast.specs.declared.privilege.Descriptor.{Descriptor}
use Rattle.abstract_database.specs.Lists.{TheName, Among, Rising}
use Rattle.abstract_database.specs.Database.{descriptor_cmp}
use Rattle.abstract_database.specs.Privileges.{same_key, is_named_in}
use Rattle.abstract_database.specs.Whole.{Each}
use Rattle.stored_database.specs.Definitions.{TableDefinition}
use Rattle.catalogue.specs.Descriptors.{DescriptorsChanged, IsForTable}

-- what goes is there; what comes is for the table of this name, has another grant option than what is there of its key, and is of
-- no key of what goes; both are in order
pub record Fits (name : TheName) (removed added ds : List Descriptor) : Type 0 where
  pub gone_rise : Rising descriptor_cmp removed
  pub come_rise : Rising descriptor_cmp added
  pub own : Each (IsForTable name) added
  pub there : Each (λ (d : Descriptor). Among d ds) removed
  pub new : (d : Descriptor) → Among d added → (e : Descriptor) → Among e ds → same_key e d ≡ true → e.grantable ≡ not d.grantable
  pub apart : Each (λ (d : Descriptor). is_named_in removed d ≡ false) added

-- the change is one of this table
pub record IsChangeOf (t : TableDefinition) (c : DescriptorsChanged) : Type 0 where
  pub table : c.table ≡ t.definition.name
  pub fits : Fits t.definition.name c.removed c.added t.descriptors
