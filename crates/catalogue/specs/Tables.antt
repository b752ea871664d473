-- The table that its parts define, and the order of these.
use Rattle.std.specs.Prelude.{List}
use Rattle.sql_ast.specs.Scope.{Table}
use Rattle.abstract_database.specs.Lists.{Rising}
use Rattle.abstract_database.specs.Database.{TableOf, descriptor_cmp, policy_cmp}
use Rattle.abstract_database.specs.Whole.{Each}
use Rattle.stored_database.specs.Definitions.{TableDefinition}
use Rattle.stored_database.specs.Valid.{HasOwnDescriptors, HasOwnPolicies}
use Rattle.catalogue.specs.declared.policy.CataloguePolicy.{CataloguePolicy}
use Rattle.catalogue.specs.declared.table.TableParts.{TableParts}
use Rattle.catalogue.specs.Policies.{scope_of, IsBoundPolicy, policies_in}

-- what the parts say of the table apart from its rows
abbrev pub table_of : TableParts → TableOf
table_of t = record { name = t.name; owner = t.owner; layout = t.columns; row_security = t.row_security; forced = t.forced }

-- the table that the parts define
abbrev pub definition_of : TableParts → TableDefinition
definition_of t = record { id = t.id; definition = table_of t; descriptors = t.descriptors; policies = policies_in t.policies }

-- the privilege descriptors and the policies are those of this table, each list in its order
pub record HasOrderedParts (t : TableDefinition) : Type 0 where
  pub descriptors : HasOwnDescriptors t
  pub descriptor_order : Rising descriptor_cmp t.descriptors
  pub policies : HasOwnPolicies t
  pub policy_order : Rising policy_cmp t.policies

-- the table as its policies see it
abbrev pub table_scope : TableOf → List Table
table_scope t = scope_of t.name t.layout

-- each policy is bound to the columns of the table
abbrev pub HasBoundPolicies : TableOf → List CataloguePolicy → Type 0
HasBoundPolicies t policies = Each (IsBoundPolicy (table_scope t)) policies

-- these are parts of one table
pub record AreParts (t : TableParts) : Type 0 where
  pub order : HasOrderedParts (definition_of t)
  pub bound : HasBoundPolicies (table_of t) t.policies
