-- The definitions that records hold, kind by kind.
use Rattle.std.specs.Prelude.{◌≡◌, ℕ, List, [], map, Option, Some, None}
use Rattle.sql_ast.specs.declared.policy.Policy.{Policy}
use Rattle.sql_ast.specs.Layout.{Layout}
use Rattle.sql_ast.specs.Scope.{Table}
use Rattle.store.specs.Records.{Records, entries_where}
use Rattle.abstract_database.specs.Lists.{TheName}
use Rattle.abstract_database.specs.Whole.{Each, IsWholeRole}
use Rattle.stored_database.specs.Definitions.{TableDefinition, Definitions}
use Rattle.stored_database.specs.RecordFormat.{role_prefix, role_record, membership_prefix, membership_record, table_prefix, table_record, descriptor_prefix, descriptor_record, policy_prefix, policy_record}
use Rattle.stored_database.specs.Items.{IsStoredMembership, IsStoredDescriptor}
use Rattle.stored_database.specs.Records.{is_orphan}
use Rattle.catalogue.specs.declared.policy.CataloguePolicy.{CataloguePolicy}
use Rattle.catalogue.specs.Policies.{scope_of, HasConditions, IsBoundPolicy, policies_in}
use Rattle.catalogue_loading.specs.Clauses.{IsPolicyAlone}
use Rattle.catalogue_loading.specs.RecordParts.{IsTableAlone}
use Rattle.catalogue_loading.specs.Walks.{AreHeld}

-- ---- tables

-- the policies of the table of this number, name and columns: each condition is one over these columns
pub record AreHeldPolicies (records : Records) (id : ℕ) (name : TheName) (layout : Layout) (policies : List Policy) : Type 0 where
  pub held : AreHeld (IsPolicyAlone name) (policy_record id) records (policy_prefix id) policies
  pub conditions : Each (HasConditions (scope_of name layout)) policies

-- the privilege descriptors for a table, and its policies
pub record HasHeldParts (records : Records) (t : TableDefinition) : Type 0 where
  pub descriptors : AreHeld (IsStoredDescriptor t.definition.name) (descriptor_record t.id) records (descriptor_prefix t.id) t.descriptors
  pub policies : AreHeldPolicies records t.id t.definition.name t.definition.layout t.policies

-- what the own record of a table says: its privilege descriptors and its policies have others
abbrev pub alone : TableDefinition → TableDefinition
alone t = record { id = t.id; definition = t.definition; descriptors = []; policies = [] }

-- the table whose own record says this, with what the records hold for it
pub record IsHeldTable (records : Records) (said t : TableDefinition) : Type 0 where
  pub same : alone t ≡ said
  pub parts : HasHeldParts records t

-- such tables
pub record AreHeldOf (records : Records) (said ts : List TableDefinition) : Type 0 where
  pub same : map alone ts ≡ said
  pub parts : Each (HasHeldParts records) ts

-- all tables
pub record AreHeldTables (records : Records) (ts : List TableDefinition) : Type 0 where
  pub tables : AreHeld IsTableAlone table_record records table_prefix (map alone ts)
  pub parts : Each (HasHeldParts records) ts

-- ---- all of them

pub record AreHeldDefinitions (records : Records) (d : Definitions) : Type 0 where
  pub roles : AreHeld IsWholeRole role_record records role_prefix d.roles
  pub memberships : AreHeld IsStoredMembership membership_record records membership_prefix d.memberships
  pub tables : AreHeldTables records d.tables

-- no record is an orphan where these are the numbers of the tables
abbrev pub HasNoOrphan : List ℕ → Records → Type 0
HasNoOrphan ids records = entries_where (is_orphan ids) records ≡ []

-- ---- binding

-- these are the policies, each bound to the columns of its table
pub record AreBoundPolicies (scope : List Table) (policies : List Policy) (bound : List CataloguePolicy) : Type 0 where
  pub same : policies_in bound ≡ policies
  pub conditions : Each (HasConditions scope) policies
  pub each_bound : Each (IsBoundPolicy scope) bound

-- policies are bound, unless a clause of one of them is no condition
abbrev pub BindsPolicies : List Table → List Policy → Option (List CataloguePolicy) → Type 0
BindsPolicies scope policies None = Each (HasConditions scope) policies → ⊥
BindsPolicies scope policies (Some bound) = AreBoundPolicies scope policies bound
