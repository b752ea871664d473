-- What valid definitions say of each item.
use Rattle.std.proofs.Common.{◌<◌, ◌≤◌, ℕ, Bool, List, [], ◌++◌, length, Option, Some, None, refl, subst, inl, arith}
use Rattle.std.specs.Prelude.{IfSome, option_to_list}
use Rattle.sql_types.specs.Name.{IsUtf8Name}
use Rattle.sql_ast.specs.declared.role.Role.{Role}
use Rattle.sql_ast.specs.declared.privilege.Grantor.{Grantor}
use Rattle.sql_ast.specs.declared.privilege.Grantor.TheVariants as grantor
use Rattle.sql_ast.specs.declared.privilege.Grantee.{Grantee}
use Rattle.sql_ast.specs.declared.privilege.Grantee.TheVariants as grantee
use Rattle.sql_ast.specs.declared.privilege.Descriptor.{Descriptor}
use Rattle.sql_ast.specs.declared.policy.Policy.{Policy}
use Rattle.sql_ast.specs.declared.policy.PolicyClause.{PolicyClause}
use Rattle.sql_ast.specs.declared.policy.PolicyRoles.{PolicyRoles}
use Rattle.sql_ast.specs.declared.policy.PolicyRoles.TheVariants as roles
use Rattle.sql_ast.specs.Read.{IsReadGrantee}
use Rattle.abstract_database.specs.Lists.{TheName, Among}
use Rattle.abstract_database.specs.Database.{is_role_named}
use Rattle.abstract_database.specs.Whole.{Each, IsRoleOf, IsWholeRole, IsWholeTable, IsWholeDescriptor, IsWholePolicy, IsGrantorOf, IsGranteeOf, ConcernsRoles}
use Rattle.abstract_database.proofs.ElementLemmas.{any_found}
use Rattle.abstract_database.proofs.ListLemmas.{bytes_same}
use Rattle.stored_database.specs.Definitions.{TableDefinition, Definitions, table_with, descriptors_of, policies_of}
use Rattle.expr_parser.specs.Written.{IsAsWritten}
use Rattle.stored_database.specs.Items.{IsStoredMembership, IsStoredTable, IsStoredGrantor, IsStoredDescriptor, AreStoredRoles, IsStoredPolicy}
use Rattle.stored_database.specs.Valid.{AreValid}
use Rattle.stored_database.proofs.Lists.{into_map, into_left, into_right, into_flat_map}

-- the name of a role is a name
role_named : (all : List Role) (name : TheName) → Each IsWholeRole all → IsRoleOf all name → IsUtf8Name name
role_named all name whole h =
    let found = any_found (is_role_named name) all h in
    subst IsUtf8Name (bytes_same found.0.name name found.2) (whole found.0 found.1)

stored_grantor : (all : List Role) (g : Grantor) → Each IsWholeRole all → IsGrantorOf all g → IsStoredGrantor g
stored_grantor all grantor.System whole h = tt
stored_grantor all (grantor.Role name) whole h = role_named all name whole h

stored_grantee : (all : List Role) (b : Bool) (g : Grantee) → Each IsWholeRole all → IsGranteeOf all b g → IsReadGrantee g
stored_grantee all b grantee.Public whole h = tt
stored_grantee all b (grantee.Role name) whole h = role_named all name whole h

stored_roles : (all : List Role) (p : PolicyRoles) → Each IsWholeRole all → ConcernsRoles all p → AreStoredRoles p
stored_roles all roles.Public whole h = tt
stored_roles all (roles.Only names) whole h = (h.some, λ name among. role_named all name whole (h.known name among))

stored_condition : (c : Option PolicyClause) → ((x : PolicyClause) → Among x (option_to_list c) → IsAsWritten x) → IfSome c IsAsWritten
stored_condition None h = tt
stored_condition (Some x) h = h x (inl refl)

-- a column of a table is one of at most 16
below_sixteen : (c : Option ℕ) (n : ℕ) → n ≤ 16 → IfSome c (λ index. index < n) → IfSome c (λ index. index < 16)
below_sixteen None n few h = tt
below_sixteen (Some index) n few h = omega (arith, few, h)

module _ (d : Definitions) (valid : AreValid d) where
  pub whole_roles : Each IsWholeRole d.roles
  whole_roles = valid.whole.roles.roles

  pub stored_memberships : Each IsStoredMembership d.memberships
  stored_memberships m among =
      let whole = valid.whole.roles.memberships m among in
      record { role = role_named d.roles m.role whole_roles whole.role; member = role_named d.roles m.member whole_roles whole.member }

  module _ (t : TableDefinition) (among : Among t d.tables) where
    pub whole_table : IsWholeTable d.roles t.definition
    whole_table = valid.whole.tables.tables (table_with t []) (into_map (λ (u : TableDefinition). table_with u []) d.tables t among)

    descriptor_there : (e : Descriptor) → Among e t.descriptors → Among e (descriptors_of d.tables)
    descriptor_there e of = into_flat_map (λ (u : TableDefinition). u.descriptors) d.tables t e among of

    pub whole_descriptor : (e : Descriptor) → Among e t.descriptors → IsWholeDescriptor d.roles (descriptors_of d.tables) e
    whole_descriptor e of = valid.whole.descriptors.descriptors e (descriptor_there e of)

    pub stored_column : (e : Descriptor) → Among e t.descriptors → IfSome e.column (λ index. index < 16)
    stored_column e of =
        let u = valid.whole.descriptors.for_tables e (descriptor_there e of) in
        below_sixteen e.column (length u.0.definition.layout.columns) (valid.whole.tables.tables u.0 u.1).layout.few_columns u.2.column

    policy_there : (p : Policy) → Among p t.policies → Among p (policies_of d.tables)
    policy_there p of = into_flat_map (λ (u : TableDefinition). u.policies) d.tables t p among of

    pub whole_policy : (p : Policy) → Among p t.policies → IsWholePolicy d.roles p
    whole_policy p of = valid.whole.policies.policies p (policy_there p of)

    pub stored_table : IsStoredTable t
    stored_table = record { id = (valid.tables t among).most; owner = role_named d.roles t.definition.owner whole_roles whole_table.owner; columns = whole_table.columns }

    pub stored_descriptors : Each (IsStoredDescriptor t.definition.name) t.descriptors
    stored_descriptors e of = record {
      table = (valid.tables t among).descriptors e of;
      column = stored_column e of;
      grantor = stored_grantor d.roles e.grantor whole_roles (whole_descriptor e of).grantor;
      grantee = stored_grantee d.roles e.grantable e.grantee whole_roles (whole_descriptor e of).grantee;
    }

    condition_there : (p : Policy) → Among p t.policies → (c : PolicyClause) → Among c (option_to_list p.using ++ option_to_list p.check) → IsAsWritten c
    condition_there p of c there =
        valid.conditions c (into_flat_map (λ (q : Policy). option_to_list q.using ++ option_to_list q.check) (policies_of d.tables) p c (policy_there p of) there)

    pub stored_policies : Each (IsStoredPolicy t.definition.name) t.policies
    stored_policies p of = record {
      table = (valid.tables t among).policies p of;
      roles = stored_roles d.roles p.roles whole_roles (whole_policy p of).roles;
      using = stored_condition p.using (λ c there. condition_there p of c (into_left (option_to_list p.using) (option_to_list p.check) c there));
      check = stored_condition p.check (λ c there. condition_there p of c (into_right (option_to_list p.using) (option_to_list p.check) c there));
      size = (whole_policy p of).size;
    }
