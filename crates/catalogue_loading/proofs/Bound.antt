-- Conditions that are bound are conditions of their table.
use Rattle.std.proofs.Common.{◌≡◌, ◌↔◌, IsTrue, Bool, false, List, Option, Some, None, sym, ap, ◌∙◌, subst}
use Rattle.std.specs.Prelude.{IfSome, Result}
use Rattle.sql_types.specs.declared.state.SqlState.{SqlState}
use Rattle.sql_types.specs.declared.state.SqlState.TheVariants.{DatatypeMismatch}
use Rattle.sql_ast.specs.declared.policy.Policy.{Policy}
use Rattle.sql_ast.specs.declared.policy.PolicyClause.{PolicyClause}
use Rattle.sql_ast.specs.declared.columns.ColumnType.TheVariants.{Boolean}
use Rattle.sql_ast.specs.Scope.{Table}
use Rattle.expressions.specs.Stages.{◌>>=◌, require}
use Rattle.expressions.specs.Types.{TypedTerm, fits}
use Rattle.abstract_database.specs.Database.{TableOf}
use Rattle.sql_types.specs.Name.{IsUtf8Name}
use Rattle.sql_ast.specs.declared.role.Role.{Role}
use Rattle.sql_ast.specs.Layout.{IsLayout}
use Rattle.abstract_database.specs.Lists.{Among}
use Rattle.abstract_database.specs.Whole.{Each, IsRoleOf}
use Rattle.stored_database.specs.Definitions.{TableDefinition}
use Rattle.stored_database.proofs.Lists.{into_map, of_map}
use Rattle.catalogue_loading.specs.ValidityParts.{IsPolicy, HasWholePrivileges, IsWholeDefinition}
use Rattle.catalogue.specs.declared.policy.CataloguePolicy.{CataloguePolicy}
use Rattle.catalogue.specs.Policies.{IsBoundClause, IsCondition, AreBound, HasConditions, policies_in}
use Rattle.catalogue.specs.Tables.{HasOrderedParts, HasBoundPolicies, table_scope}

module _ (scope : List Table) where
  condition : (c : PolicyClause) (e : TypedTerm) → IsBoundClause scope c e → IsCondition scope c
  condition c e b =
      ap (λ (r : Result TypedTerm SqlState). r >>= λ typed. require (fits Boolean typed.value_type) DatatypeMismatch) b.typed
      ∙ ap (λ t. require t DatatypeMismatch) b.boolean

  condition_if_any : (c : Option PolicyClause) (e : Option TypedTerm) → AreBound scope c e → IfSome c (IsCondition scope)
  condition_if_any None e b = tt
  condition_if_any (Some c) None b = absurd b
  condition_if_any (Some c) (Some e) b = condition c e b

pub conditions_of : (t : TableOf) (policies : List CataloguePolicy) → HasBoundPolicies t policies → Each (HasConditions (table_scope t)) (policies_in policies)
conditions_of t policies bound p among =
    let found = of_map (λ (x : CataloguePolicy). x.policy) policies p among in
    let is = bound found.0 found.1 in
    subst (HasConditions (table_scope t)) found.2 (record {
      using = condition_if_any (table_scope t) found.0.policy.using found.0.using is.using;
      check = condition_if_any (table_scope t) found.0.policy.check found.0.check is.check;
    })

-- policies as they are written
each_written : (P : Policy → Type 0) (xs : List CataloguePolicy) (ps : List Policy) → policies_in xs ≡ ps → Each (λ (x : CataloguePolicy). P x.policy) xs → Each P ps
each_written P xs ps e h p among =
    let found = of_map (λ (x : CataloguePolicy). x.policy) xs p (subst (λ (qs : List Policy). Among p qs) (sym e) among) in
    subst P found.2 (h found.0 found.1)

written_each : (P : Policy → Type 0) (xs : List CataloguePolicy) (ps : List Policy) → policies_in xs ≡ ps → Each P ps → Each (λ (x : CataloguePolicy). P x.policy) xs
written_each P xs ps e h x among = h x.policy (subst (λ (qs : List Policy). Among x.policy qs) e (into_map (λ (y : CataloguePolicy). y.policy) xs x among))

module _ (all : List Role) (t : TableDefinition) (xs : List CataloguePolicy) (are : policies_in xs ≡ t.policies) where
  pub not_whole : (Each (λ (x : CataloguePolicy). IsPolicy all x.policy) xs → ⊥) → IsTrue false ↔ IsWholeDefinition all t
  not_whole never = (λ e. cc, λ h. absurd (never (written_each (IsPolicy all) xs t.policies are h.policies)))

  pub whole_definition : IsUtf8Name t.definition.name → IsRoleOf all t.definition.owner → IsLayout t.definition.layout → HasOrderedParts t → HasBoundPolicies t.definition xs
      → Each (λ (x : CataloguePolicy). IsPolicy all x.policy) xs → (b : Bool) → IsTrue b ↔ HasWholePrivileges all t → IsTrue b ↔ IsWholeDefinition all t
  whole_definition name owner layout order bound policies b iff = (
    λ e. record {
      name = name;
      owner = owner;
      layout = layout;
      order = order;
      privileges = iff.0 e;
      policies = each_written (IsPolicy all) xs t.policies are policies;
      conditions = subst (Each (HasConditions (table_scope t.definition))) are (conditions_of t.definition xs bound);
    },
    λ h. iff.1 h.privileges,
  )
