-- What is proved of the statements that define roles and memberships.
use Rattle.std.proofs.Common.{◌≡◌, Bool, not, ◌||◌, [], ◌∷◌, ◌++◌, bytes_eq, refl, ap, inl}
use Rattle.std.specs.List.{list_all}
use Rattle.sql_types.specs.declared.state.SqlState.TheVariants.{InsufficientPrivilege, DependentObjects, DuplicateObject}
use Rattle.sql_types.specs.declared.tag.Tag.TheVariants as tag
use Rattle.sql_ast.specs.declared.statement.CreateRole.{CreateRole}
use Rattle.sql_ast.specs.declared.statement.DropRole.{DropRole}
use Rattle.sql_ast.specs.declared.statement.GrantRole.{GrantRole}
use Rattle.sql_ast.specs.declared.statement.RevokeRole.{RevokeRole}
use Rattle.expressions.specs.Meaning.{UserNames}
use Rattle.abstract_database.specs.Lists.{TheName, the_new, Rising}
use Rattle.abstract_database.specs.Database.{Database, is_role_named, has_role, role_cmp, membership_cmp, without_rows}
use Rattle.abstract_database.specs.Roles.{memberships_of, without_memberships, may_grant_role}
use Rattle.abstract_database.specs.Definitions.{with_role, without_role, is_in_use}
use Rattle.abstract_database.specs.Statements.{done}
use Rattle.abstract_database.proofs.ResultLemmas.{Every, every_bind}
use Rattle.abstract_database.specs.Checks.{require_roles, require_superuser, checked_create_role, checked_drop_role, checked_grant_role, checked_revoke_role}
use Rattle.expressions.specs.Stages.{require}
use Rattle.sql_ast.specs.declared.statement.DefiningStatement.TheVariants as defining
use Rattle.database_laws.proofs.Defining.{IsDefinition, definition}
use Rattle.database_laws.proofs.EffectLemmas.{done_answers}
use Rattle.abstract_database.proofs.RisingPuts.{put_rises}
use Rattle.database_laws.proofs.RisingLemmas.{roles_total, the_new_alike, dropped_rise, granted_rise, revoked_rise}
use Rattle.database_laws.proofs.TableLemmas.{same_tables}
use Rattle.database_laws.proofs.RightLemmas.{then, at_once, superuser_checked, grants_checked}
use Rattle.database_laws.proofs.NotRefusedLemmas.{spares_bind, spares_other, spares_superuser, spares_roles, spares_grants, spares_memberships, duplicate, in_use}
use Rattle.database_laws.proofs.StageLemmas.{then_same, owner_bare}
use Rattle.database_laws.proofs.WholeRoles.{grant_role_whole, revoke_role_whole, create_role_whole, drop_role_whole}

-- ---- the order of memberships

-- the memberships after GRANT
granted_in_order : (db : Database) (users : UserNames) (s : GrantRole) → Rising membership_cmp db.memberships → Every (Rising membership_cmp) (checked_grant_role db users s)
granted_in_order db users s r =
    every_bind (Rising membership_cmp) (require_roles db (s.roles ++ s.members)) _ (λ named named-is.
    every_bind (Rising membership_cmp) (require (list_all (may_grant_role db users.current) s.roles) InsufficientPrivilege) _ (λ allowed allowed-is.
    granted_rise (memberships_of s.roles s.members s.with_admin_option) db.memberships r))

-- ---- the checks of DROP ROLE read no rows

first_or : (a b c d : Bool) → a ≡ b → (a || c || d) ≡ (b || c || d)
first_or a b c d e = ap (λ (x : Bool). x || c || d) e

module _ (db : Database) (users : UserNames) where
  in_use_bare : (role : TheName) → is_in_use (without_rows db) role ≡ is_in_use db role
  in_use_bare role = first_or _ _ _ _ (owner_bare role db.tables)

  drop_role_checks : (s : DropRole) → checked_drop_role (without_rows db) users s ≡ checked_drop_role db users s
  drop_role_checks s =
      then_same (require_roles db (s.role ∷ [])) (require_roles db (s.role ∷ [])) _ _ refl (λ named.
      then_same (require_superuser db users) (require_superuser db users) _ _ refl (λ allowed.
      ap (λ (b : Bool). require (not (b || bytes_eq users.current s.role || bytes_eq users.session s.role)) DependentObjects) (in_use_bare s.role)))

  -- ---- what is proved of these statements

  pub create_role_definition : (s : CreateRole) → IsDefinition db users (defining.CreateRole s)
  create_role_definition s = definition db users (defining.CreateRole s)
      (λ d. checked_create_role d users s) (λ d free. done tag.CreateRole (with_role s d)) (record {
        is = λ d. refl;
        lawful = λ free free-is. record {
          answers = done_answers tag.CreateRole (with_role s db);
          ordered = λ o. record {
            roles = put_rises role_cmp roles_total the_new (the_new_alike role_cmp roles_total) _ db.roles o.roles;
            memberships = o.memberships;
            tables = o.tables;
            descriptors = o.descriptors;
            policies = o.policies;
          };
          tables = same_tables db;
          known = λ c h. inl h;
        };
        whole = λ read w are. create_role_whole db users s read w;
        may = then _ (require (not (has_role db s.role)) DuplicateObject) _ (λ named named-is. superuser_checked db users);
        spared = λ may.
            spares_bind (require (not (has_role db s.role)) DuplicateObject) _ (spares_other _ DuplicateObject duplicate) (λ named named-is.
            spares_superuser db users may);
        same_checks = refl;
        same_effect = λ free. refl;
      })

  pub drop_role_definition : (s : DropRole) → IsDefinition db users (defining.DropRole s)
  drop_role_definition s = definition db users (defining.DropRole s)
      (λ d. checked_drop_role d users s) (λ d free. done tag.DropRole (without_role s.role d)) (record {
        is = λ d. refl;
        lawful = λ free free-is. record {
          answers = done_answers tag.DropRole (without_role s.role db);
          ordered = λ o. record {
            roles = dropped_rise role_cmp (is_role_named s.role) db.roles o.roles;
            memberships = dropped_rise membership_cmp (λ m. bytes_eq m.role s.role || bytes_eq m.member s.role) db.memberships o.memberships;
            tables = o.tables;
            descriptors = o.descriptors;
            policies = o.policies;
          };
          tables = same_tables db;
          known = λ c h. inl h;
        };
        whole = λ read w are. drop_role_whole db users s w;
        may =
            then _ (require_roles db (s.role ∷ [])) _ (λ named named-is.
            at_once _ (require_superuser db users) _ (superuser_checked db users));
        spared = λ may.
            spares_bind (require_roles db (s.role ∷ [])) _ (spares_roles db users (s.role ∷ [])) (λ named named-is.
            spares_bind (require_superuser db users) _ (spares_superuser db users may) (λ allowed allowed-is.
            spares_other _ DependentObjects in_use));
        same_checks = drop_role_checks s;
        same_effect = λ free. refl;
      })

  pub grant_role_definition : (s : GrantRole) → IsDefinition db users (defining.GrantRole s)
  grant_role_definition s = definition db users (defining.GrantRole s)
      (λ d. checked_grant_role d users s) (λ d memberships. done tag.GrantRole (record d { memberships = memberships })) (record {
        is = λ d. refl;
        lawful = λ memberships memberships-is. record {
          answers = done_answers tag.GrantRole (record db { memberships = memberships });
          ordered = λ o. record {
            roles = o.roles;
            memberships = granted_in_order db users s o.memberships memberships memberships-is;
            tables = o.tables;
            descriptors = o.descriptors;
            policies = o.policies;
          };
          tables = same_tables db;
          known = λ c h. inl h;
        };
        whole = λ read w are. grant_role_whole db users s w;
        may =
            then _ (require_roles db (s.roles ++ s.members)) _ (λ named named-is.
            at_once _ (require (list_all (may_grant_role db users.current) s.roles) InsufficientPrivilege) _ (grants_checked db users s.roles));
        spared = λ may.
            spares_bind (require_roles db (s.roles ++ s.members)) _ (spares_roles db users (s.roles ++ s.members)) (λ named named-is.
            spares_bind (require (list_all (may_grant_role db users.current) s.roles) InsufficientPrivilege) _ (spares_grants db users s.roles may) (λ allowed allowed-is.
            spares_memberships (memberships_of s.roles s.members s.with_admin_option) db.memberships));
        same_checks = refl;
        same_effect = λ memberships. refl;
      })

  pub revoke_role_definition : (s : RevokeRole) → IsDefinition db users (defining.RevokeRole s)
  revoke_role_definition s = definition db users (defining.RevokeRole s) (λ d. checked_revoke_role d users s)
      (λ d free. done tag.RevokeRole (record d { memberships = without_memberships s.admin_option_for s.roles s.members d.memberships })) (record {
        is = λ d. refl;
        lawful = λ free free-is. record {
          answers = done_answers tag.RevokeRole (record db { memberships = without_memberships s.admin_option_for s.roles s.members db.memberships });
          ordered = λ o. record {
            roles = o.roles;
            memberships = revoked_rise s.admin_option_for s.roles s.members db.memberships o.memberships;
            tables = o.tables;
            descriptors = o.descriptors;
            policies = o.policies;
          };
          tables = same_tables db;
          known = λ c h. inl h;
        };
        whole = λ read w are. revoke_role_whole db users s w;
        may = then _ (require_roles db (s.roles ++ s.members)) _ (λ named named-is. grants_checked db users s.roles);
        spared = λ may.
            spares_bind (require_roles db (s.roles ++ s.members)) _ (spares_roles db users (s.roles ++ s.members)) (λ named named-is.
            spares_grants db users s.roles may);
        same_checks = refl;
        same_effect = λ free. refl;
      })
