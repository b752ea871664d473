-- What is checked before a statement grants or revokes: roles, columns, and then a privilege.
use Rattle.std.proofs.Common.{◌≡◌, ℕ, Bool, true, false, List, Result, Ok, Err, refl, ap, ◌∙◌}
use Rattle.std.specs.List.{list_all}
use Rattle.sql_types.specs.declared.state.SqlState.{SqlState}
use Rattle.sql_types.specs.declared.state.SqlState.TheVariants.{UndefinedObject, UndefinedColumn, InsufficientPrivilege}
use Rattle.sql_ast.specs.Layout.{Layout}
use Rattle.sql_ast.specs.declared.privilege.Grantee.{Grantee}
use Rattle.sql_ast.specs.declared.statement.Privileges.{Privileges}
use Rattle.expressions.specs.Stages.{◌>>=◌, require, each}
use Rattle.abstract_database.specs.Lists.{TheName}
use Rattle.abstract_database.specs.Database.{Database, has_role}
use Rattle.abstract_database.specs.Privileges.{columns_named, has_some_privilege}
use Rattle.abstract_database.specs.Checks.{found_column, grantee_roles}
use Rattle.schema_statements.specs.PrivilegeUnits.{is_column}
use Rattle.schema_statements.specs.PrivilegeDescriptors.{checked}
use Rattle.schema_statements.proofs.Once.{each_found}

in_turn : (a b n : Bool) (found : Result (List ℕ) SqlState) → (found >>= λ all. Ok tt) ≡ require b UndefinedColumn
    → (require a UndefinedObject >>= λ named. found >>= λ columns. require n InsufficientPrivilege) ≡ (require a UndefinedObject >>= λ named. require b UndefinedColumn >>= λ columns. require n InsufficientPrivilege)
in_turn false b n found e = refl
in_turn true true n (Ok is) e = refl
in_turn true false n (Ok is) e = cc
in_turn true true n (Err code) e = cc
in_turn true false n (Err code) e = ap (λ (r : Result (Unit {0}) SqlState). r >>= λ columns. require n InsufficientPrivilege) e

module _ (db : Database) (current table : TheName) (layout : Layout) (privileges : Privileges) (grantees : List Grantee) where
  abbrev roles : Bool
  roles = list_all (has_role db) (grantee_roles grantees)

  abbrev columns : Bool
  columns = list_all (is_column layout) (columns_named privileges)

  abbrev some : Bool
  some = has_some_privilege db current table

  abbrev stages : Bool → Bool → Bool → Result (Unit {0}) SqlState
  stages a b n = require a UndefinedObject >>= λ named. require b UndefinedColumn >>= λ columns. require n InsufficientPrivilege

  checked_is : (a b n : Bool) → roles ≡ a → columns ≡ b → some ≡ n → checked db current table layout privileges grantees ≡ stages a b n
  checked_is a b n e f g =
      in_turn roles columns some (each (found_column layout) (columns_named privileges)) (each_found layout (columns_named privileges))
      ∙ ap (λ (x : Bool). stages x columns some) e ∙ ap (λ (x : Bool). stages a x some) f ∙ ap (λ (x : Bool). stages a b x) g

  pub no_role : roles ≡ false → checked db current table layout privileges grantees ≡ Err UndefinedObject
  no_role e = checked_is false columns some e refl refl

  pub no_column : roles ≡ true → columns ≡ false → checked db current table layout privileges grantees ≡ Err UndefinedColumn
  no_column e f = checked_is true false some e f refl

  pub no_privilege : roles ≡ true → columns ≡ true → some ≡ false → checked db current table layout privileges grantees ≡ Err InsufficientPrivilege
  no_privilege e f g = checked_is true true false e f g

  pub all_there : roles ≡ true → columns ≡ true → some ≡ true → checked db current table layout privileges grantees ≡ Ok tt
  all_there e f g = checked_is true true true e f g
