-- Two databases that differ in a column which a role may not read: the premises are met, and where a policy names the column the law is broken.
use Rattle.std.specs.Prelude.{◌≡◌, ◌&&◌, ℕ, nat_eq, Bool, true, false, pos, List, [], ◌∷◌, codes, bytes_eq, Some, None, Ok, Err}
use Rattle.sql_types.specs.declared.value.Value.TheVariants.{Int}
use Rattle.sql_types.specs.declared.state.SqlState.TheVariants.{InsufficientPrivilege}
use Rattle.sql_types.specs.declared.answer.Answer.TheVariants as answer
use Rattle.sql_ast.specs.declared.columns.ColumnType.TheVariants as types
use Rattle.sql_ast.specs.declared.expression.Comparison.TheVariants as comparing
use Rattle.sql_ast.specs.declared.policy.Policy.{Policy}
use Rattle.sql_ast.specs.declared.policy.PolicyKind.TheVariants.{Permissive}
use Rattle.sql_ast.specs.declared.policy.PolicyCommand.TheVariants as command
use Rattle.sql_ast.specs.declared.policy.PolicyRoles.TheVariants as roles
use Rattle.sql_ast.specs.declared.privilege.Action.TheVariants as action
use Rattle.sql_ast.specs.declared.privilege.Grantor.TheVariants as grantor
use Rattle.sql_ast.specs.declared.privilege.Grantee.TheVariants as grantee
use Rattle.sql_ast.specs.declared.statement.Statement.TheVariants as statement
use Rattle.sql_ast.specs.declared.statement.DatabaseStatement.TheVariants as on_database
use Rattle.sql_ast.specs.declared.statement.RowStatement.{RowStatement}
use Rattle.sql_ast.specs.declared.statement.RowStatement.TheVariants as over_rows
use Rattle.sql_ast.specs.declared.statement.Select.{Select}
use Rattle.sql_ast.specs.declared.statement.SelectList.TheVariants as list
use Rattle.sql_ast.specs.declared.statement.FromClause.TheVariants as from
use Rattle.sql_ast.specs.Term.{column, literal, comparison}
use Rattle.abstract_database.specs.Lists.{TheName}
use Rattle.abstract_database.specs.Database.{TableOf, Database}
use Rattle.abstract_database.specs.Privileges.{owner_descriptor}
use Rattle.abstract_database.specs.Statements.{effect, as_seen, select, exec}
use Rattle.database_laws.specs.Invariants.{IsSound}
use Rattle.abstract_database.specs.Machine.{Event, executes, Reading}
use Rattle.database_laws.specs.Told.{happens}
use Rattle.database_laws.specs.TwoTenants.{login_role, opened_by_ann, ann, of_ann}
use Rattle.privilege_laws.specs.Related.{MachinesRelated, IsToldRelated}
use Rattle.privilege_laws.specs.ColumnRuns.{but_hidden, TellsColumns}
use Rattle.privilege_laws.specs.HiddenColumns.{AreHiddenFrom, AreHiddenFromWrites, SameButHidden, EndButHidden}

-- CREATE TABLE people (k BIGINT PRIMARY KEY, pay BIGINT), with row security or without
abbrev pub people : Bool → TableOf
people security = record {
  name = codes "people";
  owner = codes "bob";
  layout = record {
    columns = record { name = codes "k"; column_type = types.BigInt; not_null = true } ∷ record { name = codes "pay"; column_type = types.BigInt; not_null = false } ∷ [];
    key = 0 ∷ [];
  };
  row_security = security;
  forced = false;
}

-- GRANT SELECT (k) ON people TO ann, over a table with one row
abbrev pub with_pay : Bool → List Policy → ℕ → Database
with_pay security policies pay = record {
  roles = login_role "ann" ∷ login_role "bob" ∷ [];
  memberships = [];
  tables = record { definition = people security; rows = (Int (pos 1) ∷ Int (pos pay) ∷ []) ∷ [] } ∷ [];
  descriptors = owner_descriptor (people security).name (people security).owner action.Select
      ∷ record { grantor = grantor.Role (codes "bob"); grantee = grantee.Role (codes "ann"); table = (people security).name; action = action.Select; column = Some 0; grantable = false }
      ∷ owner_descriptor (people security).name (people security).owner action.Insert
      ∷ owner_descriptor (people security).name (people security).owner action.Update
      ∷ owner_descriptor (people security).name (people security).owner action.Delete
      ∷ [];
  policies = policies;
}

-- the column pay
abbrev pub pay_of : TheName → ℕ → Bool
pay_of name index = bytes_eq (codes "people") name && nat_eq index 1

-- SELECT of a column of people
abbrev pub selects : List ℕ → Select
selects name = record {
  list = list.Expressions (column (record { table = None; column = name }) ∷ []);
  source = Some (record { tables = from.List (record { table = codes "people"; alias = None } ∷ []); condition = None; order = None; limit = None });
}

-- SELECT k, in ann's session
abbrev pub asks_key : Event Reading
asks_key = executes 1 (Ok (statement.OnDatabase (on_database.OverRows (over_rows.Select (selects (codes "k"))))))

pub record PayIsHidden : Type 0 where
  pub hidden : AreHiddenFrom pay_of (with_pay false [] 1) ann.current
  pub same : SameButHidden pay_of (with_pay false [] 1) (with_pay false [] 2)
  pub from_writes : AreHiddenFromWrites pay_of (with_pay false [] 1) ann.current
  pub sound : IsSound (with_pay false [] 1) × IsSound (with_pay false [] 2)
  pub machines : MachinesRelated (but_hidden pay_of of_ann) of_ann (opened_by_ann (with_pay false [] 1)) (opened_by_ann (with_pay false [] 2))
  pub differ : with_pay false [] 1 ≡ with_pay false [] 2 → ⊥
  -- SELECT k is answered by both, and SELECT pay by none
  pub told : select (with_pay false [] 1) (as_seen ann (with_pay false [] 1)) (selects (codes "k")) ≡ Ok (effect (answer.Rows ((Int (pos 1) ∷ []) ∷ [])) (with_pay false [] 1))
  pub refused : select (with_pay false [] 1) (as_seen ann (with_pay false [] 1)) (selects (codes "pay")) ≡ Err InsufficientPrivilege

-- ---- where a policy names the column

-- CREATE POLICY low ON people USING (pay = 1)
abbrev pub low : List Policy
low = record {
  table = codes "people";
  name = codes "low";
  kind = Permissive;
  command = command.All;
  roles = roles.Public;
  using = Some (record { text = codes "pay = 1"; expression = comparison comparing.Equal (column (record { table = None; column = codes "pay" })) (literal (Int (pos 1))) });
  check = None;
} ∷ []

-- ann may not read it, and the same SELECT k tells it
pub record PolicyTellsPay : Type 0 where
  pub same : SameButHidden pay_of (with_pay true low 1) (with_pay true low 2)
  pub refused : select (with_pay true low 1) (as_seen ann (with_pay true low 1)) (selects (codes "pay")) ≡ Err InsufficientPrivilege
  pub parts : EndButHidden pay_of (select (with_pay true low 1) (as_seen ann (with_pay true low 1)) (selects (codes "k"))) (select (with_pay true low 2) (as_seen ann (with_pay true low 2)) (selects (codes "k"))) → ⊥
  pub runs_part : IsToldRelated (but_hidden pay_of of_ann) TellsColumns of_ann (opened_by_ann (with_pay true low 1)) (opened_by_ann (with_pay true low 2)) (happens asks_key ∷ []) (happens asks_key ∷ []) → ⊥

-- ---- where it is the key

-- CREATE TABLE people (k BIGINT, pay BIGINT PRIMARY KEY), and GRANT INSERT ON people TO ann
abbrev pub keyed_people : TableOf
keyed_people = record (people false) {
  layout = record {
    columns = record { name = codes "k"; column_type = types.BigInt; not_null = false } ∷ record { name = codes "pay"; column_type = types.BigInt; not_null = true } ∷ [];
    key = 1 ∷ [];
  };
}

abbrev pub with_keyed_pay : ℕ → Database
with_keyed_pay pay = record (with_pay false [] pay) {
  tables = record { definition = keyed_people; rows = (Int (pos 1) ∷ Int (pos pay) ∷ []) ∷ [] } ∷ [];
  descriptors = record { grantor = grantor.Role (codes "bob"); grantee = grantee.Role (codes "ann"); table = keyed_people.name; action = action.Insert; column = None; grantable = false } ∷ [];
}

-- INSERT INTO people VALUES (2, 2)
abbrev pub inserts_two : RowStatement
inserts_two = over_rows.Insert (record { table = keyed_people.name; columns = None; rows = (literal (Int (pos 2)) ∷ literal (Int (pos 2)) ∷ []) ∷ [] })

-- an INSERT tells it
pub record KeyTellsPay : Type 0 where
  pub same : SameButHidden pay_of (with_keyed_pay 1) (with_keyed_pay 2)
  pub parts : EndButHidden pay_of (exec (with_keyed_pay 1) ann (on_database.OverRows inserts_two)) (exec (with_keyed_pay 2) ann (on_database.OverRows inserts_two)) → ⊥
