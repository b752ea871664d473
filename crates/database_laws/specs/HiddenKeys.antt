-- A hidden key: over two databases that look alike to a tenant one refusal of a taken key stands at two places.
use Rattle.std.specs.Prelude.{◌≡◌, ℕ, false, true, pos, List, [], ◌∷◌, flat_map, codes, Some, None, Ok}
use Rattle.sql_types.specs.declared.value.Value.TheVariants.{Int, Text}
use Rattle.sql_types.specs.declared.state.SqlState.TheVariants.{UniqueViolation}
use Rattle.sql_types.specs.declared.answer.Answer.{Answer}
use Rattle.sql_types.specs.declared.answer.Answer.TheVariants as answer
use Rattle.sql_types.specs.declared.tag.Tag.TheVariants as tag
use Rattle.sql_ast.specs.declared.columns.ColumnType.TheVariants as types
use Rattle.sql_ast.specs.declared.expression.Comparison.TheVariants as comparing
use Rattle.sql_ast.specs.declared.policy.Policy.{Policy}
use Rattle.sql_ast.specs.declared.policy.PolicyKind.TheVariants.{Permissive}
use Rattle.sql_ast.specs.declared.policy.PolicyCommand.TheVariants as command
use Rattle.sql_ast.specs.declared.policy.PolicyRoles.TheVariants as roles
use Rattle.sql_ast.specs.declared.privilege.Action.{Action}
use Rattle.sql_ast.specs.declared.privilege.Grantor.TheVariants as grantor
use Rattle.sql_ast.specs.declared.privilege.Grantee.TheVariants as grantee
use Rattle.sql_ast.specs.declared.privilege.Descriptor.{Descriptor}
use Rattle.sql_ast.specs.declared.statement.Statement.TheVariants as statement
use Rattle.sql_ast.specs.declared.statement.DatabaseStatement.TheVariants as on_database
use Rattle.sql_ast.specs.declared.statement.RowStatement.TheVariants as over_rows
use Rattle.sql_ast.specs.Term.{literal, column, current_user, comparison}
use Rattle.abstract_database.specs.Database.{TableOf, Database}
use Rattle.abstract_database.specs.Privileges.{all_actions, owner_descriptor}
use Rattle.abstract_database.specs.Machine.{Event, executes, Reading, Machine}
use Rattle.database_laws.specs.HiddenRuns.{AreSound}
use Rattle.database_laws.specs.Told.{Act, happens, IsAlikeTo, OthersKeepOutOfSight}
use Rattle.database_laws.specs.Patterns.{own_answers, AllTellListedOnly, AreDeclaredAlike}
use Rattle.database_laws.specs.TwoTenants.{first, of_ann, opened_by_ann}

-- CREATE TABLE keys (k BIGINT PRIMARY KEY, owner TEXT), with row security enabled and forced
abbrev pub keys : TableOf
keys = record {
  name = codes "keys";
  owner = codes "root";
  layout = record {
    columns = record { name = codes "k"; column_type = types.BigInt; not_null = true } ∷ record { name = codes "owner"; column_type = types.Text; not_null = false } ∷ [];
    key = 0 ∷ [];
  };
  row_security = true;
  forced = true;
}

-- what the owner has, and GRANT ALL ON keys TO PUBLIC
abbrev pub on_keys : Action → List Descriptor
on_keys a = owner_descriptor keys.name keys.owner a
    ∷ record { grantor = grantor.Role keys.owner; grantee = grantee.Public; table = keys.name; action = a; column = None; grantable = false } ∷ []

-- CREATE POLICY own ON keys USING (owner = current_user)
abbrev pub own_keys : Policy
own_keys = record {
  table = keys.name;
  name = codes "own";
  kind = Permissive;
  command = command.All;
  roles = roles.Public;
  using = Some (record { text = codes "owner = current_user"; expression = comparison comparing.Equal (column (record { table = None; column = codes "owner" })) current_user });
  check = None;
}

-- bob has one row, with this key
abbrev pub with_key : ℕ → Database
with_key k = record {
  roles = first.roles;
  memberships = first.memberships;
  tables = record { definition = keys; rows = (Int (pos k) ∷ Text (codes "bob") ∷ []) ∷ [] } ∷ [];
  descriptors = flat_map on_keys all_actions;
  policies = own_keys ∷ [];
}

-- INSERT INTO keys VALUES (k, 'ann'), in ann's session
abbrev pub ann_inserts : ℕ → Event Reading
ann_inserts k = executes 1 (Ok (statement.OnDatabase (on_database.OverRows (over_rows.Insert (record {
  table = keys.name;
  columns = None;
  rows = (literal (Int (pos k)) ∷ literal (Text (codes "ann")) ∷ []) ∷ [];
})))))

abbrev pub two_inserts : List Act
two_inserts = happens (ann_inserts 1) ∷ happens (ann_inserts 2) ∷ []

-- a machine over the database in which bob has this key
abbrev pub beside : ℕ → Machine
beside k = opened_by_ann (with_key k)

abbrev pub taken : Answer
taken = answer.Refused UniqueViolation

abbrev pub inserted : Answer
inserted = answer.Done tag.Insert (Some 1) None

-- all premises of the law of patterns are met but the one of patterns; ann meets one refusal with one code over each machine, and its
-- place tells which key is hidden
pub record PlacesTell : Type 0 where
  pub machines : IsAlikeTo of_ann (beside 1) (beside 2)
  pub sound : AreSound (beside 1) × AreSound (beside 2)
  pub hides : OthersKeepOutOfSight of_ann (beside 1) two_inserts × OthersKeepOutOfSight of_ann (beside 2) two_inserts
  pub listed : AllTellListedOnly of_ann (beside 1) two_inserts
  pub declared : AreDeclaredAlike of_ann (beside 1) (beside 2) two_inserts two_inserts
  pub answers_beside_one : own_answers of_ann (beside 1) two_inserts ≡ taken ∷ inserted ∷ []
  pub answers_beside_two : own_answers of_ann (beside 2) two_inserts ≡ inserted ∷ taken ∷ []
