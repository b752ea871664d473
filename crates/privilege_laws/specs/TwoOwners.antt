-- Two databases that differ in the rows of another tenant's table: the premises are met, and where a membership reaches that table the law is broken.
use Rattle.std.specs.Prelude.{◌≡◌, ℕ, true, false, pos, List, [], ◌∷◌, ◌++◌, flat_map, codes, Some, None, Ok}
use Prim.Native.String.{String}
use Rattle.sql_types.specs.Row.{Row}
use Rattle.sql_types.specs.declared.value.Value.TheVariants.{Int}
use Rattle.sql_types.specs.declared.state.SqlState.TheVariants.{InsufficientPrivilege}
use Rattle.sql_types.specs.declared.answer.Answer.{Answer}
use Rattle.sql_types.specs.declared.answer.Answer.TheVariants as answer
use Rattle.sql_ast.specs.declared.columns.ColumnType.TheVariants as types
use Rattle.sql_ast.specs.declared.privilege.Action.TheVariants as action
use Rattle.sql_ast.specs.declared.privilege.Grantor.TheVariants as grantor
use Rattle.sql_ast.specs.declared.privilege.Grantee.TheVariants as grantee
use Rattle.sql_ast.specs.declared.privilege.Descriptor.{Descriptor}
use Rattle.sql_ast.specs.declared.role.Membership.{Membership}
use Rattle.sql_ast.specs.declared.statement.Statement.TheVariants as statement
use Rattle.sql_ast.specs.declared.statement.DatabaseStatement.TheVariants as on_database
use Rattle.sql_ast.specs.declared.statement.RowStatement.TheVariants as over_rows
use Rattle.sql_ast.specs.declared.statement.SelectList.TheVariants as list
use Rattle.sql_ast.specs.declared.statement.FromClause.TheVariants as from
use Rattle.abstract_database.specs.Database.{TableOf, Database}
use Rattle.abstract_database.specs.Privileges.{all_actions, owner_descriptor, owner_descriptors}
use Rattle.abstract_database.specs.Machine.{Event, executes, Reading, Machine}
use Rattle.database_laws.specs.HiddenRuns.{SameApparentRowsForPairs, AreSound, answer_to, IsException}
use Rattle.database_laws.specs.Told.{happens}
use Rattle.database_laws.specs.TwoTenants.{notes, privileges_for, login_role, note, with_notes, first, opened_by_ann, ann_asks, her_note, with_her_other, by_ann, of_ann, idle, working, as_tenants}
use Rattle.privilege_laws.specs.Related.{NothingTells, MachinesRelated, IsToldRelated}
use Rattle.privilege_laws.specs.Reached.{IsReachedTable, SameReachedRows, reached_by}
use Rattle.privilege_laws.specs.Shown.{shown_to}

-- CREATE TABLE (k BIGINT PRIMARY KEY), without row security
abbrev pub table_of : String → String → TableOf
table_of name owner = record {
  name = codes name;
  owner = codes owner;
  layout = record { columns = record { name = codes "k"; column_type = types.BigInt; not_null = true } ∷ []; key = 0 ∷ [] };
  row_security = false;
  forced = false;
}

-- ann's
abbrev pub letters : TableOf
letters = table_of "letters" "ann"

-- bob's
abbrev pub plans : TableOf
plans = table_of "plans" "bob"

abbrev pub row_of : ℕ → Row
row_of k = Int (pos k) ∷ []

-- these memberships, what else is granted on the plans, and the rows of both tables
abbrev pub with_both : List Membership → List Descriptor → List Row → List Row → Database
with_both memberships more own others = record {
  roles = login_role "ann" ∷ login_role "bob" ∷ login_role "staff" ∷ [];
  memberships = memberships;
  tables = record { definition = letters; rows = own } ∷ record { definition = plans; rows = others } ∷ [];
  descriptors = owner_descriptors letters.name letters.owner ++ (owner_descriptor plans.name plans.owner action.Select ∷ more)
      ++ (owner_descriptor plans.name plans.owner action.Insert ∷ owner_descriptor plans.name plans.owner action.Update ∷ owner_descriptor plans.name plans.owner action.Delete ∷ []);
  policies = [];
}

-- bob has one plan, or another
abbrev pub with_plan : ℕ → Database
with_plan k = with_both [] [] (row_of 1 ∷ []) (row_of k ∷ [])

-- SELECT * FROM a table, in ann's session
abbrev pub ann_selects : TableOf → Event Reading
ann_selects t = executes 1 (Ok (statement.OnDatabase (on_database.OverRows (over_rows.Select (record {
  list = list.Asterisk;
  source = Some (record { tables = from.List (record { table = t.name; alias = None } ∷ []); condition = None; order = None; limit = None });
})))))

abbrev pub shown : ℕ → Answer
shown k = answer.Rows (row_of k ∷ [])

-- both of ann's sessions are open, the second in a block that has written a letter, and one of bob's
abbrev pub before_bob : Machine
before_bob = record {
  committed = with_plan 1;
  holder = Some (record { session = 2; database = with_both [] [] (row_of 1 ∷ row_of 2 ∷ []) (row_of 1 ∷ []) });
  sessions = (7, idle as_tenants "bob") ∷ (1, idle as_tenants "ann") ∷ (2, working as_tenants "ann") ∷ [];
  stopped = false;
}

-- bob has another plan, and other sessions
abbrev pub behind_bob : Machine
behind_bob = record {
  committed = with_plan 2;
  holder = Some (record { session = 2; database = with_both [] [] (row_of 1 ∷ row_of 2 ∷ []) (row_of 2 ∷ []) });
  sessions = (1, idle as_tenants "ann") ∷ (2, working as_tenants "ann") ∷ (8, idle as_tenants "bob") ∷ (9, working as_tenants "bob") ∷ [];
  stopped = false;
}

pub record PlansTellNothing : Type 0 where
  pub differ : with_plan 1 ≡ with_plan 2 → ⊥
  pub unreached : IsReachedTable by_ann (with_plan 1) plans.name → ⊥
  pub machines : MachinesRelated (reached_by of_ann) of_ann before_bob behind_bob
  pub sound : AreSound before_bob × AreSound behind_bob
  pub told : (answer_to before_bob (ann_selects letters) ≡ shown 1) × (answer_to behind_bob (ann_selects letters) ≡ shown 1)
  pub refused : (answer_to before_bob (ann_selects plans) ≡ answer.Refused InsufficientPrivilege) × (answer_to behind_bob (ann_selects plans) ≡ answer.Refused InsufficientPrivilege)

-- ---- where a membership reaches the plans

-- GRANT staff TO ann
abbrev pub staff_members : List Membership
staff_members = record { role = codes "staff"; member = codes "ann"; admin = false } ∷ []

-- GRANT SELECT ON plans TO staff
abbrev pub staff_privileges : List Descriptor
staff_privileges = record { grantor = grantor.Role plans.owner; grantee = grantee.Role (codes "staff"); table = plans.name; action = action.Select; column = None; grantable = false } ∷ []

-- ann has no privilege on the plans by herself
abbrev pub with_staff : ℕ → Database
with_staff k = with_both staff_members staff_privileges (row_of 1 ∷ []) (row_of k ∷ [])

-- her SELECT tells the plan: the law is broken, and the machines are not related to her
pub record PlansTellStaff : Type 0 where
  pub reached : IsReachedTable by_ann (with_staff 1) plans.name
  pub sound : AreSound (opened_by_ann (with_staff 1)) × AreSound (opened_by_ann (with_staff 2))
  pub told : (answer_to (opened_by_ann (with_staff 1)) (ann_selects plans) ≡ shown 1) × (answer_to (opened_by_ann (with_staff 2)) (ann_selects plans) ≡ shown 2)
  pub parts : IsToldRelated (reached_by of_ann) NothingTells of_ann (opened_by_ann (with_staff 1)) (opened_by_ann (with_staff 2)) (happens (ann_selects plans) ∷ []) (happens (ann_selects plans) ∷ []) → ⊥
  pub unrelated : MachinesRelated (reached_by of_ann) of_ann (opened_by_ann (with_staff 1)) (opened_by_ann (with_staff 2)) → ⊥

-- ---- hidden rows beside them

-- the notes of two tenants, of which policies show each its own, beside bob's plan
abbrev pub notes_and_plan : List Row → ℕ → Database
notes_and_plan rows k = record (with_notes rows) {
  tables = record { definition = notes; rows = rows } ∷ record { definition = plans; rows = row_of k ∷ [] } ∷ [];
  descriptors = flat_map privileges_for all_actions ++ owner_descriptors plans.name plans.owner;
}

-- bob has another plan, and other notes
abbrev pub bobs_first : Database
bobs_first = notes_and_plan (note "ann" 1 ∷ note "bob" 1 ∷ []) 1

abbrev pub bobs_second : Database
bobs_second = notes_and_plan (note "ann" 1 ∷ note "bob" 2 ∷ note "bob" 3 ∷ []) 2

-- both differ at once, and ann is shown the same; where her own notes differ the law is broken
pub record BothAreHidden : Type 0 where
  pub machines : MachinesRelated (shown_to of_ann) of_ann (opened_by_ann bobs_first) (opened_by_ann bobs_second)
  pub sound : AreSound (opened_by_ann bobs_first) × AreSound (opened_by_ann bobs_second)
  pub told : (answer_to (opened_by_ann bobs_first) ann_asks ≡ her_note) × (answer_to (opened_by_ann bobs_second) ann_asks ≡ her_note)
  -- by rows alone, and by tables alone, they differ
  pub not_by_rows : SameApparentRowsForPairs by_ann bobs_first bobs_second → ⊥
  pub not_by_tables : SameReachedRows by_ann bobs_first bobs_second → ⊥
  pub parts : IsToldRelated (shown_to of_ann) IsException of_ann (opened_by_ann first) (opened_by_ann with_her_other) (happens ann_asks ∷ []) (happens ann_asks ∷ []) → ⊥
