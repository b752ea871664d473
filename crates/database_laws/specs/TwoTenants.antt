-- Two databases that differ in the rows of one tenant alone: with them the premises of the laws of hidden rows are met.
use Rattle.std.specs.Prelude.{◌≡◌, ◌||◌, ◌&&◌, ℕ, nat_eq, Bool, true, false, pos, List, [], ◌∷◌, flat_map, codes, bytes_eq, Some, None, Ok, Err}
use Prim.Native.String.{String}
use Rattle.sql_types.specs.Row.{Row}
use Rattle.sql_types.specs.declared.value.Value.TheVariants.{Int, Text}
use Rattle.sql_types.specs.declared.state.SqlState.TheVariants.{IoError}
use Rattle.sql_types.specs.declared.answer.Answer.{Answer}
use Rattle.sql_types.specs.declared.answer.Answer.TheVariants as answer
use Rattle.sql_ast.specs.declared.columns.ColumnType.TheVariants as types
use Rattle.sql_ast.specs.declared.expression.Comparison.TheVariants as comparing
use Rattle.sql_ast.specs.declared.policy.Policy.{Policy}
use Rattle.sql_ast.specs.declared.policy.PolicyKind.TheVariants.{Permissive}
use Rattle.sql_ast.specs.declared.policy.PolicyCommand.TheVariants as command
use Rattle.sql_ast.specs.declared.policy.PolicyRoles.TheVariants as roles
use Rattle.sql_ast.specs.declared.privilege.Action.{Action}
use Rattle.sql_ast.specs.declared.privilege.Grantor.TheVariants as grantor
use Rattle.sql_ast.specs.declared.privilege.Grantee.TheVariants as grantee
use Rattle.sql_ast.specs.declared.privilege.Descriptor.{Descriptor}
use Rattle.sql_ast.specs.declared.role.Role.{Role}
use Rattle.sql_ast.specs.declared.role.Membership.{Membership}
use Rattle.sql_ast.specs.declared.statement.Statement.TheVariants as statement
use Rattle.sql_ast.specs.declared.statement.DatabaseStatement.TheVariants as on_database
use Rattle.sql_ast.specs.declared.statement.RowStatement.TheVariants as over_rows
use Rattle.sql_ast.specs.declared.statement.SelectList.TheVariants as list
use Rattle.sql_ast.specs.declared.statement.FromClause.TheVariants as from
use Rattle.sql_ast.specs.Term.{column, current_user, comparison}
use Rattle.abstract_database.specs.Database.{TableOf, Database}
use Rattle.abstract_database.specs.Privileges.{all_actions, owner_descriptor}
use Rattle.abstract_database.specs.Statements.{UserPair, as_seen}
use Rattle.abstract_database.specs.Machine.{Event, executes, Reading, Outside, Inside, Session, Machine}
use Rattle.abstract_database.specs.Whole.{IsWhole}
use Rattle.database_laws.specs.Invariants.{IsSound}
use Rattle.database_laws.specs.Worlds.{SameApparentRows}
use Rattle.database_laws.specs.OnePolicy.{HasPoliciesForAll, SpeaksOfKeys}
use Rattle.database_laws.specs.HiddenRuns.{MachinesAlikeForSession, AreSound, answer_to}
use Rattle.database_laws.specs.OutOfSight.{IsOutOfSight, IsOfTenants}
use Rattle.database_laws.specs.Told.{Tenant, IsAlikeTo, happens, IsToldAlike}
use Rattle.database_laws.specs.Patterns.{is_listed, pattern, own_answers}

-- CREATE TABLE notes (tenant TEXT, k BIGINT, PRIMARY KEY (tenant, k)), with row security enabled and forced
abbrev pub notes : TableOf
notes = record {
  name = codes "notes";
  owner = codes "root";
  layout = record {
    columns = record { name = codes "tenant"; column_type = types.Text; not_null = true } ∷ record { name = codes "k"; column_type = types.BigInt; not_null = true } ∷ [];
    key = 0 ∷ 1 ∷ [];
  };
  row_security = true;
  forced = true;
}

-- what the owner has, and GRANT ALL ON notes TO PUBLIC
abbrev pub privileges_for : Action → List Descriptor
privileges_for a = owner_descriptor notes.name notes.owner a
    ∷ record { grantor = grantor.Role notes.owner; grantee = grantee.Public; table = notes.name; action = a; column = None; grantable = false } ∷ []

-- CREATE POLICY own ON notes USING (tenant = current_user)
abbrev pub own_notes : Policy
own_notes = record {
  table = codes "notes";
  name = codes "own";
  kind = Permissive;
  command = command.All;
  roles = roles.Public;
  using = Some (record { text = codes "tenant = current_user"; expression = comparison comparing.Equal (column (record { table = None; column = codes "tenant" })) current_user });
  check = None;
}

abbrev pub login_role : String → Role
login_role name = record { name = codes name; attributes = record { superuser = false; login = true; bypass_rls = false } }

-- GRANT ann TO app: an application logs in as app, and sets the role of each tenant
abbrev pub of_app : String → Membership
of_app role = record { role = codes role; member = codes "app"; admin = false }

abbrev pub note : String → ℕ → Row
note tenant k = Text (codes tenant) ∷ Int (pos k) ∷ []

abbrev pub with_notes : List Row → Database
with_notes rows = record {
  roles = login_role "ann" ∷ login_role "app" ∷ login_role "bob" ∷ record { name = codes "root"; attributes = record { superuser = true; login = true; bypass_rls = false } } ∷ [];
  memberships = of_app "ann" ∷ of_app "bob" ∷ [];
  tables = record { definition = notes; rows = rows } ∷ [];
  descriptors = flat_map privileges_for all_actions;
  policies = own_notes ∷ [];
}

-- bob has one note in the one, and two others in the other
abbrev pub first : Database
first = with_notes (note "ann" 1 ∷ note "bob" 1 ∷ [])

abbrev pub second : Database
second = with_notes (note "ann" 1 ∷ note "bob" 2 ∷ note "bob" 3 ∷ [])

abbrev pub ann : UserPair
ann = record { current = codes "ann"; session = codes "ann" }

abbrev pub bob : UserPair
bob = record { current = codes "bob"; session = codes "bob" }

-- a machine over a database in which ann's session is open
abbrev pub opened_by_ann : Database → Machine
opened_by_ann db = record { committed = db; holder = None; sessions = (1, record { login = codes "ann"; role = codes "ann"; block = Outside }) ∷ []; stopped = false }

-- SELECT * FROM notes, in ann's session
abbrev pub ann_asks : Event Reading
ann_asks = executes 1 (Ok (statement.OnDatabase (on_database.OverRows (over_rows.Select (record {
  list = list.Asterisk;
  source = Some (record { tables = from.List (record { table = notes.name; alias = None } ∷ []); condition = None; order = None; limit = None });
})))))

-- the reading of an event's statement
abbrev pub reading_of : Event Reading → Reading
reading_of (executes number reading) = reading
reading_of _ = Err IoError

-- her own note alone
abbrev pub her_note : Answer
her_note = answer.Rows (note "ann" 1 ∷ [])

-- whatever role ann sets
abbrev pub by_ann : UserPair → Bool
by_ann pair = bytes_eq (codes "ann") pair.session

-- the application, as itself and with ann's role
abbrev pub by_app_for_ann : UserPair → Bool
by_app_for_ann pair = bytes_eq (codes "app") pair.session && (bytes_eq (codes "app") pair.current || bytes_eq (codes "ann") pair.current)

abbrev pub one_and_two : ℕ → Bool
one_and_two n = nat_eq n 1 || nat_eq n 2

-- a tenant of one login role, and of the sessions 1 and 2
abbrev pub of_ann : Tenant
of_ann = record { pairs = by_ann; sessions = one_and_two }

-- the same tenant, where one login role serves them all
abbrev pub of_ann_by_app : Tenant
of_ann_by_app = record { pairs = by_app_for_ann; sessions = one_and_two }

-- sessions by the login role that each tenant's are opened for
abbrev pub idle : (String → String) → String → Session
idle login tenant = record { login = codes (login tenant); role = codes tenant; block = Outside }

abbrev pub working : (String → String) → String → Session
working login tenant = record { login = codes (login tenant); role = codes tenant; block = Inside (codes tenant) }

-- both of hers are open, the second in a block that has written a note of hers, and one of bob's
abbrev pub with_bob_before : (String → String) → Machine
with_bob_before login = record {
  committed = first;
  holder = Some (record { session = 2; database = with_notes (note "ann" 1 ∷ note "ann" 2 ∷ note "bob" 1 ∷ []) });
  sessions = (7, idle login "bob") ∷ (1, idle login "ann") ∷ (2, working login "ann") ∷ [];
  stopped = false;
}

-- bob has other notes, and other sessions
abbrev pub with_bob_behind : (String → String) → Machine
with_bob_behind login = record {
  committed = second;
  holder = Some (record { session = 2; database = with_notes (note "ann" 1 ∷ note "ann" 2 ∷ note "bob" 2 ∷ note "bob" 3 ∷ []) });
  sessions = (1, idle login "ann") ∷ (2, working login "ann") ∷ (8, idle login "bob") ∷ (9, working login "bob") ∷ [];
  stopped = false;
}

-- each tenant logs in as itself, or the application for all of them
abbrev pub as_tenants : String → String
as_tenants tenant = tenant

abbrev pub as_app : String → String
as_app tenant = "app"

-- ann has another note of her own in it: the laws speak of no such pair of databases
abbrev pub with_her_other : Database
with_her_other = with_notes (note "ann" 2 ∷ note "bob" 1 ∷ [])

-- two machines that tell ann two different answers are not told alike
abbrev pub PartsHere : Type 0
PartsHere = IsToldAlike of_ann (opened_by_ann first) (opened_by_ann with_her_other) (happens ann_asks ∷ []) (happens ann_asks ∷ []) → ⊥

pub record MeetThePremises : Type 0 where
  pub differ : first ≡ second → ⊥
  pub alike : SameApparentRows (as_seen ann first) first second
  pub whole_first : IsWhole first
  pub whole_second : IsWhole second
  pub sound_first : IsSound first
  pub sound_second : IsSound second
  pub for_all : HasPoliciesForAll first ann.current notes.name
  pub by_key : SpeaksOfKeys first ann.current notes
  -- what bob may write is out of ann's sight
  pub of_tenants : IsOfTenants first notes (record { table = None; column = codes "tenant" })
  pub unseen : IsOutOfSight first (as_seen bob first) (as_seen ann first) notes
  pub machines : MachinesAlikeForSession 1 by_ann (opened_by_ann first) (opened_by_ann second)
  pub both_sessions : IsAlikeTo of_ann (with_bob_before as_tenants) (with_bob_behind as_tenants)
  pub by_one_login : IsAlikeTo of_ann_by_app (with_bob_before as_app) (with_bob_behind as_app)
  pub sound_machines : AreSound (opened_by_ann first) × AreSound (opened_by_ann second)
  pub parts : PartsHere
  pub told : (answer_to (opened_by_ann first) ann_asks ≡ her_note) × (answer_to (opened_by_ann second) ann_asks ≡ her_note)

-- ---- patterns

-- the answers to ann's SELECT
abbrev pub her_answers : Database → List Answer
her_answers db = own_answers of_ann (opened_by_ann db) (happens ann_asks ∷ [])

-- over the two machines in which her own rows differ they have one pattern and are not the same: so these are not alike to her
pub record PartsAtSelect : Type 0 where
  pub patterns : pattern is_listed (her_answers first) ≡ pattern is_listed (her_answers with_her_other)
  pub answers : her_answers first ≡ her_answers with_her_other → ⊥
  pub machines : IsAlikeTo of_ann (opened_by_ann first) (opened_by_ann with_her_other) → ⊥
