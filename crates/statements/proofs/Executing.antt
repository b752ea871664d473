-- Each kind of statement, carried out as it is meant, as the statement that it is.
use Rattle.std.proofs.Common.{◌≡◌, refl, sym, subst, Result, IfErr}
use Rattle.std.specs.Prelude.{◌++◌, option_to_list}
use Rattle.std.specs.List.{AllByRecursion}
use Rattle.sql_ast.specs.declared.statement.DatabaseStatement.{DatabaseStatement}
use Rattle.sql_ast.specs.declared.statement.DatabaseStatement.TheVariants as on_database
use Rattle.sql_ast.specs.declared.statement.DefiningStatement.{DefiningStatement}
use Rattle.sql_ast.specs.declared.statement.DefiningStatement.TheVariants as defining
use Rattle.sql_ast.specs.declared.statement.RowStatement.{RowStatement}
use Rattle.sql_ast.specs.declared.statement.CreateTable.{CreateTable}
use Rattle.sql_ast.specs.declared.statement.DropTable.{DropTable}
use Rattle.sql_ast.specs.declared.statement.CreatePolicy.{CreatePolicy}
use Rattle.sql_ast.specs.declared.statement.Grant.{Grant}
use Rattle.sql_ast.specs.Read.{IsReadCreateTable, IsReadCreatePolicy, IsReadGrant}
use Rattle.expr_parser.specs.Written.{IsAsWritten}
use Rattle.expressions.specs.Meaning.{UserNames}
use Rattle.store.specs.Records.{IsOrdered}
use Rattle.store.specs.StatementError.{FailsForMemory, ReadsMap}
use Rattle.store.specs.Store.{StoreState, OnlyReads}
use Rattle.store.specs.declared.stop.StatementError.{StatementError}
use Rattle.abstract_database.specs.Lists.{TheName}
use Rattle.abstract_database.specs.Database.{Database}
use Rattle.abstract_database.specs.Machine.{Session}
use Rattle.abstract_database.specs.Statements as meaning
use Rattle.abstract_database.specs.Whole.{IsRoleOf}
use Rattle.stored_database.specs.Definitions.{Definitions}
use Rattle.stored_database.specs.Records.{Shows}
use Rattle.catalogue_changes.specs.Carried.{IsCurrent, AreUsers}
use Rattle.row_statements.specs.Executed.{WritesAsRead}
use Rattle.row_statements.specs.Users.{seen_users}
use Rattle.catalogue.specs.declared.effect.Effect.{Effect}
use Rattle.catalogue.specs.Executed.{Executes, Defines}
use Rattle.server.specs.Executed.{MayExecute}
use Rattle.statements.proofs.Unread.{nothing_read}

-- a map that is not touched, of which this is kept
pub record Untouched (s : StoreState) (Kept : Type 0) : Type 0 where
  pub kept : Kept
  pub reads : OnlyReads s s
  pub ordered : s.sound → IsOrdered s.map

-- the users of a session with this role set, which was opened for this login role
abbrev pub users_named : TheName → TheName → meaning.UserPair
users_named role login = record { current = role; session = login }

module _ (s : StoreState) (d : Definitions) (role login : TheName) where
  -- a statement comes to this over the map's records, as is meant
  abbrev pub IsExecuted : Result Effect StatementError → DatabaseStatement → Type 0
  IsExecuted result all = s.sound → (db : Database) → Shows s.map d db → MayExecute db (users_named role login) all →
      Executes s.map d result (meaning.exec db (users_named role login) all)

  -- what is promised of a defining statement
  abbrev pub IsCarriedOut : Type 0 → Result Effect StatementError → DefiningStatement → Type 0
  IsCarriedOut Kept result all = record {
    preserved : Kept;
    read : ReadsMap result s s;
    executes : IsExecuted result (on_database.Defining all);
  }

  -- a role of a database is one of its definitions
  defined_role : (db : Database) → Shows s.map d db → IsRoleOf db.roles role → IsRoleOf d.roles role
  defined_role db shown is = subst (λ (x : Database). IsRoleOf x.roles role) shown.is is

  pub drop_table : (result : Result Effect StatementError) {all : DefiningStatement} (x : DropTable) → all ≡ (defining.DropTable x) →
      (s.sound → (db : Database) (users : UserNames) → Shows s.map d db → IsCurrent role users → Executes s.map d result (meaning.drop_table db users x)) →
      IsExecuted result (on_database.Defining all)
  drop_table result x is h = subst (λ (y : DefiningStatement). IsExecuted result (on_database.Defining y)) (sym is) (λ sound db shown may. h sound db (seen_users db.memberships role login) shown refl)

  -- the rows of a statement as the parser reads it, by roles that there are
  pub over_rows : (result : Result Effect StatementError) {all : DatabaseStatement} (x : RowStatement) → all ≡ (on_database.OverRows x)
      → (s.sound → (db : Database) → Shows s.map d db → WritesAsRead db (seen_users db.memberships role login) x → Executes s.map d result (meaning.exec_over_rows db (seen_users db.memberships role login) x))
      → IsExecuted result all
  over_rows result x is h = subst (IsExecuted result) (sym is) (λ sound db shown may. h sound db shown (λ writes. (may.roles, may.read)))

-- what comes of a statement for the roles of a session as code has it comes of it for those of the session
pub executed_of_session : (s : StoreState) (d : Definitions) (result : Result Effect StatementError) (all : DatabaseStatement) (x y : Session) → x ≡ y → IsExecuted s d x.role x.login result all → IsExecuted s d y.role y.login result all
executed_of_session s d result all x y is executed = subst (λ (z : Session). IsExecuted s d z.role z.login result all) is executed

-- what is promised for the roles of a session as code has it is promised for those of the session
pub of_session : {s : StoreState} {d : Definitions} {Kept : Type 0} {result : Result Effect StatementError} {all : DefiningStatement} {x y : Session} → x ≡ y
    → IsCarriedOut s d x.role x.login Kept result all → IsCarriedOut s d y.role y.login Kept result all
of_session {s} {d} {Kept} {result} {all} is promised = subst (λ (z : Session). IsCarriedOut s d z.role z.login Kept result all) is promised

module _ {s : StoreState} {d : Definitions} {role login : TheName} where
  -- a statement that reads no record, and fails for memory alone
  module _ {Kept : Type 0} (here : Untouched s Kept) {result : Result Effect StatementError} (memory : IfErr result FailsForMemory) {all : DefiningStatement} where
    carried_out : (x : DefiningStatement) → all ≡ x → IsExecuted s d role login result (on_database.Defining x) → IsCarriedOut s d role login Kept result all
    carried_out x is executes = record {
      preserved = here.kept;
      read = nothing_read result s memory here.reads;
      executes = subst (λ (y : DefiningStatement). IsExecuted s d role login result (on_database.Defining y)) (sym is) executes;
    }

    -- it asks for the current role alone
    pub by_current : (x : DefiningStatement) → all ≡ x → Defines (IsCurrent role) (λ db users. meaning.define db users x) d result → IsCarriedOut s d role login Kept result all
    by_current x is h = carried_out x is (λ sound db shown may. h s.map db (seen_users db.memberships role login) (here.ordered sound) shown refl)

    -- it asks for the login role, too
    pub by_both : (x : DefiningStatement) → all ≡ x → Defines (AreUsers role login) (λ db users. meaning.define db users x) d result → IsCarriedOut s d role login Kept result all
    by_both x is h = carried_out x is (λ sound db shown may. h s.map db (seen_users db.memberships role login) (here.ordered sound) shown (record { current = refl; session = refl }))

    pub create_table : (x : CreateTable) → all ≡ (defining.CreateTable x)
        → (IsReadCreateTable x → IsRoleOf d.roles role → Defines (IsCurrent role) (λ db users. meaning.create_table db users x) d result) → IsCarriedOut s d role login Kept result all
    create_table x is h = carried_out (defining.CreateTable x) is (λ sound db shown may. h may.read (defined_role s d role login db shown may.roles.current) s.map db (seen_users db.memberships role login) (here.ordered sound) shown refl)

    pub create_policy : (x : CreatePolicy) → all ≡ (defining.CreatePolicy x)
        → (IsReadCreatePolicy x → AllByRecursion IsAsWritten (option_to_list x.using ++ option_to_list x.check) → Defines (IsCurrent role) (λ db users. meaning.create_policy db users x) d result) → IsCarriedOut s d role login Kept result all
    create_policy x is h = carried_out (defining.CreatePolicy x) is (λ sound db shown may. h may.read may.written s.map db (seen_users db.memberships role login) (here.ordered sound) shown refl)

    pub grant : (x : Grant) → all ≡ (defining.Grant x) → (IsReadGrant x → Defines (IsCurrent role) (λ db users. meaning.grant db users x) d result) → IsCarriedOut s d role login Kept result all
    grant x is h = carried_out (defining.Grant x) is (λ sound db shown may. h may.read s.map db (seen_users db.memberships role login) (here.ordered sound) shown refl)
