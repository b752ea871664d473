-- Who holds the writer lock: which statements take it, until when, and what another session is told.
use Rattle.std.specs.Prelude.{[], codes, ◌∷◌}
use Rattle.sql_types.specs.declared.state.SqlState.TheVariants as state
use Rattle.sql_types.specs.declared.tag.Tag.TheVariants as tag
use Rattle.sql_types.specs.declared.warning.Warning.TheVariants as warning
use Rattle.sql_ast.specs.declared.statement.Statement.TheVariants as statement
use Rattle.sql_ast.specs.declared.statement.SessionStatement.TheVariants as of_session
use Rattle.abstract_database.specs.Machine.{closes, opens}
use Rattle.database_examples.specs.Expressions.{col, eq, num, yes}
use Rattle.database_examples.specs.Wording.{all_on, create, create_role, create_u, delete, drop, drop_role, drop_table, enable_rls, everyone, from_t, grant, grant_role, insert_into, insert_key, insert_on, on, one, policy, reset_role, revoke, revoke_role, select, select_keys, select_on, set_role, the_role, update, update_where, using}
use Rattle.database_examples.specs.Lines.{Shows, a, b, c, d, inserted, no_rows, numbers, ok, r, refused, updated, warning, ◌gives◌}

-- one session writes at a time
abbrev pub one_writer : Type 0
one_writer = Shows (
    a (grant insert_on (the_role "bob")) gives ok tag.Grant
    ∷ a (statement.OfSession of_session.Begin) gives ok tag.Begin
    ∷ a (insert_key 1) gives inserted 1
    ∷ b (insert_key 2) gives refused state.LockNotAvailable
    ∷ a (statement.OfSession of_session.Rollback) gives ok tag.Rollback
    ∷ b (insert_key 2) gives inserted 1
    ∷ [])

-- a writing statement that is refused does not take the writer lock
abbrev pub refused_write_takes_no_lock : Type 0
refused_write_takes_no_lock = Shows (
    a (grant insert_on (the_role "bob")) gives ok tag.Grant
    ∷ a (statement.OfSession of_session.Begin) gives ok tag.Begin
    ∷ a (insert_into "x" (num 1)) gives refused state.NotNullViolation
    ∷ b (insert_key 1) gives inserted 1
    ∷ [])

-- one that changes no row does, a failed block keeps it, and a close gives it up
abbrev pub lock_until_close : Type 0
lock_until_close = Shows (
    a (grant insert_on (the_role "bob")) gives ok tag.Grant
    ∷ a (statement.OfSession of_session.Begin) gives ok tag.Begin
    ∷ a (update_where "x" (num 1) (eq (col "k") (num 99))) gives updated 0
    ∷ b (insert_key 1) gives refused state.LockNotAvailable
    ∷ a (select (one (col "zz")) from_t) gives refused state.UndefinedColumn
    ∷ b (insert_key 1) gives refused state.LockNotAvailable
    ∷ closes 2 gives ok tag.Close
    ∷ b (insert_key 1) gives inserted 1
    ∷ [])

-- a closed session gives the writer lock up, and what it did is undone
abbrev pub close_undoes : Type 0
close_undoes = Shows (
    a (grant all_on (the_role "bob")) gives ok tag.Grant
    ∷ a (statement.OfSession of_session.Begin) gives ok tag.Begin
    ∷ a (insert_key 1) gives inserted 1
    ∷ closes 2 gives ok tag.Close
    ∷ closes 2 gives refused state.ConnectionDoesNotExist
    ∷ b select_keys gives no_rows
    ∷ b (insert_key 1) gives inserted 1
    ∷ opens 2 (codes "ann") gives ok tag.Open
    ∷ a select_keys gives numbers (1 ∷ [])
    ∷ [])

-- a session that is refused the writer lock fails its block
abbrev pub refused_lock_fails_the_block : Type 0
refused_lock_fails_the_block = Shows (
    a (grant all_on (the_role "bob")) gives ok tag.Grant
    ∷ a (statement.OfSession of_session.Begin) gives ok tag.Begin
    ∷ a (insert_key 1) gives inserted 1
    ∷ b (statement.OfSession of_session.Begin) gives ok tag.Begin
    ∷ b (insert_key 2) gives refused state.LockNotAvailable
    ∷ b select_keys gives refused state.InFailedTransaction
    ∷ b (statement.OfSession of_session.Commit) gives ok tag.Rollback
    ∷ a (statement.OfSession of_session.Commit) gives ok tag.Commit
    ∷ b select_keys gives numbers (1 ∷ [])
    ∷ [])

-- the writer lock is checked before names and privileges
abbrev pub lock_before_names : Type 0
lock_before_names = Shows (
    a (statement.OfSession of_session.Begin) gives ok tag.Begin
    ∷ a (insert_key 1) gives inserted 1
    ∷ b (drop_table "nowhere") gives refused state.LockNotAvailable
    ∷ a (statement.OfSession of_session.Rollback) gives ok tag.Rollback
    ∷ b (drop_table "nowhere") gives refused state.UndefinedTable
    ∷ [])

-- GRANT that is warned and REVOKE of nothing take the writer lock
abbrev pub warned_grant_takes_the_lock : Type 0
warned_grant_takes_the_lock = Shows (
    a (grant insert_on everyone) gives ok tag.Grant
    ∷ b (statement.OfSession of_session.Begin) gives ok tag.Begin
    ∷ b (grant select_on (the_role "cid")) gives warning warning.PrivilegeNotGranted tag.Grant
    ∷ a (insert_key 1) gives refused state.LockNotAvailable
    ∷ b (statement.OfSession of_session.Commit) gives ok tag.Commit
    ∷ a (insert_key 1) gives inserted 1
    ∷ [])

-- GRANT, CREATE ROLE, CREATE POLICY and CREATE TABLE wait for nobody: while another session holds the writer lock
-- they are refused
abbrev pub definitions_take_the_lock : Type 0
definitions_take_the_lock = Shows (
    a (statement.OfSession of_session.Begin) gives ok tag.Begin
    ∷ a (grant select_on (the_role "bob")) gives ok tag.Grant
    ∷ r (grant select_on (the_role "cid")) gives refused state.LockNotAvailable
    ∷ r (create_role "eve" []) gives refused state.LockNotAvailable
    ∷ r (create (using yes (policy "p"))) gives refused state.LockNotAvailable
    ∷ b create_u gives refused state.LockNotAvailable
    ∷ b select_keys gives refused state.InsufficientPrivilege
    ∷ a (statement.OfSession of_session.Commit) gives ok tag.Commit
    ∷ b select_keys gives no_rows
    ∷ r (grant select_on (the_role "cid")) gives ok tag.Grant
    ∷ [])

-- the writer lock is one for all tables, also where the blocks write nothing in common
abbrev pub two_tables_one_lock : Type 0
two_tables_one_lock = Shows (
    b create_u gives ok tag.CreateTable
    ∷ a (statement.OfSession of_session.Begin) gives ok tag.Begin
    ∷ a (insert_key 1) gives inserted 1
    ∷ b (statement.OfSession of_session.Begin) gives ok tag.Begin
    ∷ b (on "u" (insert_key 1)) gives refused state.LockNotAvailable
    ∷ b (statement.OfSession of_session.Rollback) gives ok tag.Rollback
    ∷ a (statement.OfSession of_session.Commit) gives ok tag.Commit
    ∷ b (on "u" (insert_key 1)) gives inserted 1
    ∷ [])

-- while one session holds the writer lock, each statement that writes is refused to another, and none that reads
abbrev pub every_writing_statement : Type 0
every_writing_statement = Shows (
    a (statement.OfSession of_session.Begin) gives ok tag.Begin
    ∷ a (insert_key 1) gives inserted 1
    ∷ r (create_role "eve" []) gives refused state.LockNotAvailable
    ∷ r (drop_role "dan") gives refused state.LockNotAvailable
    ∷ r (grant_role "ann" "bob") gives refused state.LockNotAvailable
    ∷ r (revoke_role "ann" "bob") gives refused state.LockNotAvailable
    ∷ r create_u gives refused state.LockNotAvailable
    ∷ r (drop_table "t") gives refused state.LockNotAvailable
    ∷ r enable_rls gives refused state.LockNotAvailable
    ∷ r (create (using yes (policy "p"))) gives refused state.LockNotAvailable
    ∷ r (drop "p") gives refused state.LockNotAvailable
    ∷ r (grant select_on (the_role "bob")) gives refused state.LockNotAvailable
    ∷ r (revoke select_on (the_role "bob")) gives refused state.LockNotAvailable
    ∷ r (insert_key 2) gives refused state.LockNotAvailable
    ∷ r (update "x" (num 1)) gives refused state.LockNotAvailable
    ∷ r delete gives refused state.LockNotAvailable
    ∷ r select_keys gives no_rows
    ∷ r (set_role "ann") gives ok tag.Set
    ∷ r reset_role gives ok tag.Reset
    ∷ r (statement.OfSession of_session.Begin) gives ok tag.Begin
    ∷ r (statement.OfSession of_session.Commit) gives ok tag.Commit
    ∷ [])

-- a session without its login role is told 28000, one without its set role 42501, and only then another that
-- the writer lock is held
abbrev pub session_refusals_before_the_lock : Type 0
session_refusals_before_the_lock = Shows (
    r (create_role "team" []) gives ok tag.CreateRole
    ∷ r (grant_role "team" "bob") gives ok tag.GrantRole
    ∷ b (set_role "team") gives ok tag.Set
    ∷ r (revoke_role "team" "bob") gives ok tag.RevokeRole
    ∷ r (drop_role "dan") gives ok tag.DropRole
    ∷ a (statement.OfSession of_session.Begin) gives ok tag.Begin
    ∷ a (insert_key 1) gives inserted 1
    ∷ d create_u gives refused state.InvalidAuthorization
    ∷ b create_u gives refused state.InsufficientPrivilege
    ∷ c create_u gives refused state.LockNotAvailable
    ∷ a (statement.OfSession of_session.Commit) gives ok tag.Commit
    ∷ d create_u gives refused state.InvalidAuthorization
    ∷ b create_u gives refused state.InsufficientPrivilege
    ∷ c create_u gives ok tag.CreateTable
    ∷ [])
