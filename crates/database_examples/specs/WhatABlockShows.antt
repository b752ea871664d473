-- Blocks: what a session and the others see, COMMIT and ROLLBACK, and failed blocks.
use Rattle.std.specs.Prelude.{Ok, Some, [], codes, ◌∷◌}
use Rattle.sql_types.specs.declared.state.SqlState.TheVariants as state
use Rattle.sql_types.specs.declared.tag.Tag.TheVariants as tag
use Rattle.sql_types.specs.declared.warning.Warning.TheVariants as warning
use Rattle.sql_ast.specs.declared.columns.ColumnType.TheVariants as type
use Rattle.sql_ast.specs.declared.statement.Statement.TheVariants as statement
use Rattle.sql_ast.specs.declared.statement.SessionStatement.TheVariants as of_session
use Rattle.abstract_database.specs.Machine.{closes, executes, opens, Inside, Outside, Machine}
use Rattle.database_examples.specs.Expressions.{col, div, eq, me, num, plus}
use Rattle.database_examples.specs.Wording.{all_on, attribute_superuser, can_log_in, create, create_role, create_table, create_u, delete, delete_where, drop, drop_role, drop_table, enable_rls, from_t, grant, grant_role, grant_role_with_admin, insert, insert_key, key_column, one, pair, policy, reset_role, revoke, revoke_role, select, select_all, select_all_of_u, select_keys, select_on, select_values, set_role, the_role, update, update_where, using}
use Rattle.database_examples.specs.Lines.{AnswersFrom, Shows, a, a_misread, b, d, deleted, inserted, machine_after, no_rows, number_rows, numbers, ok, r, ready, refused, rows, text, updated, warning, ◌gives◌}

-- a REVOKE in a block is seen by others from its COMMIT on
abbrev pub revoke_is_seen_after_commit : Type 0
revoke_is_seen_after_commit = Shows (
    a (grant select_on (the_role "bob")) gives ok tag.Grant
    ∷ a (statement.OfSession of_session.Begin) gives ok tag.Begin
    ∷ a (revoke select_on (the_role "bob")) gives ok tag.Revoke
    ∷ b select_all gives no_rows
    ∷ a (statement.OfSession of_session.Commit) gives ok tag.Commit
    ∷ b select_all gives refused state.InsufficientPrivilege
    ∷ [])

-- in a failed block all but COMMIT and ROLLBACK is refused, and COMMIT acts as ROLLBACK
abbrev pub failed_block : Type 0
failed_block = Shows (
    a (statement.OfSession of_session.Begin) gives ok tag.Begin
    ∷ a (select (one (col "zz")) from_t) gives refused state.UndefinedColumn
    ∷ a (select_values (one (num 1))) gives refused state.InFailedTransaction
    ∷ a (statement.OfSession of_session.Commit) gives ok tag.Rollback
    ∷ a (statement.OfSession of_session.Commit) gives warning warning.NoActiveTransaction tag.Commit
    ∷ [])

abbrev pub begin_and_end_twice : Type 0
begin_and_end_twice = Shows (
    a (statement.OfSession of_session.Begin) gives ok tag.Begin
    ∷ a (statement.OfSession of_session.Begin) gives warning warning.ActiveTransaction tag.Begin
    ∷ a (statement.OfSession of_session.Rollback) gives ok tag.Rollback
    ∷ a (statement.OfSession of_session.Rollback) gives warning warning.NoActiveTransaction tag.Rollback
    ∷ [])

-- ROLLBACK brings back the set role of its BEGIN
abbrev pub rollback_of_set_role : Type 0
rollback_of_set_role = Shows (
    r (create_role "staff" []) gives ok tag.CreateRole
    ∷ r (grant_role "staff" "bob") gives ok tag.GrantRole
    ∷ b (statement.OfSession of_session.Begin) gives ok tag.Begin
    ∷ b (set_role "staff") gives ok tag.Set
    ∷ b (statement.OfSession of_session.Rollback) gives ok tag.Rollback
    ∷ b (select_values (one me)) gives rows ((text "bob" ∷ []) ∷ [])
    ∷ [])

-- what a holder has defined is its own until COMMIT, and gone with ROLLBACK
abbrev pub definitions_roll_back : Type 0
definitions_roll_back = Shows (
    r (statement.OfSession of_session.Begin) gives ok tag.Begin
    ∷ r (create_table "u" (one (key_column "k" type.BigInt))) gives ok tag.CreateTable
    ∷ r (create_role "eve" can_log_in) gives ok tag.CreateRole
    ∷ opens 6 (codes "eve") gives refused state.InvalidAuthorization
    ∷ a (select_all_of_u) gives refused state.UndefinedTable
    ∷ r (select_all_of_u) gives no_rows
    ∷ r (statement.OfSession of_session.Rollback) gives ok tag.Rollback
    ∷ r (select_all_of_u) gives refused state.UndefinedTable
    ∷ [])

-- a block that only reads sees each COMMIT of another session
abbrev pub readers_see_each_commit : Type 0
readers_see_each_commit = Shows (
    a (grant all_on (the_role "bob")) gives ok tag.Grant
    ∷ b (statement.OfSession of_session.Begin) gives ok tag.Begin
    ∷ b select_keys gives no_rows
    ∷ a (insert_key 1) gives inserted 1
    ∷ b select_keys gives numbers (1 ∷ [])
    ∷ b (insert_key 2) gives inserted 1
    ∷ a select_keys gives numbers (1 ∷ [])
    ∷ b (statement.OfSession of_session.Commit) gives ok tag.Commit
    ∷ a select_keys gives numbers (1 ∷ 2 ∷ [])
    ∷ [])

-- a text that cannot be read fails a block, and is refused as itself in a failed one
abbrev pub misread_texts_in_blocks : Type 0
misread_texts_in_blocks = Shows (
    a (statement.OfSession of_session.Begin) gives ok tag.Begin
    ∷ a_misread state.SyntaxError gives refused state.SyntaxError
    ∷ a select_keys gives refused state.InFailedTransaction
    ∷ a_misread state.SyntaxError gives refused state.SyntaxError
    ∷ a (statement.OfSession of_session.Begin) gives refused state.InFailedTransaction
    ∷ a (statement.OfSession of_session.Rollback) gives ok tag.Rollback
    ∷ a_misread state.SyntaxError gives refused state.SyntaxError
    ∷ a select_keys gives no_rows
    ∷ [])

-- what a failed block did before is undone
abbrev pub failed_block_is_undone : Type 0
failed_block_is_undone = Shows (
    a (insert_key 1) gives inserted 1
    ∷ a (statement.OfSession of_session.Begin) gives ok tag.Begin
    ∷ a delete gives deleted 1
    ∷ a (insert_key 2) gives inserted 1
    ∷ a (insert_key 2) gives refused state.UniqueViolation
    ∷ a (statement.OfSession of_session.Commit) gives ok tag.Rollback
    ∷ a select_keys gives numbers (1 ∷ [])
    ∷ [])

-- COMMIT keeps the set role, and COMMIT of a failed block does not
abbrev pub commit_and_the_set_role : Type 0
commit_and_the_set_role = Shows (
    r (grant_role "ann" "bob") gives ok tag.GrantRole
    ∷ b (statement.OfSession of_session.Begin) gives ok tag.Begin
    ∷ b (set_role "ann") gives ok tag.Set
    ∷ b (statement.OfSession of_session.Commit) gives ok tag.Commit
    ∷ b (select_values (one me)) gives rows ((text "ann" ∷ []) ∷ [])
    ∷ b (statement.OfSession of_session.Begin) gives ok tag.Begin
    ∷ b reset_role gives ok tag.Reset
    ∷ b (select_values (one (col "k"))) gives refused state.UndefinedColumn
    ∷ b (statement.OfSession of_session.Commit) gives ok tag.Rollback
    ∷ b (select_values (one me)) gives rows ((text "ann" ∷ []) ∷ [])
    ∷ [])

-- ROLLBACK outside a block changes no role
abbrev pub rollback_outside_keeps_the_role : Type 0
rollback_outside_keeps_the_role = Shows (
    r (grant_role "ann" "bob") gives ok tag.GrantRole
    ∷ b (set_role "ann") gives ok tag.Set
    ∷ b (statement.OfSession of_session.Rollback) gives warning warning.NoActiveTransaction tag.Rollback
    ∷ b (select_values (one me)) gives rows ((text "ann" ∷ []) ∷ [])
    ∷ [])

-- a second BEGIN does not change what ROLLBACK brings back
abbrev pub second_begin_keeps_the_first : Type 0
second_begin_keeps_the_first = Shows (
    r (grant_role "ann" "bob") gives ok tag.GrantRole
    ∷ b (statement.OfSession of_session.Begin) gives ok tag.Begin
    ∷ b (set_role "ann") gives ok tag.Set
    ∷ b (statement.OfSession of_session.Begin) gives warning warning.ActiveTransaction tag.Begin
    ∷ b (statement.OfSession of_session.Rollback) gives ok tag.Rollback
    ∷ b (select_values (one me)) gives rows ((text "bob" ∷ []) ∷ [])
    ∷ [])

-- a role that is dropped under a session may still end its block
abbrev pub dropped_under_a_block : Type 0
dropped_under_a_block = Shows (
    d (statement.OfSession of_session.Begin) gives ok tag.Begin
    ∷ r (drop_role "dan") gives ok tag.DropRole
    ∷ d (select_values (one (num 1))) gives refused state.InvalidAuthorization
    ∷ d (select_values (one (num 1))) gives refused state.InFailedTransaction
    ∷ d (statement.OfSession of_session.Commit) gives ok tag.Rollback
    ∷ d reset_role gives refused state.InvalidAuthorization
    ∷ d (statement.OfSession of_session.Begin) gives refused state.InvalidAuthorization
    ∷ closes 5 gives ok tag.Close
    ∷ opens 5 (codes "dan") gives refused state.InvalidAuthorization
    ∷ [])

-- a role that is made again under its old name is there again
abbrev pub made_again : Type 0
made_again = Shows (
    r (drop_role "dan") gives ok tag.DropRole
    ∷ d (select_values (one me)) gives refused state.InvalidAuthorization
    ∷ r (create_role "dan" []) gives ok tag.CreateRole
    ∷ d (select_values (one me)) gives rows ((text "dan" ∷ []) ∷ [])
    ∷ [])

-- the holder is judged by its own database, another session by the committed one
abbrev pub each_judged_by_what_it_sees : Type 0
each_judged_by_what_it_sees = Shows (
    r (grant_role "ann" "bob") gives ok tag.GrantRole
    ∷ b (set_role "ann") gives ok tag.Set
    ∷ r (statement.OfSession of_session.Begin) gives ok tag.Begin
    ∷ r (revoke_role "ann" "bob") gives ok tag.RevokeRole
    ∷ b (select_values (one me)) gives rows ((text "ann" ∷ []) ∷ [])
    ∷ r (statement.OfSession of_session.Commit) gives ok tag.Commit
    ∷ b (select_values (one me)) gives refused state.InsufficientPrivilege
    ∷ [])

-- one that takes its own set role away in a block is barred at once
abbrev pub barred_in_its_own_block : Type 0
barred_in_its_own_block = Shows (
    r (create_role "boss" attribute_superuser) gives ok tag.CreateRole
    ∷ r (set_role "boss") gives ok tag.Set
    ∷ r (statement.OfSession of_session.Begin) gives ok tag.Begin
    ∷ r (drop_role "dan") gives ok tag.DropRole
    ∷ r (drop_role "boss") gives refused state.DependentObjects
    ∷ r (statement.OfSession of_session.Rollback) gives ok tag.Rollback
    ∷ r (select_values (one me)) gives rows ((text "boss" ∷ []) ∷ [])
    ∷ [])

-- other sessions see nothing of a block before its COMMIT, and all of it from then on, also within their own
-- blocks
abbrev pub block_is_unseen_until_commit : Type 0
block_is_unseen_until_commit = Shows (
    a (grant select_on (the_role "bob")) gives ok tag.Grant
    ∷ a (statement.OfSession of_session.Begin) gives ok tag.Begin
    ∷ a (insert (pair 1 1 ∷ [])) gives inserted 1
    ∷ b select_keys gives no_rows
    ∷ b (statement.OfSession of_session.Begin) gives ok tag.Begin
    ∷ a (update "x" (num 2)) gives updated 1
    ∷ a (select (one (col "x")) from_t) gives numbers (2 ∷ [])
    ∷ b select_keys gives no_rows
    ∷ a (statement.OfSession of_session.Commit) gives ok tag.Commit
    ∷ b (select (col "k" ∷ col "x" ∷ []) from_t) gives number_rows ((1 ∷ 2 ∷ []) ∷ [])
    ∷ [])

-- each statement of a block sees what the ones before it did
abbrev pub statements_see_those_before : Type 0
statements_see_those_before = Shows (
    a (statement.OfSession of_session.Begin) gives ok tag.Begin
    ∷ a (insert (pair 1 1 ∷ pair 2 2 ∷ [])) gives inserted 2
    ∷ a (update "x" (plus (col "x") (num 1))) gives updated 2
    ∷ a (delete_where (eq (col "x") (num 2))) gives deleted 1
    ∷ a (insert (pair 1 7 ∷ [])) gives inserted 1
    ∷ a (update_where "k" (plus (col "k") (num 10)) (eq (col "k") (num 1))) gives updated 1
    ∷ a (statement.OfSession of_session.Commit) gives ok tag.Commit
    ∷ a (select (col "k" ∷ col "x" ∷ []) from_t) gives number_rows ((2 ∷ 3 ∷ []) ∷ (11 ∷ 7 ∷ []) ∷ [])
    ∷ [])

-- a grant of a block counts for its own session at once, and for others from its COMMIT on
abbrev pub grants_of_a_block : Type 0
grants_of_a_block = Shows (
    r (create_role "team" []) gives ok tag.CreateRole
    ∷ r (statement.OfSession of_session.Begin) gives ok tag.Begin
    ∷ r (grant_role "team" "bob") gives ok tag.GrantRole
    ∷ b (set_role "team") gives refused state.InsufficientPrivilege
    ∷ r (statement.OfSession of_session.Commit) gives ok tag.Commit
    ∷ b (set_role "team") gives ok tag.Set
    ∷ r (statement.OfSession of_session.Begin) gives ok tag.Begin
    ∷ r (grant_role "ann" "dan") gives ok tag.GrantRole
    ∷ d select_keys gives refused state.InsufficientPrivilege
    ∷ r (set_role "dan") gives ok tag.Set
    ∷ r select_keys gives no_rows
    ∷ r (statement.OfSession of_session.Rollback) gives ok tag.Rollback
    ∷ d select_keys gives refused state.InsufficientPrivilege
    ∷ [])

-- row security, policies, grants and dropped tables of a block go back with it
abbrev pub row_security_rolls_back : Type 0
row_security_rolls_back = Shows (
    a (insert_key 1) gives inserted 1
    ∷ a (grant select_on (the_role "bob")) gives ok tag.Grant
    ∷ a (statement.OfSession of_session.Begin) gives ok tag.Begin
    ∷ a enable_rls gives ok tag.AlterTable
    ∷ a (create (using (eq (col "k") (num 0)) (policy "p"))) gives ok tag.CreatePolicy
    ∷ b select_keys gives numbers (1 ∷ [])
    ∷ a (revoke select_on (the_role "bob")) gives ok tag.Revoke
    ∷ a (drop_table "t") gives ok tag.DropTable
    ∷ a select_keys gives refused state.UndefinedTable
    ∷ a (statement.OfSession of_session.Rollback) gives ok tag.Rollback
    ∷ b select_keys gives numbers (1 ∷ [])
    ∷ a (drop "p") gives refused state.UndefinedObject
    ∷ [])

-- a session that reads is never refused the writer lock, and in a block it sees a table go that another session
-- drops
abbrev pub readers_go_on : Type 0
readers_go_on = Shows (
    a (insert_key 1) gives inserted 1
    ∷ a (grant select_on (the_role "bob")) gives ok tag.Grant
    ∷ b (statement.OfSession of_session.Begin) gives ok tag.Begin
    ∷ b select_keys gives numbers (1 ∷ [])
    ∷ a (statement.OfSession of_session.Begin) gives ok tag.Begin
    ∷ a (drop_table "t") gives ok tag.DropTable
    ∷ b select_keys gives numbers (1 ∷ [])
    ∷ a (statement.OfSession of_session.Commit) gives ok tag.Commit
    ∷ b select_keys gives refused state.UndefinedTable
    ∷ b (statement.OfSession of_session.Commit) gives ok tag.Rollback
    ∷ [])

-- a block that gives up its own membership loses the privileges at once, and has them back with ROLLBACK
abbrev pub membership_given_up_in_a_block : Type 0
membership_given_up_in_a_block = Shows (
    r (create_role "team" []) gives ok tag.CreateRole
    ∷ r (grant_role_with_admin "team" "bob") gives ok tag.GrantRole
    ∷ a (grant select_on (the_role "team")) gives ok tag.Grant
    ∷ b (statement.OfSession of_session.Begin) gives ok tag.Begin
    ∷ b (revoke_role "team" "bob") gives ok tag.RevokeRole
    ∷ b select_keys gives refused state.InsufficientPrivilege
    ∷ b (statement.OfSession of_session.Rollback) gives ok tag.Rollback
    ∷ b select_keys gives no_rows
    ∷ [])

-- each statement asks for its privilege, within a block too
abbrev pub privilege_lost_in_a_block : Type 0
privilege_lost_in_a_block = Shows (
    a (insert_key 1) gives inserted 1
    ∷ a (grant select_on (the_role "bob")) gives ok tag.Grant
    ∷ b (statement.OfSession of_session.Begin) gives ok tag.Begin
    ∷ b select_keys gives numbers (1 ∷ [])
    ∷ a (revoke select_on (the_role "bob")) gives ok tag.Revoke
    ∷ b select_keys gives refused state.InsufficientPrivilege
    ∷ a (grant select_on (the_role "bob")) gives ok tag.Grant
    ∷ b select_keys gives refused state.InFailedTransaction
    ∷ b (statement.OfSession of_session.Rollback) gives ok tag.Rollback
    ∷ b select_keys gives numbers (1 ∷ [])
    ∷ [])

-- ROLLBACK brings the set role of BEGIN back although the session may not set it any more
abbrev pub set_role_that_is_gone_comes_back : Type 0
set_role_that_is_gone_comes_back = Shows (
    r (create_role "team" []) gives ok tag.CreateRole
    ∷ r (grant_role "team" "bob") gives ok tag.GrantRole
    ∷ b (set_role "team") gives ok tag.Set
    ∷ b (statement.OfSession of_session.Begin) gives ok tag.Begin
    ∷ b reset_role gives ok tag.Reset
    ∷ r (revoke_role "team" "bob") gives ok tag.RevokeRole
    ∷ b (select_values (one me)) gives rows ((text "bob" ∷ []) ∷ [])
    ∷ b (statement.OfSession of_session.Rollback) gives ok tag.Rollback
    ∷ b (select_values (one me)) gives refused state.InsufficientPrivilege
    ∷ b reset_role gives ok tag.Reset
    ∷ b (select_values (one me)) gives rows ((text "bob" ∷ []) ∷ [])
    ∷ [])

-- a role that a block makes may be set within it, and opens a session from the COMMIT on
abbrev pub role_made_in_a_block : Type 0
role_made_in_a_block = Shows (
    r (statement.OfSession of_session.Begin) gives ok tag.Begin
    ∷ r (create_role "eve" can_log_in) gives ok tag.CreateRole
    ∷ opens 6 (codes "eve") gives refused state.InvalidAuthorization
    ∷ r (set_role "eve") gives ok tag.Set
    ∷ r (select_values (one me)) gives rows ((text "eve" ∷ []) ∷ [])
    ∷ r (statement.OfSession of_session.Commit) gives ok tag.Commit
    ∷ opens 6 (codes "eve") gives ok tag.Open
    ∷ r (select_values (one me)) gives rows ((text "eve" ∷ []) ∷ [])
    ∷ [])

-- the names that a failed block made are free again
abbrev pub names_of_a_failed_block : Type 0
names_of_a_failed_block = Shows (
    r (statement.OfSession of_session.Begin) gives ok tag.Begin
    ∷ r (create_role "eve" []) gives ok tag.CreateRole
    ∷ r create_u gives ok tag.CreateTable
    ∷ r (select_values (one (div (num 1) (num 0)))) gives refused state.DivisionByZero
    ∷ r (statement.OfSession of_session.Commit) gives ok tag.Rollback
    ∷ r (create_role "eve" []) gives ok tag.CreateRole
    ∷ b create_u gives ok tag.CreateTable
    ∷ [])

-- eve's session holds the writer lock with a database in which eve was made, and another one of hers does not: no events lead here,
-- since a session is opened for a role that is committed
abbrev pub eve_is_not_committed : Machine
eve_is_not_committed = record ready {
  holder = Some (record { session = 6; database = (machine_after ready (one (r (create_role "eve" can_log_in)))).committed });
  sessions = (6, record { login = codes "eve"; role = codes "eve"; block = Inside (codes "eve") }) ∷ (7, record { login = codes "eve"; role = codes "eve"; block = Outside }) ∷ [];
}

-- whether a login role is gone is judged by what the session sees: the holder by its own database, another by the committed one
abbrev pub login_judged_by_what_it_sees : Type 0
login_judged_by_what_it_sees = AnswersFrom eve_is_not_committed (
    executes 6 (Ok (select_values (one me))) gives rows ((text "eve" ∷ []) ∷ [])
    ∷ executes 7 (Ok (select_values (one me))) gives refused state.InvalidAuthorization
    ∷ executes 6 (Ok (statement.OfSession of_session.Commit)) gives ok tag.Commit
    ∷ executes 7 (Ok (select_values (one me))) gives rows ((text "eve" ∷ []) ∷ [])
    ∷ [])
