-- Which sessions are open, in which order, and what a session begins with.
use Rattle.std.specs.Prelude.{List, Ok, [], codes, ◌∷◌}
use Rattle.sql_types.specs.declared.state.SqlState.TheVariants as state
use Rattle.sql_types.specs.declared.tag.Tag.TheVariants as tag
use Rattle.sql_types.specs.declared.warning.Warning.TheVariants as warning
use Rattle.sql_ast.specs.declared.statement.Statement.TheVariants as statement
use Rattle.sql_ast.specs.declared.statement.SessionStatement.TheVariants as of_session
use Rattle.abstract_database.specs.Machine.{closes, executes, opens}
use Rattle.database_examples.specs.Expressions.{col, me, my_login, num}
use Rattle.database_examples.specs.Wording.{create_role, create_u, drop_role, grant_role, insert_key, one, select_all_of_u, select_values, set_role}
use Rattle.database_examples.specs.Lines.{LeavesOpen, Line, Shows, a, a_misread, b, d, e, inserted, ok, r, refused, rows, text, warning, ◌gives◌}

-- a session that is not open is told so, also after its close, and its number may be opened again
abbrev pub opened_and_closed : Type 0
opened_and_closed = Shows (
    opens 6 (codes "nobody") gives refused state.InvalidAuthorization
    ∷ opens 2 (codes "ann") gives refused state.ConnectionNameInUse
    ∷ closes 2 gives ok tag.Close
    ∷ a (select_values (one (num 1))) gives refused state.ConnectionDoesNotExist
    ∷ closes 2 gives refused state.ConnectionDoesNotExist
    ∷ a_misread state.SyntaxError gives refused state.ConnectionDoesNotExist
    ∷ opens 2 (codes "bob") gives ok tag.Open
    ∷ a (select_values (one my_login)) gives rows ((text "bob" ∷ []) ∷ [])
    ∷ closes 9 gives refused state.ConnectionDoesNotExist
    ∷ [])

-- a session that is opened again has its login role set, and is in no block
abbrev pub sessions_begin_anew : Type 0
sessions_begin_anew = Shows (
    r (create_role "team" []) gives ok tag.CreateRole
    ∷ r (grant_role "team" "bob") gives ok tag.GrantRole
    ∷ b (statement.OfSession of_session.Begin) gives ok tag.Begin
    ∷ b (set_role "team") gives ok tag.Set
    ∷ b (select_values (one (col "zz"))) gives refused state.UndefinedColumn
    ∷ closes 3 gives ok tag.Close
    ∷ opens 3 (codes "bob") gives ok tag.Open
    ∷ b (select_values (one me)) gives rows ((text "bob" ∷ []) ∷ [])
    ∷ b (statement.OfSession of_session.Commit) gives warning warning.NoActiveTransaction tag.Commit
    ∷ [])

-- two sessions of one role have each its own block and set role, and one writer lock between them
abbrev pub two_sessions_of_one_role : Type 0
two_sessions_of_one_role = Shows (
    r (create_role "team" []) gives ok tag.CreateRole
    ∷ r (grant_role "team" "ann") gives ok tag.GrantRole
    ∷ opens 7 (codes "ann") gives ok tag.Open
    ∷ a (statement.OfSession of_session.Begin) gives ok tag.Begin
    ∷ a (set_role "team") gives ok tag.Set
    ∷ executes 7 (Ok (select_values (one me))) gives rows ((text "ann" ∷ []) ∷ [])
    ∷ a create_u gives ok tag.CreateTable
    ∷ executes 7 (Ok (select_all_of_u)) gives refused state.UndefinedTable
    ∷ executes 7 (Ok (insert_key 1)) gives refused state.LockNotAvailable
    ∷ closes 2 gives ok tag.Close
    ∷ executes 7 (Ok (insert_key 1)) gives inserted 1
    ∷ [])

-- a session is opened for a role that is committed, whatever another session's block has done with it
abbrev pub logins_go_by_the_committed_roles : Type 0
logins_go_by_the_committed_roles = Shows (
    r (statement.OfSession of_session.Begin) gives ok tag.Begin
    ∷ r (drop_role "dan") gives ok tag.DropRole
    ∷ opens 6 (codes "dan") gives ok tag.Open
    ∷ d (select_values (one me)) gives rows ((text "dan" ∷ []) ∷ [])
    ∷ r (statement.OfSession of_session.Commit) gives ok tag.Commit
    ∷ d (select_values (one me)) gives refused state.InvalidAuthorization
    ∷ e (select_values (one me)) gives refused state.InvalidAuthorization
    ∷ closes 6 gives ok tag.Close
    ∷ opens 6 (codes "dan") gives refused state.InvalidAuthorization
    ∷ [])

abbrev pub opening_and_closing : List Line
opening_and_closing =
    (opens 9 (codes "bob") gives ok tag.Open)
    ∷ (opens 7 (codes "cid") gives ok tag.Open)
    ∷ (b (statement.OfSession of_session.Begin) gives ok tag.Begin)
    ∷ (closes 2 gives ok tag.Close)
    ∷ (executes 9 (Ok (statement.OfSession of_session.Begin)) gives ok tag.Begin)
    ∷ (opens 2 (codes "ann") gives ok tag.Open)
    ∷ (executes 9 (Ok (statement.OfSession of_session.Commit)) gives ok tag.Commit)
    ∷ []

-- open sessions stand in the order of their opening, whatever they do
abbrev pub order_of_opening : Type 0
order_of_opening = LeavesOpen opening_and_closing (1 ∷ 3 ∷ 4 ∷ 5 ∷ 9 ∷ 7 ∷ 2 ∷ [])

abbrev pub order_of_opening_is_answered : Type 0
order_of_opening_is_answered = Shows opening_and_closing
