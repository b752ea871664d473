-- What BEGIN, SET ROLE, RESET ROLE and SELECT do in an open session.
use Rattle.std.proofs.Common.{◌≡◌, ◌∙◌, false, unwrap_or, Option, Some, None, Ok, refl, sym, ap}
use Rattle.sql_types.specs.declared.state.SqlState.TheVariants.{UndefinedObject, InsufficientPrivilege}
use Rattle.sql_types.specs.declared.tag.Tag.TheVariants as tag
use Rattle.sql_ast.specs.declared.statement.Statement.TheVariants as statement
use Rattle.sql_ast.specs.declared.statement.DatabaseStatement.TheVariants as on_database
use Rattle.sql_ast.specs.declared.statement.RowStatement.TheVariants as over_rows
use Rattle.sql_ast.specs.declared.statement.SessionStatement.TheVariants as of_session
use Rattle.expressions.specs.Stages.{require}
use Rattle.abstract_database.specs.Database.{Database, has_role}
use Rattle.abstract_database.specs.Roles.{may_set_role}
use Rattle.abstract_database.specs.Lists.{TheName}
use Rattle.abstract_database.specs.Statements.{exec}
use Rattle.abstract_database.specs.Machine.{Session, succeeds, users_of, as_role, with_session_changed, seen, begin, commit, rollback, with_role_set, applied}
use Rattle.abstract_database.proofs.ResultLemmas.{ok_inside, bind_ok}
use Rattle.database_laws.specs.Blocks.{executed, begin_starts_a_block, begin_warns_in_a_block, ends_warn_outside, selects_change_nothing}
use Rattle.database_laws.specs.Rights.{roles_are_set, roles_are_reset}
use Rattle.database_laws.proofs.BlockLemmas.{executed_in}
use Rattle.database_laws.proofs.SetRoleLemmas.{performed_by}

-- ---- blocks

pub block_started : begin_starts_a_block
block_started m number s o b h =
    let p = performed_by m number s (statement.OfSession of_session.Begin) o refl h in
    sym (ok_inside (begin m number s s.block) (executed m number (Ok (statement.OfSession of_session.Begin))) p.does) ∙ ap (begin m number s) b

pub start_warned : begin_warns_in_a_block
start_warned m number s role o b h =
    let p = performed_by m number s (statement.OfSession of_session.Begin) o refl h in
    sym (ok_inside (begin m number s s.block) (executed m number (Ok (statement.OfSession of_session.Begin))) p.does) ∙ ap (begin m number s) b

pub ends_warned : ends_warn_outside
ends_warned m number s o b = (
  executed_in m number s (Ok (statement.OfSession of_session.Commit)) o ∙ ap (commit m number s) b,
  executed_in m number s (Ok (statement.OfSession of_session.Rollback)) o ∙ ap (rollback m number s) b,
)

-- ---- SELECT

pub selected_unchanged : selects_change_nothing
selected_unchanged m number s x o h =
    let p = performed_by m number s (statement.OnDatabase (on_database.OverRows (over_rows.Select x))) o refl h in
    let t = executed m number (Ok (statement.OnDatabase (on_database.OverRows (over_rows.Select x)))) in
    let found = bind_ok (exec (seen m number) (users_of s) (on_database.OverRows (over_rows.Select x))) (λ e. Ok (applied m number s false e)) t p.does in
    (found.0, found.1, sym (ok_inside (applied m number s false found.0) t found.2))

-- ---- the role that is set

set_as : (db : Database) (s : Session) (role : Option TheName) (changed : Session) → with_role_set db s role ≡ Ok changed → as_role (unwrap_or role s.login) s ≡ changed
set_as db s None changed e = ok_inside (as_role s.login s) changed e
set_as db s (Some role) changed e =
    let named = bind_ok (require (has_role db role) UndefinedObject) _ changed e in
    let allowed = bind_ok (require (may_set_role db s.login role) InsufficientPrivilege) _ changed named.2 in
    ok_inside (as_role role s) changed allowed.2

pub role_set_alone : roles_are_set
role_set_alone m number s r o h =
    let t = executed m number (Ok (statement.OfSession (of_session.SetRole r))) in
    let p = performed_by m number s (statement.OfSession (of_session.SetRole r)) o refl h in
    let done = bind_ok (with_role_set (seen m number) s r.role) (λ (c : Session). Ok (succeeds tag.Set (with_session_changed m number c))) t p.does in
    sym (ok_inside (succeeds tag.Set (with_session_changed m number done.0)) t done.2)
    ∙ ap (λ c. succeeds tag.Set (with_session_changed m number c)) (sym (set_as (seen m number) s r.role done.0 done.1))

pub role_reset : roles_are_reset
role_reset m number s o h =
    let p = performed_by m number s (statement.OfSession of_session.ResetRole) o refl h in
    sym (ok_inside (succeeds tag.Reset (with_session_changed m number (as_role s.login s))) (executed m number (Ok (statement.OfSession of_session.ResetRole))) p.does)
