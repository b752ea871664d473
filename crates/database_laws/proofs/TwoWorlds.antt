-- Statements over two databases of which their users see the same.
use Rattle.std.proofs.Common.{◌≡◌, true, Result, Ok, Err, sym, ap, ◌∙◌, subst}
use Rattle.sql_types.specs.declared.state.SqlState.{SqlState}
use Rattle.sql_ast.specs.declared.statement.DatabaseStatement.TheVariants as on_database
use Rattle.sql_ast.specs.declared.statement.RowStatement.{RowStatement}
use Rattle.sql_ast.specs.declared.statement.RowStatement.TheVariants as over_rows
use Rattle.expressions.specs.Meaning.{UserNames}
use Rattle.abstract_database.specs.Database.{Database}
use Rattle.abstract_database.specs.Statements.{Effect, as_seen, exec_as, exec}
use Rattle.database_laws.specs.Invariants.{IsSound}
use Rattle.database_laws.specs.Worlds.{is_told, SameApparentRows, EndAlike, EndAlikeWithoutKeys, EndAgreeing, two_worlds, worlds_agree}
use Rattle.database_laws.proofs.WorldLemmas.{same_definitions}
use Rattle.database_laws.proofs.AlikeLemmas.{delete_ends_alike}
use Rattle.database_laws.proofs.AlikeWriteLemmas.{insert_ends_alike, update_ends_alike}
use Rattle.database_laws.proofs.AlikeSelectLemmas.{select_ends_alike, agree_of_alike, alike_of_agree}

ends_for : (users : UserNames) (d e : Database) (x : RowStatement) → is_told x ≡ true → IsSound d → IsSound e → SameApparentRows users d e →
    EndAlikeWithoutKeys users (exec_as d users (on_database.OverRows x)) (exec_as e users (on_database.OverRows x))
ends_for users d e (over_rows.Select s) told on_d on_e alike m n = select_ends_alike users d e alike s
ends_for users d e (over_rows.Insert s) told on_d on_e alike m n = insert_ends_alike users d e alike s on_d on_e m n
ends_for users d e (over_rows.Update s) told on_d on_e alike m n = update_ends_alike users d e alike s told on_d on_e m n
ends_for users d e (over_rows.Delete s) told on_d on_e alike m n = delete_ends_alike users d e alike s told

-- over the other database the users are the same
pub ends_alike : two_worlds
ends_alike pair d e x told on_d on_e alike =
    subst (λ (r : Result Effect SqlState). EndAlikeWithoutKeys (as_seen pair d) (exec d pair (on_database.OverRows x)) r)
    (ap (λ (db : Database). exec_as e (as_seen pair db) (on_database.OverRows x)) alike.definitions) (ends_for (as_seen pair d) d e x told on_d on_e alike)

agreeing : (users : UserNames) (r s : Result Effect SqlState) → EndAlike users r s → EndAgreeing users r s
agreeing users (Ok a) (Ok b) h = (h.0, agree_of_alike users a.database b.database h.1)
agreeing users (Err c) (Err k) h = h
agreeing users (Ok a) (Err k) h = h
agreeing users (Err c) (Ok b) h = h

pub ends_agreeing : worlds_agree
ends_agreeing pair d e x told on_d on_e agree on_both on_other m n =
    agreeing (as_seen pair d) (exec d pair (on_database.OverRows x)) (exec e pair (on_database.OverRows x))
    (ends_alike pair d e x told on_d on_e
    (alike_of_agree (as_seen pair d) d e agree on_both.select on_both.update on_both.delete on_other.select on_other.update on_other.delete (λ t h. sym (same_definitions (as_seen pair d) d e agree t.name) ∙ h)) m n)
