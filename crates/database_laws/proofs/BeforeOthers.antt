-- What others see of two databases after one INSERT or UPDATE over both.
use Rattle.std.proofs.Common.{◌≡◌, true, Result, Ok, Err, sym, ◌∙◌, subst}
use Rattle.sql_types.specs.declared.state.SqlState.{SqlState}
use Rattle.sql_types.specs.declared.state.SqlState.TheVariants.{UniqueViolation}
use Rattle.sql_ast.specs.declared.privilege.Action.TheVariants as action
use Rattle.sql_ast.specs.declared.statement.DatabaseStatement.TheVariants as on_database
use Rattle.sql_ast.specs.declared.statement.RowStatement.{RowStatement}
use Rattle.sql_ast.specs.declared.statement.RowStatement.TheVariants as over_rows
use Rattle.expressions.specs.Meaning.{UserNames}
use Rattle.abstract_database.specs.Database.{Database}
use Rattle.abstract_database.specs.Statements.{Effect, insert, update, exec_as}
use Rattle.abstract_database.proofs.CheckLemmas.{update_checked}
use Rattle.database_laws.specs.Invariants.{IsSound}
use Rattle.database_laws.specs.Worlds.{SameApparentRows, inserts_before_others, updates_before_others}
use Rattle.database_laws.proofs.ReadingLemmas.{update_as_written}
use Rattle.database_laws.proofs.AlikeLemmas.{PassesOver, silent_not_updated}
use Rattle.database_laws.proofs.AlikeWriteLemmas.{FailsByKey, WriteAlike, left_alike, insert_writes, insert_checks, without_keys, update_writes}

-- what was carried out did not fail
not_by_key : (r : Result Effect SqlState) (a : Effect) → r ≡ Ok a → FailsByKey r → ⊥
not_by_key r a is fails = let wrong : ◌≡◌ {A = Result Effect SqlState} (Ok a) (Err UniqueViolation) = sym is ∙ fails in cc

module _ (users v : UserNames) (d e : Database) (on_d : IsSound d) (on_e : IsSound e) (own : SameApparentRows users d e) (others : SameApparentRows v d e) where
  left : (x : RowStatement) (a b : Effect) → exec_as d users (on_database.OverRows x) ≡ Ok a → exec_as e users (on_database.OverRows x) ≡ Ok b →
      WriteAlike users d e own (exec_as d users (on_database.OverRows x)) (exec_as e users (on_database.OverRows x)) → SameApparentRows v a.database b.database
  left x a b f g w =
      left_alike users d e own (on_database.OverRows x) on_d on_e v others a b f g
      (subst (λ (r : Result Effect SqlState). WriteAlike users d e own (Ok a) r) g
      (subst (λ (r : Result Effect SqlState). WriteAlike users d e own r (exec_as e users (on_database.OverRows x))) f w))

pub insert_for_others : inserts_before_others
insert_for_others users v d e s a b on_d on_e own others f g =
    left users v d e on_d on_e own others (over_rows.Insert s) a b f g
    (insert_writes users d e own s (insert_checks users d e own s (not_by_key (insert d users s) a f) (not_by_key (insert e users s) b g)))

pub update_for_others : updates_before_others
update_for_others users v d e s a b reads on_d on_e own others f g =
    left users v d e on_d on_e own others (over_rows.Update s) a b f g
    (update_writes users d e own s (without_keys users d e own s (λ c is.
    let told : c.reads ≡ true = update_as_written d users s c (update_checked d users s c is) ∙ reads in
    subst (PassesOver d users c.table action.Update) (sym told) (silent_not_updated d users c.table))
    (not_by_key (update d users s) a f) (not_by_key (update e users s) b g)))
