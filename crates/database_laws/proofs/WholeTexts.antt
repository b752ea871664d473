-- The conditions of policies come from the statements that make them.
use Rattle.std.proofs.Common.{◌⊎◌, Bool, false, List, ◌++◌, flat_map, length, map, option_to_list, sym, subst, inl, inr}
use Rattle.sql_types.specs.declared.answer.Answer.TheVariants as answer
use Rattle.sql_types.specs.declared.tag.Tag.TheVariants as tag
use Rattle.sql_ast.specs.declared.privilege.Action.TheVariants as action
use Rattle.sql_ast.specs.declared.policy.Policy.{Policy}
use Rattle.sql_ast.specs.declared.policy.PolicyClause.{PolicyClause}
use Rattle.sql_ast.specs.declared.statement.DatabaseStatement.{DatabaseStatement}
use Rattle.sql_ast.specs.declared.statement.DatabaseStatement.TheVariants as on_database
use Rattle.sql_ast.specs.declared.statement.RowStatement.{RowStatement}
use Rattle.sql_ast.specs.declared.statement.RowStatement.TheVariants as over_rows
use Rattle.sql_ast.specs.Statements.{clauses_on_database}
use Rattle.abstract_database.specs.Lists.{Among, put, the_new, drop_where}
use Rattle.abstract_database.specs.Database.{Database, policy_cmp, rows_named}
use Rattle.abstract_database.specs.Definitions.{with_rows_of}
use Rattle.abstract_database.specs.Guards.{existing_guard, new_guard}
use Rattle.abstract_database.specs.Changes.{rows_inserted, rows_updated, rows_deleted}
use Rattle.abstract_database.specs.Queries.{query}
use Rattle.abstract_database.specs.Checks.{checked_insert, checked_update, checked_delete, checked_select}
use Rattle.expressions.specs.Meaning.{UserNames}
use Rattle.abstract_database.specs.Statements.{Effect, effect, counted, source_of, inserted, updated, deleted, selected, exec_over_rows}
use Rattle.abstract_database.specs.Whole.{Each, clauses_of}
use Rattle.abstract_database.proofs.ResultLemmas.{Every, every_bind, every_ok}
use Rattle.database_laws.proofs.WholeLists.{PutFrom, fresh, there, merged, of_put, of_drop, of_flat_map, into_flat_map}

abbrev pub conditions_of : Policy → List PolicyClause
conditions_of p = option_to_list p.using ++ option_to_list p.check

-- a condition of the database before, or of the statement
abbrev pub IsKnown : Database → DatabaseStatement → PolicyClause → Type 0
IsKnown db x c = Among c (clauses_of db) ⊎ Among c (clauses_on_database x)

abbrev pub AreKnown : Database → DatabaseStatement → Effect → Type 0
AreKnown db x e = Each (IsKnown db x) (clauses_of e.database)

pub fewer_known : (db : Database) (x : DatabaseStatement) (test : Policy → Bool) → Each (IsKnown db x) (flat_map conditions_of (drop_where test db.policies))
fewer_known db x test c h =
    let from = of_flat_map conditions_of (drop_where test db.policies) c h in
    inl (into_flat_map conditions_of db.policies from.0 c (of_drop test db.policies from.0 from.1).0 from.2)

pub one_more_known : (db : Database) (x : DatabaseStatement) (p : Policy) → Each (λ (c : PolicyClause). Among c (clauses_on_database x)) (conditions_of p) → Each (IsKnown db x) (flat_map conditions_of (put policy_cmp the_new p db.policies))
one_more_known db x p read c h = known (of_flat_map conditions_of (put policy_cmp the_new p db.policies) c h) where
  from : (q : Policy) → Among c (conditions_of q) → PutFrom policy_cmp the_new p db.policies q → IsKnown db x c
  from q k (fresh is) = inr (read c (subst (λ (r : Policy). Among c (conditions_of r)) (sym is) k))
  from q k (there j) = inl (into_flat_map conditions_of db.policies q c j k)
  from q k (merged y j e is) = inr (read c (subst (λ (r : Policy). Among c (conditions_of r)) (sym is) k))

  known : (q : Policy) × Among q (put policy_cmp the_new p db.policies) × Among c (conditions_of q) → IsKnown db x c
  known at = from at.0 at.2 (of_put policy_cmp the_new p db.policies at.0 at.1)

pub over_rows_known : (db : Database) (users : UserNames) (x : RowStatement) →
    Every (AreKnown db (on_database.OverRows x)) (exec_over_rows db users x)
over_rows_known db users (over_rows.Insert s) = every_bind (AreKnown db (on_database.OverRows (over_rows.Insert s))) (checked_insert db users s) (inserted db users) (λ c c-is. every_bind (AreKnown db (on_database.OverRows (over_rows.Insert s))) (rows_inserted (new_guard db users c.table action.Insert false) users c (rows_named db c.table.name)) _
    (λ rows rows-is. every_ok (AreKnown db (on_database.OverRows (over_rows.Insert s))) (counted tag.Insert (length c.rows) (with_rows_of c.table.name rows db)) (λ k h. inl h)))
over_rows_known db users (over_rows.Update s) = every_bind (AreKnown db (on_database.OverRows (over_rows.Update s))) (checked_update db users s) (updated db users) (λ c c-is. every_bind (AreKnown db (on_database.OverRows (over_rows.Update s))) (rows_updated (existing_guard db users c.table action.Update c.reads) (new_guard db users c.table action.Update c.reads) users c (rows_named db c.table.name)) _
    (λ changed changed-is. every_ok (AreKnown db (on_database.OverRows (over_rows.Update s))) (counted tag.Update changed.count (with_rows_of c.table.name changed.rows db)) (λ k h. inl h)))
over_rows_known db users (over_rows.Delete s) = every_bind (AreKnown db (on_database.OverRows (over_rows.Delete s))) (checked_delete db users s) (deleted db users) (λ c c-is. every_bind (AreKnown db (on_database.OverRows (over_rows.Delete s))) (rows_deleted (existing_guard db users c.table action.Delete c.reads) users c (rows_named db c.table.name)) _
    (λ changed changed-is. every_ok (AreKnown db (on_database.OverRows (over_rows.Delete s))) (counted tag.Delete changed.count (with_rows_of c.table.name changed.rows db)) (λ k h. inl h)))
over_rows_known db users (over_rows.Select s) = every_bind (AreKnown db (on_database.OverRows (over_rows.Select s))) (checked_select db users s) (selected db users) (λ c c-is. every_bind (AreKnown db (on_database.OverRows (over_rows.Select s))) (query (map (source_of db users) c.tables) users c.query) _ (λ rows rows-is. every_ok (AreKnown db (on_database.OverRows (over_rows.Select s))) (effect (answer.Rows rows) db) (λ k h. inl h)))
