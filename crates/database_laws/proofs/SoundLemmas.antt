-- What statements keep of tables.
use Rattle.std.proofs.Common.{◌≡◌, Ok, sym, ap, ◌∙◌, subst}
use Rattle.abstract_database.specs.Lists.{Among, Rising}
use Rattle.abstract_database.specs.Database.{Table, Database}
use Rattle.sql_ast.specs.declared.statement.DatabaseStatement.{DatabaseStatement}
use Rattle.expressions.specs.Meaning.{UserNames}
use Rattle.abstract_database.specs.Statements.{Effect, as_seen, exec_as}
use Rattle.abstract_database.specs.Changes.{has_double_key, keeps_not_null, IsInKeyOrder}
use Rattle.sql_ast.specs.Rows.{row_cmp}
use Rattle.database_laws.specs.Tables.{HasDistinctKeys, KeepsNotNull, HasTypes, IsTyped}
use Rattle.database_laws.specs.Invariants.{IsStatementInvariant, IsSound}
use Rattle.database_laws.proofs.RowLemmas.{written_distinct, written_not_null, written_rising, written_types}
use Rattle.database_laws.proofs.StatementLemmas.{lasts}
use Rattle.database_laws.proofs.TableLemmas.{Lasts}

-- nothing is required of the tables after the statement
abbrev pub Any : Table → Type 0
Any t = Unit {0}

pub distinct : Lasts HasDistinctKeys Any
distinct = record {
  at_first = λ t e d. ap (has_double_key t.definition.layout.key) e;
  with_flags = λ old t e f q. ap (λ rows. has_double_key t.definition.layout.key rows) e ∙ ap (λ layout. has_double_key layout.key old.rows) f ∙ q;
  with_rows = λ old rows r q w. written_distinct old rows q w;
}

pub not_null : Lasts KeepsNotNull Any
not_null = record {
  at_first = λ t e d row h. absurd (subst (λ rows. Among row rows) e h);
  with_flags = λ old t e f q row h. ap (λ layout. keeps_not_null layout.columns row) f ∙ q row (subst (λ rows. Among row rows) e h);
  with_rows = λ old rows r q w. written_not_null old rows q w;
}

pub in_order : Lasts IsInKeyOrder HasTypes
in_order = record {
  at_first = λ t e d. subst (λ rows. Rising (row_cmp t.definition.layout.key) rows) (sym e) tt;
  with_flags = λ old t e f q. subst (λ rows. Rising (row_cmp t.definition.layout.key) rows) (sym e) (subst (λ layout. Rising (row_cmp layout.key) old.rows) (sym f) q);
  with_rows = λ old rows r q w. written_rising old rows r q w;
}

pub typed : Lasts IsTyped Any
typed = record {
  at_first = λ t e d. (d, λ row h. absurd (subst (λ rows. Among row rows) e h));
  with_flags = λ old t e f q. subst (λ layout. IsTyped (record old { definition = record old.definition { layout = layout }; rows = t.rows })) (sym f) (subst (λ rows. IsTyped (record old { rows = rows })) (sym e) q);
  with_rows = λ old rows r q w. (q.0, written_types old rows q.0 q.1 w);
}

pub sound_for : (db : Database) (users : UserNames) (x : DatabaseStatement) (e : Effect) → exec_as db users x ≡ Ok e → IsSound db → IsSound e.database
sound_for db users x e is q = (
  lasts IsTyped Any typed db users x e is (λ t h. tt) q.0,
  lasts IsInKeyOrder HasTypes in_order db users x e is (λ t h. (lasts IsTyped Any typed db users x e is (λ u k. tt) q.0 t h).1) q.1,
  lasts HasDistinctKeys Any distinct db users x e is (λ t h. tt) q.2,
  lasts KeepsNotNull Any not_null db users x e is (λ t h. tt) q.3,
)

pub sound : IsStatementInvariant IsSound
sound db pair x e is q = sound_for db (as_seen pair db) x e is q
