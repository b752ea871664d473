use Rattle.database_laws.specs.Tables.{HasDistinctKeys, KeepsNotNull, HasTypes, IsTyped}
use Rattle.abstract_database.specs.Changes.{IsInKeyOrder}
use Rattle.abstract_database.specs.Statements.{as_seen}
use Rattle.database_laws.proofs.StatementLemmas.{lasts}
use Rattle.database_laws.proofs.SoundLemmas.{Any, distinct, not_null, in_order, typed}
use Rattle.database_laws.proofs.tables.rows_stay_sound.Goals as goal

pub returns-clause-distinct : goal.returns-clause-distinct
returns-clause-distinct c = λ db pair x e is q. lasts HasDistinctKeys Any distinct db (as_seen pair db) x e is (λ t h. tt) q

pub returns-clause-not_null : goal.returns-clause-not_null
returns-clause-not_null c = λ db pair x e is q. lasts KeepsNotNull Any not_null db (as_seen pair db) x e is (λ t h. tt) q

pub returns-clause-types : goal.returns-clause-types
returns-clause-types c = λ db pair x e is q. lasts IsTyped Any typed db (as_seen pair db) x e is (λ t h. tt) q

pub returns-clause-in_order : goal.returns-clause-in_order
returns-clause-in_order c = λ db pair x e is types q. lasts IsInKeyOrder HasTypes in_order db (as_seen pair db) x e is (λ t h. (lasts IsTyped Any typed db (as_seen pair db) x e is (λ u k. tt) types t h).1) q
