use Rattle.database_laws.specs.Invariants.{IsSound}
use Rattle.abstract_database.specs.Statements.{as_seen}
use Rattle.abstract_database.specs.Whole.{IsInOrder}
use Rattle.database_laws.proofs.SoundLemmas.{sound}
use Rattle.database_laws.proofs.OrderLemmas.{ordered}
use Rattle.database_laws.proofs.LastingLemmas.{transition_holds}
use Rattle.database_laws.proofs.tables.databases_stay_sound.Goals as goal

pub returns-clause-tables : goal.returns-clause-tables
returns-clause-tables c = transition_holds IsSound sound

pub returns-clause-lists : goal.returns-clause-lists
returns-clause-lists c = transition_holds IsInOrder (λ db pair x e is q. ordered db (as_seen pair db) x e is q)
