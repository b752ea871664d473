use Rattle.store.proofs.InOrder.{start_ordered}
use Rattle.store.proofs.Turns.{changes_in_turn, end_ordered}
use Rattle.store.proofs.laws.changes_in_turn.Goals as goal

pub returns-clause-made : goal.returns-clause-made
returns-clause-made c = changes_in_turn

pub returns-clause-first : goal.returns-clause-first
returns-clause-first c = λ cs ds. start_ordered cs ds

pub returns-clause-second : goal.returns-clause-second
returns-clause-second c = λ cs ds. end_ordered cs ds
