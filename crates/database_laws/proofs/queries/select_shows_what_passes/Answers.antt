use Rattle.std.proofs.Common.{ap}
use Rattle.abstract_database.specs.Statements.{Effect}
use Rattle.database_laws.proofs.SelectLemmas.{selected_steps, shown, all_shown}
use Rattle.database_laws.proofs.AnswerLemmas.{made_of_passing, made_of_all}
use Rattle.database_laws.proofs.queries.select_shows_what_passes.Goals as goal

pub returns-clause-passed : goal.returns-clause-passed
returns-clause-passed c = λ db users name table condition order limit rows t e. shown db users name table condition order limit rows t e

pub returns-clause-shown : goal.returns-clause-shown
returns-clause-shown c = all_shown

pub returns-clause-unchanged : goal.returns-clause-unchanged
returns-clause-unchanged c = λ db users s e h. ap (λ (x : Effect). x.database) (selected_steps db users s e h).is

pub returns-clause-made_of_passing : goal.returns-clause-made_of_passing
returns-clause-made_of_passing c = made_of_passing

pub returns-clause-all_passing : goal.returns-clause-all_passing
returns-clause-all_passing c = made_of_all
