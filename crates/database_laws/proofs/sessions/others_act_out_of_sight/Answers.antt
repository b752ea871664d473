use Rattle.database_laws.proofs.OutOfSight.{others_unseen, unseen_all}
use Rattle.database_laws.proofs.UnseenEvents.{event_unseen}
use Rattle.database_laws.proofs.sessions.others_act_out_of_sight.Goals as goal

pub returns-clause-one : goal.returns-clause-one
returns-clause-one c = others_unseen

pub returns-clause-all : goal.returns-clause-all
returns-clause-all c = unseen_all

pub returns-clause-events : goal.returns-clause-events
returns-clause-events c = event_unseen
