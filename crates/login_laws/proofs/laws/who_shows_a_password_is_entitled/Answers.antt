use Rattle.login_laws.proofs.Runs.{met, met_there, in_frames, in_messages, texts, recorded, recorded_there}
use Rattle.login_laws.proofs.laws.who_shows_a_password_is_entitled.Goals as goal

pub returns-clause-met : goal.returns-clause-met
returns-clause-met g c = met g.S.Map.state

pub returns-clause-postgres_met : goal.returns-clause-postgres_met
returns-clause-postgres_met g c = met_there g.S.Map.state

pub returns-clause-others : goal.returns-clause-others
returns-clause-others g c = in_frames g.S.Map.state

pub returns-clause-postgres_others : goal.returns-clause-postgres_others
returns-clause-postgres_others g c = in_messages g.S.Map.state

pub returns-clause-texts : goal.returns-clause-texts
returns-clause-texts g c = texts g.S.Map.state

pub returns-clause-recorded : goal.returns-clause-recorded
returns-clause-recorded g c = recorded g.S.Map.state

pub returns-clause-postgres_recorded : goal.returns-clause-postgres_recorded
returns-clause-postgres_recorded g c = recorded_there g.S.Map.state
