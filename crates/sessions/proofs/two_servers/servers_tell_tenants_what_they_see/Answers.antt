use Rattle.sessions.proofs.TwoServers.{told, opened_told, steps_alike, others_unseen}
use Rattle.sessions.proofs.two_servers.servers_tell_tenants_what_they_see.Goals as goal

pub returns-clause-told : goal.returns-clause-told
returns-clause-told g c = told c.one_reading.ensures c.stored_databases_are_whole.ensures.stored c.whole_databases_are_sound.ensures g.S.Map.state g.T.Map.state

pub returns-clause-opened : goal.returns-clause-opened
returns-clause-opened g c = opened_told c.one_reading.ensures c.stored_databases_are_whole.ensures.stored c.whole_databases_are_sound.ensures g.S.Map.state g.T.Map.state

pub returns-clause-step : goal.returns-clause-step
returns-clause-step g c = steps_alike c.one_reading.ensures c.stored_databases_are_whole.ensures.stored c.whole_databases_are_sound.ensures g.S.Map.state g.T.Map.state

pub returns-clause-others : goal.returns-clause-others
returns-clause-others g c = others_unseen c.one_reading.ensures c.stored_databases_are_whole.ensures.stored c.whole_databases_are_sound.ensures g.S.Map.state g.T.Map.state
