use Rattle.served_tenants.proofs.Telling.{told_by_servers, opened_alike}
use Rattle.served_tenants.proofs.servers.servers_tell_clients_what_they_see.Goals as goal

pub returns-clause-told : goal.returns-clause-told
returns-clause-told g c =
    told_by_servers c.stored_databases_are_whole.ensures.stored c.whole_databases_are_sound.ensures _ _ _ _ _ _ _ _
    g.X.EventHandler.Reads g.S.Map.state g.Z.Map.state g.T.Talk g.U.Talk g.C.ServedClients g.D.ServedClients

pub returns-clause-opened : goal.returns-clause-opened
returns-clause-opened g c = opened_alike
