use Rattle.talks.proofs.Dropping.{are_of_clients}
use Rattle.talks.proofs.laws.sessions_are_of_clients_there.Goals as goal

pub returns : goal.returns
returns g c =
    let laws = g.met.M.Machine in
    λ old before turns new after sound took are. are_of_clients g.M.Machine g.T.Talk g.C.ServedClients laws.steps_sound laws.tells_sound laws.closes_sound laws.steps_open laws.tells_open laws.closes_open laws.steps_stopped laws.tells_stopped laws.closes_stopped old before turns new after sound took are
