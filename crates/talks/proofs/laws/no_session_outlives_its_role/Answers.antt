use Rattle.talks.proofs.Dropping.{outlived_by_none}
use Rattle.talks.proofs.laws.no_session_outlives_its_role.Goals as goal

pub returns : goal.returns
returns g c =
    let laws = g.met.M.Machine in
    λ old before d ds turns new after role sound are took was lacks serves e n has.
    outlived_by_none g.M.Machine g.T.Talk g.C.ServedClients laws.steps_sound laws.tells_sound laws.closes_sound laws.steps_open laws.tells_open laws.closes_open laws.steps_stopped laws.tells_stopped laws.closes_stopped laws.lacks_running laws.steps_roles laws.closes_roles role old before d ds turns new after sound are took was lacks serves e n has
