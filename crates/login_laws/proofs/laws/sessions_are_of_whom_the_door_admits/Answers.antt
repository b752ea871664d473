use Rattle.std.proofs.Common.{[]}
use Rattle.login_laws.specs.Shown.{MayComeIn}
use Rattle.login_laws.proofs.Entitling.{wanted_so, opened_as, answered_so}
use Rattle.login_laws.proofs.Placed.{door_entitled}
use Rattle.login_laws.proofs.laws.sessions_are_of_whom_the_door_admits.Goals as goal

pub returns-clause-wanted : goal.returns-clause-wanted
returns-clause-wanted g c =
    let met = g.met.T.Talk in
    wanted_so g.X.EventHandler.Reads g.S.Map.state _ g.C.ServedClients (λ talk. talk.door) (λ talk. []) MayComeIn
    (λ t bytes more n is. met.front_more t.talk bytes more n is)
    (λ t bytes more is. met.bad_more t.talk bytes more is)
    (λ talk last sent said rest xs starts heard finds. door_entitled g.T.Talk talk last sent said rest xs heard)

pub returns-clause-opened : goal.returns-clause-opened
returns-clause-opened g c =
    let met = g.met.T.Talk in
    opened_as g.X.EventHandler.Reads g.S.Map.state _ g.C.ServedClients (λ talk. talk.door) (λ talk. []) MayComeIn
    (λ t bytes more n is. met.front_more t.talk bytes more n is)
    (λ t bytes more is. met.bad_more t.talk bytes more is)
    (λ talk last sent said rest xs starts heard finds. door_entitled g.T.Talk talk last sent said rest xs heard)

pub returns-clause-answered : goal.returns-clause-answered
returns-clause-answered g c =
    let met = g.met.T.Talk in
    answered_so g.X.EventHandler.Reads g.S.Map.state _ g.C.ServedClients (λ talk. talk.door) (λ talk. []) MayComeIn
    (λ t bytes more n is. met.front_more t.talk bytes more n is)
    (λ t bytes more is. met.bad_more t.talk bytes more is)
    (λ talk last sent said rest xs starts heard finds. door_entitled g.T.Talk talk last sent said rest xs heard)
