use Rattle.std.proofs.Common.{◌++◌, refl}
use Rattle.postgres_logins.specs.Logins.{is_admitted}
use Rattle.postgres_logins.specs.FrontLaws.{front_more_if, bad_more_if}
use Rattle.login_laws.specs.Shown.{ShowedPasswordInMessages}
use Rattle.login_laws.proofs.Entitling.{wanted_so, opened_as, answered_so}
use Rattle.login_laws.proofs.Entered.{in_messages}
use Rattle.login_laws.proofs.laws.postgres_sessions_are_of_who_showed_the_password.Goals as goal

pub returns-clause-wanted : goal.returns-clause-wanted
returns-clause-wanted g c =
    let met = g.met.T.Talk in
    wanted_so g.X.EventHandler.Reads g.S.Map.state _ g.C.ServedClients (λ talk. talk.login.place) (λ talk. talk.login.drawn) (ShowedPasswordInMessages g.S.Map.state)
    (λ t bytes more n is. front_more_if (is_admitted t.login.stage) t.login.stage (g.T.Talk.front t.talk bytes) (g.T.Talk.front t.talk (bytes ++ more)) bytes more n (λ it. met.front_more t.talk bytes more n it) is)
    (λ t bytes more is. bad_more_if (is_admitted t.login.stage) t.login.stage (g.T.Talk.front t.talk bytes) (g.T.Talk.front t.talk (bytes ++ more)) bytes more (λ it. met.bad_more t.talk bytes more it) is)
    (λ talk last sent said rest xs starts heard finds.
    in_messages g.S.Map.state g.T.Talk _ (λ t. refl) (λ t bytes. refl) (λ t u message said h. h) (λ t u said h. h) (λ t u r said h. h) talk last sent said rest xs starts.0 starts.1 starts.2 heard finds)

pub returns-clause-opened : goal.returns-clause-opened
returns-clause-opened g c =
    let met = g.met.T.Talk in
    opened_as g.X.EventHandler.Reads g.S.Map.state _ g.C.ServedClients (λ talk. talk.login.place) (λ talk. talk.login.drawn) (ShowedPasswordInMessages g.S.Map.state)
    (λ t bytes more n is. front_more_if (is_admitted t.login.stage) t.login.stage (g.T.Talk.front t.talk bytes) (g.T.Talk.front t.talk (bytes ++ more)) bytes more n (λ it. met.front_more t.talk bytes more n it) is)
    (λ t bytes more is. bad_more_if (is_admitted t.login.stage) t.login.stage (g.T.Talk.front t.talk bytes) (g.T.Talk.front t.talk (bytes ++ more)) bytes more (λ it. met.bad_more t.talk bytes more it) is)
    (λ talk last sent said rest xs starts heard finds.
    in_messages g.S.Map.state g.T.Talk _ (λ t. refl) (λ t bytes. refl) (λ t u message said h. h) (λ t u said h. h) (λ t u r said h. h) talk last sent said rest xs starts.0 starts.1 starts.2 heard finds)

pub returns-clause-answered : goal.returns-clause-answered
returns-clause-answered g c =
    let met = g.met.T.Talk in
    answered_so g.X.EventHandler.Reads g.S.Map.state _ g.C.ServedClients (λ talk. talk.login.place) (λ talk. talk.login.drawn) (ShowedPasswordInMessages g.S.Map.state)
    (λ t bytes more n is. front_more_if (is_admitted t.login.stage) t.login.stage (g.T.Talk.front t.talk bytes) (g.T.Talk.front t.talk (bytes ++ more)) bytes more n (λ it. met.front_more t.talk bytes more n it) is)
    (λ t bytes more is. bad_more_if (is_admitted t.login.stage) t.login.stage (g.T.Talk.front t.talk bytes) (g.T.Talk.front t.talk (bytes ++ more)) bytes more (λ it. met.bad_more t.talk bytes more it) is)
    (λ talk last sent said rest xs starts heard finds.
    in_messages g.S.Map.state g.T.Talk _ (λ t. refl) (λ t bytes. refl) (λ t u message said h. h) (λ t u said h. h) (λ t u r said h. h) talk last sent said rest xs starts.0 starts.1 starts.2 heard finds)
