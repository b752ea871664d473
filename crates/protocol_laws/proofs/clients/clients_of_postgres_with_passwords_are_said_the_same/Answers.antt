use Rattle.std.proofs.Common.{◌++◌, refl}
use Rattle.postgres_talks.specs.TalkLaws.{bad_more, front_more}
use Rattle.postgres_talks.specs.Talks.{front_of}
use Rattle.postgres_logins.specs.FrontLaws.{bad_more_if, front_more_if}
use Rattle.postgres_logins.specs.Logins.{is_admitted}
use Rattle.protocol_laws.specs.Alike.{AreLoginTalksAlike, StandAtOneMoment}
use Rattle.protocol_laws.proofs.Begun.{served_alike}
use Rattle.protocol_laws.proofs.TalkGhosts.{messages}
use Rattle.protocol_laws.proofs.LoginsOnce.{begun_alike, logins_once}
use Rattle.protocol_laws.proofs.PostgresOnce.{begun_alike as begun_so, messages_once}
use Rattle.protocol_laws.proofs.clients.clients_of_postgres_with_passwords_are_said_the_same.Goals as goal

pub returns : goal.returns
returns g c =
    served_alike _ _ _ _ _ _ _ _ _ _ _ _ _ _ (AreLoginTalksAlike StandAtOneMoment)
    (λ t bytes more n is. front_more_if (is_admitted t.login.stage) t.login.stage (front_of t.talk.moment.stage bytes) (front_of t.talk.moment.stage (bytes ++ more)) bytes more n (λ it. front_more t.talk.moment.stage bytes more n it) is)
    (λ t bytes more is. bad_more_if (is_admitted t.login.stage) t.login.stage (front_of t.talk.moment.stage bytes) (front_of t.talk.moment.stage (bytes ++ more)) bytes more (λ it. bad_more t.talk.moment.stage bytes more it) is)
    (logins_once messages StandAtOneMoment (messages_once c.one_lexing.ensures messages (λ t. t.moment) (λ t. refl) (λ t bytes. refl) (λ t u message said h. h) (λ t u said h. h) (λ t u r said h. h)) _
    (λ t. refl) (λ t bytes. refl) (λ t u message said h. h) (λ t u said h. h) (λ t u r said h. h))
    (λ t u starts starts_there began. begun_alike StandAtOneMoment t u starts.0 starts_there.0 starts.1 starts_there.1 starts.2 starts_there.2 began.0
    (begun_so starts.3.0 starts_there.3.0 t.talk.moment u.talk.moment starts.3.1 starts_there.3.1 began.1))
