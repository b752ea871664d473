use Rattle.std.proofs.Common.{◌≡◌, refl}
use Rattle.postgres_talks.specs.TalkLaws.{bad_more, front_more}
use Rattle.served_tenants.proofs.SpokenOnce.{doors_once}
use Rattle.protocol_laws.specs.Alike.{StandAtOneMoment}
use Rattle.protocol_laws.proofs.Begun.{served_alike}
use Rattle.protocol_laws.proofs.TalkGhosts.{messages}
use Rattle.protocol_laws.proofs.PostgresOnce.{begun_alike, messages_once}
use Rattle.protocol_laws.proofs.clients.clients_of_postgres_are_said_the_same.Goals as goal

pub returns : goal.returns
returns g c =
    served_alike _ _ _ _ _ _ _ _ _ _ _ _ _ _ (λ t u. (t.door ≡ u.door) × StandAtOneMoment t.talk u.talk)
    (λ t bytes more n is. front_more t.talk.moment.stage bytes more n is) (λ t bytes more is. bad_more t.talk.moment.stage bytes more is)
    (doors_once messages StandAtOneMoment (messages_once c.one_lexing.ensures messages (λ t. t.moment) (λ t. refl) (λ t bytes. refl) (λ t u message said h. h) (λ t u said h. h) (λ t u r said h. h)) _
    (λ t. t.door) (λ t. t.talk) (λ t. refl) (λ t bytes. refl) (λ t u message said it. it) (λ t u said it. it) (λ t u r said it. it))
    (λ t u starts starts_there same. (same.0, begun_alike starts.0 starts_there.0 t.talk.moment u.talk.moment starts.1 starts_there.1 same.1))
