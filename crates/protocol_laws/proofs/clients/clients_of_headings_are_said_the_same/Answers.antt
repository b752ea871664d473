use Rattle.std.proofs.Common.{refl}
use Rattle.served_tenants.proofs.SpokenOnce.{doors_once}
use Rattle.protocol_laws.specs.Places.{AtOneDoor}
use Rattle.protocol_laws.proofs.Begun.{served_alike}
use Rattle.protocol_laws.proofs.FramedOnce.{AreFramesAlike, begun_at_door, framed_bad, framed_more, framed_once}
use Rattle.protocol_laws.proofs.TalkGhosts.{asked, frames}
use Rattle.protocol_laws.proofs.clients.clients_of_headings_are_said_the_same.Goals as goal

pub returns : goal.returns
returns g c =
    served_alike _ _ _ _ _ _ _ _ _ _ _ _ _ _ (AtOneDoor AreFramesAlike)
    (λ t bytes more n is. framed_more t.talk bytes more n is) (λ t bytes more is. framed_bad t.talk bytes more is)
    (doors_once (asked frames) AreFramesAlike framed_once _ (λ t. t.door) (λ t. t.talk) (λ t. refl) (λ t bytes. refl) (λ t u message said it. it) (λ t u said it. it) (λ t u r said it. it))
    (λ t u starts starts_there same. begun_at_door t u starts starts_there same)
