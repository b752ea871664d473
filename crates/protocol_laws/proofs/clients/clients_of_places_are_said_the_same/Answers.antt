use Rattle.std.proofs.Common.{◌≡◌, refl}
use Rattle.protocol_laws.proofs.Begun.{served_alike}
use Rattle.protocol_laws.proofs.PlacesOnce.{entries_once}
use Rattle.protocol_laws.proofs.PlaceTalks.{ArePlaceTalksAlike, begun_at_places, place_bad, place_more, place_talks_once, place_talks}
use Rattle.protocol_laws.proofs.clients.clients_of_places_are_said_the_same.Goals as goal

pub returns : goal.returns
returns g c =
    served_alike _ _ _ _ _ _ _ _ _ _ _ _ _ _ (λ t u. (t.no_superuser ≡ u.no_superuser) × ArePlaceTalksAlike t.talk u.talk)
    (λ t bytes more n is. place_more t.talk bytes more n is) (λ t bytes more is. place_bad t.talk bytes more is)
    (entries_once place_talks ArePlaceTalksAlike (place_talks_once c.one_lexing.ensures) _ (λ t. t.no_superuser) (λ t. t.talk) (λ t. refl) (λ t bytes. refl) (λ t u message said it. it) (λ t u said it. it) (λ t u r said it. it))
    (λ t u starts starts_there same. (same.0, begun_at_places t.talk u.talk starts starts_there same.1))
