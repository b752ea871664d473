use Rattle.std.proofs.Common.{refl}
use Rattle.protocol_laws.proofs.PlacesOnce.{entries_once}
use Rattle.protocol_laws.proofs.protocols.entries_change_nothing_of_that.Goals as goal

pub returns : goal.returns
returns g c speaks = entries_once g.T.Talk g.A.Likeness.Alike speaks _ (λ t. t.no_superuser) (λ t. t.talk) (λ t. refl) (λ t bytes. refl) (λ t u message said it. it) (λ t u said it. it) (λ t u r said it. it)
