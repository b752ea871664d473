use Rattle.std.proofs.Common.{refl}
use Rattle.protocol_laws.proofs.PlacesOnce.{kinds_once}
use Rattle.protocol_laws.proofs.protocols.kinds_change_nothing_of_that.Goals as goal

pub returns : goal.returns
returns g c frames postgres with_password postgres_with =
    kinds_once g.F.Talk g.P.Talk g.V.Talk g.W.Talk g.A.Likeness.Alike g.B.Likeness.Alike g.C.Likeness.Alike g.D.Likeness.Alike frames postgres with_password postgres_with
    _ (λ t. refl) (λ t bytes. refl) (λ t u message said h. h) (λ t u said h. h) (λ t u r said h. h)
