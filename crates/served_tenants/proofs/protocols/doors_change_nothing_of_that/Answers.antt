use Rattle.std.proofs.Common.{refl}
use Rattle.served_tenants.proofs.SpokenOnce.{doors_once}
use Rattle.served_tenants.proofs.protocols.doors_change_nothing_of_that.Goals as goal

pub returns : goal.returns
returns g c speaks = doors_once g.T.Talk g.A.Likeness.Alike speaks _ (λ t. t.door) (λ t. t.talk) (λ t. refl) (λ t bytes. refl) (λ t u message said it. it) (λ t u said it. it) (λ t u r said it. it)
