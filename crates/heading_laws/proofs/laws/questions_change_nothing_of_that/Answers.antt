use Rattle.std.proofs.Common.{refl}
use Rattle.heading_laws.proofs.AskedOnce.{asked_once}
use Rattle.heading_laws.proofs.laws.questions_change_nothing_of_that.Goals as goal

pub returns : goal.returns
returns g c speaks = asked_once g.T.Talk g.A.Likeness.Alike speaks _ (λ t. refl) (λ t bytes. refl) (λ t u message said it. it) (λ t u said it. it) (λ t u r said it. it)
