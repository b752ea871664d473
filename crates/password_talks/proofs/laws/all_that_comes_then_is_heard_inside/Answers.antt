use Rattle.std.proofs.Common.{refl}
use Rattle.password_talks.proofs.Insides.{heard_inside}
use Rattle.password_talks.proofs.laws.all_that_comes_then_is_heard_inside.Goals as goal

pub returns : goal.returns
returns g c t u role text bytes said rest xs it heard kept =
    heard_inside g.T.Talk _ (λ t. refl) (λ t bytes. refl) (λ t u message said h. h) (λ t u said h. h) (λ t u r said h. h) role text it heard kept
