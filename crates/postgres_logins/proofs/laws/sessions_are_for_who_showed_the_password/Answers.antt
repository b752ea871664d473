use Rattle.std.proofs.Common.{refl}
use Rattle.postgres_logins.proofs.Showing.{might_and_may}
use Rattle.postgres_logins.proofs.laws.sessions_are_for_who_showed_the_password.Goals as goal

pub returns : goal.returns
returns g c t u bytes said rest xs starts heard =
    might_and_may g.T.Talk _ (λ t. refl) (λ t bytes. refl) (λ t u message said h. h) (λ t u said h. h) (λ t u r said h. h) starts.0 starts.1 starts.2 heard
