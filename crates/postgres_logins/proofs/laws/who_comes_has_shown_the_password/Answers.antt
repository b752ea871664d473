use Rattle.std.proofs.Common.{refl}
use Rattle.postgres_logins.proofs.Coming.{shown_passing}
use Rattle.postgres_logins.proofs.Showing.{from_start}
use Rattle.postgres_logins.proofs.laws.who_comes_has_shown_the_password.Goals as goal

pub returns : goal.returns
returns g c place old new xs awaited passes =
    shown_passing _ (λ t. t.login.place) (λ t. t.login.drawn)
    (λ t u bytes said rest xs starts heard. (from_start g.T.Talk _ (λ t. refl) (λ t bytes. refl) (λ t u message said h. h) (λ t u said h. h) (λ t u r said h. h)
    starts.0 starts.1 starts.2 heard).0)
    place old new xs awaited passes
