use Rattle.std.proofs.Common.{refl}
use Rattle.postgres_logins.proofs.Showing.{refused_heard}
use Rattle.postgres_logins.proofs.laws.who_is_refused_is_told_no_more.Goals as goal

pub returns : goal.returns
returns g c t u bytes said rest xs starts heard ended wants =
    refused_heard g.T.Talk _ (λ t. refl) (λ t bytes. refl) (λ t u message said h. h) (λ t u said h. h) (λ t u r said h. h) starts.0 starts.1 starts.2 heard ended wants
