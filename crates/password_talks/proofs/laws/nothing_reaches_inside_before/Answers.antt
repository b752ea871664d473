use Rattle.std.proofs.Common.{refl, ap}
use Rattle.password_talks.specs.Logins.{is_admitted}
use Rattle.password_talks.proofs.Insides.{untouched}
use Rattle.password_talks.proofs.laws.nothing_reaches_inside_before.Goals as goal

pub returns : goal.returns
returns g c t u bytes said rest xs starts heard yet kept =
    untouched g.T.Talk _ (λ t. refl) (λ t bytes. refl) (λ t u message said h. h) (λ t u said h. h) (λ t u r said h. h) (ap is_admitted starts.0) heard yet kept
