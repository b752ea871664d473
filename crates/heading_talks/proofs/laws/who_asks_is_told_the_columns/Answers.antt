use Rattle.std.proofs.Common.{refl}
use Rattle.heading_talks.proofs.Asking.{answered}
use Rattle.heading_talks.proofs.laws.who_asks_is_told_the_columns.Goals as goal

pub returns : goal.returns
returns g c t bytes text session size d none may wants at =
    answered g.T.Talk _ (λ t. refl) (λ t bytes. refl) (λ t u message said it. it) (λ t u r said it. it) t bytes text session size d none may wants at
