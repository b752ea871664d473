use Rattle.std.proofs.Common.{refl}
use Rattle.heading_talks.proofs.Hearing.{heard_or_asked, heard_same}
use Rattle.heading_talks.proofs.laws.who_asks_nothing_meets_nothing.Goals as goal

pub returns-clause-asks : goal.returns-clause-asks
returns-clause-asks g c t u bytes said rest xs none heard =
    heard_or_asked g.T.Talk _ (λ t. refl) (λ t bytes. refl) (λ t u message said it. it) (λ t u said it. it) (λ t u r said it. it) heard none

pub returns-clause-may_not : goal.returns-clause-may_not
returns-clause-may_not g c t u bytes said rest xs none may_not heard =
    heard_same g.T.Talk _ (λ t. refl) (λ t bytes. refl) (λ t u message said it. it) (λ t u said it. it) (λ t u r said it. it) heard none may_not
