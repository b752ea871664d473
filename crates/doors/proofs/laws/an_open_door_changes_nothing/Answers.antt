use Rattle.std.proofs.Common.{refl}
use Rattle.doors.proofs.Hearing.{heard_alone}
use Rattle.doors.proofs.laws.an_open_door_changes_nothing.Goals as goal

pub returns : goal.returns
returns g c t u bytes said rest xs free last heard =
    heard_alone g.T.Talk _ (λ t. t.door) (λ t. t.talk) (λ t. refl) (λ t bytes. refl) (λ t u message said it. it) (λ t u said it. it) (λ t u r said it. it) heard free last
