use Rattle.std.proofs.Common.{refl}
use Rattle.doors.proofs.Coming.{admitted_passing}
use Rattle.doors.proofs.Hearing.{admitted_heard}
use Rattle.doors.proofs.laws.who_comes_is_whom_the_door_admits.Goals as goal

pub returns : goal.returns
returns g c door old new xs awaited passes =
    admitted_passing _ (λ t. t.door)
    (λ t u bytes said rest xs heard. admitted_heard g.T.Talk _ (λ t. t.door) (λ t. t.talk) (λ t. refl) (λ t bytes. refl) (λ t u message said it. it) (λ t u said it. it) (λ t u r said it. it) heard)
    door old new xs awaited passes
