use Rattle.std.proofs.Common.{refl}
use Rattle.doors.proofs.Hearing.{admitted_there, admitted_heard}
use Rattle.doors.proofs.laws.sessions_are_for_whom_the_door_admits.Goals as goal

pub returns : goal.returns
returns g c t u bytes said rest xs heard = (
  admitted_heard g.T.Talk _ (λ t. t.door) (λ t. t.talk) (λ t. refl) (λ t bytes. refl) (λ t u message said it. it) (λ t u said it. it) (λ t u r said it. it) heard,
  admitted_there u.door (g.T.Talk.wants u.talk),
)
