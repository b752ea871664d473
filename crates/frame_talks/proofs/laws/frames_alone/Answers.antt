use Rattle.std.proofs.Common.{refl}
use Rattle.frame_talks.proofs.Serving.{stands_now, served_all, served_bad}
use Rattle.frame_talks.proofs.Spoken.{example}
use Rattle.frame_talks.proofs.laws.frames_alone.Goals as goal

pub returns-clause-stands : goal.returns-clause-stands
returns-clause-stands c = λ t u bytes said rest xs starts heard. stands_now _ (λ t bytes. refl) (λ t u message said h. h) (λ t u said h. h) (λ t u r said h. h) starts heard

pub returns-clause-served : goal.returns-clause-served
returns-clause-served c = λ t u bytes said rest xs starts heard wants front.
    served_all bytes xs said rest u.want (stands_now _ (λ t bytes. refl) (λ t u message said h. h) (λ t u said h. h) (λ t u r said h. h) starts heard) wants front

pub returns-clause-refused : goal.returns-clause-refused
returns-clause-refused c = λ t u bytes said rest xs late starts heard wants.
    served_bad bytes xs said rest u.want late (stands_now _ (λ t bytes. refl) (λ t u message said h. h) (λ t u said h. h) (λ t u r said h. h) starts heard) wants

pub returns-clause-example : goal.returns-clause-example
returns-clause-example c = λ t starts. example _ (λ t. refl) (λ t bytes. refl) (λ t u message said h. h) (λ t u said h. h) (λ t u r said is then. (is, then)) t starts
