use Rattle.std.proofs.Common.{◌≡◌, ◌∙◌, ◌++◌, refl, sym}
use Rattle.wire.specs.Frame.{next_frame}
use Rattle.frame_talks.specs.FrameLaws.{bad_more, front_more}
use Rattle.frame_talks.specs.FrameTalks.{front_of}
use Rattle.password_talks.specs.FrontLaws.{bad_more_if, front_more_if}
use Rattle.password_talks.specs.Logins.{is_admitted}
use Rattle.served_tenants.proofs.SpokenOnce.{frames_once}
use Rattle.protocol_laws.specs.Alike.{ArePasswordTalksAlike}
use Rattle.protocol_laws.proofs.Begun.{served_alike}
use Rattle.protocol_laws.proofs.TalkGhosts.{frames}
use Rattle.protocol_laws.proofs.PasswordsOnce.{begun_alike, passwords_once}
use Rattle.protocol_laws.proofs.clients.clients_with_passwords_are_said_the_same.Goals as goal

pub returns : goal.returns
returns g c =
    served_alike _ _ _ _ _ _ _ _ _ _ _ _ _ _ (ArePasswordTalksAlike (λ t u. t.want ≡ u.want))
    (λ t bytes more n is. front_more_if (is_admitted t.login.stage) (front_of (next_frame bytes)) (front_of (next_frame (bytes ++ more))) bytes more n (λ it. front_more bytes more n it) is)
    (λ t bytes more is. bad_more_if (is_admitted t.login.stage) (front_of (next_frame bytes)) (front_of (next_frame (bytes ++ more))) bytes more (λ it. bad_more bytes more it) is)
    (passwords_once frames (λ t u. t.want ≡ u.want) (frames_once frames (λ t. t.want) (λ t. refl) (λ t bytes. refl) (λ t u message said h. h) (λ t u said h. h) (λ t u r said h. h)) _
    (λ t. refl) (λ t bytes. refl) (λ t u message said h. h) (λ t u said h. h) (λ t u r said h. h))
    (λ t u starts starts_there drew. begun_alike (λ x y. x.want ≡ y.want) t u starts.0 starts_there.0 starts.1 starts_there.1 starts.2 starts_there.2 drew (starts.3 ∙ sym starts_there.3))
