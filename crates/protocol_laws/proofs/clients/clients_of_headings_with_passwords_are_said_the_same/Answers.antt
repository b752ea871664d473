use Rattle.std.proofs.Common.{refl}
use Rattle.protocol_laws.specs.Alike.{ArePasswordTalksAlike}
use Rattle.protocol_laws.proofs.Begun.{served_alike}
use Rattle.protocol_laws.proofs.FramedOnce.{AreFramesAlike, begun_behind_login, behind_login_bad, behind_login_more, framed_once}
use Rattle.protocol_laws.proofs.PasswordsOnce.{passwords_once}
use Rattle.protocol_laws.proofs.TalkGhosts.{asked, frames}
use Rattle.protocol_laws.proofs.clients.clients_of_headings_with_passwords_are_said_the_same.Goals as goal

pub returns : goal.returns
returns g c =
    served_alike _ _ _ _ _ _ _ _ _ _ _ _ _ _ (ArePasswordTalksAlike AreFramesAlike)
    (λ t bytes more n is. behind_login_more t bytes more n is) (λ t bytes more is. behind_login_bad t bytes more is)
    (passwords_once (asked frames) AreFramesAlike framed_once _ (λ t. refl) (λ t bytes. refl) (λ t u message said h. h) (λ t u said h. h) (λ t u r said h. h))
    (λ t u starts starts_there same. begun_behind_login t u starts starts_there same)
