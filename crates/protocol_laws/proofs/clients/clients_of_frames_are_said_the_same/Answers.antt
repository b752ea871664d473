use Rattle.std.proofs.Common.{◌≡◌, ◌∙◌, refl, sym}
use Rattle.frame_talks.specs.FrameLaws.{bad_more, front_more}
use Rattle.served_tenants.proofs.SpokenOnce.{doors_once, frames_once}
use Rattle.protocol_laws.proofs.Begun.{served_alike}
use Rattle.protocol_laws.proofs.TalkGhosts.{frames}
use Rattle.protocol_laws.proofs.clients.clients_of_frames_are_said_the_same.Goals as goal

pub returns : goal.returns
returns g c =
    served_alike _ _ _ _ _ _ _ _ _ _ _ _ _ _ (λ t u. (t.door ≡ u.door) × (t.talk.want ≡ u.talk.want))
    (λ t bytes more n is. front_more bytes more n is) (λ t bytes more is. bad_more bytes more is)
    (doors_once frames (λ t u. t.want ≡ u.want) (frames_once frames (λ t. t.want) (λ t. refl) (λ t bytes. refl) (λ t u message said h. h) (λ t u said h. h) (λ t u r said h. h)) _
    (λ t. t.door) (λ t. t.talk) (λ t. refl) (λ t bytes. refl) (λ t u message said it. it) (λ t u said it. it) (λ t u r said it. it))
    (λ t u starts starts_there same. (same, starts ∙ sym starts_there))
