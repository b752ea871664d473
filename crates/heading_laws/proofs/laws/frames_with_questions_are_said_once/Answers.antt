use Rattle.std.proofs.Common.{◌≡◌, ◌∙◌, refl, sym}
use Rattle.served_tenants.proofs.SpokenOnce.{frames_once}
use Rattle.heading_laws.proofs.AskedOnce.{asked_once}
use Rattle.heading_laws.proofs.Framed.{frames}
use Rattle.heading_laws.proofs.laws.frames_with_questions_are_said_once.Goals as goal

pub returns-clause-once : goal.returns-clause-once
returns-clause-once c =
    asked_once frames (λ t u. t.want ≡ u.want) (frames_once frames (λ t. t.want) (λ t. refl) (λ t bytes. refl) (λ t u message said it. it) (λ t u said it. it) (λ t u r said it. it))
    _ (λ t. refl) (λ t bytes. refl) (λ t u message said it. it) (λ t u said it. it) (λ t u r said it. it)

pub returns-clause-begin : goal.returns-clause-begin
returns-clause-begin c t u one other alike = (one.0 ∙ sym other.0, one.1 ∙ sym other.1)
