use Rattle.std.proofs.Common.{◌∙◌, refl, sym}
use Rattle.served_tenants.proofs.SpokenOnce.{frames_once}
use Rattle.served_tenants.proofs.protocols.frames_are_said_once.Goals as goal

pub returns-clause-once : goal.returns-clause-once
returns-clause-once c = frames_once _ (λ t. t.want) (λ t. refl) (λ t bytes. refl) (λ t u message said h. h) (λ t u said h. h) (λ t u r said h. h)

pub returns-clause-begin : goal.returns-clause-begin
returns-clause-begin c = λ t u starts starts_there. starts ∙ sym starts_there
