use Rattle.std.proofs.Common.{refl}
use Rattle.postgres_talks.proofs.Playing.{played}
use Rattle.postgres_talks.proofs.laws.conversation.Goals as goal

pub returns : goal.returns
returns c = λ t u bytes said rest xs heard. played _ (λ t. refl) (λ t bytes. refl) (λ t u message said h. h) (λ t u said h. h) (λ t u r said h. h) heard
