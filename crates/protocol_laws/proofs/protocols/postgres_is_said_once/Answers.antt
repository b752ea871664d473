use Rattle.std.proofs.Common.{refl}
use Rattle.protocol_laws.proofs.PostgresOnce.{begun_alike, messages_once}
use Rattle.protocol_laws.proofs.protocols.postgres_is_said_once.Goals as goal

pub returns-clause-once : goal.returns-clause-once
returns-clause-once c = messages_once c.one_lexing.ensures _ (λ t. t.moment) (λ t. refl) (λ t bytes. refl) (λ t u message said h. h) (λ t u said h. h) (λ t u r said h. h)

pub returns-clause-begin : goal.returns-clause-begin
returns-clause-begin c = λ t u starts starts_there same. begun_alike starts.0 starts_there.0 t.moment u.moment starts.1 starts_there.1 same
