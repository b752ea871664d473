use Rattle.std.proofs.Common.{refl}
use Rattle.protocol_laws.proofs.LoginsOnce.{begun_alike, logins_once}
use Rattle.protocol_laws.proofs.protocols.postgres_logins_change_nothing_of_that.Goals as goal

pub returns-clause-once : goal.returns-clause-once
returns-clause-once g c speaks = logins_once g.T.Talk g.A.Likeness.Alike speaks _ (λ t. refl) (λ t bytes. refl) (λ t u message said h. h) (λ t u said h. h) (λ t u r said h. h)

pub returns-clause-begin : goal.returns-clause-begin
returns-clause-begin g c = λ t u starts starts_there drew talks. begun_alike g.A.Likeness.Alike t u starts.0 starts_there.0 starts.1 starts_there.1 starts.2 starts_there.2 drew talks
